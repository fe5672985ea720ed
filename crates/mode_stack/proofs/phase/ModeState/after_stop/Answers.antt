use Rattle.std.proofs.Common.{rules}
use Rattle.mode_stack.proofs.phase.ModeState.after_stop.Goals as goal

pub returns-in-Active : goal.returns-in-Active
returns-in-Active c = search rules

pub returns-in-Starting : goal.returns-in-Starting
returns-in-Starting c = search rules

pub returns-in-Idle : goal.returns-in-Idle
returns-in-Idle c = search rules
