use Rattle.std.proofs.{Common.{rules, arith}, lemmas.Grind.common_steps}
use Rattle.mpf_values.specs.Reading.{share_at}
use Rattle.mpf_values.proofs.powers.share.Goals as goal

pub returns-in-empty : goal.returns-in-empty
unfolding share_at
returns-in-empty c = grind (arith, common_steps)

pub returns-in-37 : goal.returns-in-37
unfolding share_at
returns-in-37 c = grind (arith, common_steps)

pub returns-in_default : goal.returns-in_default
unfolding share_at
returns-in_default c = search rules

pub returns-in_default-2 : goal.returns-in_default-2
unfolding share_at
returns-in_default-2 c = search rules

pub returns-in_default-3 : goal.returns-in_default-3
unfolding share_at
returns-in_default-3 c = search rules
