use Rattle.std.proofs.Common.{ap}
use Rattle.mpf_plan.proofs.Numbered.{event_at}
use Rattle.mpf_plan.proofs.numbering.note_event.Goals as goal

pub returns-clause-number : goal.returns-clause-number
returns-clause-number c us are within = ap event_at (c.in_ok-note.ensures.number tt us are within)
