use Rattle.std.proofs.Common.{ℕ, ◌<◌, get_or}
use Rattle.device_objects.{specs.Accrual.HasMarks, proofs.Marks.no_marks}
use Rattle.device_objects.proofs.accrual.have_marks.Given as goal

abbrev pub invariant-loop-slot : goal.invariant-loop-slot
invariant-loop-slot l = (k : ℕ) → k < l.slot-index → HasMarks (get_or l.slots k no_marks)
