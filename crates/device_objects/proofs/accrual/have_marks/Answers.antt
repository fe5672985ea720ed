use Rattle.std.proofs.{Common.{refl, arith}, lemmas.List.Elements.All-from_get_or}
use Rattle.device_objects.{specs.Accrual.HasMarks, proofs.Marks.no_marks}
use Rattle.device_objects.proofs.accrual.have_marks.Goals as goal

pub returns : goal.returns
returns c = (
  λ _. All-from_get_or HasMarks c.args.slots.now no_marks
      (λ k within. c.loop-slot.invariant k (omega (arith, within))),
  λ _. refl,
)
