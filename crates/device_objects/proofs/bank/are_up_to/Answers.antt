use Rattle.std.proofs.{Common.{◌≤◌, refl, arith}, lemmas.List.Elements.All-from_get_or}
use Rattle.device_objects.proofs.bank.are_up_to.Goals as goal

pub returns : goal.returns
returns c = (
  λ _. All-from_get_or (λ s. s ≤ c.args.last) c.args.states.now 0
      (λ k within. c.loop-state.invariant k (omega (arith, within))),
  λ _. refl,
)
