use Rattle.std.proofs.{Common.{refl, arith}, lemmas.List.Elements.All-from_get_or}
use Rattle.device_objects.specs.Bank.{first_slot, HasBankShape}
use Rattle.device_objects.proofs.bank.are_of_bank.Goals as goal

pub returns : goal.returns
returns c = (
  λ _. All-from_get_or (HasBankShape c.args.bank.now) c.args.slots.now (first_slot c.args.bank.now 0)
      (λ k within. c.loop-slot.invariant k (omega (arith, within))),
  λ _. refl,
)
