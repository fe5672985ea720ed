use Rattle.std.proofs.Common.{ℕ, ◌<◌, get_or}
use Rattle.device_objects.specs.Bank.{first_slot, HasBankShape}
use Rattle.device_objects.proofs.bank.are_of_bank.Given as goal

abbrev pub invariant-loop-slot : goal.invariant-loop-slot
invariant-loop-slot l = (k : ℕ) → k < l.slot-index → HasBankShape l.bank (get_or l.slots k (first_slot l.bank 0))
