use Rattle.std.proofs.Common.{◌≡◌, ℕ, ◌<◌, get_or, false, length}
use Rattle.device_objects.specs.Flags.{is_set}
use Rattle.device_objects.proofs.flags.flags_of.Given as goal

abbrev pub invariant-loop-i : goal.invariant-loop-i
invariant-loop-i l = (length l.all ≡ 16) × ((k : ℕ) → k < l.i → is_set l.mask k ≡ get_or l.all k false)
