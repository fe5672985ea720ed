use Rattle.std.proofs.Common.{◌≡◌, ℕ, ◌<◌, get_or, false}
use Rattle.device_objects.specs.Flags.{flags}
use Rattle.device_objects.proofs.flags.mask_of.Given as goal

abbrev pub invariant-loop-i : goal.invariant-loop-i
invariant-loop-i l = (k : ℕ) → k < l.i → get_or (flags l.mask) k false ≡ get_or l.all k false
