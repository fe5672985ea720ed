-- What a reading that did not fail went through.
use Rattle.std.{proofs.Common.{rules, ◌≡◌, ℕ, List, false, Option, Some, Ok}, specs.Str.bytes_eq}
use Rattle.config_faults.specs.Faults.{Spot}
use Rattle.setting_values.specs.Reading.{expect}

pub expected : {A : Type 0} (spot : Spot) (o : Option A) (x : A) → expect spot o ≡ Ok x → o ≡ Some x
expected spot x2 x e = search rules

pub is_other : (key word other : List ℕ) → key ≡ word → bytes_eq word other ≡ false → bytes_eq key other ≡ false
is_other key word other e differ = rw e differ
