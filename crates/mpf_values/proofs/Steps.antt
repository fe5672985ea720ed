-- What a reading that gave something went through.
use Rattle.std.proofs.Common.{rules, ◌≡◌, ℕ, ◌<◌, ◌^◌, Bool, true, false, cond, ltb, Option, Some, None, refl}
use Rattle.std.proofs.lemmas.{Bool.{ltb-true, lt-ltb}, Option.cond_some}
use Rattle.mpf_values.specs.Reading.{◌>>=◌, within_64_bits}

pub bind_some : {A B : Type 0} (r : Option A) (f : A → Option B) (y : B) → (r >>= f) ≡ Some y
    → (x : A) × (r ≡ Some x) × (f x ≡ Some y)
bind_some x1 f y e = search rules

pub guard_true : {A : Type 0} (b : Bool) (r : Option A) (y : A) → cond b r None ≡ Some y → (b ≡ true) × (r ≡ Some y)
guard_true x1 r y e = search rules

pub guard_false : {A : Type 0} (b : Bool) (r : Option A) (y : A) → cond b None r ≡ Some y → (b ≡ false) × (r ≡ Some y)
guard_false x1 r y e = search rules

pub within_64_bits-some : (n m : ℕ) → within_64_bits n ≡ Some m → (n ≡ m) × (n < 2 ^ 64)
within_64_bits-some n m e = let h = cond_some (ltb n (2 ^ 64)) n m e in (h.1, ltb-true n (2 ^ 64) h.0)

pub within_64_bits-is : (n : ℕ) → n < 2 ^ 64 → within_64_bits n ≡ Some n
within_64_bits-is n h = rw (lt-ltb n (2 ^ 64) h) refl
