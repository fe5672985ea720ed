-- What optional values went through.
use Rattle.std.proofs.Common.{rules, ◌≡◌, Bool, true, Option, Some, refl}
use Rattle.setting_values.specs.Reading.{give, keep}

pub gave : {A B : Type 0} (f : A → B) (o : Option A) (y : B) → give f o ≡ Some y → (x : A) × (o ≡ Some x) × (y ≡ f x)
gave f x2 y e = search rules

pub kept : {A : Type 0} (p : A → Bool) (o : Option A) (x : A) → keep p o ≡ Some x → (o ≡ Some x) × (p x ≡ true)
kept p x2 x e = search rules

pub again : {A : Type 0} (p : A → Bool) (o : Option A) (x : A) → o ≡ Some x → p x ≡ true → keep p o ≡ Some x
again p o x e h = rw (e, h) refl
