-- What a result that is no error went through.
use Rattle.std.proofs.Common.{rules, ◌≡◌, Bool, true, false, cond, Result, Ok, Err, ◌⊎◌}
use Rattle.yaml_bytes.specs.Results.{◌>>=◌}

pub bind_ok : {A B E : Type 0} (r : Result A E) (f : A → Result B E) (y : B) → (r >>= f) ≡ Ok y
    → (x : A) × (r ≡ Ok x) × (f x ≡ Ok y)
bind_ok x1 f y e = search rules

pub guard_true : {A E : Type 0} (b : Bool) (r : Result A E) (d : E) (y : A) → cond b r (Err d) ≡ Ok y
    → (b ≡ true) × (r ≡ Ok y)
guard_true x1 r d y e = search rules

pub guard_false : {A E : Type 0} (b : Bool) (r : Result A E) (d : E) (y : A) → cond b (Err d) r ≡ Ok y
    → (b ≡ false) × (r ≡ Ok y)
guard_false x1 r d y e = search rules

pub chosen : {A : Type 0} (b : Bool) (x y z : A) → cond b x y ≡ z → ((b ≡ true) × (x ≡ z)) ⊎ ((b ≡ false) × (y ≡ z))
chosen x1 x y z e = search rules

abbrev done : {A E : Type 0} → A → Result A E
done x = Ok x

pub ok_is : {A E : Type 0} (x y : A) → done {A = A} {E = E} x ≡ done y → x ≡ y
ok_is x y e = cc
