-- Readings that give what is said, unless it is above the limits.
use Rattle.std.{proofs.Common.{rules, ◌≡◌, List, [], ◌∷◌, Result, Ok, refl, subst, inl}, specs.List.AllZip}
use Rattle.config_faults.specs.Faults.{RowsFault}
use Rattle.setting_values.specs.Reading.{IsReadOr, ◌>>=◌, each_read}
use Rattle.yaml_bytes.proofs.Steps.{bind_ok, ok_is}

pub weaker : {B : Type 0} (Above More : Type 0) → (Above → More) → (r : Result B RowsFault) (y : B) → IsReadOr Above r y
    → IsReadOr More r y
weaker Above More so r y x6 = search rules

-- one reading, and another with what it gave
pub then_or : {A B : Type 0} (Above : Type 0) (r : Result A RowsFault) (f : A → Result B RowsFault) (x : A) (y : B)
    → IsReadOr Above r x → IsReadOr Above (f x) y → IsReadOr Above (r >>= f) y
then_or Above r f x y x6 k = search rules

module _ {A B : Type 0} (f : A → Result B RowsFault) (R : A → B → Type 0) where
  pub each_sound : ((x : A) (y : B) → f x ≡ Ok y → R x y) → (xs : List A) (ys : List B) → each_read f xs ≡ Ok ys
      → AllZip R xs ys
  unfolding each_read
  each_sound sound [] ys e = subst (AllZip R []) (ok_is [] ys e) tt
  each_sound sound (x ∷ xs) ys e =
      let a = bind_ok (f x) (λ y. each_read f xs >>= λ zs. Ok (y ∷ zs)) ys e in
      let b = bind_ok (each_read f xs) (λ zs. Ok (a.0 ∷ zs)) ys a.2 in
      subst (AllZip R (x ∷ xs)) (ok_is (a.0 ∷ b.0) ys b.2) (sound x a.0 a.1, each_sound sound xs b.0 b.1)

  pub each_or : (Above : Type 0) → ((x : A) (y : B) → R x y → IsReadOr Above (f x) y) → (xs : List A) (ys : List B)
      → AllZip R xs ys → IsReadOr Above (each_read f xs) ys
  unfolding each_read
  each_or Above complete [] [] h = inl refl
  each_or Above complete [] (y ∷ ys) h = absurd h
  each_or Above complete (x ∷ xs) [] h = absurd h
  each_or Above complete (x ∷ xs) (y ∷ ys) h =
      let rest = then_or Above (each_read f xs) (λ zs. Ok (y ∷ zs)) ys (y ∷ ys) (each_or Above complete xs ys h.1)
      (inl refl) in
      then_or Above (f x) (λ z. each_read f xs >>= λ zs. Ok (z ∷ zs)) y (y ∷ ys) (complete x y h.0) rest
