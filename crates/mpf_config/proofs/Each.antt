-- What holds of each element of a list.
use Rattle.std.{proofs.{Common.{List, [], ◌∷◌}, lemmas.List.Elements.{All-nil, All-cons}}, specs.List.{All, AllZip}}

-- what holds of each row that an entry has holds of all rows
pub All-from_zip : {A B : Type 0} (R : A → B → Type 0) (P : B → Type 0) → ((x : A) (y : B) → R x y → P y)
    → (xs : List A) (ys : List B) → AllZip R xs ys → All P ys
All-from_zip R P so [] [] each = All-nil P
All-from_zip R P so [] (y ∷ ys) each = absurd each
All-from_zip R P so (x ∷ xs) [] each = absurd each
All-from_zip R P so (x ∷ xs) (y ∷ ys) each = All-cons P y ys (so x y each.0) (All-from_zip R P so xs ys each.1)
