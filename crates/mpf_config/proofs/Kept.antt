-- Lists of which some elements are kept, element by element.
use Rattle.std.{proofs.Common.{◌≡◌, Bool, true, List, ◌∷◌, refl}, specs.List.filter}

pub keeps_first : {A : Type 0} (keeps : A → Bool) (x : A) (xs all : List A) → all ≡ x ∷ xs → keeps x ≡ true
    → filter keeps all ≡ x ∷ filter keeps xs
keeps_first keeps x xs all e k = rw (e, k) refl
