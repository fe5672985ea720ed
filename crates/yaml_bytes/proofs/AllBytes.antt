-- That every byte passes a test, as a fact and as a test.
use Rattle.std.proofs.{Common.{◌≡◌, ℕ, Bool, true, List, [], ◌∷◌, refl}, lemmas.Bool.{and_parts, and_from}}
use Rattle.std.specs.List.{list_all}
use Rattle.yaml_bytes.specs.Plain.{Are}

pub Are-from_list_all : (p : ℕ → Bool) (xs : List ℕ) → list_all p xs ≡ true → Are p xs
Are-from_list_all p [] h = tt
Are-from_list_all p (x ∷ xs) h = let both = and_parts (p x) (list_all p xs) h in (both.0, Are-from_list_all p xs both.1)

pub list_all-from_Are : (p : ℕ → Bool) (xs : List ℕ) → Are p xs → list_all p xs ≡ true
list_all-from_Are p [] h = refl
list_all-from_Are p (x ∷ xs) h = and_from (p x) (list_all p xs) h.0 (list_all-from_Are p xs h.1)
