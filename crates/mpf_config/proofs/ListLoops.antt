-- Elements of a list, from a place on, and how they are found by their names.
use Rattle.std.proofs.Common.{rules, ◌≡◌, ℕ, ◌+◌, ◌<◌, Bool, if◌then◌else◌, not, ◌||◌, List, [], ◌∷◌, length, drop}
use Rattle.std.proofs.{Common.{get_or, map, Option, Some, refl, sym, ap, ◌∙◌}, lemmas.List.drop_more}
use Rattle.std.specs.{Borrow.Bor, Option.is_some}
use Rattle.yaml_subset.specs.Keys.{is_among}
use Rattle.setting_values.specs.{KeyRules.{behind_one, found_in}, View.found_view}

pub mapped_at : {A B : Type 0} (f : A → B) (xs : List A) (i : ℕ) (x : A) → i < length xs → x ≡ get_or xs i x
    → map f (drop i xs) ≡ f x ∷ map f (drop (i + 1) xs)
mapped_at f xs i x lt is = ap (map f) (drop_more xs i x lt) ∙ ap (λ y. f y ∷ map f (drop (i + 1) xs)) (sym is)

found_or : {T : Type 0} (b : Bool) (x : T) (o : Option (ℕ × T))
    → is_some (if b then Some (0, x) else behind_one o) ≡ (b || is_some o)
found_or b x o = search rules

-- a name is found if it is among the names
found_among : {T : Type 0} (name_of : T → List ℕ) (name : List ℕ) (xs : List T)
    → is_some (found_in name_of name xs) ≡ is_among (map name_of xs) name
found_among name_of name [] = refl
found_among name_of name (x ∷ xs) = search (rules, found_or, found_among name_of name xs)

seen : {R T : Type 0} (view : R → T) (o : Option (ℕ × Bor R)) → is_some (found_view view o) ≡ is_some o
seen view o = search rules

-- a name is not among the names if none was found
pub not_among : {R T : Type 0} (view : R → T) (name_of : T → List ℕ) (name : List ℕ) (xs : List T)
    (o : Option (ℕ × Bor R)) (none answer : Bool)
    → found_view view o ≡ found_in name_of name xs → is_some o ≡ not none → none ≡ answer
    → not (is_among (map name_of xs) name) ≡ answer
not_among view name_of name xs o none answer found is e = search (rules, found_among, seen)
