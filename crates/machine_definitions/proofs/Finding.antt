-- What is found by a name, after a key was taken.
use Rattle.std.proofs.Common.{◌≡◌, ℕ, if◌then◌else◌, ◌+◌, ◌<◌, length, drop, get_or, Bool, true, false, cond, ◌||◌}
use Rattle.std.proofs.{Common.{List, ◌∷◌, Option, Some, option_map, refl, sym, ap, ◌∙◌}, lemmas.List.at_drop_more}
use Rattle.std.specs.{List.list_any, Str.bytes_eq, Borrow.Bor, HashMap.HashMap, HashSet.HashSet, Map.lookup}
use Rattle.std.specs.HashMap as maps
use Rattle.std.specs.HashSet as sets
use Rattle.machine_definitions.specs.Found.{has_bytes, is_found}
use Rattle.yaml_subset.proofs.KeySets.{turned}

-- ---- keys by their bytes

abbrev same_bytes : Bor (List ℕ) → Bor (List ℕ) → Bool
same_bytes x y = bytes_eq x.now y.now

abbrev asked : Bor (List ℕ) → List ℕ → Bor (List ℕ)
asked k name = record { ref_ptr = k.ref_ptr; now = name }

-- ---- what is found by names in a map

module _ {V X S : Type 0} (view : V → X) where
  abbrev by_name : HashMap (Bor (List ℕ)) V S → List ℕ → Option X
  by_name found name = option_map view (lookup (has_bytes name) found.entries)

  pub value-found : (found : HashMap (Bor (List ℕ)) V S) (name : List ℕ)
      → option_map view (lookup (λ k. bytes_eq name k.now) found.entries) ≡ by_name found name
  value-found found name = refl

  -- a value was taken under a key that has these bytes
  pub took-value : (old new : HashMap (Bor (List ℕ)) V S) (k : Bor (List ℕ)) (v : V) (key : List ℕ) → k.now ≡ key
      → maps.Updates same_bytes old new k (Some v)
      → (name : List ℕ) → by_name new name ≡ (if bytes_eq name key then Some (view v) else by_name old name)
  took-value old new k v key is updates name =
      ap (option_map view) (updates.0 (asked k name)
      ∙ ap (λ (b : Bool). cond b (Some v) (lookup (has_bytes name) old.entries))
      (turned name k.now ∙ ap (bytes_eq name) is))
      ∙ seen (bytes_eq name key) (lookup (has_bytes name) old.entries)
    where
      seen : (b : Bool) (o : Option V) → option_map view (cond b (Some v) o)
          ≡ cond b (Some (view v)) (option_map view o)
      seen true o = refl
      seen false o = refl

-- ---- names

pub name-found : {S : Type 0} (names : HashSet (Bor (List ℕ)) S) (name : List ℕ)
    → list_any (λ k. bytes_eq name k.now) names.keys ≡ is_found names name
name-found names name = refl

pub took-name : {S : Type 0} (old new : HashSet (Bor (List ℕ)) S) (k : Bor (List ℕ))
    → sets.Updates same_bytes old new k true → (name : List ℕ)
    → is_found new name ≡ (is_found old name || bytes_eq name k.now)
took-name old new k updates name =
    updates.0 (asked k name)
    ∙ (λ i. cond (turned name k.now i) true (is_found old name))
    ∙ seen (bytes_eq name k.now) (is_found old name)
  where
    seen : (b o : Bool) → cond b true o ≡ (o || b)
    seen true true = refl
    seen true false = refl
    seen false true = refl
    seen false false = refl

-- ---- what is left of a list

pub next-is : {X Y : Type 0} (F : List X → Y) (xs : List X) (i : ℕ) (x : X) → i < length xs → x ≡ get_or xs i x
    → F (x ∷ drop (i + 1) xs) ≡ F (drop i xs)
next-is F xs i x within is = sym (at_drop_more F xs i x within ∙ ap (λ y. F (y ∷ drop (i + 1) xs)) (sym is))
