-- Looking for a key in a table, and for what is lacking in a row, from a place on.
use Rattle.std.proofs.Common.{rules, ◌≡◌, ℕ, zero, suc, ◌+◌, ◌<◌, Bool, true, false, if◌then◌else◌, slice_get, List, []}
use Rattle.std.proofs.Common.{◌∷◌, length, drop, get_or, map, Option, Some, None, refl, sym, ◌∙◌, arith}
use Rattle.std.{specs.{List.list_any, Str.bytes_eq}, proofs.lemmas.List.drop_more}
use Rattle.setting_values.specs.{KeyRules.{found_in, shift}, Reading.lacking}

pub at_start : {T : Type 0} (o : Option (ℕ × T)) → shift 0 o ≡ o
at_start x1 = search rules

module _ {T : Type 0} (key_of : T → List ℕ) (key : List ℕ) (i : ℕ) (all : List T) (total : Option (ℕ × T))
    (so_far : shift i (found_in key_of key all) ≡ total) where
  pub hits : (s : T) (ss : List T) → all ≡ s ∷ ss → bytes_eq (key_of s) key ≡ true → total ≡ Some (i, s)
  hits s ss e h = search rules

  pub ends : all ≡ [] → total ≡ None
  ends e = let one : shift i (found_in key_of key all) ≡ None = rw e refl in sym so_far ∙ one

-- a list has an element that passes
pub any_here : {A B : Type 0} (p : B → Bool) (f : A → B) (xs : List A) (i : ℕ) (d : A) → i < length xs
    → p (f (get_or xs i d)) ≡ true → list_any p (map f (drop i xs)) ≡ list_any p (map f xs)
    → list_any p (map f xs) ≡ true
any_here p f xs i d lt h so_far = sym so_far ∙ rw (drop_more xs i d lt, h) refl

-- nothing is lacking at a place
pub not_here : {S T X V : Type 0} (key_of : T → List ℕ) (lacks : T → V → Bool) (seen : S → T) (view : X → V)
    (table : List S) (row : List X) (i : ℕ) (d : S) (x : X) (total : Option (List ℕ))
    → i < length table → i < length row → x ≡ get_or row i x → lacks (seen (get_or table i d)) (view x) ≡ false
    → lacking key_of lacks (map seen (drop i table)) (map view (drop i row)) ≡ total
    → lacking key_of lacks (map seen (drop (i + 1) table)) (map view (drop (i + 1) row)) ≡ total
not_here key_of lacks seen view table row i d x total lt less is h so_far = search (rules, drop_more)

-- what is lacking from a place on: what lacks its value there, or is lacking later
pub lacking_at : {S T V : Type 0} (key_of : T → List ℕ) (lacks : T → V → Bool) (seen : S → T) (table : List S)
    (row : List V) (i : ℕ) (d : S) → i < length table → length row ≡ length table
    → (v : V) × (slice_get row i ≡ Some v)
    × (lacking key_of lacks (map seen (drop i table)) (drop i row)
    ≡ (if lacks (seen (get_or table i d)) v then Some (key_of (seen (get_or table i d))) else lacking key_of lacks
    (map seen (drop (suc i) table)) (drop (suc i) row)))
lacking_at key_of lacks seen [] row i d within same = absurd (omega (arith, within))
lacking_at key_of lacks seen (s ∷ ss) [] i d within same = absurd (omega (arith, same))
lacking_at key_of lacks seen (s ∷ ss) (v ∷ vs) zero d within same = (v, refl, refl)
lacking_at key_of lacks seen (s ∷ ss) (v ∷ vs) (suc i) d within same =
    lacking_at key_of lacks seen ss vs i d (omega (arith, within)) (omega (arith, same))
