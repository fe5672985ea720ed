-- The place of a name among named things: it is there, and nothing else has the name.
use Rattle.std.proofs.Common.{rules, ◌≡◌, ℕ, ◌+◌, ◌<◌, ◌≤◌, ◌≢◌, Bool, cond, not, List, [], ◌∷◌, length, map, get_or}
use Rattle.std.proofs.Common.{Some, None, nat_lt, refl, sym, ap}
use Rattle.std.specs.{Str.bytes_eq, List.{position, position_or_len}, Prelude.unwrap_or}
use Rattle.std.proofs.lemmas.{Bool.ltb-false, List.{length-map, Quantifiers.position-Some}, Slice.Eq.bytes_eq-Decides}
use Rattle.std.proofs.lemmas.List.Sums.{fails_before_first, prefix_len-le-length}

-- the first place where an item passes as it is seen
pub position_or_len-map : {X Y : Type 0} (f : X → Y) (p : Y → Bool) (xs : List X)
    → position_or_len p (map f xs) ≡ position_or_len (λ x. p (f x)) xs
position_or_len-map f p [] = refl
position_or_len-map f p (x ∷ xs) = ap (λ n. cond (not (p (f x))) (1 + n) 0) (position_or_len-map f p xs)

pub position-map : {X Y : Type 0} (f : X → Y) (p : Y → Bool) (xs : List X)
    → position p (map f xs) ≡ position (λ x. p (f x)) xs
position-map f p xs = rw (position_or_len-map f p xs, length-map xs f) refl

-- the place, or the length if there is none
pub position-or_len : {X : Type 0} (p : X → Bool) (xs : List X)
    → unwrap_or (position p xs) (length xs) ≡ position_or_len p xs
position-or_len p xs = search (rules, nat_lt, ltb-false, prefix_len-le-length)

none_within : (place count : ℕ) → cond (nat_lt place count) (Some place) None ≡ None → count ≤ place
none_within place count = search rules

module _ {X : Type 0} (key : X → List ℕ) (name : List ℕ) where
  -- where a name is found, it stands
  pub found_at : (xs : List X) (i : ℕ) (d : X) → position (λ x. bytes_eq name (key x)) xs ≡ Some i
      → key (get_or xs i d) ≡ name
  found_at xs i d at = sym ((bytes_eq-Decides name (key (get_or xs i d))).0
      (position-Some (λ x. bytes_eq name (key x)) xs i d at).1)

  pub found_within : (xs : List X) (i : ℕ) → position (λ x. bytes_eq name (key x)) xs ≡ Some i → i < length xs
  found_within xs i at = search rules

  -- if it is not found, nothing has it
  pub absent : (xs : List X) → position (λ x. bytes_eq name (key x)) xs ≡ None → (i : ℕ) (d : X) → i < length xs
      → key (get_or xs i d) ≢ name
  absent xs none i d within same = search (rules, none_within, bytes_eq-Decides, get_or, fails_before_first)
