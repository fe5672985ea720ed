-- What the place of the first element that passes says.
use Rattle.std.proofs.Common.{rules, ◌≡◌, ℕ, ◌<◌, ◌≤◌, Bool, false, not, cond, nat_lt, Some, None, List, length}
use Rattle.std.{proofs.Common.{position, arith}, specs.List.position_or_len}
use Rattle.std.proofs.lemmas.{Bool.{ltb-true, ltb-false}, Option.cond_some, List.Sums.prefix_len-le-length}

cond_none : (b : Bool) (n : ℕ) → cond b (Some n) None ≡ None → b ≡ false
cond_none x1 n h = search rules

-- it is within the list
pub place_some : {X : Type 0} (p : X → Bool) (xs : List X) (n : ℕ) → position p xs ≡ Some n
    → (position_or_len p xs ≡ n) × (position_or_len p xs < length xs)
place_some p xs n h = search (rules, cond_some, nat_lt, ltb-true)

-- or none passes
pub place_none : {X : Type 0} (p : X → Bool) (xs : List X) → position p xs ≡ None → length xs ≤ position_or_len p xs
place_none p xs h = search (rules, ltb-false, cond_none, nat_lt)

pub place_end : {X : Type 0} (p : X → Bool) (xs : List X) → position p xs ≡ None → length xs ≡ position_or_len p xs
place_end p xs h = omega (arith, place_none p xs h, prefix_len-le-length (λ x. not (p x)) xs)
