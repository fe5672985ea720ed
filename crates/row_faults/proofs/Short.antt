-- A short name is none of longer ones.
use Rattle.std.proofs.Common.{rules, ◌≡◌, ℕ, ◌<◌, Bool, true, false, ◌&&◌, nat_le, List, [], ◌∷◌, length, refl}
use Rattle.std.specs.{List.list_all, Str.bytes_eq}
use Rattle.yaml_subset.specs.Keys.{is_among}

both-first : (a b : Bool) → (a && b) ≡ true → a ≡ true
both-first x1 b e = search rules

both-second : (a b : Bool) → (a && b) ≡ true → b ≡ true
both-second x1 b e = search rules

other : (n q : List ℕ) → nat_le 10 (length n) ≡ true → length q < 10 → bytes_eq n q ≡ false
other n q long short = search rules

pub short-apart : (names : List (List ℕ)) (q : List ℕ) → list_all (λ n. nat_le 10 (length n)) names ≡ true
    → length q < 10 → is_among names q ≡ false
short-apart [] q long short = refl
short-apart (n ∷ ns) q long short = search (
  rules,
  other,
  both-first,
  nat_le,
  both-second,
  short-apart ns q (both-second (nat_le 10 (length n)) (list_all (λ m. nat_le 10 (length m)) ns) long) short,
)
