-- The ball switch that is due first, as a loop finds it.
use Rattle.std.proofs.Common.{rules, drop, get_or, arith}
use Rattle.std.proofs.lemmas.{Bool.{cases_lt, cond_both, le-leb, lt-leb}, List.{drop_more, drop_all}}
use Rattle.std.proofs.Common.{◌≡◌, ℕ, suc, ◌+◌, ◌<◌, ◌≤◌, nat_le, Option, IfSome, option_map, List, [], ◌∷◌, length}
use Rattle.device_objects.specs.{declared.state.BallSwitch.BallSwitch, BallDevice.first_due_from}
use Rattle.plan_tables.specs.Due.{sooner}

-- ---- a walk over the ball switches

-- the first so far, and the first of those that are left: the sooner of them is the first of all
abbrev pub IsFirstSoFar : List BallSwitch → ℕ → Option (ℕ × ℕ) → Type 0
IsFirstSoFar bs i first = sooner first (first_due_from i (drop i bs)) ≡ first_due_from 0 bs

pub first-more : (bs : List BallSwitch) (i : ℕ) (first : Option (ℕ × ℕ)) (d : BallSwitch) → i < length bs
    → IsFirstSoFar bs i first
    → IsFirstSoFar bs (i + 1) (sooner first (option_map (λ due. (due, i)) (get_or bs i d).due))
first-more bs i first d within so_far = search (rules, cases_lt, lt-leb, le-leb, option_map, get_or, drop_more)

pub first-all : (bs : List BallSwitch) (i : ℕ) (first : Option (ℕ × ℕ)) → length bs ≤ i → IsFirstSoFar bs i first
    → first ≡ first_due_from 0 bs
first-all bs i first past so_far = search (rules, drop_all)

-- ---- it is one of them

sooner-either : (P : ℕ × ℕ → Type 0) (a b : Option (ℕ × ℕ)) → IfSome a P → IfSome b P → IfSome (sooner a b) P
sooner-either P x2 x3 of_a of_b = search (rules, cond_both, nat_le)

numbered : (P : ℕ × ℕ → Type 0) (i : ℕ) (due : Option ℕ) → ((moment : ℕ) → P (moment, i))
    → IfSome (option_map (λ moment. (moment, i)) due) P
numbered P i x3 h = search rules

pub first-within : (n i : ℕ) (bs : List BallSwitch) → i + length bs ≤ n → IfSome (first_due_from i bs) (λ a. a.1 < n)
first-within n i [] fits = tt
first-within n i (b ∷ bs) fits =
    sooner-either (λ a. a.1 < n) (option_map (λ due. (due, i)) b.due) (first_due_from (suc i) bs)
    (numbered (λ a. a.1 < n) i b.due (λ moment. omega arith))
    (first-within n (suc i) bs (omega arith))
