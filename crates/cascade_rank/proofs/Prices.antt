-- Laws of prices, by cases on the cost.
use Rattle.std.proofs.Common.{◌≡◌, ℕ, zero, suc, ◌≤◌, ◌<◌, true, List, [], ◌∷◌, length, get_or, sum_by, refl, subst}
use Rattle.std.proofs.Common.{inl, inr, arith, rules}
use Rattle.std.proofs.lemmas.{Bool.{or_left, or_right, or_cases, eq-eqb, false≢true}, List.Sums.sum_by-cons}
use Rattle.plan_tables.{specs.declared.entries.EventId.EventId, proofs.Worked.number_same}
use Rattle.cascade_rank.specs.Cost.{Cost, Lines, Step, Weight, Both, Greater, price_at, mentions, each_of, dearest_of}

-- at greater weights nothing is cheaper
pub price_at_most : (k : ℕ) (w v : EventId → ℕ) (c : Cost) → ((e : EventId) → mentions e c ≡ true → w e ≤ v e)
    → price_at k w c ≤ price_at k v c
price_at_most k w v (Lines n) h = omega arith
price_at_most k w v Step h = omega arith
price_at_most k w v (Weight e) h = h e (eq-eqb e.0 e.0 refl)
price_at_most k w v (Both a b) h =
    omega (
      arith,
      price_at_most k w v a (λ e m. h e (or_left (mentions e a) (mentions e b) m)),
      price_at_most k w v b (λ e m. h e (or_right (mentions e a) (mentions e b) m)),
    )
price_at_most k w v (Greater a b) h =
    omega (
      arith,
      price_at_most k w v a (λ e m. h e (or_left (mentions e a) (mentions e b) m)),
      price_at_most k w v b (λ e m. h e (or_right (mentions e a) (mentions e b) m)),
    )

-- weights that agree on the mentioned events give the same price
pub price_agrees : (k : ℕ) (w v : EventId → ℕ) (c : Cost) → ((e : EventId) → mentions e c ≡ true → w e ≡ v e)
    → price_at k w c ≡ price_at k v c
price_agrees k w v c h = search (rules, price_at_most)

-- a mentioned event weighs no more than the whole costs
pub price-mentioned : (k : ℕ) (w : EventId → ℕ) (c : Cost) (e : EventId) → mentions e c ≡ true → w e ≤ price_at k w c
price-mentioned k w (Lines n) e m = absurd (false≢true m)
price-mentioned k w Step e m = absurd (false≢true m)
price-mentioned k w (Weight f) e m = subst (λ (x : EventId). w e ≤ w x) (number_same e f m) (omega arith)
price-mentioned k w (Both a b) e m =
    elim (or_cases (mentions e a) (mentions e b) m) [
      | inl h ↦ omega (arith, price-mentioned k w a e h)
      | inr h ↦ omega (arith, price-mentioned k w b e h)
    ]
price-mentioned k w (Greater a b) e m =
    elim (or_cases (mentions e a) (mentions e b) m) [
      | inl h ↦ omega (arith, price-mentioned k w a e h)
      | inr h ↦ omega (arith, price-mentioned k w b e h)
    ]

-- what all of a list cost is the sum of their prices
pub price-each_sum : {X : Type 0} (k : ℕ) (w : EventId → ℕ) (f : X → Cost) (xs : List X)
    → price_at k w (each_of f xs) ≡ sum_by (λ x. price_at k w (f x)) xs
price-each_sum k w f [] = search rules
price-each_sum k w f (x ∷ xs) = omega (arith, price-each_sum k w f xs, sum_by-cons (λ y. price_at k w (f y)) x xs)

-- no one of a list is dearer than the dearest
pub price-dearest : {X : Type 0} (k : ℕ) (w : EventId → ℕ) (f : X → Cost) (xs : List X) (i : ℕ) (d : X) → i < length xs
    → price_at k w (f (get_or xs i d)) ≤ price_at k w (dearest_of f xs)
price-dearest k w f [] i d h = omega arith
price-dearest k w f (x ∷ xs) zero d h = omega arith
price-dearest k w f (x ∷ xs) (suc i) d h = omega (arith, price-dearest k w f xs i d (omega arith))
