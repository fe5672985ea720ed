-- A list of which one more is measured costs as much as the list with one more.
use Rattle.std.proofs.Common.{rules, ◌≡◌, ℕ, ◌+◌, ◌<◌, max, List, [], ◌∷◌, ◌++◌, length, take, get_or, sym, subst}
use Rattle.std.proofs.{Common.arith, lemmas.List.{append_assoc, append-nil, take_more}}
use Rattle.plan_tables.specs.declared.entries.EventId.{EventId}
use Rattle.cascade_rank.specs.Cost.{Cost, Both, Greater, price_at, each_of, dearest_of}
use Rattle.cascade_rank.specs.{Mentions.weights_in, Measures.AreAlike}

module _ {X : Type 0} (f : X → Cost) where
  price-each_last : (k : ℕ) (w : EventId → ℕ) (xs : List X) (x : X)
      → price_at k w (each_of f xs) + price_at k w (f x) ≡ price_at k w (each_of f (xs ++ x ∷ []))
  price-each_last k w [] x = omega arith
  price-each_last k w (y ∷ ys) x = omega (arith, price-each_last k w ys x)

  price-dearest_last : (k : ℕ) (w : EventId → ℕ) (xs : List X) (x : X)
      → max (price_at k w (dearest_of f xs)) (price_at k w (f x)) ≡ price_at k w (dearest_of f (xs ++ x ∷ []))
  price-dearest_last k w [] x = omega arith
  price-dearest_last k w (y ∷ ys) x = omega (arith, price-dearest_last k w ys x)

  weights-each_last : (xs : List X) (x : X)
      → weights_in (each_of f xs) ++ weights_in (f x) ≡ weights_in (each_of f (xs ++ x ∷ []))
  weights-each_last [] x = sym (append-nil (weights_in (f x)))
  weights-each_last (y ∷ ys) x = search (rules, append_assoc, weights-each_last ys x)

  weights-dearest_last : (xs : List X) (x : X)
      → weights_in (dearest_of f xs) ++ weights_in (f x) ≡ weights_in (dearest_of f (xs ++ x ∷ []))
  weights-dearest_last [] x = sym (append-nil (weights_in (f x)))
  weights-dearest_last (y ∷ ys) x = search (rules, append_assoc, weights-dearest_last ys x)

  -- one more at the end of a list
  pub each_last : (xs : List X) (x : X) → AreAlike (Both (each_of f xs) (f x)) (each_of f (xs ++ x ∷ []))
  each_last xs x = record { price = λ k w. price-each_last k w xs x; weights = weights-each_last xs x }

  pub dearest_last : (xs : List X) (x : X) → AreAlike (Greater (dearest_of f xs) (f x)) (dearest_of f (xs ++ x ∷ []))
  dearest_last xs x = record { price = λ k w. price-dearest_last k w xs x; weights = weights-dearest_last xs x }

  -- one more of the first of a list
  pub each_more : (xs : List X) (i : ℕ) (d : X) → i < length xs
      → AreAlike (Both (each_of f (take i xs)) (f (get_or xs i d))) (each_of f (take (i + 1) xs))
  each_more xs i d h =
      subst (λ (ys : List X). AreAlike (Both (each_of f (take i xs)) (f (get_or xs i d))) (each_of f ys))
      (sym (take_more xs i d h)) (each_last (take i xs) (get_or xs i d))

  pub dearest_more : (xs : List X) (i : ℕ) (d : X) → i < length xs
      → AreAlike (Greater (dearest_of f (take i xs)) (f (get_or xs i d))) (dearest_of f (take (i + 1) xs))
  dearest_more xs i d h =
      subst (λ (ys : List X). AreAlike (Greater (dearest_of f (take i xs)) (f (get_or xs i d))) (dearest_of f ys))
      (sym (take_more xs i d h)) (dearest_last (take i xs) (get_or xs i d))
