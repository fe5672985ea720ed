-- How often an event is among those whose weights are in a cost.
use Rattle.std.proofs.Common.{◌≡◌, ◌+◌, false, List, [], ◌∷◌, ◌++◌, length, refl, arith, length-append}
use Rattle.plan_tables.specs.declared.entries.EventId.{EventId}
use Rattle.cascade_rank.specs.Cost.{Cost, Lines, Step, Weight, Both, Greater, each_of, cost_of_post}
use Rattle.cascade_rank.specs.{Mentions.weights_in, Order.{unmet, occurrences}}

occurrences-append : (e : EventId) (es ds : List EventId)
    → occurrences e (each_of cost_of_post (es ++ ds))
    ≡ occurrences e (each_of cost_of_post es) + occurrences e (each_of cost_of_post ds)
occurrences-append e [] ds = omega arith
occurrences-append e (d ∷ es) ds = omega (arith, occurrences-append e es ds)

pub occurrences-posts : (e : EventId) (c : Cost) → occurrences e (each_of cost_of_post (weights_in c)) ≡ occurrences e c
occurrences-posts e (Lines n) = refl
occurrences-posts e Step = refl
occurrences-posts e (Weight f) = omega arith
occurrences-posts e (Both a b) =
    omega (arith, occurrences-append e (weights_in a) (weights_in b), occurrences-posts e a, occurrences-posts e b)
occurrences-posts e (Greater a b) =
    omega (arith, occurrences-append e (weights_in a) (weights_in b), occurrences-posts e a, occurrences-posts e b)

pub unmet-length : (c : Cost) → unmet (λ _. false) c ≡ length (weights_in c)
unmet-length (Both a b) = omega (arith, length-append (weights_in a) (weights_in b), unmet-length a, unmet-length b)
unmet-length (Greater a b) = omega (arith, length-append (weights_in a) (weights_in b), unmet-length a, unmet-length b)
unmet-length _ = refl
