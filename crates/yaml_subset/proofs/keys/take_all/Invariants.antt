use Rattle.std.proofs.Common.{◌≡◌, ◌||◌, ℕ, List, map, length}
use Rattle.yaml_subset.specs.{Keys.{is_among, copies_view}, Flow.keys_of, View.pair_view}
use Rattle.yaml_subset.proofs.keys.take_all.Given as goal

-- what is taken and what is left together are those of before and all
abbrev pub invariant-loop-rest : goal.invariant-loop-rest
invariant-loop-rest l =
    (q : List ℕ) → (is_among (copies_view l.keys) q || is_among (keys_of (map pair_view l.rest)) q)
    ≡ (is_among (copies_view l.initial.keys) q || is_among (keys_of (map pair_view l.pairs)) q)

abbrev pub decreases-loop-rest : goal.decreases-loop-rest
decreases-loop-rest l = length l.rest
