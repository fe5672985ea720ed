-- The events whose weights are in a cost.
use Rattle.std.specs.Prelude.{List, [], ◌∷◌, ◌++◌}
use Rattle.plan_tables.specs.declared.entries.EventId.{EventId}
use Rattle.cascade_rank.specs.Cost.{Cost, Lines, Step, Weight, Both, Greater}

-- each as often as it is there, from left to right
abbrev pub weights_in : Cost → List EventId
weights_in (Lines n) = []
weights_in Step = []
weights_in (Weight e) = e ∷ []
weights_in (Both a b) = weights_in a ++ weights_in b
weights_in (Greater a b) = weights_in a ++ weights_in b
