-- Costs that have only the weights of events with numbers below a given one.
use Rattle.std.specs.Prelude.{ℕ, ◌<◌}
use Rattle.cascade_rank.specs.Cost.{Cost, Lines, Step, Weight, Both, Greater}

-- each event whose weight is in the cost is below n
abbrev pub IsBelow : ℕ → Cost → Type 0
IsBelow n (Lines k) = Unit {0}
IsBelow n Step = Unit {0}
IsBelow n (Weight e) = e.0 < n
IsBelow n (Both a b) = IsBelow n a × IsBelow n b
IsBelow n (Greater a b) = IsBelow n a × IsBelow n b
