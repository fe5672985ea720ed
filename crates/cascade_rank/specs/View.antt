-- What contracts see of an answer.
use Rattle.std.specs.Prelude.{◌≡◌, ℕ, List, Option, Some, None, Result, Ok, Err}
use Rattle.cascade_rank.specs.declared.{fault.RankFault.RankFault, verdict.Bound.Bound}
use Rattle.cascade_rank.specs.declared.fault.RankFault.TheVariants as faults
use Rattle.cascade_rank.specs.Finding.{RankView, cycle, bound_too_large, short, wrong_events}

-- what a fault reports of the plan or the weights: a fault of memory reports nothing
abbrev pub rank_view : RankFault → Option RankView
rank_view faults.NoMemory = None
rank_view (faults.Cycle events) = Some (cycle events.items)
rank_view faults.BoundTooLarge = Some bound_too_large
rank_view (faults.Short event needed) = Some (short event needed)
rank_view faults.WrongEvents = Some wrong_events

abbrev pub IfReported : Option RankView → (RankView → Type 0) → Type 0
IfReported None P = Unit {0}
IfReported (Some fault) P = P fault

-- P holds of what the fault reports, unless memory ran out
abbrev pub IfRank : RankFault → (RankView → Type 0) → Type 0
IfRank fault P = IfReported (rank_view fault) P

-- The answer is what finding gives, unless memory ran out.
abbrev pub GivesFound : Result (List ℕ) RankFault → Result (List ℕ) RankView → Type 0
GivesFound (Ok weights) outcome = outcome ≡ Ok weights
GivesFound (Err fault) outcome = IfRank fault (λ its_view. outcome ≡ Err its_view)

-- The same, of weights with their bound.
abbrev pub GivesBounded : Result (List ℕ × Bound) RankFault → Result (List ℕ) RankView → Type 0
GivesBounded (Ok (weights, bound)) outcome = outcome ≡ Ok weights
GivesBounded (Err fault) outcome = IfRank fault (λ its_view. outcome ≡ Err its_view)

-- The answer is what verifying gives. That takes no memory.
abbrev pub GivesBound : Result Bound RankFault → Result ℕ RankView → Type 0
GivesBound (Ok bound) number = number ≡ Ok bound.0
GivesBound (Err fault) number = (its_view : RankView) × (rank_view fault ≡ Some its_view) × (number ≡ Err its_view)
