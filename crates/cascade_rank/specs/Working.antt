-- The most lines and steps that one stimulus can take. A step is a handler that is looked at, or a call of a device.
use Rattle.std.specs.Prelude.{◌≡◌, ℕ, ◌-◌, ◌<◌, ◌≤◌, ◌^◌, None, Some, Result, Ok, Err}
use Rattle.plan_tables.specs.{PlanView.PlanView, declared.entries.EventId.EventId}
use Rattle.cascade_rank.specs.{declared.fault.RankFault.RankFault, Weights.bound_at, Ranks.rank_at}
use Rattle.cascade_rank.specs.declared.work_bounds.WorkBound.{WorkBound, TheVariants.{Within, Beyond}}
use Rattle.cascade_rank.specs.{View.IfRank, Finding.cycle, Cycle.{first_open, cycle_of}}

-- a line is 1 and a step is 1, at the least weights that fit
abbrev pub work_bound_of : PlanView → ℕ
work_bound_of plan = bound_at 1 plan (rank_at 1 plan)

-- so many lines and steps: beyond is what is no less than the greatest number of 64 bits
abbrev pub IsBoundOf : ℕ → WorkBound → Type 0
IsBoundOf steps (Within n) = (n ≡ steps) × (steps < 2 ^ 64 - 1)
IsBoundOf steps Beyond = 2 ^ 64 - 1 ≤ steps

-- The answer is the bound if every event is grounded, else the cycle of the first that is not, unless memory ran out.
abbrev pub GivesWork : PlanView → Result WorkBound RankFault → Type 0
GivesWork plan (Ok bound) = (first_open plan ≡ None) × IsBoundOf (work_bound_of plan) bound
GivesWork plan (Err fault) = IfRank fault (λ its_view. (e : EventId) × (first_open plan ≡ Some e)
    × (its_view ≡ cycle (cycle_of plan e)))
