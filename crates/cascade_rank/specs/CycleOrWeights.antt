-- Which plans have weights at all: those in which no events lead to each other.
use Rattle.std.specs.{Prelude.{◌≡◌, ◌<◌, true, false, List, length}, List.All}
use Rattle.plan_tables.specs.{PlanView.PlanView, Valid.HasEntries, declared.entries.EventId.EventId}
use Rattle.cascade_rank.specs.{Weights.IsLeastFitting, LeadsTo.{is_open, IsCycle, HasNoFit}, Ranks.ranks}

-- if events lead to each other, no weights fit
abbrev pub CycleHasNoFit : Type 0
CycleHasNoFit = (plan : PlanView) (events : List EventId) → IsCycle plan events → HasNoFit plan

-- if an event of the plan is not grounded, there are events that lead to each other
abbrev pub OpenHasCycle : Type 0
OpenHasCycle = (plan : PlanView) → HasEntries plan → (e : EventId) → e.0 < length plan.events → is_open plan e ≡ true
    → (events : List EventId) × IsCycle plan events

-- and of events that lead to each other none is grounded
abbrev pub CycleIsOpen : Type 0
CycleIsOpen = (plan : PlanView) (events : List EventId) → IsCycle plan events → All (λ e. is_open plan e ≡ true) events

-- if all are grounded, the ranks are the least weights that fit
abbrev pub GroundedHasLeast : Type 0
GroundedHasLeast = (plan : PlanView) → HasEntries plan
    → ((e : EventId) → e.0 < length plan.events → is_open plan e ≡ false) → IsLeastFitting plan (ranks plan)
