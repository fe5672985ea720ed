-- Which cycle is reported of a plan that has more than one: the one in which a fixed walk ends.
use Rattle.std.specs.Prelude.{◌≡◌, ◌≢◌, ℕ, zero, suc, ◌+◌, ◌-◌, ◌<◌, Bool, true, false, ◌&&◌, ◌==◌, if◌then◌else◌, List}
use Rattle.std.specs.{Prelude.{[], ◌∷◌, ◌++◌, length, drop, Option, find}, List.{list_any, position_or_len}}
use Rattle.plan_tables.specs.{PlanView.PlanView, declared.entries.EventId.EventId}
use Rattle.cascade_rank.specs.{Events.{events_of, nth_event}, LeadsTo.{leads, is_open}}

-- ---- what it is

-- p holds of e, and of no event with a lower number
pub record IsFirst (p : EventId → Bool) (e : EventId) : Type 0 where
  pub holds : p e ≡ true
  pub least : (d : EventId) → d.0 < e.0 → p d ≡ false

-- a step of the walk: of the open events to which e leads, f has the lowest number
abbrev pub GoesOn : PlanView → EventId → EventId → Type 0
GoesOn plan e f = IsFirst (λ g. leads plan e g && is_open plan g) f

-- a walk begins at the open event with the lowest number, goes on step by step, and has not come back to one of its
-- events
pub record IsWalk (plan : PlanView) (path : List EventId) : Type 0 where
  pub first : 0 < length path → IsFirst (is_open plan) (nth_event path 0)
  pub next : (i : ℕ) → i + 1 < length path → GoesOn plan (nth_event path i) (nth_event path (i + 1))
  pub apart : (i j : ℕ) → i < j → j < length path → nth_event path i ≢ nth_event path j

-- a walk whose next step comes back to one of its events: the cycle is the walk from that event on
pub record IsReportedCycle (plan : PlanView) (cycle : List EventId) : Type 0 where
  pub path : List EventId
  pub walk : IsWalk plan path
  pub place : ℕ
  pub place_within : place < length path
  pub part : cycle ≡ drop place path
  pub again : GoesOn plan (nth_event path (length path - 1)) (nth_event path place)

-- ---- how it is computed

-- the first event of which p holds, or none
abbrev pub first_event : PlanView → (EventId → Bool) → Option EventId
first_event plan p = find p (events_of plan)

abbrev pub first_open : PlanView → Option EventId
first_open plan = first_event plan (is_open plan)

-- the event to which a step from e goes; if there is none, its number is how many events the plan has
abbrev pub next_open : PlanView → EventId → EventId
next_open plan e = record { 0 = position_or_len (λ f. leads plan e f && is_open plan f) (events_of plan) }

-- the list without what comes before the first e, and empty if there is no e
abbrev pub from_first : EventId → List EventId → List EventId
from_first e [] = []
from_first e (d ∷ ds) = if d.0 == e.0 then d ∷ ds else from_first e ds

-- The walk has passed this path and comes to e, and ends where it passed e before. From an open event on that is so
-- after no more steps than the plan has events: the number, which is there for the definition to end, is never used up.
abbrev pub cycle_from : PlanView → ℕ → List EventId → EventId → List EventId
cycle_from plan zero path e = []
cycle_from plan (suc k) path e =
    if list_any (λ d. d.0 == e.0) path then from_first e path else cycle_from plan k (path ++ e ∷ []) (next_open plan e)

-- the cycle in which the walk from e ends
abbrev pub cycle_of : PlanView → EventId → List EventId
cycle_of plan e = cycle_from plan (length plan.events + 1) [] e
