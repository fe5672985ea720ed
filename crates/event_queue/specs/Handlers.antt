-- What handles an event: bindings, by their places in the plan.
use Rattle.std.specs.Prelude.{ℕ, ◌≤◌, Bool, true, false, List, [], ◌∷◌, length, filter, replicate, slice_index_or}
use Rattle.std.specs.{Prelude.slice_set, List.{AllByRecursion, Sorted.IsPermutation}}
use Rattle.plan_tables.specs.declared.entries.{EventId.EventId, BindingId.BindingId, ModeId.ModeId, Owner.Owner}
use Rattle.plan_tables.specs.declared.entries.Owner.TheVariants as owners
use Rattle.plan_tables.specs.PlanView.{PlanView, binding_at, places_of}

-- the plan whose bindings handle events, and for each of its modes, by number, whether it runs
pub record HandlersView : Type 0 where
  pub plan : PlanView
  pub running : List Bool

-- no mode of the plan runs
abbrev pub none_running : PlanView → List Bool
none_running plan = replicate (length plan.modes) false

-- from now on a mode runs, or does not
abbrev pub set_running : HandlersView → ModeId → Bool → HandlersView
set_running h m runs = record { plan = h.plan; running = slice_set h.running m.0 runs }

-- whether the bindings of an owner run: the machine's always do, and a mode's while it runs
abbrev pub takes_part : List Bool → Owner → Bool
takes_part running owners.Machine = true
takes_part running (owners.Mode m) = slice_index_or running m.0 false

-- whether the binding at a place runs
abbrev pub runs_at : PlanView → List Bool → BindingId → Bool
runs_at plan running p = takes_part running (binding_at plan p).owner

-- the places of an event's handlers, lower places first: of what is bound to it, the bindings whose owner takes part
abbrev pub handlers : PlanView → List Bool → EventId → List BindingId
handlers plan running e = filter (runs_at plan running) (places_of plan e)

abbrev pub priority_at : PlanView → BindingId → ℕ
priority_at plan p = (binding_at plan p).priority

-- no binding has a greater priority than one before it
abbrev pub IsDescending : PlanView → List BindingId → Type 0
IsDescending plan [] = Unit {0}
IsDescending plan (p ∷ ps) = AllByRecursion (λ q. priority_at plan q ≤ priority_at plan p) ps × IsDescending plan ps

-- any order of these places that is descending in priority
pub record IsHandlerOrder (plan : PlanView) (places order : List BindingId) : Type 0 where
  pub permutation : IsPermutation places order
  pub descending : IsDescending plan order
