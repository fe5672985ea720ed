-- Events at which nothing is done.
use Rattle.std.specs.Prelude.{◌≡◌, ℕ, ◌<◌, Bool, true, false, List, [], slice_index_or}
use Rattle.plan_tables.specs.declared.entries.{EventId.EventId, Work.TheVariants.Nothing}
use Rattle.plan_tables.specs.PlanView.{PlanView, places_of, work_of}

-- the machine itself does nothing at the event, and nothing is bound to it
pub record IsIdle (plan : PlanView) (e : EventId) : Type 0 where
  pub no_work : work_of plan e ≡ Nothing
  pub unbound : places_of plan e ≡ []

-- each event that is marked, at its number, is idle
abbrev pub AreIdle : PlanView → List Bool → Type 0
AreIdle plan marks = (e : EventId) → slice_index_or marks e.0 false ≡ true → IsIdle plan e
