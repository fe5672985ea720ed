-- Which events effect lists and switches must not post: those at which the machine itself does something, except that
-- of the start button.
use Rattle.std.specs.{Prelude.◌≡◌, List.All}
use Rattle.plan_tables.specs.PlanView.{PlanSwitch, PlanView, work_of}
use Rattle.plan_tables.specs.declared.entries.{EventId.EventId, Action.Action, GameEvent.TheVariants.SwStart}
use Rattle.plan_tables.specs.declared.entries.Action.TheVariants.{Post, Pulse, Enable, Disable, Request, AddBalls}
use Rattle.plan_tables.specs.declared.entries.Action.TheVariants.{Change as ChangeVariable, Enter, Leave, Lose, Arrive}
use Rattle.plan_tables.specs.declared.entries.Work.{Work, TheVariants.{Nothing, Mode, Game}}

-- no work, or that of the start button
abbrev pub IsFreeWork : Work → Type 0
IsFreeWork Nothing = Unit {0}
IsFreeWork (Mode m which) = ⊥
IsFreeWork (Game which) = which ≡ SwStart

-- the machine itself does nothing at the event, unless it is that of the start button
abbrev pub IsFree : PlanView → EventId → Type 0
IsFree plan e = IsFreeWork (work_of plan e)

abbrev pub IsFreeAction : PlanView → Action → Type 0
IsFreeAction plan (Post e) = IsFree plan e
IsFreeAction plan (Pulse coil ms power) = Unit {0}
IsFreeAction plan (Enable coil power) = Unit {0}
IsFreeAction plan (Disable coil) = Unit {0}
IsFreeAction plan (ChangeVariable v action n e) = IsFree plan e
IsFreeAction plan (Enter r e drain) = IsFree plan e
IsFreeAction plan (Leave r) = Unit {0}
IsFreeAction plan (Lose r) = Unit {0}
IsFreeAction plan (Arrive r) = Unit {0}
IsFreeAction plan (Request n) = Unit {0}
IsFreeAction plan (AddBalls n) = Unit {0}

abbrev pub IsFreeSwitch : PlanView → PlanSwitch → Type 0
IsFreeSwitch plan s = All (IsFree plan) s.active × All (IsFree plan) s.inactive

-- No effect list and no switch posts an event at which the machine itself does something, but that of the start button:
-- only its works, starts and stops of modes post those.
pub record PostsAreFree (plan : PlanView) : Type 0 where
  pub lists : All (All (IsFreeAction plan)) plan.lists
  pub switches : All (IsFreeSwitch plan) plan.switches
