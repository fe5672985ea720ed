-- The names of the modes of a plan that planning gives, and of their events.
use Rattle.std.proofs.Common.{rules, List, [], ℕ, ◌-◌, ◌≢◌, refl, ap, ◌∙◌, ◌≡◌, ◌<◌, length, map, get_or, Ok}
use Rattle.std.{proofs.Common.{Contains, sym, subst, arith}, specs.List.All}
use Rattle.mpf_config.specs.Rows.{ModeRows, Rows}
use Rattle.plan_tables.specs.declared.entries.{EventId.EventId, ModeId.ModeId, ModeEvent.ModeEvent, Work.Work}
use Rattle.plan_tables.specs.declared.entries.GameEvent.{GameEvent, TheVariants.SwStart}
use Rattle.plan_tables.specs.declared.entries.Work.TheVariants as works
use Rattle.plan_tables.specs.PlanView.{PlanView, name_of_event, mode_at, mode_event, game_event, work_of}
use Rattle.plan_tables.{specs.{GameEvents.order_of, Valid.{HasGame, IsWorkAt}}, proofs.Worked.work_found}
use Rattle.machine_definitions.specs.GameEvents.{reserved_game_events}
use Rattle.plan_parts.specs.{Effects.mode_event_name, Parts.parts_of}
use Rattle.mpf_plan.{specs.PlanOf.{plan_of, plan_at}, proofs.{GameNames.game_name, Judged.plan_at-Ok}}
use Rattle.mpf_plan.proofs.{GameMade.game_event_is, ModeWorks.{event_name_is, name_there}}

abbrev HasEventNames : PlanView → Type 0
HasEventNames plan =
    (m : ModeId) → m.0 < length plan.modes → (which : ModeEvent) → name_of_event plan
    (mode_event plan m which) ≡ mode_event_name which (mode_at plan m).name

abbrev HasModesOf : Rows → PlanView → Type 0
HasModesOf rows plan =
    (m : ModeId) → m.0 < length plan.modes → Contains (map (λ (x : ModeRows). x.name) rows.modes)
    (mode_at plan m).name

abbrev pub HasGameNames : PlanView → Type 0
HasGameNames plan = HasGame plan → (which : GameEvent) → name_of_event plan (game_event plan which) ≡ game_name which

events_of_plan : (rows : Rows) → HasEventNames (plan_of rows)
unfolding plan_of
events_of_plan rows = event_name_is rows

modes_of_plan : (rows : Rows) → HasModesOf rows (plan_of rows)
unfolding plan_of
modes_of_plan rows = name_there rows

module _ (rows : Rows) (plan : PlanView) (is : plan_at rows ≡ Ok plan) (m : ModeId)
    (within : m.0 < length plan.modes) where
  -- an event of a mode has the name that the mode gives it
  pub mode_event-named : (which : ModeEvent)
      → name_of_event plan (mode_event plan m which) ≡ mode_event_name which (mode_at plan m).name
  mode_event-named which = subst HasEventNames (sym (plan_at-Ok rows plan is).0) (events_of_plan rows) m within which

  -- the name of a mode is that of a mode in the rows
  pub mode-named : Contains (map (λ (x : ModeRows). x.name) rows.modes) (mode_at plan m).name
  mode-named = subst (HasModesOf rows) (sym (plan_at-Ok rows plan is).0) (modes_of_plan rows) m within

events_of_game : (rows : Rows) → HasGameNames (plan_of rows)
unfolding plan_of
events_of_game rows = game_event_is (parts_of rows)

-- an event of the game has its name
pub game_event-named : (rows : Rows) (plan : PlanView) → plan_at rows ≡ Ok plan → HasGameNames plan
game_event-named rows plan is = subst HasGameNames (sym (plan_at-Ok rows plan is).0) (events_of_game rows)

-- An event that has none of the names of events of modes in the rows, and none of those of the game that no row may
-- post, has no work, or that of the start button.
pub free-by_name : (rows : Rows) (plan : PlanView) → plan_at rows ≡ Ok plan → (e : EventId)
    → ((name : List ℕ) → Contains (map (λ (x : ModeRows). x.name) rows.modes) name → (which : ModeEvent)
    → name_of_event plan e ≢ mode_event_name which name)
    → All (λ name. name_of_event plan e ≢ name) reserved_game_events
    → (P : Work → Type 0) → P works.Nothing → P (works.Game SwStart) → P (work_of plan e)
free-by_name rows plan is e other unreserved P nothing start = by (work_of plan e) (work_found plan e)
  where
    -- an event of the game that stands at this place among those that no row may post
    reserved : (which : GameEvent) (place : ℕ) → place < length reserved_game_events
        → game_name which ≡ get_or reserved_game_events place [] → IsWorkAt plan e (works.Game which)
        → P (works.Game which)
    reserved which place within same at =
        absurd
        (unreserved place [] within (ap (name_of_event plan) at.1 ∙ game_event-named rows plan is at.0 which ∙ same))

    by_event : (which : GameEvent) → IsWorkAt plan e (works.Game which) → P (works.Game which)
    by_event SwStart at = start
    by_event which at = reserved which (order_of which - 1) (omega arith) refl at

    by : (w : Work) → IsWorkAt plan e w → P w
    by x1 at = search (rules, by_event, mode-named, mode_event-named)
