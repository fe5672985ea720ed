-- The work of the game's events: each has that of its own.
use Rattle.std.proofs.Common.{rules, ◌≡◌, ◌<◌, ◌==◌, Bool, cond, length, get_or, true, Option, Some, None, refl, sym}
use Rattle.std.proofs.Common.{◌∙◌, ap, subst, true≢false, arith}
use Rattle.std.specs.{Prelude.{IfSome, IsSome}, List.{list_any, position, position_or_len}}
use Rattle.std.proofs.lemmas.{Bool.{lt-ltb, eq-eqb}, List.{length-map, Folds.list_any_at}, Option.slice_get-get_or}
use Rattle.mpf_config.specs.Rows.{Rows}
use Rattle.machine_definitions.specs.GameEvents.{game_event_names}
use Rattle.plan_tables.specs.declared.entries.{EventId.EventId, GameRules.GameRules, Work.Work}
use Rattle.plan_tables.specs.declared.entries.GameEvent.{GameEvent, TheVariants.SwStart}
use Rattle.plan_tables.specs.declared.entries.Work.TheVariants as works
use Rattle.plan_tables.{specs.declared.table.Table.TheVariants.Events, proofs.Worked.work_found}
use Rattle.plan_tables.specs.{GameEvents.{game_events, order_of}, Valid.{HasGame, IsWorkAt}}
use Rattle.plan_tables.specs.PlanView.{PlanView, no_event, name_of_event, mode_at, work_from, work_in_game}
use Rattle.plan_tables.specs.PlanView.{placed_in_game, game_work, or_work, work_of, event_of_game, game_event}
use Rattle.plan_parts.specs.Parts.{parts_of}
use Rattle.mpf_plan.specs.{Uses.Names, ByNumber.event_of, PlanOf.{names_of, plan_by}}
use Rattle.mpf_plan.proofs.{Named.position_within, ModeWorks.{IsWork, event_name_is}}
use Rattle.mpf_plan.proofs.GameMade.{IsGameOf, game_made, game_event_is}
use Rattle.mpf_plan.proofs.GameNames.{game_name, order_within, same_game, not_of_mode}

-- ---- an event of the game has work

later_work : (w rest : Work) → IsWork rest → IsWork (or_work w rest)
later_work x1 rest is = search rules

found_work : (rules : GameRules) (e : EventId) → length rules.events ≡ length game_events
    → list_any (λ f. f.0 == e.0) rules.events ≡ true → IsWork (game_work (Some rules) e)
found_work rules e count there =
    let same : EventId → Bool = λ f. f.0 == e.0 in
    let place = position_or_len same rules.events in
    let within : place < length rules.events = position_within same rules.events there in
    let at : position same rules.events ≡ Some place = ap (λ b. cond b (Some place) None)
    (lt-ltb place (length rules.events) within) in
    let is : placed_in_game (position same rules.events) ≡ Some
    (get_or game_events place SwStart) = ap placed_in_game at ∙ slice_get-get_or game_events place SwStart
    (omega (arith, within, count)) in
    subst (λ o. IsWork (work_in_game o)) (sym is) tt

work_in : (names : Names) (game : Option GameRules) → IfSome game (IsGameOf names) → IsSome game
    → (which : GameEvent) → IsWork (game_work game (event_of_game game which))
work_in names None is some which = absurd (true≢false (sym some))
work_in names (Some rules) is some which =
    let e = event_of_game (Some rules) which in
    let count : length rules.events ≡ length game_events = ap length is.events ∙ length-map game_event_names
    (event_of (names Events)) in
    found_work rules e count
    (list_any_at (λ f. f.0 == e.0) rules.events (order_of which) no_event (omega (arith, count, order_within which))
    (eq-eqb e.0 e.0 refl))

-- ---- the work of its own

module _ (rows : Rows) where
  abbrev plan : PlanView
  plan = plan_by (names_of (parts_of rows)) (parts_of rows)

  pub game_works_are : (which : GameEvent) → HasGame plan → work_of plan (game_event plan which) ≡ works.Game which
  game_works_are which has = by (work_of plan e) some (work_found plan e)
    where
      e : EventId
      e = game_event plan which

      some : IsWork (work_of plan e)
      some =
          later_work (work_from 0 plan.modes e) (game_work plan.game e)
          (work_in (names_of (parts_of rows)) plan.game (game_made (parts_of rows)) has which)

      named : name_of_event plan e ≡ game_name which
      named = game_event_is (parts_of rows) has which

      by : (w : Work) → IsWork w → IsWorkAt plan e w → w ≡ works.Game which
      by works.Nothing some at = absurd some
      by (works.Mode m other) some at =
          absurd
          (not_of_mode which other (mode_at plan m).name
          (sym (event_name_is rows m at.0 other) ∙ ap (name_of_event plan) (sym at.1) ∙ named))
      by (works.Game other) some at =
          ap works.Game
          (same_game other which (sym (game_event_is (parts_of rows) at.0 other) ∙ ap (name_of_event plan) (sym at.1)
          ∙ named))
