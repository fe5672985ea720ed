-- The events of the game of a plan of parts have the names of the game's.
use Rattle.std.proofs.Common.{◌≡◌, ◌<◌, List, [], map, length, slice_index_or, refl, sym, ◌∙◌, ap, true≢false}
use Rattle.std.specs.{Prelude.{Option, None, Some, IfSome, IsSome}, List.{All, flat_map}}
use Rattle.std.proofs.lemmas.List.{get_or-map, Elements.{All-nil, All-cons}}
use Rattle.machine_definitions.specs.GameEvents.{game_event_names}
use Rattle.plan_tables.specs.declared.entries.{EventId.EventId, GameEvent.GameEvent, GameRules.GameRules}
use Rattle.plan_tables.specs.{declared.table.Table.TheVariants.Events, GameEvents.order_of, Valid.HasGame}
use Rattle.plan_tables.specs.PlanView.{no_event, name_of_event, event_of_game, game_event}
use Rattle.plan_parts.specs.Parts.{Part, game}
use Rattle.mpf_plan.specs.{Uses.{Names, number_among}, ByNumber.{event_of, rules_of}}
use Rattle.mpf_plan.specs.PlanOf.{uses_of, effect_uses, part_uses, names_of, rules_in, plan_by}
use Rattle.mpf_plan.proofs.Among.{IsAmong, uses_among, at_number}
use Rattle.mpf_plan.proofs.{PlanEntries.{last_such, named_events}, GameNames.{game_name, order_within}}
use Rattle.yaml_bytes.proofs.Each.{All-flat_map, All-parts}

-- rules whose events are those of the game, by number, and all of these have numbers
pub record IsGameOf (names : Names) (rules : GameRules) : Type 0 where
  pub events : rules.events ≡ map (event_of (names Events)) game_event_names
  pub known : (which : GameEvent) → number_among (names Events) (game_name which) < length (names Events)

module _ (ps : List Part) where
  abbrev names : Names
  names = names_of ps

  rules_made : (p : Part) → All (IsAmong names) (part_uses p) → All (IsGameOf names) (rules_in names p)
  rules_made (game min_balls balls_per_game max_players) among =
      All-cons (IsGameOf names) (rules_of (names Events) min_balls balls_per_game max_players) []
      (record { events = refl; known = known }) (All-nil (IsGameOf names))
    where
      known : (which : GameEvent) → number_among (names Events) (game_name which) < length (names Events)
      known which =
          named_events names game_event_names
          (All-parts (IsAmong names) (uses_of Events game_event_names) (flat_map (flat_map effect_uses) []) among).0
          (order_of which) [] (order_within which)
  rules_made _ among = All-nil (IsGameOf names)

  pub game_made : IfSome (plan_by names ps).game (IsGameOf names)
  unfolding plan_by
  game_made =
      last_such (IsGameOf names) None (flat_map (rules_in names) ps) tt
      (All-flat_map (IsGameOf names) (rules_in names) ps (λ i p within. rules_made _ (uses_among ps i p within)))

  named_in : (game : Option GameRules) → IfSome game (IsGameOf names) → IsSome game → (which : GameEvent)
      → name_of_event (plan_by names ps) (event_of_game game which) ≡ game_name which
  unfolding plan_by
  named_in None is some which = absurd (true≢false (sym some))
  named_in (Some rules) is some which =
      ap
      (λ (es : List EventId). slice_index_or (names Events) (slice_index_or es (order_of which) no_event).0 [])
      is.events
      ∙ ap (λ (e : EventId). slice_index_or (names Events) e.0 [])
      (get_or-map (event_of (names Events)) game_event_names (order_of which) [] no_event (order_within which))
      ∙ at_number (names Events) (game_name which) (is.known which)

  -- an event of the game has its name
  pub game_event_is : HasGame (plan_by names ps) → (which : GameEvent)
      → name_of_event (plan_by names ps) (game_event (plan_by names ps) which) ≡ game_name which
  game_event_is has which = named_in (plan_by names ps).game game_made has which
