-- What a part says, with numbers in place of names.
use Rattle.std.specs.Prelude.{ℕ, List, map}
use Rattle.plan_tables.specs.declared.{entries.{EventId.EventId, CoilId.CoilId}, devices.RowId.RowId}
use Rattle.plan_tables.specs.declared.entries.{GameRules.GameRules, VariableId.VariableId}
use Rattle.plan_tables.specs.declared.entries.Action.{Action, TheVariants.{Lose, Arrive, Request, AddBalls}}
use Rattle.plan_tables.specs.declared.entries.Action.TheVariants.{Post, Pulse, Enable, Disable, Change, Enter, Leave}
use Rattle.mpf_values.specs.Events.{EventCondition}
use Rattle.plan_tables.specs.declared.entries.Condition as numbered
use Rattle.machine_definitions.specs.{GameEvents.game_event_names, Players.player_event}
use Rattle.plan_tables.specs.declared.table.Table.TheVariants.{Events, Coils, Variables}
use Rattle.plan_parts.specs.Effects.{Deed, pulse, enable, disable, Effect, posts, works, changes, enters, leaves, loses}
use Rattle.plan_parts.specs.Effects.{arrives, requests, adds_balls}
use Rattle.mpf_plan.specs.Uses.{Names, number_among}

-- an event is its name's place among the names
abbrev pub event_of : List (List ℕ) → List ℕ → EventId
event_of names name = record { 0 = number_among names name }

-- and so is a coil
abbrev pub coil_of : List (List ℕ) → List ℕ → CoilId
coil_of names name = record { 0 = number_among names name }

-- and a variable
abbrev pub variable_of : List (List ℕ) → List ℕ → VariableId
variable_of names name = record { 0 = number_among names name }

-- what is done with this coil, by number
abbrev pub action_with : CoilId → Deed → Action
action_with c (pulse ms power) = Pulse c ms power
action_with c (enable power) = Enable c power
action_with c disable = Disable c

-- an effect, by number; what happens with balls happens in the ball device in this row
abbrev pub action_of : Names → RowId → Effect → Action
action_of names r (posts n) = Post (event_of (names Events) n)
action_of names r (works n deed) = action_with (coil_of (names Coils) n) deed
action_of names r (changes v action n) = Change (variable_of (names Variables) v) action n
    (event_of (names Events) (player_event v))
action_of names r (enters n drain) = Enter r (event_of (names Events) n) drain
action_of names r leaves = Leave r
action_of names r loses = Lose r
action_of names r arrives = Arrive r
action_of names r (requests n) = Request n
action_of names r (adds_balls n) = AddBalls n

-- a condition, by number
abbrev pub condition_of : Names → EventCondition → numbered.Condition
condition_of names c =
    record { variable = variable_of (names Variables) c.variable; comparison = c.comparison; number = c.number }

-- the rules of the game, with its events by number
abbrev pub rules_of : List (List ℕ) → ℕ → ℕ → ℕ → GameRules
rules_of names min_balls balls_per_game max_players = record {
  min_balls = min_balls;
  balls_per_game = balls_per_game;
  max_players = max_players;
  events = map (event_of names) game_event_names;
}
