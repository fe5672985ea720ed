-- The names of the game's events: no two of them are the same, and none is that of an event of a mode.
use Rattle.std.proofs.Common.{rules, ◌≡◌, ◌≢◌, ℕ, ◌<◌, ◌==◌, List, [], length, get_or, ◌∙◌, ap, false, true≢false}
use Rattle.machine_definitions.specs.GameEvents.{game_event_names}
use Rattle.plan_tables.specs.{declared.entries.{GameEvent.GameEvent, ModeEvent.ModeEvent}, GameEvents.order_of}
use Rattle.plan_parts.specs.Effects.{mode_event_name}

-- the name of an event of the game
abbrev pub game_name : GameEvent → List ℕ
game_name which = get_or game_event_names (order_of which) []

-- it stands among the names
pub order_within : (which : GameEvent) → order_of which < length game_event_names
order_within x1 = search rules

pub same_game : (which other : GameEvent) → game_name which ≡ game_name other → which ≡ other
same_game which other same = search rules

-- the name of an event of a mode begins with an m
starts_otherwise : (which : GameEvent) → (get_or (game_name which) 0 0 == 109) ≡ false
starts_otherwise x1 = search rules

pub not_of_mode : (which : GameEvent) (event : ModeEvent) (name : List ℕ)
    → mode_event_name event name ≢ game_name which
not_of_mode which event name same = true≢false (ap (λ n. get_or n 0 0 == 109) same ∙ starts_otherwise which)
