-- The names of the events of the game.
use Rattle.std.specs.Prelude.{ℕ, List, [], ◌∷◌, codes}

-- those that no row may post
abbrev pub reserved_game_events : List (List ℕ)
reserved_game_events =
    codes "game_will_start" ∷ codes "game_starting" ∷ codes "player_added" ∷ codes "game_started"
    ∷ codes "player_turn_will_start" ∷ codes "player_turn_starting" ∷ codes "player_turn_started"
    ∷ codes "ball_will_start" ∷ codes "ball_starting" ∷ codes "ball_started" ∷ codes "ball_drain"
    ∷ codes "ball_will_end" ∷ codes "ball_ending" ∷ codes "ball_ended"
    ∷ codes "player_turn_will_end" ∷ codes "player_turn_ending" ∷ codes "player_turn_ended"
    ∷ codes "game_will_end" ∷ codes "game_ending" ∷ codes "game_ended" ∷ []

-- all, that of the start button first
abbrev pub game_event_names : List (List ℕ)
game_event_names = codes "sw_start" ∷ reserved_game_events
