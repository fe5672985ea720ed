-- The variables of players, by name.
use Rattle.std.specs.{Prelude.{ℕ, Bool, ◌||◌, List, ◌++◌, codes}, Str.bytes_eq}

-- the event that is posted when a variable changes
abbrev pub player_event : List ℕ → List ℕ
player_event variable = codes "player_" ++ variable

-- whether the game alone sets the variable
abbrev pub is_set_by_game : List ℕ → Bool
is_set_by_game variable = bytes_eq variable (codes "ball") || bytes_eq variable (codes "number")
