-- What holds of variable players, of the game and of the machine, by the names of their settings: their names are
-- names, and their settings are in their ranges.
use Rattle.std.proofs.{Common.{rules, ◌≤◌, ℤ, pos, neg_ℤ, ◌≤ℤ◌, List}, lemmas.List.length-map}
use Rattle.mpf_values.specs.Names.{IsName}
use Rattle.section_tables.specs.{Rows.{Entry, PlayerEntry}, Named.{IsNamedPlayer, IsShortPlayer}}
use Rattle.mpf_sections.specs.{Rows.SectionRows, Named.IsNamedVariablePlayer}
use Rattle.mpf_sections.specs.TypedGame.{variable_item_of, variable_player_of, game_of, min_balls_of}
use Rattle.mpf_sections.specs.Short.{IsShortVariablePlayer, IsGameInRange}
use Rattle.mpf_sections.proofs.{RowNames.{event_named, keyed_named}, CoilRows.keyed_short}

-- ---- names

-- The names in an entry of `variable_player` are names.
pub variable_player_named : (p : PlayerEntry) → IsNamedPlayer p → IsNamedVariablePlayer (variable_player_of p)
unfolding variable_player_of variable_item_of
variable_player_named p h = record {
  event = event_named p.event h.event;
  items = keyed_named (λ i. IsName i.variable.text) variable_item_of (λ k named. named.0) p.value h.value;
}

-- ---- ranges

abbrev IsChange : ℤ → Type 0
IsChange n = (neg_ℤ (pos 1000000000) ≤ℤ n) × (n ≤ℤ pos 1000000000)

-- It says of at most 1,024 variables what is done with them.
pub variable_player_short : (p : PlayerEntry) → IsShortPlayer 1024 p → IsShortVariablePlayer (variable_player_of p)
unfolding variable_player_of
variable_player_short p h = search (rules, keyed_short, length-map)

-- What is said of the game is in its ranges.
pub game_in_range : (e : Entry) → IsGameInRange (game_of e)
unfolding game_of
game_in_range e = search rules

-- A game needs at most 99 balls.
pub min_balls_few : (sections : List SectionRows) → min_balls_of sections ≤ 99
min_balls_few sections = search rules
