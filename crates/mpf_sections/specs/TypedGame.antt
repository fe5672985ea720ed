-- The entries of `machine`, `game` and `variable_player`, by the names of their settings.
use Rattle.std.specs.{Prelude.{ℕ, ℤ, pos, negsuc, if◌then◌else◌, List, map, Option, Some, codes}, Str.bytes_eq}
use Rattle.machine_settings.specs.declared.words.VariableAction.{VariableAction, TheVariants.{Add, Set}}
use Rattle.setting_values.specs.{Values.{Plain, number, KeyedValues}, ValueOf.within}
use Rattle.section_tables.specs.Rows.{Entry, PlayerEntry}
use Rattle.mpf_tables.specs.SectionTables as tables
pub use Rattle.mpf_tables.specs.SectionTables.{variable_player_name, machine_section_name, game_name}
use Rattle.mpf_sections.specs.Typed.{field_of, listed_keyed, handled_in, word_in, players_of, content_named, row_or}
use Rattle.mpf_sections.specs.TypedNumbers.{natural_setting}
use Rattle.mpf_sections.specs.Rows.{VariableItem, VariablePlayer, GameSettings, SectionRows}

-- ---- `variable_player`

-- what a word does with a variable: add or set
abbrev pub variable_action_of : List ℕ → VariableAction
variable_action_of w = if bytes_eq w (codes "set") then Set else Add

-- a number from -1,000,000,000 to 1,000,000,000; 0 if there is none
abbrev pub change_in : Option Plain → ℤ
change_in (Some (number n)) = if within (negsuc 999999999) (pos 1000000000) n then n else pos 0
change_in _ = pos 0

unfoldable pub variable_item_of : KeyedValues → VariableItem
variable_item_of k = record {
  variable = k.name;
  action = variable_action_of (word_in (field_of tables.variable_item (codes "action") k.values));
  number = change_in (field_of tables.variable_item (codes "int") k.values);
}

unfoldable pub variable_player_of : PlayerEntry → VariablePlayer
variable_player_of p = record { event = handled_in p.event; items = map variable_item_of (listed_keyed (Some p.value)) }

-- the entries of a section: of `variable_player` its own, of any other none
unfoldable pub variable_players_in : SectionRows → List VariablePlayer
variable_players_in s = map variable_player_of (players_of variable_player_name s)

-- ---- `game`

unfoldable pub game_of : Entry → GameSettings
game_of e = record {
  balls_per_game = natural_setting tables.game (codes "balls_per_game") e.values;
  max_players = natural_setting tables.game (codes "max_players") e.values;
}

-- ---- `machine`

-- how many balls a game needs: what the section says, or its default if there is no such section
abbrev pub min_balls_of : List SectionRows → ℕ
min_balls_of sections = natural_setting tables.machine (codes "min_balls")
    (row_or tables.machine (content_named machine_section_name sections))
