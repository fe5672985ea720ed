-- The variables that no row may change, and the faults of rows that change them.
use Rattle.std.specs.{Prelude.{ℕ, Bool, ◌||◌, List}, List.flat_map}
use Rattle.mpf_sections.specs.{Rows.{VariableItem, VariablePlayer, SectionRows}, TypedGame.variable_players_in}
use Rattle.machine_definitions.specs.Players.{player_event, is_set_by_game}
use Rattle.row_faults.specs.declared.fault.RowFaultKind.TheVariants.{Name}
use Rattle.row_faults.specs.{FaultView.RowFaultView, Reserved.is_reserved_by, CoilFaults.fault_if}

-- whether no row may change the variable: the game alone sets it, or its change posts a reserved event
abbrev pub is_barred : List (List ℕ) → List ℕ → Bool
is_barred modes variable = is_set_by_game variable || is_reserved_by modes (player_event variable)

abbrev pub variable_item_faults : List (List ℕ) → List ℕ → VariableItem → List RowFaultView
variable_item_faults modes text item = fault_if (is_barred modes item.variable.text) Name text item.variable

abbrev pub variable_player_faults : List (List ℕ) → List ℕ → VariablePlayer → List RowFaultView
variable_player_faults modes text p = flat_map (variable_item_faults modes text) p.items

-- the faults of the entries of `variable_player` of a section
abbrev pub variable_faults : List (List ℕ) → List ℕ → SectionRows → List RowFaultView
variable_faults modes text s = flat_map (variable_player_faults modes text) (variable_players_in s)
