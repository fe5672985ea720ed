-- What contracts of the functions inside this crate see of what a setting names.
use Rattle.std.specs.{Prelude.{ℕ, List, map, option_map}, List.flat_map}
use Rattle.mpf_sections.specs.View.{name_view, name_at_view}
use Rattle.mpf_config.specs.Rows.{Rows}
use Rattle.row_faults.specs.{declared.as_written.NamedThing.NamedThing, BallFaults.{eject_coil_faults, target_faults}}
use Rattle.row_faults.specs.{FaultView.RowFaultView, ShotFaults.profile_faults}
use Rattle.row_faults.specs.declared.as_written.NamedThing.TheVariants as named
use Rattle.row_faults.specs.CoilFaults.{switch_name_faults, named_switch_faults, hold_faults}

-- what is wrong with what a setting names
abbrev pub named_faults : Rows → List ℕ → NamedThing → List RowFaultView
named_faults rows text (named.Coil w) = eject_coil_faults rows.machine text (option_map name_at_view w)
named_faults rows text (named.HoldCoil line w) = hold_faults rows.machine text line (option_map name_at_view w)
named_faults rows text (named.Switch w) = named_switch_faults rows.machine text (option_map name_at_view w)
named_faults rows text (named.Switches ws) = flat_map (switch_name_faults rows.machine text) (map name_view ws.now)
named_faults rows text (named.Profile w) = profile_faults rows text (name_at_view w)
named_faults rows text (named.Target w) = target_faults rows.machine text (name_at_view w)
