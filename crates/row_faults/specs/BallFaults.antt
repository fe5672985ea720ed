-- What is wrong with ball devices. Here `machine` is the sections of the machine text, and `text` is the name of the
-- text.
use Rattle.std.specs.Prelude.{ℕ, Bool, false, not, ◌||◌, List, [], ◌∷◌, ◌++◌, Option, Some, None, is_some, codes}
use Rattle.std.specs.{List.flat_map, Str.bytes_eq}
use Rattle.mpf_tables.specs.SectionTables as tables
use Rattle.mpf_sections.specs.{Rows.{WrittenName, BallDeviceEntry, SectionRows}, TypedBalls.playfield}
use Rattle.machine_definitions.specs.Definitions.{ball_device_called}
use Rattle.row_faults.specs.declared.fault.RowFaultKind.TheVariants.{Name, BallRoute}
use Rattle.row_faults.specs.{FaultView.RowFaultView, AsWritten.as_written}
use Rattle.row_faults.specs.CoilFaults.{fault_if, coil_name_faults, switch_name_faults}
use Rattle.row_faults.specs.Routes.{leads_to_playfield, lacks_coil, switch_names, all_taken, is_one_taken}

-- ---- names

-- whether balls can be ejected to a place of this name: the playfield, or a ball device that an entry defines
abbrev pub is_place : List SectionRows → List ℕ → Bool
is_place machine name = bytes_eq name playfield || is_some (ball_device_called machine name)

abbrev pub eject_coil_faults : List SectionRows → List ℕ → Option WrittenName → List RowFaultView
eject_coil_faults machine text None = []
eject_coil_faults machine text (Some w) = coil_name_faults machine text w

abbrev pub target_faults : List SectionRows → List ℕ → WrittenName → List RowFaultView
target_faults machine text w = fault_if (not (is_place machine w.text)) Name text w

-- names that no entry defines, in the order in which the settings are written
abbrev pub ball_device_faults : List SectionRows → List ℕ → BallDeviceEntry → List RowFaultView
ball_device_faults machine text d =
    as_written tables.ball_devices d.order
    ((codes "ball_switches", flat_map (switch_name_faults machine text) d.switches)
    ∷ (codes "eject_coil", eject_coil_faults machine text d.eject_coil)
    ∷ (codes "eject_targets", target_faults machine text d.target)
    ∷ [])

-- ---- the ways of balls

-- Whether something is wrong with the way of balls through a ball device: its balls do not come to the playfield, it
-- has a ball switch that is taken or has one twice, or it lacks a coil.
abbrev pub is_route_wrong : List BallDeviceEntry → (is_taken : List ℕ → Bool) → BallDeviceEntry → Bool
is_route_wrong devices is_taken d = not (leads_to_playfield devices d) || is_one_taken (switch_names d) is_taken
    || lacks_coil d

-- the same of the rest of the ball devices; those before it have the ball switches that are taken
abbrev pub rest_faults : List BallDeviceEntry → (is_taken : List ℕ → Bool) → List ℕ → (rest : List BallDeviceEntry)
    → List RowFaultView
rest_faults devices is_taken text [] = []
rest_faults devices is_taken text (d ∷ ds) =
    fault_if (is_route_wrong devices is_taken d) BallRoute text d.name
    ++ rest_faults devices (all_taken (switch_names d) is_taken) text ds

-- no ball switch is taken before the first ball device
abbrev pub is_free : List ℕ → Bool
is_free name = false

-- the ball devices with whose ways something is wrong, one fault each
abbrev pub route_faults : List ℕ → List BallDeviceEntry → List RowFaultView
route_faults text devices = rest_faults devices is_free text devices
