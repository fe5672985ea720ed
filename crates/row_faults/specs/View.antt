-- What contracts see of faults.
use Rattle.std.specs.{Prelude.{ℕ, List, ◌++◌, map, codes}, BTreeSet.BTreeSet, Global.Vec}
use Rattle.mpf_sections.specs.declared.balls.BallDeviceEntry as typed_balls
use Rattle.mpf_sections.specs.{Rows.BallDeviceEntry, View.ball_device_view}
use Rattle.row_faults.specs.{declared.{fault.RowFault.RowFault, text_name.TextName.TextName}, FaultView.RowFaultView}

-- the letters of the name of a text
abbrev pub letters_of : TextName → List ℕ
letters_of name = name.letters.value.bytes.items

abbrev pub row_fault_view : RowFault → RowFaultView
row_fault_view f = record { kind = f.kind; text = letters_of f.text; line = f.line; name = f.name.items }

abbrev pub row_faults_view : List RowFault → List RowFaultView
row_faults_view faults = map row_fault_view faults

-- the events in a set, which has each without the `mode_` that it begins with
abbrev pub events_view : BTreeSet (Vec ℕ) → List (List ℕ)
events_view set = map (λ rest. codes "mode_" ++ rest.items) set.keys

-- ball devices, apart from where they lie in memory
abbrev pub devices_view : List typed_balls.BallDeviceEntry → List BallDeviceEntry
devices_view devices = map ball_device_view devices
