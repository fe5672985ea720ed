-- The coils, switches and ball devices of the machine text, by name. Here `machine` is the sections of that text.
use Rattle.std.specs.Prelude.{ℕ, Bool, false, if◌then◌else◌, List, [], Option, None, Some, fold, unwrap_or}
use Rattle.std.specs.{List.{flat_map, list_any}, Str.bytes_eq}
use Rattle.mpf_sections.specs.{Rows.{Coil, BallDeviceEntry, SectionRows}, TypedCoils.coils_in, Typed.switches_in}
use Rattle.mpf_sections.specs.{CoilRules.quick_switches, TypedBalls.ball_devices_in}

-- the coil of this name, if there is one; of two the later
abbrev pub latest_coil : List ℕ → Option Coil → Coil → Option Coil
latest_coil name earlier c = if bytes_eq name c.name.text then Some c else earlier

abbrev pub coil_called : List SectionRows → List ℕ → Option Coil
coil_called machine name = fold (latest_coil name) None (flat_map coils_in machine)

-- in place of a coil if there is none, with numbers in their ranges: then there is no plan
abbrev pub no_coil : Coil
no_coil = record {
  name = record { line = 0; text = [] };
  pulse_ms = 1;
  max_pulse_ms = 1;
  pulse_power = 0;
  max_pulse_power = 0;
  may_hold = false;
  hold_power = 0;
  max_hold_power = 0;
}

abbrev pub coil_of_name : List SectionRows → List ℕ → Coil
coil_of_name machine name = unwrap_or (coil_called machine name) no_coil

-- whether an entry defines a switch of this name
abbrev pub has_switch : List SectionRows → List ℕ → Bool
has_switch machine name = list_any (λ s. bytes_eq name s.name.text) (flat_map switches_in machine)

-- whether an entry, as that of a flipper or an autofire coil, makes the switch of this name quick
abbrev pub makes_quick : List SectionRows → List ℕ → Bool
makes_quick machine name = list_any (bytes_eq name) (flat_map quick_switches machine)

-- the ball devices of sections, in plan order
abbrev pub ball_devices_of : List SectionRows → List BallDeviceEntry
ball_devices_of sections = flat_map ball_devices_in sections

-- of these ball devices the one of this name, if there is one; of two the later
abbrev pub latest_ball_device : List ℕ → Option BallDeviceEntry → BallDeviceEntry → Option BallDeviceEntry
latest_ball_device name earlier d = if bytes_eq name d.name.text then Some d else earlier

abbrev pub ball_device_among : List BallDeviceEntry → List ℕ → Option BallDeviceEntry
ball_device_among devices name = fold (latest_ball_device name) None devices

abbrev pub ball_device_called : List SectionRows → List ℕ → Option BallDeviceEntry
ball_device_called machine name = ball_device_among (ball_devices_of machine) name
