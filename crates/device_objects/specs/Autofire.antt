-- An autofire coil, as of a slingshot: its switch 0 pulses it.
use Rattle.std.specs.Prelude.{ℕ, ◌==◌, true, false, ◌&&◌, if◌then◌else◌, Option, None, Some, List, [], ◌∷◌}
use Rattle.plan_tables.specs.declared.devices.Act.{Act}
use Rattle.plan_tables.specs.declared.devices.Act.TheVariants as acts
use Rattle.device_objects.specs.declared.state.{AutofireState.AutofireState, DeviceState.DeviceState}
use Rattle.device_objects.specs.declared.state.DeviceState.TheVariants as states
use Rattle.device_objects.specs.KindModel.{Kind, CalmModel, in_states, never_due, of_machine}
use Rattle.device_objects.specs.Outcomes.{of_switch, silent}

-- the list of an autofire coil that fires
abbrev pub fire_list : ℕ
fire_list = 0

-- at first an autofire coil is not enabled
abbrev pub first_state : AutofireState
first_state = record { enabled = false }

abbrev pub act_step : Act → AutofireState → AutofireState × List ℕ
act_step acts.Enable s = (record s { enabled = true }, [])
act_step acts.Disable s = (record s { enabled = false }, [])
act_step (acts.SwitchOn i) s = if s.enabled && (i == 0) then (s, fire_list ∷ []) else (s, [])
act_step _ s = (s, [])

abbrev pub of_autofire : Act → List (List ℕ)
of_autofire (acts.SwitchOn i) = of_switch i fire_list
of_autofire _ = silent

-- it is the machine's, and never due
abbrev pub autofire : CalmModel AutofireState
autofire = of_machine first_state act_step of_autofire

-- what a state holds, if it is one of an autofire coil
abbrev pub autofire_state : DeviceState → Option AutofireState
autofire_state (states.Autofire s) = Some s
autofire_state _ = None

abbrev pub autofires : Kind DeviceState
autofires = in_states states.Autofire autofire_state (never_due autofire)
