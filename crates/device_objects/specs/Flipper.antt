-- A flipper. Its button is its switch 0. plan_parts says what its lists do: `flipper_on` and `flipper_off`.
use Rattle.std.specs.Prelude.{ℕ, ◌==◌, Bool, true, false, ◌&&◌, if◌then◌else◌, Option, None, Some, List, [], ◌∷◌}
use Rattle.plan_tables.specs.declared.devices.Act.{Act}
use Rattle.plan_tables.specs.declared.devices.Act.TheVariants as acts
use Rattle.device_objects.specs.declared.state.{FlipperState.FlipperState, DeviceState.DeviceState}
use Rattle.device_objects.specs.declared.state.DeviceState.TheVariants as states
use Rattle.device_objects.specs.KindModel.{Kind, CalmModel, in_states, never_due, of_machine}
use Rattle.device_objects.specs.Outcomes.{of_switch, silent}

-- the lists of a flipper: of one that goes on, and of one that goes off
abbrev pub on_list : ℕ
on_list = 0

abbrev pub off_list : ℕ
off_list = 1

-- at first a flipper is not enabled, and not on
abbrev pub first_state : FlipperState
first_state = record { enabled = false; on = false }

-- it goes on, if this holds
abbrev pub raise : Bool → FlipperState → FlipperState × List ℕ
raise holds s = if holds then (record s { on = true }, on_list ∷ []) else (s, [])

-- it goes off, if this holds
abbrev pub lower : Bool → FlipperState → FlipperState × List ℕ
lower holds s = if holds then (record s { on = false }, off_list ∷ []) else (s, [])

-- a flipper that is disabled while it is on goes off
abbrev pub act_step : Act → FlipperState → FlipperState × List ℕ
act_step acts.Enable s = (record s { enabled = true }, [])
act_step acts.Disable s = lower s.on (record s { enabled = false })
act_step (acts.SwitchOn i) s = raise (s.enabled && (i == 0)) s
act_step (acts.SwitchOff i) s = lower (s.on && (i == 0)) s
act_step _ s = (s, [])

abbrev pub of_flipper : Act → List (List ℕ)
of_flipper acts.Disable = [] ∷ (off_list ∷ []) ∷ []
of_flipper (acts.SwitchOn i) = of_switch i on_list
of_flipper (acts.SwitchOff i) = of_switch i off_list
of_flipper _ = silent

-- it is the machine's, and never due
abbrev pub flipper : CalmModel FlipperState
flipper = of_machine first_state act_step of_flipper

-- what a state holds, if it is one of a flipper
abbrev pub flipper_state : DeviceState → Option FlipperState
flipper_state (states.Flipper s) = Some s
flipper_state _ = None

abbrev pub flippers : Kind DeviceState
flippers = in_states states.Flipper flipper_state (never_due flipper)
