-- A switch's state, apart from where it lies in memory.
use Rattle.switch_core.specs.{declared.state.State.State, SwitchStep.SwitchState}

abbrev pub state_view : State → SwitchState
state_view s = record { raw = s.raw; active = s.active; due = s.due }
