-- Which device may take the place of another one, which device comes out, and the law that exchanges do not change the
-- steps.
use Rattle.std.specs.Prelude.{◌≡◌, ◌≢◌, ℕ, ◌<◌, ◌≤◌, None, List, [], ◌∷◌, ◌++◌, length, codes}
use Rattle.plan_tables.specs.{PlanView.row_at, declared.devices.{DeviceRow.DeviceRow, RowId.RowId}}
use Rattle.device_objects.specs.{declared.state.{DeviceState.DeviceState, Eject.TheVariants.Idle}, DeviceStep.due_of}
use Rattle.device_objects.specs.declared.state.DeviceState.TheVariants as states
use Rattle.written_machine.specs.{declared.line.Line.Line, Machine.{device_at, world_of}}
use Rattle.machine_core.specs.Stopping.{stopped_state}
use Rattle.pin_rig.specs.declared.exchange.Refusal.{Refusal, TheVariants.{Halted, NoSuchRow, WrongRow, WrongState}}
use Rattle.pin_rig.specs.{declared.input.Input.Input, Rig.{RigView, RigStep}, Steps.AreSteps}

-- its number
abbrev pub refusal_number : Refusal → ℕ
refusal_number Halted = 1
refusal_number NoSuchRow = 2
refusal_number WrongRow = 3
refusal_number WrongState = 4

-- its name
abbrev pub refusal_name : Refusal → List ℕ
refusal_name Halted = codes "Halted"
refusal_name NoSuchRow = codes "NoSuchRow"
refusal_name WrongRow = codes "WrongRow"
refusal_name WrongState = codes "WrongState"

-- ---- which device may take a place

-- the rig is not halted, and has a row of this number
pub record HasPlace (rig : RigView) (number : RowId) : Type 0 where
  pub running : rig.faulted_coil ≡ None
  pub there : number.0 < length rig.checked.plan.rows

-- A device of this row, in this state, may take the place of the device of the row of this number: it is the device of
-- that row, in the state that the rig gives.
pub record MayTakePlace (rig : RigView) (number : RowId) (row : DeviceRow) (state : DeviceState) : Type 0 where
  pub place : HasPlace rig number
  pub row_is : row ≡ row_at rig.checked.plan number
  pub state_is : state ≡ device_at rig.machine number

-- It may not, for this reason, and for none of those before it.
abbrev pub IsRefused : RigView → RowId → DeviceRow → DeviceState → Refusal → Type 0
IsRefused rig number row state Halted = rig.faulted_coil ≢ None
IsRefused rig number row state NoSuchRow = (rig.faulted_coil ≡ None) × (length rig.checked.plan.rows ≤ number.0)
IsRefused rig number row state WrongRow = HasPlace rig number × (row ≢ row_at rig.checked.plan number)
IsRefused rig number row state WrongState =
    HasPlace rig number × (row ≡ row_at rig.checked.plan number) × (state ≢ device_at rig.machine number)

-- ---- the device that comes out

-- it ejects no ball, which only a ball device does
abbrev pub EjectsNothing : DeviceState → Type 0
EjectsNothing (states.BallDevice s) = s.eject ≡ Idle
EjectsNothing _ = Unit {0}

-- A device of this row, in this state, may be the one that was there, once it has stopped: it has the same row, and
-- the state to which the stop of its mode leads at the moment of the latest stimulus. Nothing of it is due, and it
-- ejects no ball.
pub record IsTakenOut (rig : RigView) (number : RowId) (row : DeviceRow) (state : DeviceState) : Type 0 where
  pub row_is : row ≡ row_at rig.checked.plan number
  pub state_is : state ≡ stopped_state rig.machine.moment (world_of rig.machine) (row_at rig.checked.plan number)
      (device_at rig.machine number)
  pub not_due : due_of state ≡ None
  pub ejects : EjectsNothing state

-- ---- steps with exchanges between them

-- a step with this input; or an exchange, which is refused or not
pub data RigCall : Type 0 where
  step : Input → RigCall
  exchange : RigCall

-- Each call is a step, or an exchange, after which the rig is as before. The trace is the lines of all steps.
abbrev pub AreCalls : List RigCall → RigView → List Line → RigView → Type 0
AreCalls [] old trace new = (trace ≡ []) × (new ≡ old)
AreCalls (step input ∷ more) old trace new =
    (mid : RigView) × (rest : List Line) × RigStep input old mid × AreCalls more mid rest new
    × (trace ≡ mid.machine.lines ++ rest)
AreCalls (exchange ∷ more) old trace new = (mid : RigView) × (mid ≡ old) × AreCalls more mid trace new

-- the inputs of the steps
abbrev pub inputs_of : List RigCall → List Input
inputs_of [] = []
inputs_of (step input ∷ more) = input ∷ inputs_of more
inputs_of (exchange ∷ more) = inputs_of more

-- The steps among any calls of a rig are steps by themselves, with the same lines, and lead to the same rig.
abbrev pub ExchangesLeaveTheSteps : Type 0
ExchangesLeaveTheSteps = (calls : List RigCall) (old : RigView) (trace : List Line) (new : RigView)
    → AreCalls calls old trace new → AreSteps (inputs_of calls) old trace new
