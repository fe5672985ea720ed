-- What holds of the devices in every run, and of what acts on them in an accepted plan.
use Rattle.std.specs.{Prelude.{◌≡◌, ◌<◌, List, length}, List.All}
use Rattle.plan_tables.specs.{PlanView.{PlanView, row_at}, declared.devices.RowId.RowId, BallRows.BallDevicesAreOwn}
use Rattle.plan_tables.specs.declared.entries.{Owner.{Owner, TheVariants.Machine}, Listener.Listener}
use Rattle.plan_tables.specs.declared.entries.Target.{Target, TheVariants.{Run, Start, Stop, Act}}
use Rattle.device_objects.specs.{Laws.HasShape, declared.state.DeviceState.DeviceState}
use Rattle.written_machine.specs.{Machine.device_state, Run.InEveryRun}

-- The state of each device has the shape of its row.
pub record HasDevices (plan : PlanView) (devices : List DeviceState) : Type 0 where
  pub count : length devices ≡ length plan.rows
  pub shapes : (r : RowId) → r.0 < length plan.rows → HasShape (row_at plan r).settings (device_state devices r)

-- So it is in every run.
abbrev pub DevicesKeepTheirShape : Type 0
DevicesKeepTheirShape = (plan : PlanView) → InEveryRun plan (λ stimuli trace s. HasDevices plan s.devices)

-- an act is on a device of this owner
abbrev pub IsOwnAct : PlanView → Owner → Target → Type 0
IsOwnAct plan owner (Run l) = Unit {0}
IsOwnAct plan owner (Start m) = Unit {0}
IsOwnAct plan owner (Stop m) = Unit {0}
IsOwnAct plan owner (Act r act) = (row_at plan r).owner ≡ owner

-- a device that listens to a switch is the machine's
abbrev pub IsOwnListener : PlanView → Listener → Type 0
IsOwnListener plan l = (row_at plan l.row).owner ≡ Machine

-- Bindings act on devices of their own owner alone, and only devices of the machine itself listen to switches, or hold
-- balls.
pub record ActsAreOwn (plan : PlanView) : Type 0 where
  pub bindings : All (λ b. IsOwnAct plan b.owner b.target) plan.bindings
  pub listeners : All (λ s. All (IsOwnListener plan) s.listeners) plan.switches
  pub balls : BallDevicesAreOwn plan
