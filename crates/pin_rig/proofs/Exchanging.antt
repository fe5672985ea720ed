-- A device is taken out, and steps are as without exchanges.
use Rattle.std.proofs.Common.{rules, ◌≡◌, ℕ, ◌<◌, List, [], ◌∷◌, length, ap, sym, ◌∙◌, subst}
use Rattle.plan_tables.specs.{PlanView.{PlanView, row_at}, declared.devices.{DeviceRow.DeviceRow, RowId.RowId}}
use Rattle.device_objects.{specs.declared.state.DeviceState.DeviceState, proofs.Lawful.nothing_is_due}
use Rattle.written_machine.specs.{declared.line.Line.Line, CheckedView.CheckedView, Machine.{device_at, world_of}}
use Rattle.coil_driver.specs.Driver.{DriverView}
use Rattle.machine_core.specs.{Core.CoreView, Stopping.stopped_state}
use Rattle.pin_rig.specs.Exchange.{MayTakePlace, IsTakenOut, RigCall, step, exchange, AreCalls, inputs_of}
use Rattle.pin_rig.{specs.{RigState.IsHeld, Rig.RigView, Steps.AreSteps}, proofs.Acting.rig_of}

module _ (checked : CheckedView) (core : CoreView) (driver : DriverView) (visible_count : ℕ)
    (held : IsHeld checked core driver visible_count)
    (number : RowId) (row : DeviceRow) (state : DeviceState)
    (may : MayTakePlace (rig_of checked core driver visible_count) number row state) where
  -- the core can exchange the device
  pub may-there : number.0 < length core.machine.devices
  may-there = subst (λ n. number.0 < n) (sym
      (held.core_is.devices.count ∙ ap (λ (p : PlanView). length p.rows) held.plan_is)) may.place.there

  pub may-row : row ≡ row_at core.plan number
  may-row = may.row_is ∙ ap (λ (p : PlanView). row_at p number) (sym held.plan_is)

  -- what comes out
  pub taken-out : (last : DeviceRow) (stopped : DeviceState) → last ≡ row_at core.plan number
      → stopped ≡ stopped_state core.machine.moment (world_of core.machine) (row_at core.plan number)
      (device_at core.machine number)
      → IsTakenOut (rig_of checked core driver visible_count) number last stopped
  taken-out last stopped row_is state_is = search (rules, nothing_is_due)

-- exchanges leave the rig as it is
pub calls-steps : (calls : List RigCall) (old : RigView) (trace : List Line) (new : RigView)
    → AreCalls calls old trace new → AreSteps (inputs_of calls) old trace new
calls-steps [] old trace new are = are
calls-steps (step input ∷ more) old trace new (mid, rest, one, later, is) =
    (mid, rest, one, calls-steps more mid rest new later, is)
calls-steps (exchange ∷ more) old trace new (mid, same, later) =
    let P : RigView → Type 0 = λ rig. AreSteps (inputs_of more) rig trace new in
    subst P same (calls-steps more mid trace new later)
