use Rattle.std.proofs.Common.{◌≡◌, Err, map, ap, subst}
use Rattle.plan_tables.specs.PlanView.{PlanView}
use Rattle.machine_core.specs.{declared.fault.CoreFault.TheVariants.WrongDevice, Fit.IsFirstWrong}
use Rattle.pin_rig.proofs.rig.Rig.new.Goals as goal

pub returns-in-Err-clause-wrong : goal.returns-in-Err-clause-wrong
returns-in-Err-clause-wrong g c = λ row is.
    let same : c.in-Err.fault ≡ WrongDevice (record { 0 = row }) = cc in
    let items = c.args.devices.items in
    subst (λ (p : PlanView). IsFirstWrong p (map g.D.Device.row_of items) (map g.D.Device.state_of items) row)
    c.plan-plan.ensures.plan (c.in-Err.ensures.wrong row (ap Err same))
