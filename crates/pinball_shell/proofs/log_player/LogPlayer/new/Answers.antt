use Rattle.std.proofs.{Common.{Err, IsErrOf, ap, sym, ◌∙◌, map, subst}, lemmas.Result.err_from_is_err_and}
use Rattle.machine_core.specs.Fit.{IsFit}
use Rattle.pinball_shell.specs.declared.fault.ShellFault.TheVariants as faults
use Rattle.pinball_shell.proofs.Taking.{wrong-unfit, runs-ready}
use Rattle.pinball_shell.proofs.log_player.LogPlayer.new.Goals as goal

pub returns-in_err-rig-clause-wrong : goal.returns-in_err-rig-clause-wrong
returns-in_err-rig-clause-wrong g c =
    let unfit = wrong-unfit c.args.checked.now.plan (map g.D.Device.row_of c.args.devices.items)
    (map g.D.Device.state_of c.args.devices.items) c.in_err-rig.field-0.0
    (λ row is. c.in_err-rig.ensures.wrong row (ap Err is)) in
    let p = err_from_is_err_and c.from_residual-in_err-rig.result c.from_residual-in_err-rig.ensures.1 in
    subst (λ r. IsErrOf r faults.WrongDevice
    → IsFit c.args.checked.now.plan (map g.D.Device.row_of c.args.devices.items)
    (map g.D.Device.state_of c.args.devices.items) → ⊥) (sym (p.1 ∙ ap Err p.2)) unfit

pub invariant_of-result : goal.invariant_of-result
invariant_of-result g c =
    runs-ready c.args.checked.now c.in_ok-names.names c.in_ok-rig.rig _ (c.in_ok-names.ensures ∙ c.plan.ensures.plan)
    c.in_ok-rig.ensures.rest c.plan.ensures.accepted
