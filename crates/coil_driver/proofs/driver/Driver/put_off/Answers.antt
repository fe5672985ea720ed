use Rattle.std.proofs.Common.{◌<◌, ◌≤◌, ◌+◌, length, sym, subst, arith}
use Rattle.coil_driver.specs.{declared.report.ShutReport.ShutReport, Driver.DriverView}
use Rattle.coil_driver.proofs.PuttingOff.{IsPuttingOff, putting-left, putting-more, putting-end, putting-end-sent}
use Rattle.coil_driver.proofs.driver.Driver.put_off.Goals as goal
use Rattle.coil_driver.proofs.driver.Driver.put_off.Goals.{then-takes_off, else-takes_off}

pub loop-number-preserved : goal.loop-number-preserved
loop-number-preserved g c =
    let plan = c.args.plan.now in
    let now = c.args.now in
    let start = c.args.self.now in
    let number = c.loop-number.number in
    let there : number < length plan.coils =
    omega (arith, c.loop-number-test.true, c.coil_count-number-end.ensures.count) in
    elim c.if-takes_off.branch [
      | then-takes_off w ↦
          subst (λ (d : DriverView). IsPuttingOff plan now start (number + 1) d c.if-takes_off.report.off.items
          c.if-takes_off.report.faults) (sym w.self-is)
          (subst (λ (r : ShutReport). IsPuttingOff plan now start (number + 1) w.put_off_one.new.self r.off.items
          r.faults) (sym w.report-is)
          (putting-more plan now start number c.loop-number.self c.loop-number.report.off.items
          c.loop-number.report.faults c.loop-number.invariant there c.requires c.takes_off.new.self
          c.takes_off.ensures.state
          c.takes_off.result c.takes_off.ensures.due
          w.if-takes_off.true w.put_off_one.new.self w.put_off_one.new.report.off.items w.put_off_one.new.report.faults
          w.put_off_one.ensures.put w.put_off_one.ensures.rest))
      | else-takes_off w ↦
          subst (λ (d : DriverView). IsPuttingOff plan now start (number + 1) d c.if-takes_off.report.off.items
          c.if-takes_off.report.faults) (sym w.self-is)
          (subst (λ (r : ShutReport). IsPuttingOff plan now start (number + 1) c.takes_off.new.self r.off.items
          r.faults) (sym w.report-is)
          (putting-left plan now start number c.loop-number.self c.loop-number.report.off.items
          c.loop-number.report.faults c.loop-number.invariant there c.requires c.takes_off.new.self
          c.takes_off.ensures.state
          c.takes_off.result c.takes_off.ensures.due
          w.if-takes_off.false))
    ]

pub returns : goal.returns
returns g c =
    let plan = c.args.plan.now in
    let past : length plan.coils ≤ c.loop-number.number =
    omega (arith, c.loop-number-test.false, c.coil_count-number-end.ensures.count) in
    record {
      off = putting-end plan c.args.now c.args.self.now c.loop-number.number c.loop-number.self
          c.loop-number.report.off.items c.loop-number.report.faults c.loop-number.invariant past;
      guard = putting-end-sent plan c.args.now c.args.self.now c.loop-number.number c.loop-number.self
          c.loop-number.report.off.items c.loop-number.report.faults c.loop-number.invariant past c.requires;
      faulted_coil = c.loop-number.invariant.faulted_coil;
    }
