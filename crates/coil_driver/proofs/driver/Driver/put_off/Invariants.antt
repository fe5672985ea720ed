use Rattle.coil_driver.proofs.PuttingOff.{IsPuttingOff}
use Rattle.coil_driver.proofs.driver.Driver.put_off.Given as goal

abbrev pub invariant-loop-number : goal.invariant-loop-number
invariant-loop-number g l = IsPuttingOff l.plan l.now l.fn.self l.number l.self l.report.off.items l.report.faults
