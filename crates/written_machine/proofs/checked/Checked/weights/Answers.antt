use Rattle.std.proofs.Common.{subst}
use Rattle.written_machine.{specs.GoodRun.IsGood, proofs.Good.every_run_is_good}
use Rattle.written_machine.proofs.checked.Checked.weights.Goals as goal

pub returns-clause-good : goal.returns-clause-good
returns-clause-good c = subst IsGood c.self.view_is (every_run_is_good _ c.self.invariant)
