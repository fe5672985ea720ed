use Rattle.config_checker.proofs.CertificateMeaning.{switches_counted}
use Rattle.config_checker.proofs.certified.judge.Goals as goal

pub wrong_cost-requires-clause-switches : goal.wrong_cost-requires-clause-switches
wrong_cost-requires-clause-switches c = switches_counted c.args.plan.now c.args.lines.now c.requires
