use Rattle.std.proofs.Common.{rules}
use Rattle.config_checker.proofs.CertificateMeaning.{costs_counted, cost_at, length-names, switch_name_at}
use Rattle.config_checker.proofs.Writing.{line_more, lines_all}
use Rattle.config_checker.proofs.certificate.write_switches.Goals as goal

pub switch_cost-cost-requires-clause-weights : goal.switch_cost-cost-requires-clause-weights
switch_cost-cost-requires-clause-weights g c = search rules

pub switch_cost-cost-requires-clause-limit : goal.switch_cost-cost-requires-clause-limit
switch_cost-cost-requires-clause-limit g c = search rules

pub loop-number-preserved : goal.loop-number-preserved
loop-number-preserved g c = search (rules, line_more, costs_counted, length-names, switch_name_at, cost_at)

pub returns : goal.returns
returns g c = search (rules, lines_all, costs_counted, length-names)
