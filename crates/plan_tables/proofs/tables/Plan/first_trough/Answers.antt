use Rattle.std.proofs.Common.{rules}
use Rattle.plan_tables.proofs.Troughs.{trough_place}
use Rattle.plan_tables.proofs.tables.Plan.first_trough.Goals as goal

pub returns-in_err-place-clause-trough : goal.returns-in_err-place-clause-trough
returns-in_err-place-clause-trough c = search (rules, trough_place)

pub returns-clause-trough : goal.returns-clause-trough
returns-clause-trough c = search (rules, trough_place)
