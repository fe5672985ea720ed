use Rattle.std.proofs.Common.{rules}
use Rattle.plan_tables.proofs.Shown.{length-shown}
use Rattle.plan_tables.proofs.tables.Plan.coil_count.Goals as goal

pub returns-clause-count : goal.returns-clause-count
returns-clause-count c = search (rules, length-shown)
