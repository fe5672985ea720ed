use Rattle.std.proofs.{Common.rules, lemmas.List.Elements.All-get_or}
use Rattle.plan_tables.proofs.tables.Plan.row.Goals as goal

pub returns-clause-limits : goal.returns-clause-limits
returns-clause-limits c = search (rules, All-get_or)
