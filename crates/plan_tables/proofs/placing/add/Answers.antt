use Rattle.std.proofs.Common.{rules}
use Rattle.plan_tables.proofs.ListsBy.{lists_pushed}
use Rattle.plan_tables.proofs.placing.add.Goals as goal

pub returns-in_ok-push : goal.returns-in_ok-push
returns-in_ok-push g c = search (rules, lists_pushed)
