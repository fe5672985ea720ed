use Rattle.std.proofs.Common.{rules}
use Rattle.plan_tables.proofs.Placed.{places_count, places_at}
use Rattle.plan_tables.proofs.tables.Plan.bindings_of.Goals as goal

pub index-requires : goal.index-requires
index-requires c = search (rules, places_count)

pub returns-clause-places : goal.returns-clause-places
returns-clause-places c = search (rules, places_at)
