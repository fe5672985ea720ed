use Rattle.std.{proofs.Common.{rules, ◌<◌, List, length, sym, subst, ◌∙◌}, specs.List.All}
use Rattle.plan_tables.specs.{declared.devices.RowId.RowId, PlanFields.plan_view}
use Rattle.plan_tables.proofs.ListsBy.{lists_count, target_within, feeders_read, feeders-within}
use Rattle.plan_tables.proofs.tables.Plan.feeders.Goals as goal

pub index-requires : goal.index-requires
index-requires c = search (rules, target_within, lists_count)

pub returns-clause-feeders : goal.returns-clause-feeders
returns-clause-feeders c = search (rules, feeders_read)

pub returns-clause-within : goal.returns-clause-within
returns-clause-within c =
    let are = c.as_slice.ensures.value
    ∙ feeders_read (plan_view c.self.inside) c.args.self.now c.self.view_is c.self.inside.feeders.items c.args.target
    c.target_place.result c.index.result.now c.self.invariant.7 c.requires c.target_place.ensures c.index.ensures in
    subst (λ (rs : List RowId). All (λ r. r.0 < length c.args.self.now.rows) rs) (sym are)
    (feeders-within c.args.self.now c.args.target)
