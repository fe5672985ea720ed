use Rattle.std.{proofs.Common.{rules, ◌<◌, List, length, sym, subst, ◌∙◌}, specs.List.All}
use Rattle.plan_tables.specs.{declared.{devices.RowId.RowId, entries.Owner.TheVariants.Mode}, PlanFields.plan_view}
use Rattle.plan_tables.proofs.{Owners.rows_of-within, ListsBy.{lists_count, mode_rows_read}}
use Rattle.plan_tables.proofs.tables.Plan.rows_of_mode.Goals as goal

pub index-requires : goal.index-requires
index-requires c = search (rules, lists_count)

pub returns-clause-rows : goal.returns-clause-rows
returns-clause-rows c = search (rules, mode_rows_read)

pub returns-clause-within : goal.returns-clause-within
returns-clause-within c =
    let are = c.as_slice.ensures.value ∙ mode_rows_read (plan_view c.self.inside) c.args.self.now c.self.view_is
    c.self.inside.mode_rows.items c.args.mode c.index.result.now c.self.invariant.6 c.requires c.index.ensures in
    subst (λ (rs : List RowId). All (λ r. r.0 < length c.args.self.now.rows) rs) (sym are)
    (rows_of-within c.args.self.now (Mode c.args.mode))
