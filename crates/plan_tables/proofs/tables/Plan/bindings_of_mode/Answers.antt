use Rattle.std.{proofs.Common.{rules, ◌<◌, List, length, sym, subst, ◌∙◌}, specs.List.All}
use Rattle.plan_tables.specs.{declared.entries.{BindingId.BindingId, Owner.TheVariants.Mode}, PlanFields.plan_view}
use Rattle.plan_tables.proofs.ListsBy.{lists_count, mode_bindings_read, bindings_of_owner-within}
use Rattle.plan_tables.proofs.tables.Plan.bindings_of_mode.Goals as goal

pub index-requires : goal.index-requires
index-requires c = search (rules, lists_count)

pub returns-clause-places : goal.returns-clause-places
returns-clause-places c = search (rules, mode_bindings_read)

pub returns-clause-within : goal.returns-clause-within
returns-clause-within c =
    let are = c.as_slice.ensures.value
    ∙ mode_bindings_read (plan_view c.self.inside) c.args.self.now c.self.view_is c.self.inside.mode_bindings.items
    c.args.mode c.index.result.now c.self.invariant.5 c.requires c.index.ensures in
    subst (λ (bs : List BindingId). All (λ b. b.0 < length c.args.self.now.bindings) bs) (sym are)
    (bindings_of_owner-within c.args.self.now (Mode c.args.mode))
