use Rattle.std.proofs.{Common.{[], ◌∷◌, ◌++◌, if◌then◌else◌}, lemmas.Result.on_ok_weaker}
use Rattle.plan_tables.specs.declared.table.Table.TheVariants.{Switches}
use Rattle.plan_parts.specs.{Parts.{mention, unknown, where_some}, RowViews.head_parts}
use Rattle.mpf_plan.proofs.{Grown.adds_more, Filled.adds_where_unknown}
use Rattle.mpf_plan.proofs.fill.add_row.Goals as goal

pub returns : goal.returns
returns c =
    let a = c.args.draft.now in
    let b = c.add_mention.new.draft in
    let r = c.args.parts.now in
    let first = if r.unknown then unknown ∷ [] else [] in
    let mentions = where_some (λ n. mention Switches n.now) r.mention in
    on_ok_weaker c.add_head.result
    (λ head. adds_more a b c.add_head.new.draft (first ++ mentions) (head_parts r)
    (adds_more a a b first mentions (adds_where_unknown a r.unknown) c.in_ok-add_mention.ensures) head)
    c.add_head.ensures
