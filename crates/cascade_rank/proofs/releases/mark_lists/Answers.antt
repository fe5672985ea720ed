use Rattle.std.proofs.Common.{rules, ◌≡◌, ◌<◌, get_or, sym, ap, ◌∙◌, subst, arith, take_all}
use Rattle.std.{specs.List.range_with_len, proofs.lemmas.List.FromFn.{length-range_with_len, get_or-range_with_len}}
use Rattle.plan_tables.specs.{Devices.list_count, PlanView.{actions_at, list_of_row, row_at}}
use Rattle.plan_tables.proofs.RowLists.{few_lists}
use Rattle.cascade_rank.{specs.Marks.AreMarked, proofs.Marked.marked-more}
use Rattle.cascade_rank.proofs.releases.mark_lists.Goals as goal

pub loop-list-preserved : goal.loop-list-preserved
loop-list-preserved c =
    let plan = c.args.plan.now in
    let row = c.args.row in
    let count = list_count (row_at plan row).settings in
    let list = c.loop-list.list in
    let rows = ap (λ r. list_count r.settings) c.row.ensures.row in
    let few = few_lists c.row.result.settings c.row.ensures.limits in
    let within : list < count = omega (arith, c.loop-list-test.true, c.list_count-count.ensures, rows, few) in
    let here : get_or (range_with_len 0 count) list 0 ≡ list =
    omega (arith, get_or-range_with_len 0 count list 0 within) in
    marked-more (λ k. actions_at plan (list_of_row plan row k)) (range_with_len 0 count) list 0 c.args.marks.now
    c.loop-list.marks c.mark_actions.new.marks
    (omega (arith, within, length-range_with_len 0 count)) c.loop-list.invariant
    (subst (λ k. AreMarked c.loop-list.marks (actions_at plan (list_of_row plan row k)) c.mark_actions.new.marks)
    (sym here)
    (subst (λ acts. AreMarked c.loop-list.marks acts c.mark_actions.new.marks)
    (c.list.ensures.actions ∙ ap (actions_at plan) c.list_of_row.ensures.list) c.mark_actions.ensures))

pub returns : goal.returns
returns c = search (rules, few_lists, take_all, length-range_with_len)
