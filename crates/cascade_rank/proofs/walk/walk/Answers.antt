use Rattle.std.proofs.Common.{rules, ◌≡◌, ◌<◌, true, false, List, [], ◌∷◌, ◌++◌, length, set, slice_index_or, ap, ◌∙◌}
use Rattle.std.proofs.{Common.{sym, subst, arith}, lemmas.{Result.IfOk-weaker, List.get_or_read}}
use Rattle.plan_tables.specs.declared.entries.EventId.{EventId}
use Rattle.cascade_rank.specs.{LeadsTo.IsCycle, Cycle.{IsReportedCycle, from_first}}
use Rattle.cascade_rank.proofs.Walking.{WalkAt, walk_goes, comes_again, cycle_is, reported, cycle}
use Rattle.cascade_rank.proofs.walk.walk.Goals as goal

pub loop-on_path-preserved : goal.loop-on_path-preserved
loop-on_path-preserved c =
    let path = c.loop-on_path.path.items in
    let passed = c.loop-on_path.on_path.items in
    let at = c.loop-on_path.at in
    let w = c.loop-on_path.invariant in
    let inside : at.0 < length passed = omega (arith, w.below, w.count) in
    let new : slice_index_or passed at.0 false ≡ false =
    sym (get_or_read passed at.0 c.index.result.now inside c.index.ensures false) ∙ c.loop-on_path-test.true in
    subst (λ (es : List EventId). WalkAt c.args.plan.now c.args.start
    (set c.loop-on_path.on_path.items c.loop-on_path.at.0 true) es c.in_ok-at.at) (sym c.in_ok-push.ensures.items)
    (subst (WalkAt c.args.plan.now c.args.start (set c.loop-on_path.on_path.items c.loop-on_path.at.0 true)
    (c.loop-on_path.path.items ++ c.loop-on_path.at ∷ [])) (sym c.in_ok-at.ensures)
    (walk_goes c.args.plan.now c.args.start c.requires.first passed path at w c.event_count.ensures.valid.entries
    c.requires.unmet_counts.leads_on new))

pub returns-clause-cycle : goal.returns-clause-cycle
returns-clause-cycle c = search (rules, slice_index_or, get_or_read, IfOk-weaker, cycle_is)

pub returns-clause-reports : goal.returns-clause-reports
returns-clause-reports c =
    let path = c.loop-on_path.path.items in
    let passed = c.loop-on_path.on_path.items in
    let at = c.loop-on_path.at in
    let w = c.loop-on_path.invariant in
    let inside : at.0 < length passed = omega (arith, w.below, w.count) in
    let again : slice_index_or passed at.0 false ≡ true =
    sym (get_or_read passed at.0 c.index.result.now inside c.index.ensures false) ∙ c.loop-on_path-test.false in
    let same = ap (from_first c.loop-on_path.at) c.deref.ensures.value in
    let there = comes_again c.args.plan.now c.args.start c.requires.first passed path at w again in
    IfOk-weaker c.part_from.result _ _ (λ part is. subst (IsReportedCycle c.args.plan.now) (sym (is ∙ same))
    (reported c.args.plan.now path at w.walk w.all_below w.goes there)) c.part_from.ensures

pub returns-clause-is_one : goal.returns-clause-is_one
returns-clause-is_one c =
    let path = c.loop-on_path.path.items in
    let passed = c.loop-on_path.on_path.items in
    let at = c.loop-on_path.at in
    let w = c.loop-on_path.invariant in
    let inside : at.0 < length passed = omega (arith, w.below, w.count) in
    let again : slice_index_or passed at.0 false ≡ true =
    sym (get_or_read passed at.0 c.index.result.now inside c.index.ensures false) ∙ c.loop-on_path-test.false in
    let same = ap (from_first c.loop-on_path.at) c.deref.ensures.value in
    let there = comes_again c.args.plan.now c.args.start c.requires.first passed path at w again in
    IfOk-weaker c.part_from.result _ _ (λ part is. subst (IsCycle c.args.plan.now) (sym (is ∙ same))
    (cycle c.args.plan.now path at w.walk w.all_below w.goes there)) c.part_from.ensures
