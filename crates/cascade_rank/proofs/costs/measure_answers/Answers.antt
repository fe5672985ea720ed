use Rattle.std.{proofs.Common.{◌≡◌, ℕ, ◌<◌, List, map, sym, ap, ◌∙◌, subst, take_all}, specs.List.All}
use Rattle.arrayvec.specs.ArrayVec.{ArrayVec}
use Rattle.plan_tables.specs.{PlanView.row_at, Devices.list_count}
use Rattle.device_objects.specs.DeviceStep.{outcomes}
use Rattle.cascade_rank.specs.Cost.{Cost, dearest_of, cost_of_answer_by}
use Rattle.cascade_rank.proofs.{Alike.dearest_more, Outcomes.{outcomes-read, answer-within, answers-cost}}
use Rattle.cascade_rank.proofs.costs.measure_answers.Goals as goal

pub measure_answer-cost-requires-clause-lists : goal.measure_answer-cost-requires-clause-lists
measure_answer-cost-requires-clause-lists g c =
    let are : map (λ (a : ArrayVec ℕ). a.items) c.as_slice-answer-items.result.now
    ≡ outcomes (row_at c.args.plan.now c.args.row).settings c.args.call =
    (outcomes-read c.args.plan.now c.args.row c.args.call c.row.result _ c.row.ensures.row
    (ap (map (λ (a : ArrayVec ℕ). a.items)) c.as_slice-answer-items.ensures.value ∙ c.outcomes-answers.ensures)) in
    let same = c.as_slice.ensures.value ∙ ap (λ (a : ArrayVec ℕ). a.items) c.answer-item.is in
    subst (All (λ k. k < list_count (row_at c.args.plan.now c.args.row).settings)) (sym same)
    (answer-within (λ (a : ArrayVec ℕ). a.items) c.args.plan.now c.args.row c.args.call
    c.as_slice-answer-items.result.now are c.loop-answer.answer-index c.answer-item.result c.loop-answer-test.true)

pub loop-answer-preserved : goal.loop-answer-preserved
loop-answer-preserved g c =
    let cost = cost_of_answer_by c.args.plan.now (g.T.TellCost.cost c.args.plan.now) c.args.row in
    let same = c.as_slice.ensures.value ∙ ap (λ (a : ArrayVec ℕ). a.items) c.answer-item.is in
    let one = subst (λ (ls : List ℕ). g.M.Measure.Measures c.loop-answer.measure (cost ls)
    c.measure_answer-cost.new.measure c.measure_answer-cost.result) same c.measure_answer-cost.ensures in
    g.met.M.Measure.alike _ _ _ _ _ (dearest_more (λ (a : ArrayVec ℕ). cost a.items) c.as_slice-answer-items.result.now
    c.loop-answer.answer-index c.answer-item.result c.loop-answer-test.true)
    (c.greater-dearest.ensures _ _ _ _ c.loop-answer.invariant one)

pub returns : goal.returns
returns g c =
    let are : map (λ (a : ArrayVec ℕ). a.items) c.as_slice-answer-items.result.now
    ≡ outcomes (row_at c.args.plan.now c.args.row).settings c.args.call =
    (outcomes-read c.args.plan.now c.args.row c.args.call c.row.result _ c.row.ensures.row
    (ap (map (λ (a : ArrayVec ℕ). a.items)) c.as_slice-answer-items.ensures.value ∙ c.outcomes-answers.ensures)) in
    let all = ap (dearest_of (λ (a : ArrayVec ℕ). cost_of_answer_by c.args.plan.now (g.T.TellCost.cost c.args.plan.now)
    c.args.row a.items)) (take_all c.loop-answer.answer-index c.as_slice-answer-items.result.now
    c.loop-answer-test.false) in
    subst (λ (k : Cost). g.M.Measure.Measures c.args.measure.now k c.loop-answer.measure c.loop-answer.dearest)
    (all ∙ answers-cost (λ (a : ArrayVec ℕ). a.items) c.args.plan.now c.args.row c.args.call
    c.as_slice-answer-items.result.now are (g.T.TellCost.cost c.args.plan.now)) c.loop-answer.invariant
