use Rattle.std.proofs.Common.{rules, ◌<◌, List, [], length, map, sym, subst, arith, take_all, Bor}
use Rattle.std.proofs.lemmas.List.{get_or-map, length-map}
use Rattle.plan_tables.specs.declared.entries.GameEvent.{GameEvent}
use Rattle.cascade_rank.{specs.Cost.cost_of_choice, proofs.Alike.dearest_more}
use Rattle.cascade_rank.proofs.costs.measure_choices.Goals as goal

pub loop-choice-preserved : goal.loop-choice-preserved
loop-choice-preserved g c =
    let read = λ (posts : Bor (List GameEvent)). posts.now in
    let ways = map read c.choices-choice-items.result.now in
    let listed : c.loop-choice.choice-index < length ways =
    omega (arith, c.loop-choice-test.true, length-map c.choices-choice-items.result.now read) in
    let here = get_or-map read c.choices-choice-items.result.now c.loop-choice.choice-index
    (record { ref_ptr = (0, 0); now = [] }) [] c.loop-choice-test.true in
    let one = subst (λ (posts : List GameEvent). g.M.Measure.Measures c.loop-choice.measure
    (cost_of_choice c.args.plan.now posts) c.measure_choice-cost.new.measure c.measure_choice-cost.result)
    (sym here) c.measure_choice-cost.ensures in
    g.met.M.Measure.alike _ _ _ _ _ (dearest_more (cost_of_choice c.args.plan.now) ways c.loop-choice.choice-index []
    listed)
    (c.greater-dearest.ensures _ _ _ _ c.loop-choice.invariant one)

pub returns : goal.returns
returns g c = search (rules, length-map, take_all)
