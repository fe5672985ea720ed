use Rattle.std.proofs.Common.{rules, sym, subst, ap, ◌∙◌, take_all}
use Rattle.cascade_rank.{specs.Cost.{Cost, each_of}, proofs.Alike.each_more}
use Rattle.cascade_rank.proofs.Places.{cost_at_place, binding-within, place-within, place-cost, bound-places}
use Rattle.cascade_rank.proofs.costs.measure_bound.Goals as goal

pub binding-requires : goal.binding-requires
binding-requires g c = search (rules, place-within)

pub measure_binding-cost-requires : goal.measure_binding-cost-requires
measure_binding-cost-requires g c = binding-within c.args.plan.now c.binding.ensures.valid.entries _ c.binding.result
    c.binding.ensures.binding

pub loop-place-preserved : goal.loop-place-preserved
loop-place-preserved g c =
    let plan = c.args.plan.now in
    let places = c.bindings_of-place-items.result.now in
    let here = place-cost plan places c.loop-place.place-index c.binding.result c.binding.ensures.binding in
    let one = subst (λ (k : Cost). g.M.Measure.Measures c.loop-place.measure k c.measure_binding-cost.new.measure
    c.measure_binding-cost.result) (sym here) c.measure_binding-cost.ensures in
    g.met.M.Measure.alike _ _ _ _ _ (each_more (cost_at_place plan) places c.loop-place.place-index (record { 0 = 0 })
    c.loop-place-test.true)
    (c.both-total.ensures _ _ _ _ c.loop-place.invariant one)

pub returns-clause-cost : goal.returns-clause-cost
returns-clause-cost g c =
    let all = ap (each_of (cost_at_place c.args.plan.now))
    (take_all c.loop-place.place-index c.bindings_of-place-items.result.now c.loop-place-test.false) in
    let bound = bound-places c.args.plan.now c.bindings_of-place-items.result.now c.args.event
    c.bindings_of-place-items.ensures.places in
    subst (λ (k : Cost). g.M.Measure.Measures c.args.measure.now k c.loop-place.measure c.loop-place.total)
    (all ∙ bound) c.loop-place.invariant
