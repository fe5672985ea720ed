use Rattle.std.proofs.Common.{rules, take_all}
use Rattle.plan_tables.specs.declared.devices.Telling.TheVariants.{Arrived}
use Rattle.cascade_rank.{specs.Cost.cost_of_told, proofs.Alike.dearest_more}
use Rattle.cascade_rank.proofs.costs.measure_arrival.Goals as goal

pub measure_told-cost-requires : goal.measure_told-cost-requires
measure_told-cost-requires g c = c.feeders-row-items.ensures.within c.loop-row.row-index (record { 0 = 0 })
    c.loop-row-test.true

pub loop-row-preserved : goal.loop-row-preserved
loop-row-preserved g c =
    g.met.M.Measure.alike _ _ _ _ _ (dearest_more (cost_of_told c.args.plan.now (Arrived c.args.target))
    c.feeders-row-items.result.now c.loop-row.row-index (record { 0 = 0 }) c.loop-row-test.true)
    (c.greater-dearest.ensures _ _ _ _ c.loop-row.invariant c.measure_told-cost.ensures)

pub returns : goal.returns
returns g c = search (rules, take_all)
