use Rattle.std.proofs.Common.{rules, take_all}
use Rattle.plan_tables.specs.declared.devices.RowId.{RowId}
use Rattle.cascade_rank.{specs.Cost.cost_of_call, proofs.Alike.each_more}
use Rattle.cascade_rank.proofs.costs.measure_devices.Goals as goal

pub measure_call-cost-requires : goal.measure_call-cost-requires
measure_call-cost-requires g c = c.rows_of_mode-row-items.ensures.within c.loop-row.row-index (record { 0 = 0 })
    c.loop-row-test.true

pub loop-row-preserved : goal.loop-row-preserved
loop-row-preserved g c =
    g.met.M.Measure.alike _ _ _ _ _ (each_more (λ (r : RowId). cost_of_call c.args.plan.now r c.args.call)
    c.rows_of_mode-row-items.result.now c.loop-row.row-index (record { 0 = 0 }) c.loop-row-test.true)
    (c.both-total.ensures _ _ _ _ c.loop-row.invariant c.measure_call-cost.ensures)

pub returns : goal.returns
returns g c = search (rules, take_all)
