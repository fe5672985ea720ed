use Rattle.std.proofs.Common.{rules, ◌<◌, length, ap, sym, subst, arith, take_all}
use Rattle.plan_tables.specs.{PlanView.row_numbers, declared.devices.RowId.RowId}
use Rattle.device_objects.specs.declared.device.Call.TheVariants as calls
use Rattle.cascade_rank.{specs.Cost.cost_of_call, proofs.{Alike.dearest_more, Rows.{length-rows, row_of}}}
use Rattle.cascade_rank.proofs.stimuli.measure_alarms.Goals as goal

pub loop-number-preserved : goal.loop-number-preserved
loop-number-preserved g c =
    let plan = c.args.plan.now in
    let cost = λ (r : RowId). cost_of_call c.args.plan.now r calls.Fire in
    let within : c.loop-number.number < length c.args.plan.now.rows =
    omega (arith, c.loop-number-test.true, ap length c.rows-number-end.ensures.rows) in
    let listed : c.loop-number.number < length (row_numbers c.args.plan.now) = omega (arith, within, length-rows plan)
    in
    let one = subst (λ (r : RowId). g.M.Measure.Measures c.loop-number.measure (cost r) c.measure_call-cost.new.measure
    c.measure_call-cost.result)
    (sym (row_of plan c.loop-number.number (record { 0 = 0 }) within)) c.measure_call-cost.ensures in
    g.met.M.Measure.alike _ _ _ _ _ (dearest_more cost (row_numbers plan) c.loop-number.number (record { 0 = 0 })
    listed)
    (c.greater-dearest.ensures _ _ _ _ c.loop-number.invariant one)

pub returns : goal.returns
returns g c = search (rules, length-rows, take_all)
