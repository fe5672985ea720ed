use Rattle.std.proofs.Common.{rules, ◌≡◌, ◌<◌, length, sym, ap, ◌∙◌, subst, arith}
use Rattle.plan_tables.specs.PlanView.{is_multiball, row_at}
use Rattle.plan_tables.specs.declared.devices.{Act.TheVariants.End, DeviceRow.DeviceRow, RowId.RowId}
use Rattle.device_objects.specs.declared.device.Call.TheVariants as calls
use Rattle.cascade_rank.{specs.Cost.{each_of, cost_of_call}, proofs.Passing.{passed_over, passed_all, each_passed}}
use Rattle.cascade_rank.proofs.costs.measure_ends.Goals as goal
use Rattle.cascade_rank.proofs.costs.measure_ends.Goals.{then-is_multiball, else-is_multiball}

pub loop-number-preserved : goal.loop-number-preserved
loop-number-preserved g c =
    let plan = c.args.plan.now in
    let n = c.loop-number.number in
    let passes = λ (r : RowId). is_multiball (row_at c.args.plan.now r).settings in
    let cost = λ (r : RowId). cost_of_call c.args.plan.now r (calls.Act End) in
    let there : c.loop-number.number < length c.args.plan.now.rows =
    omega (arith, c.loop-number-test.true, ap (λ rows. length rows) c.rows-number-end.ensures.rows) in
    let is : is_multiball (row_at c.args.plan.now (record { 0 = c.loop-number.number })).settings
    ≡ c.is_multiball.result = ap (λ (row : DeviceRow). is_multiball row.settings) (sym c.row.ensures.row)
    ∙ sym c.is_multiball.ensures in
    elim c.if-is_multiball.branch [
      | then-is_multiball w ↦ rw w.measure-is (rw w.total-is
          (g.met.M.Measure.alike _ _ _ _ _ (each_passed plan passes cost n there (is ∙ w.if-is_multiball.true))
          (w.both-total.ensures _ _ _ _ c.loop-number.invariant w.measure_call-cost.ensures)))
      | else-is_multiball w ↦ rw w.measure-is (rw w.total-is
          (subst (λ rows. g.M.Measure.Measures c.args.measure.now (each_of cost rows) c.loop-number.measure
          c.loop-number.total) (sym (passed_over plan passes n there (is ∙ w.if-is_multiball.false)))
          c.loop-number.invariant))
    ]

pub returns : goal.returns
returns g c = search (rules, passed_all)
