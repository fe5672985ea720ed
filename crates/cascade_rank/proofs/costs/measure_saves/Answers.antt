use Rattle.std.proofs.Common.{rules, ◌≡◌, ◌<◌, length, sym, ap, ◌∙◌, subst, arith}
use Rattle.plan_tables.specs.PlanView.{is_save, row_at}
use Rattle.plan_tables.specs.declared.devices.{Act.TheVariants.Save, DeviceRow.DeviceRow, RowId.RowId}
use Rattle.device_objects.specs.declared.device.Call.TheVariants as calls
use Rattle.cascade_rank.specs.Cost.{dearest_of, cost_of_call}
use Rattle.cascade_rank.proofs.Passing.{passed_over, passed_all, dearest_passed}
use Rattle.cascade_rank.proofs.costs.measure_saves.Goals as goal
use Rattle.cascade_rank.proofs.costs.measure_saves.Goals.{then-is_save, else-is_save}

pub loop-number-preserved : goal.loop-number-preserved
loop-number-preserved g c =
    let plan = c.args.plan.now in
    let n = c.loop-number.number in
    let passes = λ (r : RowId). is_save (row_at c.args.plan.now r).settings in
    let cost = λ (r : RowId). cost_of_call c.args.plan.now r (calls.Act Save) in
    let there : c.loop-number.number < length c.args.plan.now.rows =
    omega (arith, c.loop-number-test.true, ap (λ rows. length rows) c.rows-number-end.ensures.rows) in
    let is : is_save (row_at c.args.plan.now (record { 0 = c.loop-number.number })).settings ≡ c.is_save.result =
    ap (λ (row : DeviceRow). is_save row.settings) (sym c.row.ensures.row) ∙ sym c.is_save.ensures in
    elim c.if-is_save.branch [
      | then-is_save w ↦ rw w.measure-is (rw w.dearest-is
          (g.met.M.Measure.alike _ _ _ _ _ (dearest_passed plan passes cost n there (is ∙ w.if-is_save.true))
          (w.greater-dearest.ensures _ _ _ _ c.loop-number.invariant w.measure_call-cost.ensures)))
      | else-is_save w ↦ rw w.measure-is (rw w.dearest-is
          (subst (λ rows. g.M.Measure.Measures c.args.measure.now (dearest_of cost rows) c.loop-number.measure
          c.loop-number.dearest) (sym (passed_over plan passes n there (is ∙ w.if-is_save.false)))
          c.loop-number.invariant))
    ]

pub returns : goal.returns
returns g c = search (rules, passed_all)
