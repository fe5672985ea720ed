use Rattle.std.{proofs.{Common.{refl, inr}, lemmas.Result.err_from_is_err_and}, specs.Fn.FnReturnsAt}
use Rattle.setting_values.proofs.EachGiven.{fails_at, more}
use Rattle.setting_values.proofs.items.each.Goals as goal

pub returns-in_err-one : goal.returns-in_err-one
returns-in_err-one g c =
    let gave = FnReturnsAt g.F.Fn c.args.read in
    let p = err_from_is_err_and c.from_residual-in_err-one.result c.from_residual-in_err-one.ensures.1 in
    rw (p.1, p.2)
    (record {
      up_to = inr (fails_at gave c.in_err-one.field-0.0 c.args.items.now c.loop-item.item-index
          c.item-item.result c.loop-item.results.items c.loop-item-test.true c.item-item.is c.loop-item.invariant
          (record { shown = _; shows = refl; says = record { met = c.in_err-one.ensures } }));
    })

pub loop-item-preserved : goal.loop-item-preserved
loop-item-preserved g c =
    let gave = FnReturnsAt g.F.Fn c.args.read in
    rw c.in_ok-push.ensures.items
    (more gave c.args.items.now c.loop-item.item-index c.item-item.result c.loop-item.results.items c.in_ok-one.one
    c.loop-item-test.true c.item-item.is c.loop-item.invariant
    (record { shown = _; shows = refl; says = record { met = c.in_ok-one.ensures } }))
