use Rattle.std.proofs.Common.{Bool, List, [], ◌∷◌, length, ap, sym, subst, arith, length-append}
use Rattle.machine_core.{specs.Idle.AreIdle, proofs.Marking.one-marked}
use Rattle.machine_core.proofs.idle.idle_events.Goals as goal

pub loop-number-preserved : goal.loop-number-preserved
loop-number-preserved c =
    let plan = c.args.plan.now in
    let marks = c.loop-number.marks.items in
    let mark = c.is_idle-mark.result in
    let (count, are) = c.loop-number.invariant in (
      omega (
        arith,
        count,
        ap (λ (m : List Bool). length m) c.in_ok-push.ensures.items,
        length-append marks (mark ∷ []),
      ),
      subst (AreIdle plan) (sym c.in_ok-push.ensures.items)
          (one-marked plan marks c.loop-number.number mark count are c.is_idle-mark.ensures),
    )
