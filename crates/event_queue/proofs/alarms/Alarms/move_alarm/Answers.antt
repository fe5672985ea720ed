use Rattle.std.proofs.{Common.{◌<◌, length, sym, subst, ap, ◌∙◌, arith}, lemmas.List.length-set}
use Rattle.event_queue.specs.{Alarms.comes_before, OrderedLists.{IsOrdered, put_alarm}}
use Rattle.event_queue.proofs.InOrder.{others, others-ordered, others-put, others-was, others-room}
use Rattle.event_queue.proofs.alarms.Alarms.move_alarm.Goals as goal

pub take_out-requires : goal.take_out-requires
take_out-requires c =
    let dues = c.self.inside.dues.items in
    let row = c.args.row in
    let within : row.0 < length dues = omega (arith, c.requires, ap length c.self.view_is) in (
      others dues row within,
      others-ordered dues row within,
      c.self.invariant.1 ∙ others-was dues row within c.index-was.result.now c.index-was.ensures
          ∙ ap (λ o. put_alarm o (others dues row within)) (sym c.alarm_of.ensures),
    )

pub put_in-requires-clause-order : goal.put_in-requires-clause-order
put_in-requires-clause-order c =
    let dues = c.self.inside.dues.items in
    let row = c.args.row in
    let within : row.0 < length dues = omega (arith, c.requires, ap length c.self.view_is) in
    let taken = c.take_out.ensures.items (others dues row within)
    (c.self.invariant.1 ∙ others-was dues row within c.index-was.result.now c.index-was.ensures
    ∙ ap (λ o. put_alarm o (others dues row within)) (sym c.alarm_of.ensures)) in
    subst (IsOrdered comes_before) (sym taken) (others-ordered dues row within)

pub put_in-requires-clause-room : goal.put_in-requires-clause-room
put_in-requires-clause-room c =
    let dues = c.self.inside.dues.items in
    let row = c.args.row in
    let within : row.0 < length dues = omega (arith, c.requires, ap length c.self.view_is) in
    let taken = c.take_out.ensures.items (others dues row within)
    (c.self.invariant.1 ∙ others-was dues row within c.index-was.result.now c.index-was.ensures
    ∙ ap (λ o. put_alarm o (others dues row within)) (sym c.alarm_of.ensures)) in
    omega (arith, ap length taken, others-room dues row within, c.take_out.ensures.capacity, c.self.invariant.2)

pub invariant_of-self : goal.invariant_of-self
invariant_of-self c =
    let dues = c.self.inside.dues.items in
    let row = c.args.row in
    let within : row.0 < length dues = omega (arith, c.requires, ap length c.self.view_is) in
    let taken = c.take_out.ensures.items (others dues row within)
    (c.self.invariant.1 ∙ others-was dues row within c.index-was.result.now c.index-was.ensures
    ∙ ap (λ o. put_alarm o (others dues row within)) (sym c.alarm_of.ensures)) in (
      omega (arith, c.self.invariant.0, length-set dues row.0 c.args.due),
      c.put_in.ensures.items ∙ ap (put_alarm c.alarm_of-2.result) taken
          ∙ ap (λ o. put_alarm o (others dues row within)) c.alarm_of-2.ensures ∙ others-put dues row within c.args.due,
      omega (
        arith,
        c.self.invariant.2,
        length-set dues row.0 c.args.due,
        c.take_out.ensures.capacity,
        c.put_in.ensures.capacity,
      ),
    )
