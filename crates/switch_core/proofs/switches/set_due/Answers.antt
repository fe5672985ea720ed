use Rattle.std.proofs.{Common.{length, ap, ◌∙◌, arith}, lemmas.List.length-append}
use Rattle.switch_core.proofs.Waiting.{lower, higher, others-room, place-within, others-left, put-again}
use Rattle.switch_core.proofs.switches.set_due.Goals as goal

pub take_out-requires : goal.take_out-requires
take_out-requires c =
    let waits = c.requires.1 in
    place-within c.args.switch c.args.was c.requires.0 c.args.waiting.now.items waits c.place_of-at.result
    (c.place_of-at.ensures c.requires.0 (c.deref.ensures.value ∙ waits.waiting_is))

pub put_in-requires-clause-place : goal.put_in-requires-clause-place
put_in-requires-clause-place c =
    let states = c.requires.0 in
    let waits = c.requires.1 in
    let here = c.place_of-at.ensures states (c.deref.ensures.value ∙ waits.waiting_is) in
    let left = others-left c.args.switch c.args.was states c.args.waiting.now.items waits c.place_of-at.result here
    c.take_out.new.waiting.items c.take_out.ensures.items in
    omega (arith, here, ap length left, length-append (lower c.args.switch states) (higher c.args.switch states))

pub put_in-requires-clause-room : goal.put_in-requires-clause-room
put_in-requires-clause-room c =
    let states = c.requires.0 in
    let waits = c.requires.1 in
    let here = c.place_of-at.ensures states (c.deref.ensures.value ∙ waits.waiting_is) in
    let left = others-left c.args.switch c.args.was states c.args.waiting.now.items waits c.place_of-at.result here
    c.take_out.new.waiting.items c.take_out.ensures.items in
    omega (
      arith,
      others-room c.args.switch c.args.was states c.args.waiting.now.items waits,
      c.requires.2,
      ap length left,
      c.take_out.ensures.capacity,
    )

pub returns-clause-items : goal.returns-clause-items
returns-clause-items c states new waits is =
    let here = c.place_of-at.ensures states (c.deref.ensures.value ∙ waits.waiting_is) in
    let left = others-left c.args.switch c.args.was states c.args.waiting.now.items waits c.place_of-at.result here
    c.take_out.new.waiting.items c.take_out.ensures.items in
    put-again c.args.switch c.args.was states c.args.waiting.now.items waits c.place_of-at.result here
    c.take_out.new.waiting.items c.put_in.new.waiting.items new c.args.due left is c.put_in.ensures.items
