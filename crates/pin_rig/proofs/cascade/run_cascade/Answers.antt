use Rattle.std.proofs.Common.{rules, ◌≡◌, ◌+◌, true, false, is_none, List, length, take, ap, sym, ◌∙◌, subst, arith}
use Rattle.std.{specs.List.All, proofs.lemmas.List.length-append}
use Rattle.written_machine.specs.declared.line.Line.{Line}
use Rattle.machine_core.proofs.Settling.{now-stays, advanced-smaller}
use Rattle.coil_driver.specs.Driver.{HasSent, IsServed, IsSendable}
use Rattle.pin_rig.proofs.Cascading.{first-all, whole-sent, served-more, lines-are, steps-join, lines-more}
use Rattle.pin_rig.proofs.Cascading.{settled-join}
use Rattle.pin_rig.proofs.cascade.run_cascade.Goals as goal

pub serve-place-requires : goal.serve-place-requires
serve-place-requires g c = subst (All (IsSendable (length c.args.driver.now.guard))) (sym c.lines.ensures)
    (c.requires.sendable 0)

pub advance-requires-clause-room : goal.advance-requires-clause-room
advance-requires-clause-room g c = now-stays c.args.core.now c.loop-place.core c.requires.room
    c.loop-place.invariant.count c.loop-place.invariant.steps

pub serve_rest-place-requires-clause-from : goal.serve_rest-place-requires-clause-from
serve_rest-place-requires-clause-from g c =
    let (waits, new_is) = c.if-not-advance.ensures.advances in
    let more = lines-more c.args.core.now c.loop-place.core c.loop-place.invariant.count c.loop-place.invariant.steps
    c.advance.new.core 1 new_is in
    omega (
      arith,
      ap (λ (xs : List Line). length xs) c.lines-line_count.ensures,
      ap (λ (xs : List Line). length xs) (c.lines-in-loop-place.ensures ∙ more.1),
      length-append c.loop-place.core.machine.lines more.0,
    )

pub serve_rest-place-requires-clause-sendable : goal.serve_rest-place-requires-clause-sendable
serve_rest-place-requires-clause-sendable g c =
    let (waits, new_is) = c.if-not-advance.ensures.advances in
    let count = c.loop-place.invariant.count in
    let steps = steps-join c.args.core.now c.loop-place.core count c.loop-place.invariant.steps c.advance.new.core 1
    new_is in
    let lines = lines-are c.args.core.now c.advance.new.core (count + 1) steps in
    subst (λ n. All (IsSendable n) c.lines-in-loop-place.result.now) (sym c.loop-place.invariant.coils)
    (subst (All (IsSendable (length c.args.driver.now.guard))) (lines ∙ sym c.lines-in-loop-place.ensures)
    (c.requires.sendable (count + 1)))

pub loop-place-smaller : goal.loop-place-smaller
loop-place-smaller g c =
    let (waits, new_is) = c.if-not-advance.ensures.advances in
    advanced-smaller c.args.core.now c.loop-place.core c.requires.room c.loop-place.invariant.count
    c.loop-place.invariant.steps c.advance.new.core new_is waits

pub loop-place-preserved : goal.loop-place-preserved
loop-place-preserved g c =
    let (waits, new_is) = c.if-not-advance.ensures.advances in
    let was = c.loop-place.invariant in
    let old = c.loop-place.core.machine.lines in
    let more = lines-more c.args.core.now c.loop-place.core was.count was.steps c.advance.new.core 1 new_is in
    let none : is_none c.loop-place.place ≡ true = search rules in
    let sent = whole-sent old c.loop-place.place c.args.driver.now c.loop-place.driver none was.served in
    let first : take (length c.lines-line_count.result.now) c.lines-in-loop-place.result.now ≡ old =
    ap (λ (xs : List Line). take (length xs) c.lines-in-loop-place.result.now) c.lines-line_count.ensures
    ∙ ap (take (length old)) (c.lines-in-loop-place.ensures ∙ more.1) ∙ first-all old more.0 in
    record {
      count = was.count + 1;
      steps = steps-join c.args.core.now c.loop-place.core was.count was.steps c.advance.new.core 1 new_is;
      calls = c.advance.ensures.calls;
      served = subst (λ (xs : List Line). IsServed xs c.serve_rest-place.result c.args.driver.now
          c.serve_rest-place.new.driver) c.lines-in-loop-place.ensures
          (c.serve_rest-place.ensures.serves c.args.driver.now
          (subst (λ (xs : List Line). HasSent xs c.args.driver.now c.loop-place.driver) (sym first) sent));
      coils = c.serve_rest-place.ensures.coils ∙ was.coils;
    }

pub settle-requires-clause-room : goal.settle-requires-clause-room
settle-requires-clause-room g c = now-stays c.args.core.now c.loop-place.core c.requires.room
    c.loop-place.invariant.count c.loop-place.invariant.steps

pub returns-clause-settles : goal.returns-clause-settles
returns-clause-settles g c = settled-join c.args.core.now c.loop-place.core c.loop-place.invariant.count
    c.loop-place.invariant.steps c.settle.new.core c.settle.ensures.settles

pub returns-clause-serves : goal.returns-clause-serves
returns-clause-serves g c =
    let was = c.loop-place.invariant in
    let settled = c.settle.ensures.settles in
    let some : is_none c.loop-place.place ≡ false = search rules in
    let more = lines-more c.args.core.now c.loop-place.core was.count was.steps c.settle.new.core settled.count
    settled.new_is in
    subst (λ (xs : List Line). IsServed xs c.loop-place.place c.args.driver.now c.loop-place.driver) (sym more.1)
    (served-more c.loop-place.core.machine.lines c.loop-place.place c.args.driver.now c.loop-place.driver more.0 some
    was.served)
