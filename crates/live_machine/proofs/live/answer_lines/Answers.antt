use Rattle.std.proofs.Common.{◌≡◌, ◌∙◌, ℕ, List, Option, Err, ap, sym, subst, refl, arith}
use Rattle.std.specs.Io.{Buffered.{writer_buffer, writer_inner}, KnownBytes.append_known}
use Rattle.pin_rig.specs.Rig.{RigView}
use Rattle.pinball_shell.{specs.LogPlayers.PlayerView, proofs.Taking.{fault-same, halts-in}}
use Rattle.live_machine.specs.{Talk.LinkView, Wires.{wire_report, wire_contents}, Going.AnswersLines}
use Rattle.live_machine.proofs.Packing.{reported-same}
use Rattle.live_machine.proofs.Going.{going-none, going-more, going-fault, going-over, going-broken, going-many}
use Rattle.live_machine.proofs.Whole.{heard-line, heard-none, answered-same, fault-told, refused-goes, broken-goes}
use Rattle.live_machine.proofs.live.answer_lines.Goals as goal

pub loop-number-init : goal.loop-number-init
loop-number-init g c =
    let first = c.args.player.now in
    let ready = c.requires.ready in
    record {
      next = record { going = ready.going; page = ready.page; wire = c.requires.empty };
      plan = refl;
      same = refl;
      going = going-none first.plan first.rig.checked.bound g.L.Link.shows_lines first.rig
          (wire_report g.L.Link.report c.args.wire.now) ready.running ready.rest;
    }

pub returns-in-Ok-None-clause-lines : goal.returns-in-Ok-None-clause-lines
returns-in-Ok-None-clause-lines g c =
    let report = g.L.Link.report in
    let first = c.args.player.now in
    let before : Option LinkView = wire_report report c.loop-number.wire in
    let after : Option LinkView = wire_report report c.hear.new.wire in
    going-over first.plan first.rig.checked.bound g.L.Link.shows_lines c.loop-number.number first.rig
    c.loop-number.player.rig (wire_report report c.args.wire.now) before after
    c.loop-number.verdict c.loop-number.invariant.going
    (heard-none g.L.Link.shows_lines c.hear.new.room before after c.hear.result c.in-Ok-None.field-0 c.in-Ok-None.is
    c.in-Ok-None.field-0-is c.hear.ensures.hears)

pub returns-in-Err-clause-lines : goal.returns-in-Err-clause-lines
returns-in-Err-clause-lines g c =
    let report = g.L.Link.report in
    let first = c.args.player.now in
    let before : Option LinkView = wire_report report c.loop-number.wire in
    let after : Option LinkView = wire_report report c.hear.new.wire in
    let size = c.hear.auto.room in
    broken-goes first.plan g.L.Link.shows_lines first.rig c.loop-number.player.rig (wire_report report c.args.wire.now)
    after c.in-Err.fault c.in-Err.ensures.fails
    (going-broken first.plan first.rig.checked.bound g.L.Link.shows_lines c.loop-number.number first.rig
    c.loop-number.player.rig (wire_report report c.args.wire.now) before after
    c.loop-number.verdict c.loop-number.invariant.going _ c.in-Err.fault (omega (arith, size)) c.in-Err.ensures.hears)

pub returns-in-Err-Board-clause-lines : goal.returns-in-Err-Board-clause-lines
returns-in-Err-Board-clause-lines g c =
    let report = g.L.Link.report in
    let shows = g.L.Link.shows_lines in
    let first = c.args.player.now in
    let now = c.loop-number.player in
    let next = c.answer_line.new.player in
    let plan = first.plan in
    let bound = first.rig.checked.bound in
    let number = c.loop-number.number in
    let line = c.front.result.now in
    let begun : Option LinkView = wire_report report c.args.wire.now in
    let before : Option LinkView = wire_report report c.loop-number.wire in
    let after : Option LinkView = wire_report report c.hear.new.wire in
    let end : Option LinkView = wire_report report c.refuse_last.new.wire in
    let written : Option (List ℕ) = append_known (wire_contents report c.hear.new.wire) now.page in
    let grown : Option (List ℕ) = append_known (wire_contents report c.answer_line.new.wire) next.page in
    let heard = heard-line shows c.hear.new.room line c.in-Ok-Some.len before after c.hear.result c.in-Ok-Some.field-0
    c.in-Ok-Some.is c.in-Ok-Some.field-0-is c.front.ensures c.hear.ensures.hears in
    let fault = fault-same plan first.rig now.rig now.plan c.loop-number.invariant.plan c.loop-number.invariant.same
    number line next.rig written grown
    (halts-in c.answer_line.result _ _ (c.in-Err-Board.is ∙ ap Err c.in-Err-Board.field-0-is)
    c.answer_line.ensures.answers) in
    subst (λ (r : RigView). AnswersLines plan shows first.rig r begun end c.refuse_last.result)
    (sym (ap (λ (p : PlayerView). p.rig) c.refuse_last.ensures.keeps))
    (refused-goes plan shows first.rig next.rig begun end c.refuse_last.result _
    (λ told v is.
    going-fault plan bound shows number first.rig now.rig begun before after c.loop-number.verdict line
    c.loop-number.invariant.going heard next.rig end written grown v fault
    (fault-told plan bound number line now.rig next.rig (report (writer_inner c.hear.new.wire).link)
    (report (writer_inner c.refuse_last.new.wire).link)
    (writer_buffer c.hear.new.wire) (writer_buffer c.refuse_last.new.wire) grown now.page
    c.loop-number.invariant.next.page fault told) is)
    c.refuse_last.ensures.writes c.refuse_last.ensures.verdict c.refuse_last.ensures.fails)

pub returns-in-Err-Board-clause-plan : goal.returns-in-Err-Board-clause-plan
returns-in-Err-Board-clause-plan g c = ap (λ (p : PlayerView). p.plan) c.refuse_last.ensures.keeps
    ∙ c.answer_line.ensures.plan ∙ c.loop-number.invariant.plan

pub loop-number-preserved : goal.loop-number-preserved
loop-number-preserved g c =
    let report = g.L.Link.report in
    let shows = g.L.Link.shows_lines in
    let first = c.args.player.now in
    let now = c.loop-number.player in
    let next = c.answer_line.new.player in
    let number = c.loop-number.number in
    let line = c.front.result.now in
    let before : Option LinkView = wire_report report c.loop-number.wire in
    let after : Option LinkView = wire_report report c.hear.new.wire in
    let last : Option LinkView = wire_report report c.answer_line.new.wire in
    let heard = heard-line shows c.hear.new.room line c.in-Ok-Some.len before after c.hear.result c.in-Ok-Some.field-0
    c.in-Ok-Some.is c.in-Ok-Some.field-0-is c.front.ensures c.hear.ensures.hears in
    let answered = answered-same first.plan first.rig now.rig next.rig now.plan c.loop-number.invariant.plan
    c.loop-number.invariant.same number line after last c.in-Ok.found c.in-Ok.ensures.answers in
    record {
      next = c.in-Ok.ensures.next;
      plan = c.answer_line.ensures.plan ∙ c.loop-number.invariant.plan;
      same = answered.service.checked_is ∙ c.loop-number.invariant.same;
      going =
          going-more first.plan first.rig.checked.bound shows number first.rig now.rig
          (wire_report report c.args.wire.now) before after c.loop-number.verdict line c.loop-number.invariant.going
          heard
          next.rig last c.worse-verdict.result c.in-Ok.found answered c.worse-verdict.ensures;
    }

pub returns-clause-lines : goal.returns-clause-lines
returns-clause-lines g c =
    let report = g.L.Link.report in
    let first = c.args.player.now in
    let now : Option LinkView = wire_report report c.loop-number.wire in
    going-many first.plan first.rig.checked.bound g.L.Link.shows_lines c.loop-number.number first.rig
    c.loop-number.player.rig (wire_report report c.args.wire.now) now now
    c.loop-number.verdict c.loop-number.invariant.going (omega (arith, c.loop-number-test.false))
    (reported-same now _ (λ v. refl))
