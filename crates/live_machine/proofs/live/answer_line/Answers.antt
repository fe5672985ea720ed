use Rattle.std.{proofs.Common.{◌≡◌, Option, ap, sym, ◌∙◌, subst}, specs.Io.Buffered.{writer_buffer, writer_inner}}
use Rattle.pin_rig.specs.Rig.{RigView}
use Rattle.pinball_shell.specs.LogPlayers.{PlayerView}
use Rattle.live_machine.specs.{Talk.LinkView, Wires.{wire_report, wire_contents}, Going.IsLineAnswered}
use Rattle.live_machine.proofs.Whole.{line-answered, stop-goes}
use Rattle.live_machine.proofs.live.answer_line.Goals as goal

pub returns-in-Ok-tell_answer-clause-answers : goal.returns-in-Ok-tell_answer-clause-answers
returns-in-Ok-tell_answer-clause-answers g c =
    let report = g.L.Link.report in
    let first = c.args.player.now in
    let next = c.play.new.self in
    let before : Option LinkView = wire_report report c.args.wire.now in
    let after : Option LinkView = wire_report report c.tell_answer.new.wire in
    subst (λ (r : RigView). IsLineAnswered first.plan first.rig.checked.bound c.args.number c.args.line.now first.rig r
    before after c.in-Ok.verdict)
    (sym (ap (λ (p : PlayerView). p.rig) c.tell_answer.ensures.keeps))
    (line-answered first.plan first.rig.checked.bound c.args.number c.args.line.now first.rig next.rig
    (report (writer_inner c.args.wire.now).link) (report (writer_inner c.tell_answer.new.wire).link)
    (writer_buffer c.args.wire.now) (writer_buffer c.tell_answer.new.wire)
    (wire_contents report c.play.new.writer) first.page next.page c.next_due.result c.in-Ok.verdict c.requires.page
    (c.in-Ok.ensures.plays c.requires.going)
    c.in-Ok-tell_answer.ensures.writes c.next_due.ensures)

pub returns-in-Ok-tell_answer-clause-plan : goal.returns-in-Ok-tell_answer-clause-plan
returns-in-Ok-tell_answer-clause-plan g c = ap (λ (p : PlayerView). p.plan) c.tell_answer.ensures.keeps
    ∙ c.play.ensures.plan

pub returns-in-Ok-tell_answer-clause-next : goal.returns-in-Ok-tell_answer-clause-next
returns-in-Ok-tell_answer-clause-next g c =
    let kept = c.tell_answer.ensures.keeps in
    record {
      going = ap (λ (p : PlayerView). p.has_stopped) kept ∙ c.in-Ok.ensures.going;
      page = ap (λ (p : PlayerView). p.page) kept;
      wire = c.in-Ok-tell_answer.ensures.empty;
    }

pub returns-in-Err-clause-answers : goal.returns-in-Err-clause-answers
returns-in-Err-clause-answers g c = stop-goes c.in-Err.stop c.play.result _ _ _ c.in-Err.is
    (c.play.ensures.plays c.requires.going)
