use Rattle.std.{proofs.Common.{◌≡◌, Option, ap, sym, ◌∙◌, subst}, specs.Io.Buffered.{writer_buffer, writer_inner}}
use Rattle.plan_tables.specs.PlanView.{PlanView}
use Rattle.coil_driver.specs.Board.{BoardView, board_view}
use Rattle.live_machine.specs.{Talk.LinkView, Wires.wire_report, Going.IsEnded}
use Rattle.live_machine.proofs.Whole.{rig-run, due-told, was-told, is-sent}
use Rattle.live_machine.proofs.live.run_player.Goals as goal

pub returns-in-Ok-clause-runs : goal.returns-in-Ok-clause-runs
returns-in-Ok-clause-runs g c =
    let report = g.L.Link.report in
    let first = c.args.player in
    let now = c.answer_lines-end.new.player in
    let last : BoardView = board_view g.B.Board.command_list g.B.Board.fault_count g.B.Board.answers c.in-Ok._board in
    let begun : Option LinkView = wire_report report c.tell_due.new.wire in
    let mid : Option LinkView = wire_report report c.answer_lines-end.new.wire in
    let end : Option LinkView = wire_report report c.end_machine.new.wire in
    rig-run first.plan g.L.Link.shows_lines first.rig now.rig last (wire_report report c.args.wire.now) begun mid end
    (due-told first.plan first.rig.machine c.next_due.result (report (writer_inner c.args.wire.now).link)
    (report (writer_inner c.tell_due.new.wire).link) (writer_buffer c.args.wire.now)
    (writer_buffer c.tell_due.new.wire) c.next_due.ensures c.requires.rest
    (was-told c.tell_due.result _ (sym c.is_err.ensures.value ∙ c.if-is_err.false) c.tell_due.ensures.writes))
    (subst (λ (p : PlanView). IsEnded p now.rig last mid end) c.answer_lines-end.ensures.plan c.in-Ok.ensures.ends)
    c.answer_lines-end.result c.answer_lines-end.ensures.lines

pub returns-in-Ok-clause-sends : goal.returns-in-Ok-clause-sends
returns-in-Ok-clause-sends g c = is-sent c.answer_lines-end.result (writer_buffer c.end_machine.new.wire)
    c.in-Ok.ensures.empty
