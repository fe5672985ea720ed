use Rattle.std.{proofs.{Common.{Err, Ok, ap, ◌∙◌}, lemmas.Result.err_from_is_err_and}, specs.Io.KnownBytes.append_known}
use Rattle.machine_core.specs.Stimuli.{stimulus_view}
use Rattle.pinball_shell.proofs.Taking.{halts-on, timed-given, given-early, given-forward, given-taken, given-plan}
use Rattle.pinball_shell.proofs.Taking.{given-played, given-fault, given-alarm_fault}
use Rattle.pinball_shell.proofs.play.play_line.Goals as goal

pub play_alarms-requires-clause-until : goal.play_alarms-requires-clause-until
play_alarms-requires-clause-until g c =
    let given = timed-given c.args.plan.now c.given_by.result c.in-Ok-Some.at c.in-Ok-Some.stimulus
    c.args.rig.now.machine c.args.line.now c.now.result _ c.now.ensures.now c.read_line.ensures
    (c.in-Ok-Some.is ∙ ap Ok c.in-Ok-Some.field-0-is) c.given_by.ensures in
    given-early c.args.plan.now c.args.rig.now c.requires c.args.line.now c.in-Ok-Some.at
    (stimulus_view c.in-Ok-Some.stimulus) given

pub play_alarms-requires-clause-forward : goal.play_alarms-requires-clause-forward
play_alarms-requires-clause-forward g c =
    let given = timed-given c.args.plan.now c.given_by.result c.in-Ok-Some.at c.in-Ok-Some.stimulus
    c.args.rig.now.machine c.args.line.now c.now.result _ c.now.ensures.now c.read_line.ensures
    (c.in-Ok-Some.is ∙ ap Ok c.in-Ok-Some.field-0-is) c.given_by.ensures in
    given-forward c.args.plan.now c.args.rig.now c.requires c.args.line.now c.in-Ok-Some.at
    (stimulus_view c.in-Ok-Some.stimulus) given

pub play_stimulus-requires-clause-may : goal.play_stimulus-requires-clause-may
play_stimulus-requires-clause-may g c =
    let given = timed-given c.args.plan.now c.given_by.result c.in-Ok-Some.at c.in-Ok-Some.stimulus
    c.args.rig.now.machine c.args.line.now c.now.result _ c.now.ensures.now c.read_line.ensures
    (c.in-Ok-Some.is ∙ ap Ok c.in-Ok-Some.field-0-is) c.given_by.ensures in
    given-taken c.args.plan.now c.args.rig.now c.requires c.args.line.now c.in-Ok-Some.at
    (stimulus_view c.in-Ok-Some.stimulus) given c.play_alarms.new.rig _ _ c.in_ok-play_alarms-in-Ok-Some.ensures

pub play_stimulus-requires-clause-plan : goal.play_stimulus-requires-clause-plan
play_stimulus-requires-clause-plan g c =
    let given = timed-given c.args.plan.now c.given_by.result c.in-Ok-Some.at c.in-Ok-Some.stimulus
    c.args.rig.now.machine c.args.line.now c.now.result _ c.now.ensures.now c.read_line.ensures
    (c.in-Ok-Some.is ∙ ap Ok c.in-Ok-Some.field-0-is) c.given_by.ensures in
    given-plan c.args.plan.now c.args.rig.now c.requires c.args.line.now c.in-Ok-Some.at
    (stimulus_view c.in-Ok-Some.stimulus) given c.play_alarms.new.rig _ _ c.in_ok-play_alarms-in-Ok-Some.ensures

pub returns-in_err-play_alarms-in-Ok-Some : goal.returns-in_err-play_alarms-in-Ok-Some
returns-in_err-play_alarms-in-Ok-Some g c =
    let given = timed-given c.args.plan.now c.given_by.result c.in-Ok-Some.at c.in-Ok-Some.stimulus
    c.args.rig.now.machine c.args.line.now c.now.result _ c.now.ensures.now c.read_line.ensures
    (c.in-Ok-Some.is ∙ ap Ok c.in-Ok-Some.field-0-is) c.given_by.ensures in
    let p = err_from_is_err_and c.from_residual.result c.from_residual.ensures.1 in
    halts-on c.in_err-play_alarms-in-Ok-Some.field-0.0 c.from_residual.result _ _ _ _ (p.1 ∙ ap Err p.2)
    (given-alarm_fault c.args.plan.now c.args.rig.now c.requires c.args.line.now c.in-Ok-Some.at
    (stimulus_view c.in-Ok-Some.stimulus) given
    c.args.number c.play_alarms.new.rig (append_known (g.W.Write.contents c.args.writer.now) c.args.page.now)
    (append_known (g.W.Write.contents c.play_alarms.new.writer) c.play_alarms.new.page))
    c.in_err-play_alarms-in-Ok-Some.ensures

pub returns-in_err-play_stimulus-in-Ok-Some : goal.returns-in_err-play_stimulus-in-Ok-Some
returns-in_err-play_stimulus-in-Ok-Some g c =
    let given = timed-given c.args.plan.now c.given_by.result c.in-Ok-Some.at c.in-Ok-Some.stimulus
    c.args.rig.now.machine c.args.line.now c.now.result _ c.now.ensures.now c.read_line.ensures
    (c.in-Ok-Some.is ∙ ap Ok c.in-Ok-Some.field-0-is) c.given_by.ensures in
    let p = err_from_is_err_and c.from_residual-in_err-play_stimulus-in-Ok-Some.result
    c.from_residual-in_err-play_stimulus-in-Ok-Some.ensures.1 in
    halts-on c.in_err-play_stimulus-in-Ok-Some.field-0.0 c.from_residual-in_err-play_stimulus-in-Ok-Some.result _ _ _ _
    (p.1 ∙ ap Err p.2)
    (given-fault c.args.plan.now c.args.rig.now c.requires c.args.line.now c.in-Ok-Some.at
    (stimulus_view c.in-Ok-Some.stimulus) given c.play_alarms.new.rig
    (append_known (g.W.Write.contents c.args.writer.now) c.args.page.now)
    (append_known (g.W.Write.contents c.play_alarms.new.writer) c.play_alarms.new.page)
    c.in_ok-play_alarms-in-Ok-Some.ensures
    c.args.number c.play_stimulus.new.rig (append_known (g.W.Write.contents c.play_stimulus.new.writer)
    c.play_stimulus.new.page))
    c.in_err-play_stimulus-in-Ok-Some.ensures

pub returns-in_ok-play_stimulus-in-Ok-Some : goal.returns-in_ok-play_stimulus-in-Ok-Some
returns-in_ok-play_stimulus-in-Ok-Some g c =
    let given = timed-given c.args.plan.now c.given_by.result c.in-Ok-Some.at c.in-Ok-Some.stimulus
    c.args.rig.now.machine c.args.line.now c.now.result _ c.now.ensures.now c.read_line.ensures
    (c.in-Ok-Some.is ∙ ap Ok c.in-Ok-Some.field-0-is) c.given_by.ensures in
    given-played c.args.plan.now c.args.rig.now c.requires c.args.line.now c.in-Ok-Some.at
    (stimulus_view c.in-Ok-Some.stimulus) given c.play_alarms.new.rig
    (append_known (g.W.Write.contents c.args.writer.now) c.args.page.now)
    (append_known (g.W.Write.contents c.play_alarms.new.writer) c.play_alarms.new.page)
    c.in_ok-play_alarms-in-Ok-Some.ensures
    c.args.number c.play_stimulus.new.rig (append_known (g.W.Write.contents c.play_stimulus.new.writer)
    c.play_stimulus.new.page) c.in_ok-play_stimulus-in-Ok-Some.ensures
