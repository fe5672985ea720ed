use Rattle.std.proofs.{Common.{Option, option_map, List, ℕ, Err, ap, sym, ◌∙◌}, lemmas.Result.err_from_is_err_and}
use Rattle.std.specs.Io.KnownBytes.{append_known}
use Rattle.written_machine.proofs.NextAlarms.{not_due-nothing}
use Rattle.machine_core.specs.Stimuli.{stimulus_view}
use Rattle.pinball_shell.{specs.RunOfLog.all_alarms_by, proofs.Alarms.{coming, none-quiet}}
use Rattle.pinball_shell.proofs.Taking.{coming-taken, alarm-played, alarm-fault, halts-on, reached-of, valid-of}
use Rattle.pinball_shell.proofs.Playing.{alarms-start, alarms-fewer, alarms-more, alarms-fault, alarms-stop}
use Rattle.pinball_shell.proofs.play.play_alarms.Goals as goal

pub loop-alarm-init : goal.loop-alarm-init
loop-alarm-init g c =
    alarms-start c.args.plan.now c.args.rig.now.checked.bound c.args.until c.args.rig.now
    (append_known (g.W.Write.contents c.args.writer.now) c.args.page.now) c.requires.rig.running c.requires.forward

pub play_stimulus-requires-clause-may : goal.play_stimulus-requires-clause-may
play_stimulus-requires-clause-may g c =
    let service = c.loop-alarm.invariant.play.output.service in
    let comes = coming c.loop-alarm.rig.machine c.args.until (stimulus_view c.in-Some.alarm)
    (ap (option_map stimulus_view) (sym c.in-Some.is) ∙ c.alarm_by.ensures.alarm) in
    coming-taken c.loop-alarm.rig c.args.until (stimulus_view c.in-Some.alarm) service.running c.requires.until comes

pub loop-alarm-smaller : goal.loop-alarm-smaller
loop-alarm-smaller g c =
    let service = c.loop-alarm.invariant.play.output.service in
    let alarm = stimulus_view c.in-Some.alarm in
    let comes = coming c.loop-alarm.rig.machine c.args.until alarm
    (ap (option_map stimulus_view) (sym c.in-Some.is) ∙ c.alarm_by.ensures.alarm) in
    let before : Option (List ℕ) = append_known (g.W.Write.contents c.loop-alarm.writer) c.loop-alarm.page in
    let after : Option (List ℕ) = append_known (g.W.Write.contents c.play_stimulus.new.writer) c.play_stimulus.new.page
    in
    let played = alarm-played c.args.plan.now c.args.until c.args.rig.now c.loop-alarm.rig c.play_stimulus.new.rig
    before after service.checked_is alarm comes c.in_ok-play_stimulus.ensures in
    alarms-fewer c.args.plan.now c.args.rig.now.checked.bound (valid-of c.args.plan.now c.args.rig.now c.requires.rig)
    c.args.until c.alarm_by.ensures.of_run.0 c.loop-alarm.rig c.play_stimulus.new.rig before after
    (reached-of c.args.plan.now c.args.rig.now c.loop-alarm.rig c.requires.rig service.checked_is
    c.alarm_by.ensures.of_run) comes.next played

pub loop-alarm-preserved : goal.loop-alarm-preserved
loop-alarm-preserved g c =
    let service = c.loop-alarm.invariant.play.output.service in
    let alarm = stimulus_view c.in-Some.alarm in
    let comes = coming c.loop-alarm.rig.machine c.args.until alarm
    (ap (option_map stimulus_view) (sym c.in-Some.is) ∙ c.alarm_by.ensures.alarm) in
    let begun : Option (List ℕ) = append_known (g.W.Write.contents c.args.writer.now) c.args.page.now in
    let before : Option (List ℕ) = append_known (g.W.Write.contents c.loop-alarm.writer) c.loop-alarm.page in
    let after : Option (List ℕ) = append_known (g.W.Write.contents c.play_stimulus.new.writer) c.play_stimulus.new.page
    in
    let played = alarm-played c.args.plan.now c.args.until c.args.rig.now c.loop-alarm.rig c.play_stimulus.new.rig
    before after service.checked_is alarm comes c.in_ok-play_stimulus.ensures in
    alarms-more c.args.plan.now c.args.rig.now.checked.bound (valid-of c.args.plan.now c.args.rig.now c.requires.rig)
    c.args.until c.alarm_by.ensures.of_run.0 c.loop-alarm.rig c.play_stimulus.new.rig before after
    (reached-of c.args.plan.now c.args.rig.now c.loop-alarm.rig c.requires.rig service.checked_is
    c.alarm_by.ensures.of_run) comes.next played
    c.args.rig.now begun (all_alarms_by c.args.plan.now c.args.rig.now.checked.bound c.args.until
    c.args.rig.now.machine) c.loop-alarm.invariant

pub returns-in_err-play_stimulus : goal.returns-in_err-play_stimulus
returns-in_err-play_stimulus g c =
    let service = c.loop-alarm.invariant.play.output.service in
    let alarm = stimulus_view c.in-Some.alarm in
    let comes = coming c.loop-alarm.rig.machine c.args.until alarm
    (ap (option_map stimulus_view) (sym c.in-Some.is) ∙ c.alarm_by.ensures.alarm) in
    let begun : Option (List ℕ) = append_known (g.W.Write.contents c.args.writer.now) c.args.page.now in
    let before : Option (List ℕ) = append_known (g.W.Write.contents c.loop-alarm.writer) c.loop-alarm.page in
    let after : Option (List ℕ) = append_known (g.W.Write.contents c.play_stimulus.new.writer) c.play_stimulus.new.page
    in
    let p = err_from_is_err_and c.from_residual.result c.from_residual.ensures.1 in
    halts-on c.in_err-play_stimulus.field-0.0 c.from_residual.result _ _ _ _ (p.1 ∙ ap Err p.2)
    (λ fault. alarms-fault c.args.plan.now c.args.rig.now.checked.bound
    (valid-of c.args.plan.now c.args.rig.now c.requires.rig) c.args.until c.alarm_by.ensures.of_run.0
    c.loop-alarm.rig c.play_stimulus.new.rig before after
    (reached-of c.args.plan.now c.args.rig.now c.loop-alarm.rig c.requires.rig service.checked_is
    c.alarm_by.ensures.of_run) comes.next
    (alarm-fault c.args.plan.now c.args.until c.args.rig.now c.loop-alarm.rig c.play_stimulus.new.rig before after
    service.checked_is alarm comes fault)
    c.args.rig.now begun (all_alarms_by c.args.plan.now c.args.rig.now.checked.bound c.args.until
    c.args.rig.now.machine) c.loop-alarm.invariant)
    c.in_err-play_stimulus.ensures

pub returns : goal.returns
returns g c =
    let quiet = none-quiet c.loop-alarm.rig.machine c.args.until
    (ap (option_map stimulus_view) (sym c.in_default.is) ∙ c.alarm_by.ensures.alarm) in
    let going = c.loop-alarm.invariant in
    record {
      play = alarms-stop c.args.plan.now c.args.rig.now.checked.bound c.args.until c.args.rig.now c.loop-alarm.rig
          (append_known (g.W.Write.contents c.args.writer.now) c.args.page.now)
          (append_known (g.W.Write.contents c.loop-alarm.writer) c.loop-alarm.page)
          (all_alarms_by c.args.plan.now c.args.rig.now.checked.bound c.args.until c.args.rig.now.machine) going
          (not_due-nothing c.loop-alarm.rig.machine c.args.until quiet);
      quiet = quiet;
      moment = going.moment;
    }
