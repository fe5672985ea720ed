use Rattle.std.proofs.Common.{rules, ◌∙◌, ap, sym}
use Rattle.plan_tables.specs.{PlanView.{PlanView, mode_at}, declared.entries.{EventId.EventId, Mode.Mode as ModeValue}}
use Rattle.plan_tables.specs.declared.entries.{Owner.TheVariants.Machine, Work.{Work, TheVariants.Mode}}
use Rattle.written_machine.specs.{Machine.post, EventStep.do_after}
use Rattle.machine_core.{specs.Core.{after, follow}, proofs.Releasing.{stopped-room, stopped-coils}}
use Rattle.machine_core.proofs.Following.{follow-still, release-still, stop-still, ended-follows}
use Rattle.machine_core.proofs.parts.mode_after.Goals as goal

pub returns-then-keeps_stop : goal.returns-then-keeps_stop
returns-then-keeps_stop g c = search (rules, follow-still, stop-still)

pub returns-in-Stopped : goal.returns-in-Stopped
returns-in-Stopped g c = search (rules, follow-still, release-still)

pub returns-in-Stopping : goal.returns-in-Stopping
returns-in-Stopping g c =
    let m = c.args.mode in
    let core = c.args.core.now in
    let mode_is = c.mode.ensures.mode ∙ ap (λ (p : PlanView). (mode_at p m).mode) c.plan.ensures in
    c.post-in-Stopping.ensures
    ∙ ap (λ (e : EventId). after (post Machine e) c.end.new.self) (ap (λ (x : ModeValue). x.events.stopped) mode_is)
    ∙ ended-follows c.args.keeps_stop core c.call_devices.new.core c.release_coils.new.core c.end.new.self m
    c.requires.handlers c.call_devices.ensures c.release_coils.ensures c.end.ensures
    ∙ ap (λ (w : Work). follow (do_after core.plan c.args.keeps_stop w) core)
    (sym (ap (Mode c.args.mode) c.in-Stopping.is))

pub call_devices-requires-clause-room : goal.call_devices-requires-clause-room
call_devices-requires-clause-room g c = search (rules, stopped-room)

pub release_coils-requires-clause-coils : goal.release_coils-requires-clause-coils
release_coils-requires-clause-coils g c = stopped-coils c.args.mode c.args.core.now c.call_devices.new.core
    c.call_devices.ensures c.requires.calls
