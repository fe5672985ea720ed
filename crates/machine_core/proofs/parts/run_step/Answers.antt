use Rattle.std.proofs.Common.{rules, refl}
use Rattle.plan_tables.specs.PlanView.{work_of}
use Rattle.written_machine.specs.EventStep.{is_kept, do_before}
use Rattle.machine_core.specs.Core.{follow}
use Rattle.machine_core.proofs.Stepping.{before-room, before-calls, handled-calls, kept-none, kept-some, none-is}
use Rattle.machine_core.proofs.Stepping.{ready-handles, ready-room, then-handles, then-room, last-is}
use Rattle.machine_core.proofs.parts.run_step.Goals as goal

pub work_before-keeps_stop-requires-clause-room : goal.work_before-keeps_stop-requires-clause-room
work_before-keeps_stop-requires-clause-room g c =
    let core = c.args.core.now in
    let work = work_of core.plan c.args.event in
    before-room c.args.event core c.requires.room work refl (follow (do_before core.plan work) core) refl
    (is_kept work core.machine) refl

pub handle-requires-clause-handlers : goal.handle-requires-clause-handlers
handle-requires-clause-handlers g c = search (rules, ready-handles)

pub handle-requires-clause-calls : goal.handle-requires-clause-calls
handle-requires-clause-calls g c = search (rules, before-calls)

pub handle-requires-clause-room : goal.handle-requires-clause-room
handle-requires-clause-room g c = search (rules, ready-room)

pub work_after-requires-clause-handlers : goal.work_after-requires-clause-handlers
work_after-requires-clause-handlers g c = search (rules, then-handles)

pub work_after-requires-clause-calls : goal.work_after-requires-clause-calls
work_after-requires-clause-calls g c = search (rules, handled-calls, before-calls)

pub work_after-requires-clause-room : goal.work_after-requires-clause-room
work_after-requires-clause-room g c = search (rules, then-room, kept-some)

pub returns-in-Some : goal.returns-in-Some
returns-in-Some g c = search (rules, last-is, kept-some)

pub returns-in_default : goal.returns-in_default
returns-in_default g c = search (rules, none-is, kept-none)
