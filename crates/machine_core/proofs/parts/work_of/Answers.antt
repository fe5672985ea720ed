use Rattle.std.proofs.Common.{arith}
use Rattle.written_machine.proofs.Parts.{no_work-past}
use Rattle.machine_core.proofs.parts.work_of.Goals as goal

pub returns-then-event-event_count-clause-work : goal.returns-then-event-event_count-clause-work
returns-then-event-event_count-clause-work c =
    no_work-past c.args.plan.now c.event_count.ensures.valid.entries c.args.event
    (omega (arith, c.event_count.ensures.count))
