use Rattle.std.proofs.Common.{rules, ap}
use Rattle.machine_core.specs.Stimuli.{source_view}
use Rattle.machine_core.proofs.Alarms.{fired-within, next-of, next-row, next-due, fired-room, fired-done}
use Rattle.machine_core.proofs.parts.fire.Goals as goal

pub run_accepted-requires-clause-switch : goal.run_accepted-requires-clause-switch
run_accepted-requires-clause-switch g c = search (rules, fired-within)

pub call_device-requires-clause-row : goal.call_device-requires-clause-row
call_device-requires-clause-row g c = search (rules, next-of, next-row)

pub call_device-requires-clause-may : goal.call_device-requires-clause-may
call_device-requires-clause-may g c = search (rules, next-of, next-due)

pub run_accepted-requires-clause-room : goal.run_accepted-requires-clause-room
run_accepted-requires-clause-room g c = search (rules, fired-room)

pub returns-in-Switch : goal.returns-in-Switch
returns-in-Switch g c =
    fired-done c.args.core.now (source_view c.args.source) c.requires.next c.in-Switch.field-0
    (ap source_view c.in-Switch.is)
    c.fire-change.result c.fire-change.ensures.reports c.fire-change.new.self c.fire-change.ensures.state
    c.run_accepted.new.core c.run_accepted.ensures
