use Rattle.std.proofs.Common.{rules, Option, ap, sym, ◌∙◌, subst}
use Rattle.switch_core.specs.{declared.change.Change.Change, Switches.after_change}
use Rattle.written_machine.specs.Machine.{do_accepted, do_if_accepted, set_switches}
use Rattle.machine_core.specs.Core.{CoreView, IsWithin, after}
use Rattle.machine_core.proofs.parts.change.Goals as goal

pub run_accepted-requires-clause-calls : goal.run_accepted-requires-clause-calls
run_accepted-requires-clause-calls g c = search rules

pub run_accepted-requires-clause-room : goal.run_accepted-requires-clause-room
run_accepted-requires-clause-room g c =
    let core = c.args.core.now in
    let changed = set_switches (after_change c.args.switch c.args.level c.args.at core.machine.switches) core.machine in
    subst (λ (v : CoreView). IsWithin v.room (do_accepted v.plan c.in-Some.change v.machine))
    (sym c.change.ensures.state)
    (subst (λ (o : Option Change). IsWithin core.room (do_if_accepted core.plan o changed))
    (sym c.in-Some.ensures.reports) c.requires.room)

pub returns-in-Some : goal.returns-in-Some
returns-in-Some g c =
    let core = c.args.core.now in
    let changed = set_switches (after_change c.args.switch c.args.level c.args.at core.machine.switches) core.machine in
    c.run_accepted.ensures
    ∙ ap (λ (v : CoreView). after (do_accepted v.plan c.in-Some.change) v) c.change.ensures.state
    ∙ ap (λ (o : Option Change). record core { machine = do_if_accepted core.plan o changed })
    c.in-Some.ensures.reports
