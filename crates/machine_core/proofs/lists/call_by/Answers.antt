use Rattle.std.{proofs.Common.{rules, ◌<◌, length, sym, ◌∙◌, subst}, specs.List.All}
use Rattle.plan_tables.specs.{PlanView.row_at, Devices.list_count}
use Rattle.written_machine.specs.Machine.{Machine, call_row, set_device}
use Rattle.machine_core.{specs.Core.{CoreView, CanCall}, proofs.{Going.{goes-can, goes-turn}, Listing.answer-lists}}
use Rattle.machine_core.proofs.lists.call_by.Goals as goal

pub lists_by-requires-clause-row : goal.lists_by-requires-clause-row
lists_by-requires-clause-row g c = subst (λ (v : CoreView). c.args.row.0 < length v.plan.rows)
    (sym c.call-lists.ensures.state) c.requires.row

pub lists_by-requires-clause-lists : goal.lists_by-requires-clause-lists
lists_by-requires-clause-lists g c =
    let core = c.args.core.now in
    let is = c.deref.ensures.0 ∙ c.call-lists.ensures.lists in
    subst (λ (v : CoreView). All (λ k. k < list_count (row_at v.plan c.args.row).settings) c.deref.result.now)
    (sym c.call-lists.ensures.state)
    (subst (All (λ k. k < list_count (row_at core.plan c.args.row).settings)) (sym is)
    (answer-lists core.plan c.args.call c.args.row core.machine c.requires.row c.requires.calls.devices
    c.requires.may))

pub lists_by-requires-clause-calls : goal.lists_by-requires-clause-calls
lists_by-requires-clause-calls g c =
    let core = c.args.core.now in
    let row = c.args.row in
    let turn : Machine → Machine = set_device row (call_row core.plan c.args.call row core.machine).0 in
    subst CanCall (sym c.call-lists.ensures.state)
    (goes-can core turn (goes-turn core.plan c.args.call row core.machine) c.requires.calls)

pub lists_by-requires-clause-room : goal.lists_by-requires-clause-room
lists_by-requires-clause-room g c = search rules

pub returns : goal.returns
returns g c = search rules
