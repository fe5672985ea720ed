use Rattle.std.proofs.Common.{rules, ◌≡◌, ◌+◌, ◌∷◌, List, drop, get_or, ap, ◌∙◌, subst}
use Rattle.std.proofs.lemmas.List.{drop_all, drop_more, Elements.All-get_or}
use Rattle.plan_tables.specs.{PlanView.{PlanView, rows_of}, declared.devices.RowId.RowId}
use Rattle.plan_tables.specs.declared.entries.Owner.TheVariants as owners
use Rattle.written_machine.specs.Machine.{Machine, call_device, call_devices}
use Rattle.machine_core.specs.Core.{after}
use Rattle.machine_core.proofs.{Room.{room-first, all_do-first}, Going.goes-call, Listing.call-calls}
use Rattle.machine_core.proofs.calls.call_devices.Goals as goal

none : RowId
none = record { 0 = 0 }

pub call_device-requires-clause-row : goal.call_device-requires-clause-row
unfolding none
call_device-requires-clause-row g c = search (rules, get_or, none, All-get_or)

pub call_device-requires-clause-room : goal.call_device-requires-clause-room
unfolding none
call_device-requires-clause-room g c =
    let call = c.args.call in
    let plan = c.args.core.now.plan in
    let owner = owners.Mode c.args.mode in
    let i = c.loop-row.row-index in
    let rows = c.rows_of_mode-rows.result.now in
    let is = c.rows_of_mode-rows.ensures.rows
    ∙ ap (λ (p : PlanView). rows_of p owner) c.plan.ensures in
    let first = subst (λ (rs : List RowId). drop i rs ≡ get_or rows i none ∷ drop (i + 1) rs) is
    (drop_more rows i none c.loop-row-test.true) in
    room-first (λ (p : PlanView). call_device p call)
    (λ (p : PlanView) (r : RowId) (s : Machine). (goes-call p call r s).grows) c.loop-row.core
    _ _ _ _ first c.loop-row.invariant.0
    c.requires.room

pub loop-row-preserved : goal.loop-row-preserved
unfolding none
loop-row-preserved g c =
    let call = c.args.call in
    let plan = c.args.core.now.plan in
    let owner = owners.Mode c.args.mode in
    let i = c.loop-row.row-index in
    let rows = c.rows_of_mode-rows.result.now in
    let is = c.rows_of_mode-rows.ensures.rows
    ∙ ap (λ (p : PlanView). rows_of p owner) c.plan.ensures in
    let first = subst (λ (rs : List RowId). drop i rs ≡ get_or rows i none ∷ drop (i + 1) rs) is
    (drop_more rows i none c.loop-row-test.true) in (
      all_do-first (λ (p : PlanView). call_device p call) c.loop-row.core c.call_device.new.core
          _ _ _ _ first c.loop-row.invariant.0 c.call_device.ensures,
      call-calls call (get_or rows i none) c.loop-row.core c.call_device.new.core c.call_device.ensures
          c.loop-row.invariant.1,
    )

pub returns : goal.returns
returns g c = search (rules, drop_all)
