use Rattle.std.proofs.Common.{rules, true, ◌≡◌, ◌+◌, ◌<◌, List, length, sym, ap, ◌∙◌, subst, arith}
use Rattle.plan_tables.specs.PlanView.{PlanView, is_multiball, multiball_rows, row_at}
use Rattle.plan_tables.specs.declared.devices.{Act.TheVariants.End, DeviceRow.DeviceRow, RowId.RowId}
use Rattle.device_objects.specs.declared.device.Call.TheVariants as calls
use Rattle.written_machine.specs.Machine.{Machine, all_do, call_device}
use Rattle.machine_core.{specs.Core.{CoreView, CanCall, after}, proofs.Draining.{multiplies, multiballs_from}}
use Rattle.machine_core.proofs.{Room.{room-first, all_do-first}, Going.goes-call}
use Rattle.machine_core.proofs.Listing.{call-calls, row-first, row-other, rows-end}
use Rattle.machine_core.proofs.drains.end_each.Goals as goal
use Rattle.machine_core.proofs.drains.end_each.Goals.{then-is_multiball, else-is_multiball}

pub row-requires : goal.row-requires
row-requires g c = omega (arith, c.loop-number-test.true, ap (λ rows. length rows) c.rows-number-end.ensures.rows)

pub call_device-requires-clause-row : goal.call_device-requires-clause-row
call_device-requires-clause-row g c = search rules

pub call_device-requires-clause-room : goal.call_device-requires-clause-room
call_device-requires-clause-room g c =
    let plan = c.args.core.now.plan in
    let i = c.loop-number.number in
    let call = calls.Act End in
    let same = ap (λ (p : PlanView). length p.rows) c.plan-plan.ensures in
    let there : i < length plan.rows = omega
    (arith, same, c.loop-number-test.true, ap (λ rows. length rows) c.rows-number-end.ensures.rows) in
    let row_is = c.row.ensures.row
    ∙ ap (λ (p : PlanView). row_at p (record { 0 = i })) c.plan-plan.ensures in
    let meant = ap (λ (row : DeviceRow). is_multiball row.settings) (sym row_is) ∙ sym c.is_multiball.ensures
    ∙ c.if-is_multiball.true in
    room-first (λ (p : PlanView). call_device p call)
    (λ (p : PlanView) (r : RowId) (s : Machine). (goes-call p call r s).grows) c.loop-number.core
    _ _ _ _ (row-first plan (multiplies plan) i there meant) c.loop-number.invariant.0 c.requires.room

pub loop-number-preserved : goal.loop-number-preserved
loop-number-preserved g c =
    let plan = c.args.core.now.plan in
    let i = c.loop-number.number in
    let call = calls.Act End in
    let all = after (all_do (call_device plan call) (multiball_rows plan)) c.args.core.now in
    let rest = multiballs_from plan (i + 1) in
    let same = ap (λ (p : PlanView). length p.rows) c.plan-plan.ensures in
    let there : i < length plan.rows = omega
    (arith, same, c.loop-number-test.true, ap (λ rows. length rows) c.rows-number-end.ensures.rows) in
    let row_is = c.row.ensures.row
    ∙ ap (λ (p : PlanView). row_at p (record { 0 = i })) c.plan-plan.ensures in
    let is = ap (λ (row : DeviceRow). is_multiball row.settings) (sym row_is) ∙ sym c.is_multiball.ensures in
    elim c.if-is_multiball.branch [
      | then-is_multiball w ↦ (
        all_do-first (λ (p : PlanView). call_device p call) c.loop-number.core c.if-is_multiball.core
            _ _ _ _ (row-first plan (multiplies plan) i there (is ∙ w.if-is_multiball.true))
            c.loop-number.invariant.0
            (w.core-is ∙ w.call_device.ensures),
        call-calls call (record { 0 = i }) c.loop-number.core c.if-is_multiball.core (w.core-is ∙ w.call_device.ensures)
            c.loop-number.invariant.1,
      )
      | else-is_multiball w ↦ (
        subst (λ (core : CoreView). after (all_do (call_device core.plan call) rest) core ≡ all) (sym w.core-is)
            (subst (λ (rs : List RowId). after (all_do (call_device c.loop-number.core.plan call) rs) c.loop-number.core
            ≡ all) (row-other plan (multiplies plan) i there (is ∙ w.if-is_multiball.false))
            c.loop-number.invariant.0),
        subst CanCall (sym w.core-is) c.loop-number.invariant.1,
      )
    ]

pub returns : goal.returns
returns g c = search (rules, rows-end)
