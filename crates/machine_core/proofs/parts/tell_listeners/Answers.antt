use Rattle.std.proofs.Common.{rules, ◌≡◌, ◌+◌, drop, get_or, ap, sym, ◌∙◌, subst}
use Rattle.std.proofs.lemmas.List.{drop_more, Elements.All-get_or}
use Rattle.plan_tables.specs.PlanView.{PlanView, act_of_listener}
use Rattle.plan_tables.specs.declared.{devices.Act.Act, entries.Listener.Listener}
use Rattle.device_objects.specs.declared.device.Call.TheVariants as calls
use Rattle.written_machine.specs.Machine.{Machine, all_do, call_device, tell_listener}
use Rattle.machine_core.specs.Core.{IsWithin, after}
use Rattle.machine_core.proofs.{Going.goes-call, Listing.call-calls, Room.{room-first, all_do-first}}
use Rattle.machine_core.proofs.parts.tell_listeners.Goals as goal

none : Listener
none = record { row = record { 0 = 0 }; switch = 0 }

pub call_device-requires-clause-row : goal.call_device-requires-clause-row
unfolding none
call_device-requires-clause-row g c = search (rules, get_or, none, All-get_or)

pub call_device-requires-clause-calls : goal.call_device-requires-clause-calls
call_device-requires-clause-calls g c = c.loop-listener.invariant.1

pub call_device-requires-clause-room : goal.call_device-requires-clause-room
unfolding none
call_device-requires-clause-room g c =
    let active = c.args.active in
    let listeners = c.args.listeners.now in
    let i = c.loop-listener.listener-index in
    let l = get_or listeners i none in
    let core = c.loop-listener.core in
    subst (λ (a : Act). IsWithin core.room (call_device core.plan (calls.Act a) l.row core.machine)) (sym c.act.ensures)
    (room-first (λ (p : PlanView). tell_listener p active)
    (λ (p : PlanView) (x : Listener) (s : Machine).
    (goes-call p (calls.Act (act_of_listener active x)) x.row s).grows) core
    _ _ _ _ (drop_more listeners i none c.loop-listener-test.true) c.loop-listener.invariant.0
    c.requires.room)

pub loop-listener-preserved : goal.loop-listener-preserved
unfolding none
loop-listener-preserved g c =
    let active = c.args.active in
    let listeners = c.args.listeners.now in
    let i = c.loop-listener.listener-index in
    let l = get_or listeners i none in
    let core = c.loop-listener.core in
    let done : c.call_device.new.core ≡ after (tell_listener core.plan active l) core = c.call_device.ensures
    ∙ ap (λ (a : Act). after (call_device core.plan (calls.Act a) l.row) core) c.act.ensures in (
      all_do-first (λ (p : PlanView). tell_listener p active) core c.call_device.new.core
          _ _ _ _ (drop_more listeners i none c.loop-listener-test.true)
          c.loop-listener.invariant.0 done,
      call-calls (calls.Act (act_of_listener active l)) l.row core c.call_device.new.core done
          c.loop-listener.invariant.1,
    )
