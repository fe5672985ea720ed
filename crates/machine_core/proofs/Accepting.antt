-- What is done when a switch was accepted.
use Rattle.std.proofs.Common.{rules, ◌≡◌, ◌<◌, List, [], ◌∷◌, length, length-append, sym, ap, ◌∙◌, subst, arith}
use Rattle.plan_tables.specs.PlanView.{PlanView, act_of_listener, listeners_of, posts_of}
use Rattle.plan_tables.specs.declared.entries.{EventId.EventId, Listener.Listener}
use Rattle.plan_tables.specs.declared.entries.Owner.TheVariants as owners
use Rattle.device_objects.specs.declared.device.Call.TheVariants as calls
use Rattle.switch_core.specs.declared.change.Change.{Change}
use Rattle.written_machine.specs.declared.line.Happening.TheVariants as lines
use Rattle.written_machine.specs.Machine.{Machine, write, post, all_do, tell_listener, tell_listeners}
use Rattle.written_machine.specs.Machine.{confirm_on_playfield, do_accepted}
use Rattle.machine_core.{specs.{Core.{CoreView, CanCall, IsWithin, after}, Goes.Goes}, proofs.Room.room-before}
use Rattle.machine_core.proofs.Going.{goes-then, goes-can, goes-all, goes-post, goes-write, goes-call, goes-playfield}

module _ (a : Change) (now : CoreView) (room : IsWithin now.room (do_accepted now.plan a now.machine)) where
  abbrev plan : PlanView
  plan = now.plan

  abbrev begin : Machine → Machine
  begin = write owners.Machine (lines.Switch a.switch a.active)

  abbrev begun : Machine
  begun = begin now.machine

  abbrev told : Machine
  told = tell_listeners plan a begun

  abbrev arrived : Machine
  arrived = confirm_on_playfield plan a told

  goes-told : (s : Machine) → Goes plan s (all_do (tell_listener plan a.active) (listeners_of plan a.switch) s)
  goes-told s = goes-all plan (tell_listener plan a.active)
      (λ l t. goes-call plan (calls.Act (act_of_listener a.active l)) l.row t) (listeners_of plan a.switch) s

  goes-last : Goes plan arrived (do_accepted plan a now.machine)
  goes-last = goes-all plan (post owners.Machine) (goes-post plan owners.Machine) (posts_of plan a.switch a.active)
      arrived

  arrived-room : IsWithin now.room arrived
  arrived-room = room-before now.room arrived (do_accepted plan a now.machine) goes-last.grows room

  told-fits : IsWithin now.room told
  told-fits = room-before now.room told arrived (goes-playfield plan a told).grows arrived-room

  -- there is room for its line
  pub line-room : length now.machine.lines < now.room
  line-room =
      let s = now.machine in
      let more = (goes-told begun).grows.lines in
      let fits = told-fits.lines in
      omega (
        arith,
        length-append s.lines (record
            { moment = s.moment; owner = owners.Machine; happening = lines.Switch a.switch a.active } ∷ []),
      )

  module _ (written : CoreView) (written_is : written ≡ after begin now) (listeners : List Listener)
      (listeners_are : listeners ≡ listeners_of plan a.switch) where
    -- and for what the devices that listen to it are told
    pub told-room : IsWithin written.room (all_do (tell_listener written.plan a.active) listeners written.machine)
    told-room = search (rules, told-fits)

    module _ (core : CoreView) (core_is : core
        ≡ after (all_do (tell_listener written.plan a.active) listeners) written) where
      core-is : core ≡ after (λ s. told) now
      core-is = core_is ∙ (λ i. after (all_do (tell_listener (written_is i).plan a.active) (listeners_are i))
          (written_is i))

      -- for what a ball leads to that has arrived on the playfield
      pub playfield-room : IsWithin core.room (confirm_on_playfield core.plan a core.machine)
      playfield-room = subst (λ (v : CoreView). IsWithin v.room (confirm_on_playfield v.plan a v.machine)) (sym core-is)
          arrived-room

      pub playfield-switch : a.switch.0 < length plan.switches → a.switch.0 < length core.plan.switches
      playfield-switch there = subst (λ (v : CoreView). a.switch.0 < length v.plan.switches) (sym core-is) there

      pub playfield-calls : CanCall now → CanCall core
      playfield-calls h =
          subst CanCall (sym core-is)
          (goes-can now (λ s. told) (goes-then plan now.machine begun told
          (goes-write plan owners.Machine (lines.Switch a.switch a.active) now.machine) (goes-told begun)) h)

      -- and for its events
      module _ (arrived_core : CoreView) (arrived_core_is : arrived_core
          ≡ after (confirm_on_playfield core.plan a) core) (events : List EventId)
          (events_are : events ≡ posts_of plan a.switch a.active) where
        arrived-is : arrived_core ≡ after (λ s. arrived) now
        arrived-is = arrived_core_is ∙ ap (λ (v : CoreView). after (confirm_on_playfield v.plan a) v) core-is

        pub posts-room : IsWithin arrived_core.room (all_do (post owners.Machine) events arrived_core.machine)
        posts-room = search (rules, arrived-is)

        pub accepted-done : (last : CoreView) → last ≡ after (all_do (post owners.Machine) events) arrived_core
            → last ≡ after (do_accepted plan a) now
        accepted-done last last_is = last_is ∙ (λ i. after (all_do (post owners.Machine) (events_are i)) (arrived-is i))
