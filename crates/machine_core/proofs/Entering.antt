-- A ball enters a device.
use Rattle.std.proofs.Common.{rules, ◌≡◌, ◌<◌, Bool, true, false, length, length-append, ap, sym, ◌∙◌, subst}
use Rattle.plan_tables.specs.{Valid.HasGame, declared.entries.{EventId.EventId, Owner.Owner}}
use Rattle.plan_tables.specs.declared.devices.{BallTarget.TheVariants.Device, RowId.RowId, Telling.TheVariants.Arrived}
use Rattle.ball_devices.specs.{declared.booking.Origin.Origin, Ledger.origin_of, Bookings.is_awaited}
use Rattle.ball_devices.specs.Bookings as calls_of_ledger
use Rattle.written_machine.specs.Machine.{Machine, post, book, drain_if, enter_ball}
use Rattle.machine_core.specs.{Core.{CoreView, CanCall, IsWithin, after}, Goes.{AlwaysGoes, Tell}}
use Rattle.machine_core.proofs.{Going.{goes-post, goes-after_entry}, Room.room-before}

module _ (tell : Tell) (goes : AlwaysGoes tell) (owner : Owner) (r : RowId) (drain : Bool) (e : EventId)
    (old : CoreView) (room : IsWithin old.room (enter_ball old.plan (tell old.plan) owner r e drain old.machine)) where
  abbrev told : Machine
  told = book owner (calls_of_ledger.Enter r) old.machine

  abbrev posted : Machine
  posted = post owner e told

  abbrev origin : Origin
  origin = origin_of r old.machine.ledger

  posted-fits : IsWithin old.room posted
  posted-fits = search (rules, room-before, goes-after_entry)

  pub booked-room : IsWithin old.room told
  booked-room = room-before old.room told posted (goes-post old.plan owner e told).grows posted-fits

  module _ (booked : CoreView) (booked_is : booked ≡ after (book owner (calls_of_ledger.Enter r)) old) where
    pub event-room : length booked.machine.waiting < booked.room
    event-room = search (rules, posted-fits, length-append)

    module _ (now : CoreView) (now_is : now ≡ after (post owner e) booked) where
      now-is : now ≡ after (λ s. posted) old
      now-is = now_is ∙ ap (after (post owner e)) booked_is

      pub entered-there : r.0 < length old.plan.rows → r.0 < length now.plan.rows
      entered-there there = subst (λ (c : CoreView). r.0 < length c.plan.rows) (sym now-is) there

      pub entered-calls : CanCall old → CanCall now
      entered-calls h = search rules

      pub tell-room : is_awaited origin ≡ true → IsWithin now.room (tell now.plan (Arrived (Device r)) now.machine)
      tell-room awaited = search rules

      pub entered-awaited : is_awaited origin ≡ true → (last : CoreView)
          → last ≡ after (tell now.plan (Arrived (Device r))) now
          → last ≡ after (enter_ball old.plan (tell old.plan) owner r e drain) old
      entered-awaited awaited last last_is = search rules

      pub drain-game : (drain ≡ true → HasGame old.plan) → drain ≡ true → HasGame now.plan
      drain-game game drains = subst (λ (c : CoreView). HasGame c.plan) (sym now-is) (game drains)

      pub drain-room : is_awaited origin ≡ false → IsWithin now.room (drain_if now.plan owner drain now.machine)
      drain-room other = search rules

      pub entered-other : is_awaited origin ≡ false → (last : CoreView)
          → last ≡ after (drain_if now.plan owner drain) now
          → last ≡ after (enter_ball old.plan (tell old.plan) owner r e drain) old
      entered-other other last last_is = search rules
