-- What stays as it is while actions run, devices are called, and other devices are told.
use Rattle.std.proofs.Common.{rules, ℕ, ℤ, Bool, if◌then◌else◌, Option, None, Some, List, [], ◌∷◌, length-append, refl}
use Rattle.std.proofs.Common.{◌∙◌, arith}
use Rattle.plan_tables.specs.PlanView.{PlanView, act_told, actions_at, list_of_row, row_at, target_of}
use Rattle.plan_tables.specs.declared.entries.{Action.Action, EventId.EventId, Owner.Owner, VariableId.VariableId}
use Rattle.plan_tables.specs.declared.entries.Action.TheVariants.{Post, Pulse, Enable, Disable, Request, AddBalls}
use Rattle.plan_tables.specs.declared.entries.Action.TheVariants.{Change as ChangeVariable, Enter, Leave, Lose, Arrive}
use Rattle.plan_tables.specs.declared.devices.BallTarget.TheVariants as targets
use Rattle.plan_tables.specs.declared.devices.{RowId.RowId, Telling.{Telling, TheVariants.{Arrived, Wanted}}}
use Rattle.ball_devices.specs.{Bookings.LedgerCall, Ledger.origin_of}
use Rattle.ball_devices.specs.Bookings as calls_of_ledger
use Rattle.ball_devices.specs.declared.booking.Origin.{Origin, TheVariants.Awaited}
use Rattle.coil_guard.specs.declared.command.Command.{Command}
use Rattle.coil_guard.specs.declared.command.Command.TheVariants as commands
use Rattle.device_objects.specs.declared.device.Call.{Call}
use Rattle.device_objects.specs.declared.device.Call.TheVariants as calls
use Rattle.player_game.specs.{GameStep.GameState, Players.PlayersState}
use Rattle.switch_core.specs.declared.change.Change.{Change}
use Rattle.written_machine.specs.{declared.line.Happening.Happening, Machine.confirm_on_playfield}
use Rattle.written_machine.specs.Moves.{Booked, Turned, Does, one_move, Grows}
use Rattle.written_machine.specs.Machine.{Machine, write, post, set_device, set_players, set_game, all_do, ask_coil}
use Rattle.written_machine.specs.Machine.{tell_change, book, drain_if, after_entry, enter_ball, add_balls, do_action_by}
use Rattle.written_machine.specs.Machine.{do_list_by, do_answer_by, call_row, call_device_by, tell_nobody, told_device}
use Rattle.written_machine.specs.Machine.{tell_device, tell_first, call_device, ask_ball, end_multiballs}
use Rattle.written_machine.proofs.Does.{book-by, grows-does, has_devices-does, none-grows, then-grows}
use Rattle.written_machine.proofs.{Held.asked-count, Growth.{post-grows, asked-grows, told-grows}}
use Rattle.machine_core.specs.{Core.{CoreView, CanCall, after}, Goes.Goes}

-- devices can be called as before
pub goes-can : (old : CoreView) (does : Machine → Machine) → Goes old.plan old.machine (does old.machine) → CanCall old
    → CanCall (after does old)
goes-can old does g h = search rules

module _ (plan : PlanView) where
  pub goes-none : (s : Machine) → Goes plan s s
  goes-none s = record { grows = none-grows s; modes = refl; moment = refl; coils = refl; devices = λ h. h }

  pub goes-then : (s t u : Machine) → Goes plan s t → Goes plan t u → Goes plan s u
  goes-then s t u g h = record {
    grows = then-grows g.grows h.grows;
    modes = h.modes ∙ g.modes;
    moment = h.moment ∙ g.moment;
    coils = h.coils ∙ g.coils;
    devices = λ has. h.devices (g.devices has);
  }

  -- ---- one change each

  pub goes-post : (owner : Owner) (e : EventId) (s : Machine) → Goes plan s (post owner e s)
  goes-post owner e s =
      record { grows = post-grows owner e s; modes = refl; moment = refl; coils = refl; devices = λ h. h }

  pub goes-write : (owner : Owner) (what : Happening) (s : Machine) → Goes plan s (write owner what s)
  goes-write owner what s = search (rules, length-append)

  goes-asked : (owner : Owner) (command : Command) (s : Machine) → Goes plan s (ask_coil owner command s)
  goes-asked owner command s = search (rules, asked-grows, asked-count)

  -- the players and the game change
  pub goes-set : (players : PlayersState) (game : GameState) (s : Machine)
      → Goes plan s (set_players players (set_game game s))
  goes-set players game s =
      record {
        grows = record {
          lines = omega arith;
          waiting = omega arith;
          known = omega arith;
          bookings = omega arith;
        };
        modes = refl;
        moment = refl;
        coils = refl;
        devices = λ h. h;
      }

  goes-told : (owner : Owner) (player : ℕ) (v : VariableId) (e : EventId) (value : Option ℤ) (players : PlayersState)
      (s : Machine)
      → Goes plan s (tell_change owner player v e value (set_players players s))
  goes-told owner player v e None players s = goes-set players s.game s
  goes-told owner player v e (Some value) players s =
      let g = told-grows owner player v e (Some value) (set_players players s) in
      record {
        grows = record { lines = g.lines; waiting = g.waiting; known = g.known; bookings = g.bookings };
        modes = refl;
        moment = refl;
        coils = refl;
        devices = λ h. h;
      }

  -- a device is called, and goes on to its next state
  pub goes-turn : (call : Call) (r : RowId) (s : Machine) → Goes plan s (set_device r (call_row plan call r s).0 s)
  goes-turn call r s =
      let turned : Does plan (λ x. Unit {0}) _ s (set_device r (call_row plan call r s).0 s) =
      one_move (Turned call r) s tt
      in
      record {
        grows = grows-does plan turned;
        modes = refl;
        moment = refl;
        coils = refl;
        devices = has_devices-does plan turned;
      }

  goes-if : (b : Bool) (s t : Machine) → Goes plan s t → Goes plan s (if b then t else s)
  goes-if x1 s t g = search rules

  pub goes-book : (owner : Owner) (call : LedgerCall) (s : Machine) → Goes plan s (book owner call s)
  goes-book owner call s =
      let books : Does plan (λ x. Unit {0}) _ s (book owner call s) = one_move (Booked owner call) s tt in
      book-by owner call s (λ t. Grows s t → Goes plan s t)
      (λ can grows. record { grows = grows; modes = refl; moment = refl; coils = refl; devices = λ h. h })
      (λ grows. record { grows = grows; modes = refl; moment = refl; coils = refl; devices = λ h. h })
      (grows-does plan books)

  goes-drain : (owner : Owner) (drain : Bool) (s : Machine) → Goes plan s (drain_if plan owner drain s)
  goes-drain owner x2 s = search (rules, goes-if, goes-post, goes-none)

  -- one after another
  pub goes-all : {X : Type 0} (f : X → Machine → Machine) → ((x : X) (s : Machine) → Goes plan s (f x s))
      → (xs : List X) (s : Machine) → Goes plan s (all_do f xs s)
  goes-all f each [] s = goes-none s
  goes-all f each (x ∷ xs) s = goes-then s (f x s) (all_do f xs (f x s)) (each x s) (goes-all f each xs (f x s))

  -- ---- actions, lists and calls, whoever is told of them

  module _ (tell : Telling → Machine → Machine)
      (each : (telling : Telling) (s : Machine) → Goes plan s (tell telling s)) where
    pub goes-after_entry : (owner : Owner) (r : RowId) (drain : Bool) (o : Origin) (s : Machine)
        → Goes plan s (after_entry plan tell owner r drain o s)
    goes-after_entry owner r drain Awaited s = each (Arrived (targets.Device r)) s
    goes-after_entry owner r drain _ s = goes-drain owner drain s

    goes-enter : (owner : Owner) (r : RowId) (e : EventId) (drain : Bool) (s : Machine)
        → Goes plan s (enter_ball plan tell owner r e drain s)
    goes-enter owner r e drain s =
        let told = book owner (calls_of_ledger.Enter r) s in
        let posted = post owner e told in
        goes-then s posted (enter_ball plan tell owner r e drain s)
        (goes-then s told posted (goes-book owner (calls_of_ledger.Enter r) s) (goes-post owner e told))
        (goes-after_entry owner r drain (origin_of r s.ledger) posted)

    goes-add : (n : ℕ) (s : Machine) → Goes plan s (add_balls tell n s)
    goes-add n s = search rules

    pub goes-action_by : (owner : Owner) (a : Action) (s : Machine) → Goes plan s (do_action_by plan tell owner a s)
    goes-action_by owner (Post e) s = goes-post owner e s
    goes-action_by owner (Pulse coil ms power) s = goes-asked owner (commands.Pulse coil ms power) s
    goes-action_by owner (Enable coil power) s = goes-asked owner (commands.Enable coil power) s
    goes-action_by owner (Disable coil) s = goes-asked owner (commands.Disable coil) s
    goes-action_by owner (ChangeVariable v action n e) s = search (rules, goes-told)
    goes-action_by owner (Enter r e drain) s = goes-enter owner r e drain s
    goes-action_by owner (Leave r) s = goes-book owner (calls_of_ledger.Leave r (target_of plan r)) s
    goes-action_by owner (Lose r) s = goes-book owner (calls_of_ledger.Lose r) s
    goes-action_by owner (Arrive r) s = goes-book owner (calls_of_ledger.Arrive (target_of plan r)) s
    goes-action_by owner (Request n) s = each (Wanted n) s
    goes-action_by owner (AddBalls n) s = goes-add n s

    pub goes-list_by : (r : RowId) (k : ℕ) (s : Machine)
        → Goes plan s (do_list_by plan tell (row_at plan r).owner (list_of_row plan r k) s)
    goes-list_by r k s = goes-all (do_action_by plan tell (row_at plan r).owner) (goes-action_by (row_at plan r).owner)
        (actions_at plan (list_of_row plan r k)) s

    pub goes-answer_by : (r : RowId) (lists : List ℕ) (s : Machine) → Goes plan s (do_answer_by plan tell r lists s)
    goes-answer_by r lists s = goes-all (λ k. do_list_by plan tell (row_at plan r).owner (list_of_row plan r k))
        (goes-list_by r) lists s

    pub goes-call_by : (call : Call) (r : RowId) (s : Machine) → Goes plan s (call_device_by plan tell call r s)
    goes-call_by call r s =
        let turned = set_device r (call_row plan call r s).0 s in
        goes-then s turned (call_device_by plan tell call r s) (goes-turn call r s)
        (goes-answer_by r (call_row plan call r s).1 turned)

  -- ---- if nobody is told

  pub goes-tell_nobody : (telling : Telling) (s : Machine) → Goes plan s (tell_nobody telling s)
  goes-tell_nobody telling s = goes-none s

  goes-device : (telling : Telling) (found : Option RowId) (s : Machine)
      → Goes plan s (tell_device plan telling found s)
  goes-device telling None s = goes-none s
  goes-device telling (Some r) s = goes-call_by tell_nobody goes-tell_nobody (calls.Act (act_told telling)) r s

  -- ---- where the device is told that is to know it

  pub goes-tell_first : (telling : Telling) (s : Machine) → Goes plan s (tell_first plan telling s)
  goes-tell_first telling s = goes-device telling (told_device plan telling s) s

  pub goes-call : (call : Call) (r : RowId) (s : Machine) → Goes plan s (call_device plan call r s)
  goes-call call r s = goes-call_by (tell_first plan) goes-tell_first call r s

  pub goes-ask : (asks : Bool) (s : Machine) → Goes plan s (ask_ball plan asks s)
  goes-ask asks s = goes-if asks s (tell_first plan (Wanted 1) s) (goes-tell_first (Wanted 1) s)

  pub goes-playfield : (a : Change) (s : Machine) → Goes plan s (confirm_on_playfield plan a s)
  goes-playfield a s = search (rules, goes-if, goes-tell_first)

  pub goes-end : (s : Machine) → Goes plan s (end_multiballs plan s)
  goes-end s = search (rules, goes-if, goes-all, goes-call)
