-- Only the calls of switches, and alarms, concern the ball switches of a device.
use Rattle.std.proofs.Common.{rules, ◌≡◌, ℕ, Bool, Option, Some, None, List, [], ◌∷◌, length, refl}
use Rattle.std.proofs.lemmas.{Bool.{cases_eq, cases_lt}, List.Concat.flat_map-append}
use Rattle.std.proofs.lemmas.List.{append-nil, length-set, get_or-set_same, get_or-set_other, set_past}
use Rattle.plan_tables.specs.PlanView.{PlanView, row_at, target_of, act_told}
use Rattle.plan_tables.specs.declared.devices.Act.TheVariants as acts
use Rattle.plan_tables.specs.declared.devices.{BallSettings.BallSettings, BallTarget.TheVariants.Playfield, RowId.RowId}
use Rattle.plan_tables.specs.declared.devices.Settings.TheVariants as kinds
use Rattle.plan_tables.specs.declared.entries.{Action.Action, Owner.Owner, SwitchId.SwitchId}
use Rattle.plan_tables.specs.declared.entries.Action.TheVariants.{Post, Pulse, Enable, Disable, Request, AddBalls}
use Rattle.plan_tables.specs.declared.entries.Action.TheVariants.{Change as ChangeVariable, Enter, Leave, Lose, Arrive}
use Rattle.ball_devices.specs.{declared.booking.Origin.Origin, Ledger.origin_of, Bookings.LedgerCall}
use Rattle.ball_devices.specs.Bookings as ledger_calls
use Rattle.device_objects.specs.{declared.device.Call.Call, BallDevice.confirm}
use Rattle.device_objects.specs.declared.state.{BallState.BallState, BallSwitch.BallSwitch, DeviceState.DeviceState}
use Rattle.device_objects.specs.declared.device.Call.TheVariants as calls
use Rattle.device_objects.specs.declared.state.DeviceState.TheVariants as states
use Rattle.device_objects.specs.BallDevice as balls
use Rattle.written_machine.specs.{SwitchLines.changes_of, Machine.{told_device, want_balls}}
use Rattle.written_machine.proofs.{Does.book-by, BallPlays.{both, IsNoCall, request, same-other}}
use Rattle.plan_tables.specs.declared.devices.Telling.{Telling, TheVariants.{Arrived, Wanted}}
use Rattle.written_machine.specs.Machine.{Machine, post, set_device, all_do, book, after_entry, do_action_by, device_at}
use Rattle.written_machine.specs.Machine.{call_row, do_answer_by, call_device_by, tell_nobody, tell_device, tell_first}
use Rattle.written_machine.proofs.BallPlays.{IsOther, one_row, post-other, action-other, Plays, still, ball, arrival}

-- the state of a ball device
abbrev pub ball_of : DeviceState → BallState
ball_of (states.BallDevice b) = b
ball_of _ = balls.first_state

-- the ball switches of a row
abbrev pub switches_at : Machine → RowId → List BallSwitch
switches_at s r = (ball_of (device_at s r)).switches

-- The ball switches are the same, and no switch has changed.
pub record IsSteady (plan : PlanView) (s t : Machine) : Type 0 where
  pub moment : t.moment ≡ s.moment
  pub count : length t.devices ≡ length s.devices
  pub switches : (r : RowId) (d : BallSettings) → (row_at plan r).settings ≡ kinds.BallDevice d
      → switches_at t r ≡ switches_at s r
  pub changes : (n : SwitchId) → changes_of n t.lines ≡ changes_of n s.lines

-- calls that keep the ball switches
abbrev pub IsKeeping : Call → Type 0
IsKeeping (calls.Act acts.Confirm) = Unit {0}
IsKeeping (calls.Act (acts.Request n)) = Unit {0}
IsKeeping _ = ⊥

pub no_call-keeping : (call : Call) → IsNoCall call → IsKeeping call
no_call-keeping call none = absurd none

module _ (plan : PlanView) where
  pub other-steady : {s t : Machine} → IsOther plan s t → IsSteady plan s t
  other-steady other = search rules

  pub nothing-steady : (s : Machine) → IsSteady plan s s
  nothing-steady s = record { moment = refl; count = refl; switches = λ r d is. refl; changes = λ n. refl }

  pub then-steady : {s m t : Machine} → IsSteady plan s m → IsSteady plan m t → IsSteady plan s t
  then-steady a b = search rules

  all-steady : {X : Type 0} (f : X → Machine → Machine) → ((x : X) (s : Machine) → IsSteady plan s (f x s))
      → (xs : List X) (s : Machine)
      → IsSteady plan s (all_do f xs s)
  all-steady f each [] s = nothing-steady s
  all-steady f each (x ∷ xs) s = then-steady (each x s) (all-steady f each xs (f x s))

  -- the ledger books, or not
  book-steady : (owner : Owner) (c : LedgerCall) (s : Machine) → IsSteady plan s (book owner c s)
  book-steady owner c s = search (rules, book-by, flat_map-append, append-nil, nothing-steady)

  module _ (tell : Telling → Machine → Machine)
      (tells : (telling : Telling) (s : Machine) → IsSteady plan s (tell telling s)) where
    entry-steady : (owner : Owner) (r : RowId) (drain : Bool) (o : Origin) (s : Machine)
        → IsSteady plan s (after_entry plan tell owner r drain o s)
    entry-steady owner r drain o s = search rules

    want-steady : (n : ℕ) (s : Machine) → IsSteady plan s (want_balls tell n s)
    want-steady n s = search rules

    action-steady : (owner : Owner) (a : Action) (s : Machine) → IsSteady plan s (do_action_by plan tell owner a s)
    action-steady owner (Post e) s = other-steady (action-other plan tell owner (Post e) s tt)
    action-steady owner (Pulse coil ms power) s = other-steady (action-other plan tell owner (Pulse coil ms power) s tt)
    action-steady owner (Enable coil power) s = other-steady (action-other plan tell owner (Enable coil power) s tt)
    action-steady owner (Disable coil) s = other-steady (action-other plan tell owner (Disable coil) s tt)
    action-steady owner (ChangeVariable v action n e) s =
        other-steady (action-other plan tell owner (ChangeVariable v action n e) s tt)
    action-steady owner (Enter r e drain) s =
        let in_it = book owner (ledger_calls.Enter r) s in
        then-steady (book-steady owner (ledger_calls.Enter r) s)
        (then-steady (other-steady (post-other plan owner e in_it))
        (entry-steady owner r drain (origin_of r s.ledger) (post owner e in_it)))
    action-steady owner (Leave r) s = book-steady owner (ledger_calls.Leave r (target_of plan r)) s
    action-steady owner (Lose r) s = book-steady owner (ledger_calls.Lose r) s
    action-steady owner (Arrive r) s = book-steady owner (ledger_calls.Arrive (target_of plan r)) s
    action-steady owner (Request n) s = tells (Wanted n) s
    action-steady owner (AddBalls n) s = search (rules, then-steady, other-steady, same-other, want-steady)

    pub answer-steady : (r : RowId) (ks : List ℕ) (s : Machine) → IsSteady plan s (do_answer_by plan tell r ks s)
    answer-steady r ks s = search (rules, all-steady, action-steady)

    -- a call that keeps the ball switches
    turned-steady : (call : Call) → IsKeeping call → (r : RowId) (s : Machine)
        → IsSteady plan s (set_device r (call_row plan call r s).0 s)
    turned-steady call keeps r s =
        search (rules, length-set, cases_lt, get_or-set_same, set_past, cases_eq, one_row, get_or-set_other)

    call-steady : (call : Call) → IsKeeping call → (r : RowId) (s : Machine)
        → IsSteady plan s (call_device_by plan tell call r s)
    call-steady call keeps r s =
        then-steady (turned-steady call keeps r s)
        (answer-steady r (call_row plan call r s).1 (set_device r (call_row plan call r s).0 s))

  -- ---- what ball devices are told

  telling-keeps : (telling : Telling) → IsKeeping (calls.Act (act_told telling))
  telling-keeps telling = search rules

  told-steady : (telling : Telling) (o : Option RowId) (s : Machine) → IsSteady plan s (tell_device plan telling o s)
  told-steady telling None s = nothing-steady s
  told-steady telling (Some q) s = call-steady tell_nobody (λ other t. nothing-steady t) (calls.Act (act_told telling))
      (telling-keeps telling) q s

  pub telling-steady : (telling : Telling) (s : Machine) → IsSteady plan s (tell_first plan telling s)
  telling-steady telling s = told-steady telling (told_device plan telling s) s

  pub plays-steady : {may : Call → Type 0} → ((call : Call) → may call → IsKeeping call) → {s t : Machine}
      → Plays plan may s t → IsSteady plan s t
  plays-steady keeps (still other) = other-steady other
  plays-steady keeps (ball call r d s within is may) =
      call-steady (tell_first plan) telling-steady call (keeps call may) r s
  plays-steady keeps (arrival s) = telling-steady (Arrived Playfield) s
  plays-steady keeps (request n s) = telling-steady (Wanted n) s
  plays-steady keeps (both a b) = then-steady (plays-steady keeps a) (plays-steady keeps b)
