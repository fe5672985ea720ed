-- No device of a mode is due, active as a ball save, or running as a multiball, unless the mode runs: what moves of
-- handlers, the machine's works and stimuli keep.
use Rattle.std.proofs.Common.{rules, ◌≡◌, ℕ, zero, suc, ◌<◌, ◌⊎◌, inl, inr, true, None, Some, List, [], ◌∷◌, length}
use Rattle.std.proofs.Common.{slice_set, refl, ap, sym, subst, ◌∙◌, arith, false}
use Rattle.std.{specs.Prelude.Contains, proofs.lemmas.{Bool.{cases_eq, cases_lt}, Option.none-some}}
use Rattle.std.proofs.lemmas.List.{get_or-set_same, get_or-set_other, get_or_past}
use Rattle.plan_tables.specs.{PlanView.{PlanView, no_row, row_at}, Valid.IsValid}
use Rattle.plan_tables.specs.declared.{entries.{ModeId.ModeId, Owner.Owner, CoilId.CoilId}, devices.RowId.RowId}
use Rattle.plan_tables.specs.declared.entries.Owner.TheVariants as owners
use Rattle.device_objects.specs.declared.{device.Call.Call, state.DeviceState.DeviceState}
use Rattle.device_objects.specs.declared.device.Call.TheVariants as calls
use Rattle.device_objects.{specs.DeviceStep.{due_of, first_state}, proofs.Lawful.nothing_is_due}
use Rattle.mode_stack.{specs.Modes.{needs_game, running_of}, proofs.WhoRuns.starting_keeps_who_runs}
use Rattle.event_queue.specs.Handlers.{takes_part}
use Rattle.written_machine.specs.{Devices.{HasDevices, ActsAreOwn}, Machine.{device_at, call_row, call_device}}
use Rattle.written_machine.proofs.Inactive.{is_on, stopped-off}
use Rattle.written_machine.specs.Machine.{Machine, leave_out, set_device, has_game, all_do, world_of, device_state}
use Rattle.written_machine.specs.Moves.{Move, Wrote, Sent, Switched, Began, Ended, Turned, Asked, Booked, Varied}
use Rattle.written_machine.specs.Moves.{Stepped, AddedBalls, do_move, MayDo, ordinary}
use Rattle.written_machine.proofs.Does.{start-by, stop-by, booked_now, book-by, due-row, has_devices-move}
use Rattle.written_machine.proofs.Held.{IsHolding, IsNotHolding, asked-count, asked-held}

-- ---- devices whose mode stops

module _ (plan : PlanView) where
  -- the device goes on to its next state, and answers nothing
  stop-turns : (r : RowId) (s : Machine) → call_device plan calls.ModeStop r s
      ≡ set_device r (call_row plan calls.ModeStop r s).0 s
  stop-turns r s = search rules

  -- so nothing but devices changes
  pub stops-turn : (rs : List RowId) (s : Machine)
      → (new : List DeviceState) × (all_do (call_device plan calls.ModeStop) rs s ≡ record s { devices = new })
  stops-turn [] s = (s.devices, refl)
  stops-turn (r ∷ rs) s =
      let turned = set_device r (call_row plan calls.ModeStop r s).0 s in
      let rest = stops-turn rs turned in
      (rest.0, ap (all_do (call_device plan calls.ModeStop) rs) (stop-turns r s) ∙ rest.1)

  abbrev pub IsQuietState : DeviceState → Type 0
  IsQuietState state = (due_of state ≡ None) × (is_on state ≡ false)

  abbrev pub IsQuiet : Machine → RowId → Type 0
  IsQuiet s r = IsQuietState (device_at s r)

  -- a device that stops is quiet, and stays so while others stop
  turned-quiet : (r q : RowId) (s : Machine) → q.0 < length plan.rows → HasDevices plan s.devices
      → (q.0 ≡ r.0) ⊎ IsQuiet s q → IsQuiet (set_device r (call_row plan calls.ModeStop r s).0 s) q
  turned-quiet r q s there has quiet =
      elim (cases_eq q.0 r.0) [
        | inl same ↦
            let within : r.0 < length plan.rows = omega (arith, there, same) in
            let count : r.0 < length s.devices = let is = has.count in omega (arith, within, is) in
            subst (λ (n : ℕ). IsQuietState
            (device_state (slice_set s.devices r.0 (call_row plan calls.ModeStop r s).0) (record { 0 = n })))
            (sym same)
            (subst IsQuietState (sym (get_or-set_same s.devices r.0 (call_row plan calls.ModeStop r s).0
            (first_state no_row.settings) count)) (
              nothing_is_due.stop (row_at plan r).settings s.moment (world_of s) (device_at s r)
                  (has.shapes r within),
              stopped-off (row_at plan r).settings s.moment (world_of s) (device_at s r) (has.shapes r within),
            ))
        | inr other ↦
            elim quiet [
              | inl same ↦ absurd (other same)
              | inr before ↦ subst IsQuietState
                  (sym (get_or-set_other s.devices r.0 q.0 (call_row plan calls.ModeStop r s).0
                  (first_state no_row.settings) other)) before
            ]
      ]

  pub stops-quiet : (rs : List RowId) (q : RowId) (s : Machine) → q.0 < length plan.rows → HasDevices plan s.devices
      → Contains rs q ⊎ IsQuiet s q → IsQuiet (all_do (call_device plan calls.ModeStop) rs s) q
  stops-quiet [] q s there has (inl (i, within, is)) = absurd (omega arith)
  stops-quiet [] q s there has (inr quiet) = quiet
  stops-quiet (r ∷ rs) q s there has listed =
      let turned = set_device r (call_row plan calls.ModeStop r s).0 s in
      subst (λ (t : Machine). IsQuiet (all_do (call_device plan calls.ModeStop) rs t) q) (sym (stop-turns r s))
      (stops-quiet rs q turned there (has_devices-move plan (Turned calls.ModeStop r) s has) (by listed))
    where
      by : Contains (r ∷ rs) q ⊎ IsQuiet s q
          → Contains rs q ⊎ IsQuiet (set_device r (call_row plan calls.ModeStop r s).0 s) q
      by (inl (zero, within, is)) = inr (turned-quiet r q s there has (inl (sym (ap (λ (x : RowId). x.0) is))))
      by (inl (suc i, within, is)) = inl (i, omega arith, is)
      by (inr quiet) = inr (turned-quiet r q s there has (inr quiet))

-- ---- what rests

-- The devices and coils have states. If a device of the mode is due, or is an active ball save or a running multiball,
-- or the mode holds a coil, the mode runs.
pub record Rests (plan : PlanView) (m : ModeId) (s : Machine) : Type 0 where
  pub devices : HasDevices plan s.devices
  pub rests : (r : RowId) (due : ℕ) → (row_at plan r).owner ≡ owners.Mode m → due_of (device_at s r) ≡ Some due
      → takes_part (running_of s.modes) (owners.Mode m) ≡ true
  pub acts : (r : RowId) → (row_at plan r).owner ≡ owners.Mode m → is_on (device_at s r) ≡ true
      → takes_part (running_of s.modes) (owners.Mode m) ≡ true
  pub count : length s.coils ≡ length plan.coils
  pub holds : (coil : CoilId) → IsHolding (owners.Mode m) s.coils coil
      → takes_part (running_of s.modes) (owners.Mode m) ≡ true

module _ (plan : PlanView) (valid : IsValid plan) (own : ActsAreOwn plan) (m : ModeId) where
  -- if modes, devices and coils are the same
  pub same-rests : (s t : Machine) → t.modes ≡ s.modes → t.devices ≡ s.devices → t.coils ≡ s.coils → Rests plan m s
      → Rests plan m t
  same-rests s t modes devices coils h = search rules

  -- if the same modes run
  pub running-rests : (s t : Machine) → running_of t.modes ≡ running_of s.modes → t.devices ≡ s.devices
      → t.coils ≡ s.coils → Rests plan m s → Rests plan m t
  running-rests s t running devices coils h = search rules

  -- if the mode runs
  pub runs-rests : (s : Machine) → HasDevices plan s.devices → length s.coils ≡ length plan.coils
      → takes_part (running_of s.modes) (owners.Mode m) ≡ true → Rests plan m s
  runs-rests s has count runs =
      record {
        devices = has;
        rests = λ r due is armed. runs;
        acts = λ r is on. runs;
        count = count;
        holds = λ coil is. runs;
      }

  -- if all devices of the mode are quiet, and it holds no coil
  pub quiet-rests : (s : Machine) → HasDevices plan s.devices
      → ((r : RowId) → r.0 < length plan.rows → (row_at plan r).owner ≡ owners.Mode m → IsQuiet plan s r)
      → length s.coils ≡ length plan.coils → ((coil : CoilId) → IsNotHolding (owners.Mode m) s.coils coil)
      → Rests plan m s
  quiet-rests s has quiet count free = search (rules, none-some, due-row, cases_lt, is_on, get_or_past)

  -- ---- moves

  module _ (by : Owner → Type 0) (switches : Type 0) where
    turned-rests : (call : Call) (r : RowId) (s : Machine)
        → (by (owners.Mode m) → takes_part (running_of s.modes) (owners.Mode m) ≡ true) → by (row_at plan r).owner
        → Rests plan m s → Rests plan m (set_device r (call_row plan call r s).0 s)
    turned-rests call r s runs may h =
        record {
          devices = has_devices-move plan (Turned call r) s h.devices;
          rests = rests;
          acts = acts;
          count = h.count;
          holds = h.holds;
        }
      where
        rests : (q : RowId) (due : ℕ) → (row_at plan q).owner ≡ owners.Mode m
            → due_of (device_at (set_device r (call_row plan call r s).0 s) q) ≡ Some due
            → takes_part (running_of s.modes) (owners.Mode m) ≡ true
        rests q due is armed =
            elim (cases_eq q.0 r.0) [
              | inl same ↦ runs (subst by (ap (λ (n : ℕ). (row_at plan (record { 0 = n })).owner) (sym same) ∙ is) may)
              | inr other ↦ h.rests q due is
                  (sym (ap due_of (get_or-set_other s.devices r.0 q.0 (call_row plan call r s).0
                  (first_state no_row.settings) other)) ∙ armed)
            ]

        acts : (q : RowId) → (row_at plan q).owner ≡ owners.Mode m
            → is_on (device_at (set_device r (call_row plan call r s).0 s) q) ≡ true
            → takes_part (running_of s.modes) (owners.Mode m) ≡ true
        acts q is on =
            elim (cases_eq q.0 r.0) [
              | inl same ↦ runs (subst by (ap (λ (n : ℕ). (row_at plan (record { 0 = n })).owner) (sym same) ∙ is) may)
              | inr other ↦ h.acts q is (sym
                  (ap is_on (get_or-set_other s.devices r.0 q.0 (call_row plan call r s).0 (first_state no_row.settings)
                  other)) ∙ on)
            ]

    pub move-rests : (x : Move) (s : Machine) → MayDo plan (ordinary plan by switches) x
        → (by (owners.Mode m) → takes_part (running_of s.modes) (owners.Mode m) ≡ true) → Rests plan m s
        → Rests plan m (do_move plan x s)
    move-rests (Wrote owner what) s may runs h = same-rests s (do_move plan (Wrote owner what) s) refl refl refl h
    move-rests (Sent owner e) s may runs h = same-rests s (do_move plan (Sent owner e) s) refl refl refl h
    move-rests (Switched n state) s may runs h = same-rests s (do_move plan (Switched n state) s) refl refl refl h
    move-rests (Began k) s may runs h =
        let same = starting_keeps_who_runs.start s.modes k (needs_game plan k) (has_game s) in
        start-by plan k s (Rests plan m) (running-rests s _ same refl refl h) (running-rests s _ same refl refl h)
    move-rests (Ended k) s may runs h =
        let same = starting_keeps_who_runs.stop s.modes k in
        stop-by plan k s (Rests plan m) (running-rests s _ same refl refl h) (running-rests s _ same refl refl h)
    move-rests (Turned call r) s may runs h = turned-rests call r s runs (may own) h
    move-rests (Booked owner call) s may runs h =
        book-by owner call s (Rests plan m) (λ is. same-rests s (booked_now owner call s) refl refl refl h)
        (same-rests s (leave_out s) refl refl refl h)
    move-rests (Varied v value) s may runs h = same-rests s (do_move plan (Varied v value) s) refl refl refl h
    move-rests (Stepped which) s may runs h = same-rests s (do_move plan (Stepped which) s) refl refl refl h
    move-rests (AddedBalls n) s may runs h = same-rests s (do_move plan (AddedBalls n) s) refl refl refl h
    move-rests (Asked owner command) s may runs h = search (rules, asked-count, asked-held)
    move-rests _ s may runs h = absurd may
