-- What is due: only a stimulus alters that, and no alarm comes late.
use Rattle.std.proofs.Common.{rules, ◌≡◌, ℕ, ◌≤◌, ◌<◌, ◌⊎◌, Option, None, Some, IfSome, List, [], length, slice_set}
use Rattle.std.proofs.Common.{refl, ap, sym, subst, ◌∙◌, inl, inr, arith}
use Rattle.std.proofs.lemmas.{Bool.{cases_eq, cases_lt}, Option.none-some}
use Rattle.std.proofs.lemmas.List.{length-replicate, length-set, Elements.All-get_or}
use Rattle.std.proofs.lemmas.List.{get_or_past, get_or-map, get_or-set_same, get_or-set_other, length-map}
use Rattle.mode_stack.specs.{declared.phase.Phase.TheVariants.Idle, ModeStep.in_phase}
use Rattle.plan_tables.specs.{PlanView.{PlanView, no_row, row_at, work_of}, Valid.IsValid, Devices.IsWithinLimits}
use Rattle.plan_tables.specs.declared.{entries.SwitchId.SwitchId, devices.{RowId.RowId, DeviceRow.DeviceRow}}
use Rattle.device_objects.specs.{declared.{device.Call.Call, state.DeviceState.DeviceState}, Laws.IsDone}
use Rattle.device_objects.specs.declared.device.Call.TheVariants as calls
use Rattle.device_objects.specs.DeviceStep as devices
use Rattle.device_objects.proofs.Lawful.{arms_later_moments, devices_are_due_with_their_parts, lists_are_of_the_row}
use Rattle.device_objects.proofs.Lawful.{nothing_is_due, states_keep_their_shape}
use Rattle.switch_core.specs.{SwitchStep.idle, Switches.report_change}
use Rattle.switch_core.proofs.DueMoments.{changes_arm_later, accept-due, accept-done}
use Rattle.switch_core.specs.Switches.{SwitchesView, IsComplete, due_of, after_change, reported_by_change, accept}
use Rattle.written_machine.specs.{declared.line.Line.Line, Devices.HasDevices, Moves.MayWork}
use Rattle.written_machine.specs.{PlanOrder.settle_all, AlarmsEnd.IsPartDone, Machine.{initial, device_at, call_row}}
use Rattle.written_machine.specs.EventStep.{take_event, EventStep, EventSteps}
use Rattle.written_machine.specs.Machine.{Machine, set_switches, set_device, world_of, device_state}
use Rattle.written_machine.specs.Run.{Source, switch, device, source_due, part_due, IsNothingLate, IsNextAlarm}
use Rattle.written_machine.specs.Run.{Stimulus, SwitchChange, Alarm, Wait, moment_of, IsAllowed, arrive, begin, IsRun}
use Rattle.cascade_rank.specs.Cost.{Cost}
use Rattle.written_machine.specs.Moves.{Move, Turned, do_move, Does, TakesPart, Begins, IsMachine, ordinary, working}
use Rattle.written_machine.proofs.Does.{start-by, stop-by, book-by, does-keeps, due-row, off-has_coils, HasStates}
use Rattle.written_machine.proofs.Does.{moment-move, moment-does, has_states-does, switches-does}
use Rattle.written_machine.proofs.Parts.{does-answer, does-call, does-accepted, does-if_accepted, does-begin}
use Rattle.written_machine.proofs.{Parts.{does-before, does-after}, PlanSteps.plan_steps-event_steps}
use Rattle.written_machine.proofs.Keeps.{step-keeps, steps-keep, run-keeps}

-- ---- what is due of devices

-- a part of a device that is due was due before, or is due later than this moment
abbrev pub IsLater : Machine → Machine → Type 0
IsLater s t = (r : RowId) (k due : ℕ) → devices.part_due (device_at t r) k ≡ Some due
    → (devices.part_due (device_at s r) k ≡ Some due) ⊎ (s.moment < due)

if_some : (P : ℕ → Type 0) (o : Option ℕ) (x : ℕ) → IfSome o P → o ≡ Some x → P x
if_some P o x h is = subst (λ (o : Option ℕ). IfSome o P) is h

module _ (plan : PlanView) where
  -- of a device that is called the next state is kept, if there is such a device
  turned-at : (call : Call) (r : RowId) (s : Machine)
      → (device_at (set_device r (call_row plan call r s).0 s) r ≡ (call_row plan call r s).0)
      ⊎ ((k : ℕ) → devices.part_due (device_at (set_device r (call_row plan call r s).0 s) r) k ≡ None)
  turned-at call r s = search (rules, cases_lt, get_or-set_same, slice_set, get_or_past, length-set)

  module _ (valid : IsValid plan) where
    limits : (r : RowId) → IsWithinLimits (row_at plan r).settings
    limits r = search (rules, cases_lt, All-get_or, get_or_past)

    later-turned : (call : Call) (r : RowId) (s : Machine) → IsLater s (set_device r (call_row plan call r s).0 s)
    later-turned call r s q k due is =
        elim (cases_eq q.0 r.0) [
          | inl same ↦
              subst (λ (n : ℕ). (devices.part_due (device_state s.devices (record { 0 = n })) k ≡ Some due)
              ⊎ (s.moment < due)) (sym same)
              (at (subst (λ (n : ℕ). devices.part_due (device_state new (record { 0 = n })) k ≡ Some due) same is))
          | inr other ↦
              inl (sym (ap (λ state. devices.part_due state k)
              (get_or-set_other s.devices r.0 q.0 (call_row plan call r s).0 (devices.first_state no_row.settings)
              other)) ∙ is)
        ]
      where
        new : List DeviceState
        new = slice_set s.devices r.0 (call_row plan call r s).0

        at : devices.part_due (device_state new r) k ≡ Some due
            → (devices.part_due (device_at s r) k ≡ Some due) ⊎ (s.moment < due)
        at here = search (rules, turned-at, arms_later_moments, limits, none-some)

    later-move : (x : Move) (s : Machine) → IsLater s (do_move plan x s)
    later-move (Turned call r) s = later-turned call r s
    later-move x s = search (rules, start-by, stop-by, book-by)

    later-then : (s m t : Machine) → m.moment ≡ s.moment → IsLater s m → IsLater m t → IsLater s t
    later-then s m t here one next r k due is = search rules

    pub later-does : {may : Move → Type 0} {c : Cost} {s t : Machine} → Does plan may c s t → IsLater s t
    later-does {may} {c} {s} {t} d =
        (does-keeps plan may (λ u. (u.moment ≡ s.moment) × IsLater s u)
        (λ x u allowed h. (moment-move plan x u ∙ h.0, later-then s u (do_move plan x u) h.0 h.1 (later-move x u))) d
        (refl, λ r k due is. inl is)).1

-- ---- event steps change neither a switch nor the moment

abbrev pub IsStill : Machine → Machine → Type 0
IsStill s t = (t.switches ≡ s.switches) × (t.moment ≡ s.moment)

module _ (plan : PlanView) where
  still-step : (s m t : Machine) → EventStep plan m t → IsStill s m → IsStill s t
  still-step s =
      step-keeps plan (λ before. IsStill s) (λ first before. IsStill s)
      (λ before first rest m is h. still-work (does-before plan (work_of plan first.event) (take_event first rest m)) h)
      (λ before first c m t d h.
      (switches-does plan (ordinary plan (TakesPart m) ⊥) (λ none. none) d ∙ h.0, moment-does plan d ∙ h.1))
      (λ before first kept m h. still-work (does-after plan kept first.event m) h) []
    where
      still-work : {c : Cost} {m t : Machine} → Does plan (MayWork plan) c m t → IsStill s m → IsStill s t
      still-work d h = (switches-does plan working (λ none. none) d ∙ h.0, moment-does plan d ∙ h.1)

  still-steps : (n : ℕ) (s t : Machine) → EventSteps plan n s t → IsStill s t
  still-steps n s t steps = steps-keep plan (λ before. IsStill s) (λ before. still-step s) [] n s t steps (refl, refl)

  -- and arm no device for the moment, or an earlier one
  module _ (valid : IsValid plan) where
    later-step : (s m t : Machine) → EventStep plan m t → (m.moment ≡ s.moment) × IsLater s m
        → (t.moment ≡ s.moment) × IsLater s t
    later-step s =
        step-keeps plan (λ before m. (m.moment ≡ s.moment) × IsLater s m)
        (λ first before m. (m.moment ≡ s.moment) × IsLater s m)
        (λ before first rest m is h. later-on (take_event first rest m) _
        (does-before plan (work_of plan first.event) (take_event first rest m)) h)
        (λ before first c m t d h. later-on m t d h)
        (λ before first kept m h. later-on m _ (does-after plan kept first.event m) h) []
      where
        later-on : {may : Move → Type 0} {c : Cost} (m t : Machine) → Does plan may c m t
            → (m.moment ≡ s.moment) × IsLater s m → (t.moment ≡ s.moment) × IsLater s t
        later-on m t d h = (moment-does plan d ∙ h.0, later-then plan valid s m t h.0 h.1 (later-does plan valid d))

    pub later-steps : (n : ℕ) (s t : Machine) → EventSteps plan n s t → IsLater s t
    later-steps n s t steps = (steps-keep plan (λ before m. (m.moment ≡ s.moment) × IsLater s m)
        (λ before. later-step s) [] n s t steps (refl, λ r k due is. inl is)).1

  pub switches-steps : (n : ℕ) (s t : Machine) → EventSteps plan n s t → t.switches ≡ s.switches
  switches-steps n s t steps = (still-steps n s t steps).0

  -- a stimulus comes at its moment
  pub moment-begin : (stimulus : Stimulus) (s : Machine) → (begin plan stimulus s).moment ≡ moment_of stimulus
  moment-begin stimulus s = moment-does plan (does-begin plan stimulus s)

  -- and after any number of event steps it is still that moment
  pub moment-after : (stimulus : Stimulus) (s : Machine) (n : ℕ) (t : Machine)
      → EventSteps plan n (begin plan stimulus s) t → t.moment ≡ moment_of stimulus
  moment-after stimulus s n t steps = (still-steps n (begin plan stimulus s) t steps).1 ∙ moment-begin stimulus s

  pub settled-moment : (bound : ℕ) (stimulus : Stimulus) (s : Machine)
      → (settle_all plan bound stimulus s).moment ≡ moment_of stimulus
  settled-moment bound stimulus s =
      let (count, steps) = plan_steps-event_steps plan bound (begin plan stimulus s) in
      moment-after stimulus s count (settle_all plan bound stimulus s) steps

  -- ---- what stimuli do with the switches

  abbrev pub switched : Stimulus → SwitchesView → SwitchesView
  switched (SwitchChange at n level) v = after_change n level at v
  switched (Alarm at (switch n)) v = accept n v
  switched (Alarm at (device r)) v = v
  switched (Wait at) v = v

  pub switches-begin : (stimulus : Stimulus) (s : Machine)
      → (begin plan stimulus s).switches ≡ switched stimulus s.switches
  switches-begin (SwitchChange at n level) s =
      switches-does plan (ordinary plan IsMachine ⊥) (λ none. none)
      (does-if_accepted plan IsMachine ⊥ refl (reported_by_change n level at s.switches)
      (set_switches (after_change n level at s.switches) (arrive at s)))
  switches-begin (Alarm at (switch n)) s =
      switches-does plan (ordinary plan IsMachine ⊥) (λ none. none)
      (does-accepted plan IsMachine ⊥ refl (report_change (accept n s.switches) n)
      (set_switches (accept n s.switches) (arrive at s)))
  switches-begin (Alarm at (device r)) s =
      switches-does plan (ordinary plan (λ owner. Unit {0}) ⊥) (λ none. none)
      (does-call plan (λ owner. Unit {0}) ⊥ tt calls.Fire r (λ own. tt) (arrive at s))
  switches-begin (Wait at) s = refl

-- ---- the devices at the beginning

module _ (plan : PlanView) where
  first_at : (r : RowId) → r.0 < length plan.rows
      → device_at (initial plan) r ≡ devices.first_state (row_at plan r).settings
  first_at r there = get_or-map (λ (row : DeviceRow). devices.first_state row.settings) plan.rows r.0 no_row
      (devices.first_state no_row.settings) there

  pub initial-devices : HasDevices plan (initial plan).devices
  initial-devices = record {
    count = search (rules, length-map);
    shapes = λ r there. rw (first_at r there) (states_keep_their_shape.first (row_at plan r).settings);
  }

  pub initial-quiet : (r : RowId) → devices.due_of (device_at (initial plan) r) ≡ None
  initial-quiet r = search (rules, cases_lt, first_at, nothing_is_due, get_or_past, length-map)

-- ---- what stimuli leave due

-- what is due of the switches is a matter of them alone
pub switch_due-same : (s t : Machine) → s.switches ≡ t.switches → (n : SwitchId)
    → source_due s (switch n) ≡ source_due t (switch n)
switch_due-same s t e n = ap (λ (v : SwitchesView). due_of v n) e

-- what is due of a source is due of one of its parts
source-part : (s : Machine) (source : Source) (due : ℕ) → source_due s source ≡ Some due
    → (k : ℕ) × (part_due s source k ≡ Some due)
source-part s source due is = search (rules, if_some, devices_are_due_with_their_parts)

-- and if nothing is due before a moment, no part is
parts-after : (m : ℕ) (s : Machine) → ((source : Source) (due : ℕ) → source_due s source ≡ Some due → m ≤ due)
    → (source : Source) (k due : ℕ) → part_due s source k ≡ Some due → m ≤ due
parts-after m s h (switch n) k due is = h (switch n) due is
parts-after m s h (device r) k due is = by (devices.due_of (device_at s r)) refl
  where
    by : (o : Option ℕ) → devices.due_of (device_at s r) ≡ o → m ≤ due
    by None none = absurd (none-some due (sym (devices_are_due_with_their_parts.none (device_at s r) none k) ∙ is))
    by (Some first) some =
        let state = device_at s r in
        let on = h (device r) first some in
        let before = if_some (λ (d : ℕ). (j other : ℕ) → devices.part_due state j ≡ Some other → d ≤ other)
        (devices.due_of state) first (devices_are_due_with_their_parts.first state) some k due is in
        omega (arith, on, before)

module _ (plan : PlanView) (valid : IsValid plan) where
  -- what is due after event steps was due before, or is due later
  steps-arm_later : (n : ℕ) (s t : Machine) → EventSteps plan n s t → (source : Source) (k due : ℕ)
      → part_due t source k ≡ Some due
      → (part_due s source k ≡ Some due) ⊎ (s.moment < due)
  steps-arm_later n s t steps (switch m) k due is =
      inl (sym (switch_due-same t s (switches-steps plan n s t steps) m) ∙ is)
  steps-arm_later n s t steps (device r) k due is = later-steps plan valid n s t steps r k due is

  -- what a stimulus leaves due was due before it, or is due after its moment
  begin-arms_later : (stimulus : Stimulus) (s : Machine) (source : Source) (k due : ℕ)
      → part_due (begin plan stimulus s) source k ≡ Some due
      → (part_due s source k ≡ Some due) ⊎ (moment_of stimulus < due)
  begin-arms_later (SwitchChange at n level) s (switch m) k due is =
      changes_arm_later n level at s.switches m due
      (ap (λ (v : SwitchesView). due_of v m) (sym (switches-begin plan (SwitchChange at n level) s)) ∙ is)
  begin-arms_later (Alarm at (switch n)) s (switch m) k due is =
      inl (accept-due n s.switches m due (ap (λ (v : SwitchesView). due_of v m)
      (sym (switches-begin plan (Alarm at (switch n)) s)) ∙ is))
  begin-arms_later (Alarm at (device r)) s (switch m) k due is =
      inl (ap (λ (v : SwitchesView). due_of v m) (sym (switches-begin plan (Alarm at (device r)) s)) ∙ is)
  begin-arms_later (Wait at) s (switch m) k due is = inl is
  begin-arms_later stimulus s (device r) k due is = later-does plan valid (does-begin plan stimulus s) r k due is

  -- and so do its event steps
  pub arms_later : (stimulus : Stimulus) (s : Machine) (n : ℕ) (t : Machine)
      → EventSteps plan n (begin plan stimulus s) t
      → (source : Source) (k due : ℕ) → part_due t source k ≡ Some due
      → (part_due s source k ≡ Some due) ⊎ (moment_of stimulus < due)
  arms_later stimulus s n t steps source k due is =
      elim (steps-arm_later n (begin plan stimulus s) t steps source k due is) [
        | inl begun ↦ begin-arms_later stimulus s source k due begun
        | inr later ↦ inr (omega (arith, moment-begin plan stimulus s, later))
      ]

  -- a part that is due is one of the first 17
  part-few : (r : RowId) (s : Machine) (k due : ℕ) → HasDevices plan s.devices → r.0 < length plan.rows
      → devices.part_due (device_at s r) k ≡ Some due → k < 17
  part-few r s k due has there is =
      elim (cases_lt k 17) [
        | inl few ↦ few
        | inr many ↦ absurd (none-some due
            (sym (devices_are_due_with_their_parts.few (row_at plan r).settings (device_at s r) k (has.shapes r there)
            many) ∙ is))
      ]

  begin-done : (at : ℕ) (source : Source) (s : Machine) → HasDevices plan s.devices → source_due s source ≡ Some at
      → IsPartDone at source s (begin plan (Alarm at source) s)
  begin-done at (switch n) s has is = record {
    part = 0;
    few = omega arith;
    due = is;
    later_part = λ later after.
        absurd (none-some later (sym (accept-done n s.switches)
        ∙ ap (λ (v : SwitchesView). due_of v n) (sym (switches-begin plan (Alarm at (switch n)) s)) ∙ after));
  }
  begin-done at (device r) s has is =
      let state = device_at s r in
      let fires = call_row plan calls.Fire r (arrive at s) in
      let fired = set_device r fires.0 (arrive at s) in
      let there = due-row plan s r at has is in
      let done = if_some (λ (d : ℕ). IsDone at d state fires.0) (devices.due_of state) at
      (arms_later_moments.fire (row_at plan r).settings at (world_of s) state (limits plan valid r)
      (has.shapes r there)) is in
      let within : r.0 < length s.devices = let count = has.count in omega (arith, there, count) in
      let next : device_at fired r ≡ fires.0 =
      get_or-set_same s.devices r.0 fires.0 (devices.first_state no_row.settings) within in
      let answers = does-answer plan (λ owner. Unit {0}) ⊥ tt r (λ own. tt) fires.1
      (lists_are_of_the_row (row_at plan r).settings calls.Fire at (world_of s) state) fired in
      record {
        part = done.part;
        few = part-few r s done.part at has there done.due;
        due = done.due;
        later_part = λ later after.
            elim (later-does plan valid answers r done.part later after) [
              | inl before ↦ if_some (λ (l : ℕ). at < l) (devices.part_due fires.0 done.part) later done.later_part
                  (ap (λ st. devices.part_due st done.part) (sym next) ∙ before)
              | inr past ↦ past
            ];
      }

  -- after an alarm and its event steps the part whose alarm it was is done
  pub alarm-done : (at : ℕ) (source : Source) (s : Machine) (n : ℕ) (t : Machine) → HasDevices plan s.devices
      → source_due s source ≡ Some at
      → EventSteps plan n (begin plan (Alarm at source) s) t → IsPartDone at source s t
  alarm-done at source s n t has is steps =
      let begun = begin-done at source s has is in
      record {
        part = begun.part;
        few = begun.few;
        due = begun.due;
        later_part = λ later after.
            elim (steps-arm_later n (begin plan (Alarm at source) s) t steps source begun.part later after) [
              | inl before ↦ begun.later_part later before
              | inr past ↦ omega (arith, moment-begin plan (Alarm at source) s, past)
            ];
      }

  -- ---- no alarm is late

  pub not_late-steps : (n : ℕ) (s t : Machine) → EventSteps plan n s t → IsNothingLate s → IsNothingLate t
  not_late-steps n s t steps h source due is =
      let here = (still-steps plan n s t steps).1 in
      let (k, part) = source-part t source due is in
      elim (steps-arm_later n s t steps source k due part) [
        | inl old ↦ let on_time = parts-after s.moment s h source k due old in omega (arith, on_time, here)
        | inr later ↦ omega (arith, later, here)
      ]

  -- no alarm is due before the next one
  pub next-first : (s : Machine) (at : ℕ) (first : Source) → IsNextAlarm s at first → (source : Source) (due : ℕ)
      → source_due s source ≡ Some due → at ≤ due
  next-first s at first next source due is = search rules

  -- and none before a stimulus that is allowed
  pub allowed-first : (stimulus : Stimulus) (s : Machine) → IsAllowed plan s stimulus → (source : Source) (due : ℕ)
      → source_due s source ≡ Some due → moment_of stimulus ≤ due
  allowed-first stimulus s allowed source due is = search rules

  pub not_late-begin : (stimulus : Stimulus) (s : Machine)
      → ((source : Source) (due : ℕ) → source_due s source ≡ Some due → moment_of stimulus ≤ due)
      → IsNothingLate (begin plan stimulus s)
  not_late-begin stimulus s first source due is =
      let (k, part) = source-part (begin plan stimulus s) source due is in
      elim (begin-arms_later stimulus s source k due part) [
        | inl old ↦ omega
            (arith, parts-after (moment_of stimulus) s first source k due old, moment-begin plan stimulus s)
        | inr later ↦ omega (arith, moment-begin plan stimulus s)
      ]

  pub not_late-from : (stimulus : Stimulus) (s : Machine) (n : ℕ) (t : Machine)
      → ((source : Source) (due : ℕ) → source_due s source ≡ Some due → moment_of stimulus ≤ due)
      → EventSteps plan n (begin plan stimulus s) t → IsNothingLate t
  not_late-from stimulus s n t first steps =
      not_late-steps n (begin plan stimulus s) t steps (not_late-begin stimulus s first)

  -- after a stimulus that was allowed
  pub not_late-after : (stimulus : Stimulus) (s : Machine) (n : ℕ) (t : Machine) → IsAllowed plan s stimulus
      → EventSteps plan n (begin plan stimulus s) t → IsNothingLate t
  not_late-after stimulus s n t allowed steps = not_late-from stimulus s n t (allowed-first stimulus s allowed) steps

  pub not_late-initial : IsNothingLate (initial plan)
  not_late-initial x1 due is = search rules

  -- in every run
  pub not_late-run : (stimuli : List (Stimulus × ℕ)) (s : Machine) (trace : List Line) (t : Machine)
      → IsRun plan stimuli s trace t → IsNothingLate s → IsNothingLate t
  not_late-run stimuli s trace t run h =
      (run-keeps plan (λ before. IsNothingLate) (λ before m u one k. not_late-steps 1 m u (u, one, refl) k)
      (λ before stimulus m allowed empty k. not_late-begin stimulus m (allowed-first stimulus m allowed)) [] stimuli s
      trace t run h).1

  -- so no stimulus goes backwards
  pub forward : (stimulus : Stimulus) (s : Machine) → IsNothingLate s → IsAllowed plan s stimulus
      → s.moment ≤ moment_of stimulus
  forward stimulus s h allowed = search rules

module _ (plan : PlanView) where
  pub has_states-step : (s t : Machine) → EventStep plan s t → HasStates plan s → HasStates plan t
  has_states-step =
      step-keeps plan (λ before. HasStates plan) (λ first before. HasStates plan)
      (λ before first rest s is h. has_states-does plan working
      (does-before plan (work_of plan first.event) (take_event first rest s))
      (record {
        kinds = h.kinds;
        switches = h.switches;
        modes = h.modes;
        devices = h.devices;
        coils = h.coils;
        players = h.players;
      }))
      (λ before first c s t d h. has_states-does plan (ordinary plan (TakesPart s) ⊥) d h)
      (λ before first kept s h. has_states-does plan working (does-after plan kept first.event s) h) []

  pub has_states-begin : (stimulus : Stimulus) (s : Machine) → HasStates plan s → HasStates plan (begin plan stimulus s)
  has_states-begin stimulus s h = has_states-does plan (ordinary plan (Begins plan stimulus) (Unit {0}))
      (does-begin plan stimulus s) (record {
        kinds = h.kinds;
        switches = h.switches;
        modes = h.modes;
        devices = h.devices;
        coils = h.coils;
        players = h.players;
      })

  pub has_states-after : (stimulus : Stimulus) (s : Machine) (n : ℕ) (t : Machine)
      → EventSteps plan n (begin plan stimulus s) t → HasStates plan s → HasStates plan t
  has_states-after stimulus s n t steps h =
      steps-keep plan (λ before. HasStates plan) (λ before. has_states-step) [] n (begin plan stimulus s) t steps
      (has_states-begin stimulus s h)

  pub has_states-run : (stimuli : List (Stimulus × ℕ)) (s : Machine) (trace : List Line) (t : Machine)
      → IsRun plan stimuli s trace t → HasStates plan s → HasStates plan t
  has_states-run stimuli s trace t run h =
      (run-keeps plan (λ before. HasStates plan) (λ before. has_states-step)
      (λ before stimulus m allowed empty k. has_states-begin stimulus m k) [] stimuli s trace t run h).1

  pub has_states-initial : HasStates plan (initial plan)
  has_states-initial =
      record {
        kinds = refl;
        switches = length-map plan.switches (λ s. idle s.kind);
        modes = length-replicate (length plan.modes) (in_phase Idle);
        devices = initial-devices plan;
        coils =
            off-has_coils plan;
        players = record { few = omega arith; current = omega arith };
      }

  pub complete : (s : Machine) → IsValid plan → HasStates plan s → IsComplete s.switches
  complete s valid h = search (rules, length-map)
