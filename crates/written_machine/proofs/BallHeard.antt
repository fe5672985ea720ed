-- In every run each ball switch follows the changes of the switch that it is.
use Rattle.std.proofs.Common.{rules, ◌≡◌, ℕ, zero, suc, ◌<◌, ◌≤◌, ◌⊎◌, inl, inr, if◌then◌else◌, not, Bool, true, false}
use Rattle.std.proofs.Common.{cond, Option, Some, None, List, [], ◌∷◌, ◌++◌, length, slice_set, get_or, refl, ap, ap₂}
use Rattle.std.{proofs.Common.{sym, ◌∙◌, subst, arith}, specs.{Option.IfSome, List.{All, AllPairs, count_by, flat_map}}}
use Rattle.std.proofs.lemmas.Bool.{and_parts, cases_Bool, cases_eq, cases_lt, eq-eqb, false≢true, true≢false, ne_eqb}
use Rattle.std.proofs.lemmas.{Bool.or_left, List.{Concat.flat_map-append, Elements.All-get_or}, Option.none-some}
use Rattle.std.proofs.lemmas.List.{append-nil, get_or_past, get_or-set_same, get_or-set_other, get_or-replicate}
use Rattle.plan_tables.specs.PlanView.{PlanView, PlanSwitch, listeners_of, no_row, no_switch, row_at, switch_at}
use Rattle.plan_tables.specs.{Valid.{IsListenerWithin, IsValid}, BallRows.{AreOfTwoRows, BookingsAreRight, IsSwitchOf}}
use Rattle.plan_tables.specs.declared.devices.{BallSettings.BallSettings, RowId.RowId, Settings.Settings}
use Rattle.plan_tables.specs.declared.devices.Settings.TheVariants as kinds
use Rattle.plan_tables.specs.declared.entries.{Listener.Listener, SwitchId.SwitchId, SwitchKind.SwitchKind}
use Rattle.plan_tables.specs.declared.entries.Owner.TheVariants as owners
use Rattle.ball_devices.specs.Ledger.{counted_in}
use Rattle.cascade_rank.specs.Cost.{switches_of}
use Rattle.device_objects.specs.declared.device.Call.TheVariants as calls
use Rattle.device_objects.specs.declared.state.{BallState.BallState, BallSwitch.BallSwitch, DeviceState.DeviceState}
use Rattle.device_objects.specs.declared.state.DeviceState.TheVariants as states
use Rattle.device_objects.specs.BallDevice.{empty, note_level, turn_over, fire}
use Rattle.device_objects.specs.BallDevice as balls
use Rattle.device_objects.specs.DeviceStep as devices
use Rattle.device_objects.proofs.{BallDue.switch-is_part, BallMoments.{ball-parts_none, ball-parts_first}}
use Rattle.switch_core.specs.{declared.change.Change.Change, SwitchStep.{change_level, is_taken}}
use Rattle.switch_core.specs.SwitchStep as switch_steps
use Rattle.switch_core.specs.Switches.{SwitchesView, no_kind, kind_at, state_at, active_at, due_of, after_change}
use Rattle.switch_core.{specs.Switches.{accept, report_change, AreRead}, proofs.DueMoments.accept-done}
use Rattle.switch_core.proofs.Lists as switch_lists
use Rattle.switch_core.proofs.Reading.{idle-all_read, idle-inactive, active-other, change-read, accept-read}
use Rattle.switch_core.proofs.Reading.{change-other_level, accept-other_level, change-same_levels}
use Rattle.switch_core.proofs.DueMoments.{due-set, idle-kind, idle-nothing_due, changes_arm_later, accept-due}
use Rattle.written_machine.specs.declared.line.Happening.TheVariants as lines
use Rattle.written_machine.specs.{declared.line.Line.Line, Counted.{ball_switches, is_counted}}
use Rattle.written_machine.specs.SwitchLines.{LevelChange, change_at, changes_of, LeadTo}
use Rattle.written_machine.specs.{EventStep.EventStep, Devices.ActsAreOwn, Machine.{do_if_accepted, call_device}}
use Rattle.written_machine.specs.Machine.{Machine, initial, write, set_switches, set_device, world_of, device_at}
use Rattle.written_machine.specs.Machine.{call_row, tell_first, tell_listeners, do_accepted}
use Rattle.written_machine.specs.Run.{Source, switch, device, source_due, IsNoAlarmDueBy, IsNothingLate, Stimulus}
use Rattle.written_machine.specs.Run.{SwitchChange, Alarm, Wait, IsAllowed, arrive, begin, InEveryRun}
use Rattle.written_machine.proofs.{Does.HasStates, Keeps.run-keeps, BallFired.{IsFired, fire-fired}}
use Rattle.written_machine.proofs.Alarms.{switches-steps, switches-begin, not_late-steps, not_late-begin}
use Rattle.written_machine.proofs.Alarms.{not_late-initial, allowed-first, forward, has_states-step, has_states-begin}
use Rattle.written_machine.proofs.{Alarms.has_states-initial, BallListeners.listeners-noted}
use Rattle.written_machine.proofs.BallPlays.{is_ball, other-plays, accepted-plays, event-plays, IsNoCall}
use Rattle.written_machine.proofs.BallCalm.{balls_at, no_lag, IsCalm, calm-other}
use Rattle.written_machine.proofs.BallRuns.{first-ball, calm-initial, step-calm, begin-calm, due-within}
use Rattle.written_machine.proofs.BallLevels.{Follows, first-follows, not_yet, IsInTime, noted-follows}
use Rattle.written_machine.proofs.BallCounting.{is_for, is_heard, row-count}
use Rattle.written_machine.proofs.BallSteady.{ball_of, switches_at, IsSteady, answer-steady, telling-steady}
use Rattle.written_machine.proofs.BallSteady.{plays-steady, no_call-keeping}
use Rattle.written_machine.proofs.BallListeners.{ball_switch, heard-all, switches-apart, IsListener, IsNotedBy}
use Rattle.yaml_bytes.proofs.Each.{none_of}

-- ---- one ball switch

-- A ball switch follows these changes, and its own switch, unless it is a quick one, is due only after the last that
-- was done at the ball switch.
pub record IsHeard (d : BallSettings) (quick : Bool) (moment : ℕ) (due : Option ℕ) (b : BallSwitch)
    (changes : List LevelChange) : Type 0 where
  pub since : ℕ
  pub early : since ≤ moment
  pub follows : Follows d quick since b changes
  pub fresh : quick ≡ false → (at : ℕ) → due ≡ Some at → since < at

module _ (d : BallSettings) (quick : Bool) (moment later : ℕ) (after : moment ≤ later) (due : Option ℕ) (b : BallSwitch)
    (changes : List LevelChange)
    (h : IsHeard d quick moment due b changes) where
  -- time goes on
  heard-on : (due' : Option ℕ) (c : BallSwitch) (more : List LevelChange)
      → ((at : ℕ) → due' ≡ Some at → (due ≡ Some at) ⊎ (later < at))
      → c ≡ b → more ≡ changes → IsHeard d quick later due' c more
  heard-on due' c more dues same_switch same_changes = search rules

  -- it is due, and turns
  heard-turned : (due' : Option ℕ) (c : BallSwitch) (more : List LevelChange) → b.due ≡ Some later
      → (quick ≡ false → (at : ℕ) → due' ≡ Some at → later < at)
      → c ≡ turn_over b → more ≡ changes → IsHeard d quick later due' c more
  heard-turned due' c more is dues same_switch same_changes = search rules

  -- its switch changes
  heard-noted : (active : Bool) (due' : Option ℕ) (c : BallSwitch) (more : List LevelChange) → due' ≡ None
      → (quick ≡ true → (at : ℕ) → b.due ≡ Some at → later < at)
      → (quick ≡ false → (due ≡ Some later) × ((at : ℕ) → b.due ≡ Some at → later ≤ at))
      → c ≡ note_level d active later b → more ≡ changes ++ record { at = later; active = active } ∷ []
      → IsHeard d quick later due' c more
  heard-noted active due' c more none of_quick of_normal same_switch same_changes = record {
    since = later;
    early = omega arith;
    follows =
        subst (λ (x : BallSwitch). Follows d quick later x more) (sym same_switch)
        (subst (Follows d quick later (note_level d active later b)) (sym same_changes)
        (noted-follows d quick h.since later active b changes (in_time quick of_quick of_normal h.fresh) h.follows));
    fresh = λ normal at is. absurd (none-some at (sym none ∙ is));
  }
    where
      in_time : (q : Bool) → (q ≡ true → (at : ℕ) → b.due ≡ Some at → later < at)
          → (q ≡ false → (due ≡ Some later) × ((at : ℕ) → b.due ≡ Some at → later ≤ at))
          → (q ≡ false → (at : ℕ) → due ≡ Some at → h.since < at) → IsInTime d q h.since later b
      in_time true of_q of_n fresh = (let early = h.early in omega (arith, early, after), of_q refl)
      in_time false of_q of_n fresh = (fresh refl later (of_n refl).0, (of_n refl).1)

-- one change more
leads-on : (before : Bool) (cs : List LevelChange) (level : Bool) (c : LevelChange) (now : Bool)
    → LeadTo before cs level → c.active ≡ not level → now ≡ c.active
    → LeadTo before (cs ++ c ∷ []) now
leads-on before [] level c now h other is = (other ∙ ap not h, is)
leads-on before (b ∷ cs) level c now h other is = (h.0, leads-on b.active cs level c now h.1 other is)

-- ---- all ball switches

module _ (plan : PlanView) where
  abbrev quick_at : SwitchId → Bool
  quick_at n = (switch_at plan n).kind.quick

  abbrev all_listeners : List Listener
  all_listeners = flat_map (λ s. s.listeners) plan.switches

  -- so it is with each ball switch that a switch is; any other stays empty; and a quick switch is never due
  pub record AreHeard (ls : List Line) (s : Machine) : Type 0 where
    pub heard : (n : SwitchId) (r : RowId) (d : BallSettings) (i : ℕ) → (row_at plan r).settings ≡ kinds.BallDevice d
        → is_heard r i (listeners_of plan n) ≡ true
        → IsHeard d (quick_at n) s.moment (due_of s.switches n) (ball_switch s r i) (changes_of n ls)
    pub unheard : (r : RowId) (d : BallSettings) (i : ℕ) → (row_at plan r).settings ≡ kinds.BallDevice d
        → is_heard r i all_listeners ≡ false
        → ball_switch s r i ≡ empty
    pub quick : (n : SwitchId) → quick_at n ≡ true → due_of s.switches n ≡ None
    -- the lines of a switch are the changes of its level
    pub changes : (n : SwitchId) → LeadTo false (changes_of n ls) (active_at s.switches n)
    pub reads : AreRead s.switches

  -- if no ball switch and no change is new
  on-heard : (ls ms : List Line) (s t : Machine) → s.moment ≤ t.moment
      → ((n : SwitchId) (at : ℕ) → due_of t.switches n ≡ Some at → (due_of s.switches n ≡ Some at) ⊎ (t.moment < at))
      → ((n : SwitchId) → quick_at n ≡ true → due_of t.switches n ≡ None)
      → ((r : RowId) (d : BallSettings) → (row_at plan r).settings ≡ kinds.BallDevice d
      → switches_at t r ≡ switches_at s r)
      → ((n : SwitchId) → changes_of n ms ≡ changes_of n ls)
      → ((n : SwitchId) → active_at t.switches n ≡ active_at s.switches n) → AreRead t.switches
      → AreHeard ls s → AreHeard ms t
  on-heard ls ms s t after dues quick same changes levels reads h = search rules

  steady-heard : (before : List Line) (s t : Machine) → IsSteady plan s t → t.switches ≡ s.switches
      → AreHeard (before ++ s.lines) s → AreHeard (before ++ t.lines) t
  steady-heard before s t steady switches h = search (rules, on-heard, flat_map-append)

  -- ---- what is due of a ball switch is due of its device

  row-within : (r : RowId) (d : BallSettings) → (row_at plan r).settings ≡ kinds.BallDevice d → r.0 < length plan.rows
  row-within r d is =
      elim (cases_lt r.0 (length plan.rows)) [
        | inl within ↦ within
        | inr past ↦
            let none : (no_row).settings ≡ kinds.BallDevice d =
            sym (ap (λ row. row.settings) (get_or_past plan.rows r.0 no_row past)) ∙ is in
            absurd (cc)
      ]

  part-of_device : (s : Machine) → IsCalm plan no_lag s → (r : RowId) (d : BallSettings)
      → (row_at plan r).settings ≡ kinds.BallDevice d
      → (i at : ℕ) → (ball_switch s r i).due ≡ Some at
      → (first : ℕ) × (source_due s (device r) ≡ Some first) × (first ≤ at)
  part-of_device s calm r d is i at due = by (balls.due_of ball) refl
    where
      ball : BallState
      ball = (calm.shapes r d (row-within r d is) is).ball

      state : device_at s r ≡ states.BallDevice ball
      state = (calm.shapes r d (row-within r d is) is).is

      here : balls.part_due ball i ≡ Some at
      here = search (rules, switch-is_part, ball, get_or, ball_of, state)

      by : (o : Option ℕ) → balls.due_of ball ≡ o → (first : ℕ) × (source_due s (device r) ≡ Some first) × (first ≤ at)
      by None none = absurd (none-some at (sym (ball-parts_none ball none i) ∙ here))
      by (Some first) some =
          let least : IfSome (Some first) (λ (m : ℕ). (k other : ℕ) → balls.part_due ball k ≡ Some other → m ≤ other) =
          subst (λ (o : Option ℕ). IfSome o (λ (m : ℕ). (k other : ℕ) → balls.part_due ball k ≡ Some other → m ≤ other))
          some (ball-parts_first ball) in
          (first, ap (λ (x : DeviceState). devices.due_of x) state ∙ some, least i at here)

  -- ---- at first

  first-switch : (r : RowId) (d : BallSettings) (i : ℕ) → (row_at plan r).settings ≡ kinds.BallDevice d
      → ball_switch (initial plan) r i ≡ empty
  first-switch r d i is =
      ap (λ (x : DeviceState). get_or (ball_of x).switches i empty) (first-ball plan r d is)
      ∙ elim (cases_lt i 16) [
        | inl within ↦ get_or-replicate 16 i empty empty within
        | inr past ↦ get_or_past (balls.first_state).switches i empty past
      ]

  initial-heard : AreHeard [] (initial plan)
  initial-heard = record {
    heard = λ n r d i is told. record {
      since = 0;
      early = omega arith;
      follows = subst (λ (x : BallSwitch). Follows d (quick_at n) 0 x []) (sym (first-switch r d i is))
          (first-follows d (quick_at n));
      fresh = λ normal at due. absurd (none-some at (sym (idle-nothing_due plan n) ∙ due));
    };
    unheard = λ r d i is none. first-switch r d i is;
    quick = λ n is. idle-nothing_due plan n;
    changes = idle-inactive plan;
    reads = idle-all_read plan;
  }

  module _ (valid : IsValid plan) (own : ActsAreOwn plan) (right : BookingsAreRight plan) where
    -- what holds between stimuli and event steps
    pub record IsFollowed (before : List Line) (s : Machine) : Type 0 where
      pub heard : AreHeard (before ++ s.lines) s
      pub calm : IsCalm plan no_lag s
      pub states : HasStates plan s
      pub late : IsNothingLate s

    step-followed : (before : List Line) (s t : Machine) → EventStep plan s t → IsFollowed before s
        → IsFollowed before t
    step-followed before s t st h = record {
      heard =
          let steady = subst (IsSteady plan s) (sym st.new_is)
          (plays-steady plan no_call-keeping
          (event-plays plan valid.entries own right IsNoCall st.first st.rest st.order s st.in_order)) in
          steady-heard before s t steady (switches-steps plan 1 s t (t, st, refl)) h.heard;
      calm = step-calm plan valid own right s t st h.calm;
      states = has_states-step plan s t st h.states;
      late = not_late-steps plan valid 1 s t (t, st, refl) h.late;
    }

    -- ---- an acceptance

    all_listen : (active : Bool) (n : SwitchId) → All (IsListener plan valid own right active) (listeners_of plan n)
    all_listen active n =
        elim (cases_lt n.0 (length plan.switches)) [
          | inl there ↦
              let inside = All-get_or (λ s. All (IsListenerWithin (length plan.rows)) s.listeners) plan.switches n.0
              no_switch there valid.entries.listeners in
              let its = All-get_or (λ s. All (λ l. IsSwitchOf (row_at plan l.row).settings l.switch) s.listeners)
              plan.switches n.0 no_switch there right.switches in
              (λ k e within. record { within = inside k e within; its = its k e within })
          | inr past ↦
              subst (λ (s : PlanSwitch). All (IsListener plan valid own right active) s.listeners)
              (sym (get_or_past plan.switches n.0 no_switch past)) (λ k e within. absurd (omega arith))
        ]

    -- who listens for a ball switch, if the ball switch is another switch's
    not_heard : (r : RowId) (i : ℕ) (n m : SwitchId) → (n.0 ≡ m.0 → ⊥) → is_heard r i (listeners_of plan m) ≡ true
        → is_heard r i (listeners_of plan n) ≡ false
    not_heard r i n m other told = search (rules, told, cases_Bool, is_heard, switches-apart)

    never_heard : (r : RowId) (i : ℕ) (n : SwitchId) → is_heard r i all_listeners ≡ false
        → is_heard r i (listeners_of plan n) ≡ false
    never_heard r i n none = search (rules, cases_Bool, is_heard, heard-all)

    module _ (ls : List Line) (s : Machine) (v : SwitchesView) (n : SwitchId) (active : Bool) (at : ℕ)
        (h : AreHeard ls s) (calm : IsCalm plan no_lag s)
        (later : s.moment ≤ at) (dues : (m : SwitchId) (t : ℕ) → due_of v m ≡ Some t
        → (due_of s.switches m ≡ Some t) ⊎ (at < t)) (done : due_of v n ≡ None)
        (quick : (m : SwitchId) → quick_at m ≡ true → due_of v m ≡ None)
        (of_quick : quick_at n ≡ true → (source : Source) (t : ℕ) → source_due s source ≡ Some t → at < t)
        (of_normal : quick_at n ≡ false → (due_of s.switches n ≡ Some at)
        × ((source : Source) (t : ℕ) → source_due s source ≡ Some t → at ≤ t))
        (its : active_at v n ≡ active) (turns : active_at v n ≡ not (active_at s.switches n))
        (others : (m : SwitchId) → (m.0 ≡ n.0 → ⊥) → active_at v m ≡ active_at s.switches m) (reads : AreRead v) where
      abbrev acceptance : Change
      acceptance = record { switch = n; active = active }

      abbrev written : Machine
      written = write owners.Machine (lines.Switch n active) (set_switches v (arrive at s))

      written-calm : IsCalm plan no_lag (write owners.Machine (lines.Switch n active) (set_switches v (arrive at s)))
      written-calm = calm-other plan s (write owners.Machine (lines.Switch n active) (set_switches v (arrive at s)))
          refl refl refl (λ r d is. refl) calm

      told : IsNotedBy plan valid own right active (listeners_of plan n)
          (write owners.Machine (lines.Switch n active) (set_switches v (arrive at s)))
          (tell_listeners plan acceptance (write owners.Machine (lines.Switch n active) (set_switches v (arrive at s))))
      told = listeners-noted plan valid own right active (listeners_of plan n) (all_listen active n) written
          written-calm

      abbrev finished : Machine
      finished = do_accepted plan acceptance (set_switches v (arrive at s))

      rest : IsSteady plan (tell_listeners plan acceptance written) finished
      rest = plays-steady plan no_call-keeping
          (accepted-plays plan valid.entries own right IsNoCall acceptance (tell_listeners plan acceptance written))

      final_moment : finished.moment ≡ at
      final_moment = rest.moment ∙ told.moment

      final_switch : (r : RowId) (d : BallSettings) (i : ℕ) → (row_at plan r).settings ≡ kinds.BallDevice d
          → ball_switch finished r i ≡ cond (is_heard r i (listeners_of plan n))
          (note_level d active at (ball_switch s r i)) (ball_switch s r i)
      final_switch r d i is = ap (λ (bs : List BallSwitch). get_or bs i empty) (rest.switches r d is)
          ∙ told.switches r d i is

      final_changes : (m : SwitchId) → changes_of m (ls ++ finished.lines)
          ≡ changes_of m ls ++ (change_at m at (lines.Switch n active) ++ [])
      final_changes m = search (rules, flat_map-append, rest, told)

      accepted-heard : finished.switches ≡ v → AreHeard (ls ++ finished.lines) finished
      accepted-heard switches = record {
        heard = search (rules, ball_switch, ls, final_moment, one);
        unheard = λ r d i is none.
            final_switch r d i is
            ∙ (ap (λ (b : Bool). cond b (note_level d active at (ball_switch s r i)) (ball_switch s r i))
            (never_heard r i n none) ∙ h.unheard r d i is none);
        quick = λ m is. ap (λ (w : SwitchesView). due_of w m) switches ∙ quick m is;
        changes = λ m. subst (λ (w : SwitchesView). LeadTo false (changes_of m (ls ++ finished.lines)) (active_at w m))
            (sym switches) (led m);
        reads = subst AreRead (sym switches) reads;
      }
        where
          led : (m : SwitchId) → LeadTo false (changes_of m (ls ++ finished.lines)) (active_at v m)
          led m =
              elim (cases_eq m.0 n.0) [
                | inl same ↦
                    let id : n ≡ m = ap (λ (k : ℕ). record { 0 = k }) (sym same) in
                    subst (λ (k : SwitchId). LeadTo false (changes_of k (ls ++ finished.lines)) (active_at v k)) id
                    (subst (λ (cs : List LevelChange). LeadTo false cs (active_at v n))
                    (sym (final_changes n ∙ ap (λ (b : Bool). changes_of n ls
                    ++ (cond b (record { at = at; active = active } ∷ []) [] ++ [])) (eq-eqb n.0 n.0 refl)))
                    (leads-on false (changes_of n ls) (active_at s.switches n) (record { at = at; active = active })
                    (active_at v n) (h.changes n) (sym its ∙ turns) its))
                | inr other ↦
                    subst (λ (cs : List LevelChange). LeadTo false cs (active_at v m))
                    (sym (final_changes m
                    ∙ (ap (λ (b : Bool). changes_of m ls
                    ++ (cond b (record { at = at; active = active } ∷ []) [] ++ []))
                    (ne_eqb n.0 m.0 (λ same. other (sym same))) ∙ append-nil (changes_of m ls))))
                    (subst (LeadTo false (changes_of m ls)) (sym (others m other)) (h.changes m))
              ]

          one : (m : SwitchId) (r : RowId) (d : BallSettings) (i : ℕ) → (row_at plan r).settings ≡ kinds.BallDevice d
              → is_heard r i (listeners_of plan m) ≡ true
              → IsHeard d (quick_at m) at (due_of v m) (ball_switch finished r i) (changes_of m (ls ++ finished.lines))
          one m r d i is its =
              elim (cases_eq n.0 m.0) [
                | inl same ↦
                    let id : n ≡ m = ap (λ (k : ℕ). record { 0 = k }) same in
                    subst (λ (k : SwitchId). is_heard r i (listeners_of plan k) ≡ true
                    → IsHeard d (quick_at k) at (due_of v k) (ball_switch finished r i)
                    (changes_of k (ls ++ finished.lines))) id
                    (λ own.
                    heard-noted d (quick_at n) s.moment at later (due_of s.switches n) (ball_switch s r i)
                    (changes_of n ls) (h.heard n r d i is own) active
                    (due_of v n) (ball_switch finished r i) (changes_of n (ls ++ finished.lines)) done
                    (λ yes t due. let first = part-of_device s calm r d is i t due
                    in let past = of_quick yes (device r) first.0 first.1 in omega (arith, past, first.2))
                    (λ no. (
                      (of_normal no).0,
                      λ t due. let first = part-of_device s calm r d is i t due
                          in let past = (of_normal no).1 (device r) first.0 first.1 in omega (arith, past, first.2),
                    ))
                    (final_switch r d i is
                    ∙ ap (λ (b : Bool). cond b (note_level d active at (ball_switch s r i)) (ball_switch s r i))
                    own)
                    (final_changes n ∙ ap (λ (b : Bool). changes_of n ls
                    ++ (cond b (record { at = at; active = active } ∷ []) [] ++ [])) (eq-eqb n.0 n.0 refl))) its
                | inr other ↦
                    heard-on d (quick_at m) s.moment at later (due_of s.switches m) (ball_switch s r i)
                    (changes_of m ls) (h.heard m r d i is its)
                    (due_of v m) (ball_switch finished r i) (changes_of m (ls ++ finished.lines)) (dues m)
                    (final_switch r d i is
                    ∙ ap (λ (b : Bool). cond b (note_level d active at (ball_switch s r i)) (ball_switch s r i))
                    (not_heard r i n m other its))
                    (final_changes m
                    ∙ (ap (λ (b : Bool). changes_of m ls
                    ++ (cond b (record { at = at; active = active } ∷ []) [] ++ [])) (ne_eqb n.0 m.0 other)
                    ∙ append-nil (changes_of m ls)))
              ]

    -- ---- the alarm of a ball device

    module _ (ls : List Line) (s : Machine) (r : RowId) (d : BallSettings) (at : ℕ) (h : AreHeard ls s)
        (calm : IsCalm plan no_lag s)
        (is : (row_at plan r).settings ≡ kinds.BallDevice d) (later : s.moment ≤ at)
        (due : source_due s (device r) ≡ Some at)
        (fresh : (n : SwitchId) (t : ℕ) → due_of s.switches n ≡ Some t → at < t) where
      within : r.0 < length plan.rows
      within = row-within r d is

      abbrev ball : BallState
      ball = (calm.shapes r d (row-within r d is) is).ball

      state : device_at s r ≡ states.BallDevice ball
      state = (calm.shapes r d (row-within r d is) is).is

      abbrev fired : BallState
      fired = (fire d at ball).0

      abbrev next : DeviceState
      next = (call_row plan calls.Fire r (arrive at s)).0

      next-is : next ≡ states.BallDevice fired
      next-is = ap₂ (λ (x : Settings) (y : DeviceState). (devices.device_step x calls.Fire at (world_of s) y).0) is
          state

      all_fired : IsFired ball at fired
      all_fired = fire-fired d at at ball (sym (ap (λ (x : DeviceState). devices.due_of x) state) ∙ due)

      abbrev after_alarm : Machine
      after_alarm = call_device plan calls.Fire r (arrive at s)

      answered : IsSteady plan (set_device r next (arrive at s)) after_alarm
      answered = answer-steady plan (tell_first plan) (telling-steady plan) r
          (call_row plan calls.Fire r (arrive at s)).1
          (set_device r next (arrive at s))

      here : switches_at after_alarm r ≡ fired.switches
      here =
          let in_devices : r.0 < length s.devices = let count = calm.count in omega (arith, count, within) in
          answered.switches r d is
          ∙ (ap (λ (x : DeviceState). (ball_of x).switches)
          (get_or-set_same s.devices r.0 next (devices.first_state no_row.settings) in_devices)
          ∙ ap (λ (x : DeviceState). (ball_of x).switches) next-is)

      there : (q : RowId) (e : BallSettings) → (row_at plan q).settings ≡ kinds.BallDevice e → (q.0 ≡ r.0 → ⊥)
          → switches_at after_alarm q ≡ switches_at s q
      there q e of other = search (rules, answered, ball_of, get_or-set_other)

      was : (i : ℕ) → get_or ball.switches i empty ≡ ball_switch s r i
      was i = ap (λ (x : DeviceState). get_or (ball_of x).switches i empty) (sym state)

      -- each ball switch is the same, or was due and has turned
      each : (q : RowId) (e : BallSettings) (i : ℕ) → (row_at plan q).settings ≡ kinds.BallDevice e
          → (ball_switch after_alarm q i ≡ ball_switch s q i)
          ⊎ (((ball_switch s q i).due ≡ Some at) × (ball_switch after_alarm q i ≡ turn_over (ball_switch s q i)))
      each q e i of =
          elim (cases_eq q.0 r.0) [
            | inl same ↦
                let row : r ≡ q = ap (λ (k : ℕ). record { 0 = k }) (sym same) in
                subst (λ (k : RowId). (ball_switch after_alarm k i ≡ ball_switch s k i)
                ⊎ (((ball_switch s k i).due ≡ Some at)
                × (ball_switch after_alarm k i ≡ turn_over (ball_switch s k i)))) row (itself all_fired)
            | inr other ↦ inl (ap (λ (bs : List BallSwitch). get_or bs i empty) (there q e of other))
          ]
        where
          itself : IsFired ball at fired → (ball_switch after_alarm r i ≡ ball_switch s r i)
              ⊎ (((ball_switch s r i).due ≡ Some at) × (ball_switch after_alarm r i ≡ turn_over (ball_switch s r i)))
          itself (inl all_same) = inl (ap (λ (bs : List BallSwitch). get_or bs i empty) (here ∙ all_same) ∙ was i)
          itself (inr turn) =
              let read : ball_switch after_alarm r i
              ≡ get_or (slice_set ball.switches turn.place (turn_over (get_or ball.switches turn.place empty))) i
              empty =
              ap (λ (bs : List BallSwitch). get_or bs i empty) (here ∙ turn.switches) in
              elim (cases_eq i turn.place) [
                | inl at_it ↦
                    let place_within : turn.place < length ball.switches = has_place turn.place turn.due in
                    inr (
                      ap (λ (b : BallSwitch). b.due) (sym (was i))
                          ∙ (ap (λ (k : ℕ). (get_or ball.switches k empty).due) at_it ∙ turn.due),
                      read
                          ∙ (ap (λ (k : ℕ). get_or
                          (slice_set ball.switches turn.place (turn_over (get_or ball.switches turn.place empty))) k
                          empty) at_it
                          ∙ (get_or-set_same ball.switches turn.place
                          (turn_over (get_or ball.switches turn.place empty)) empty place_within
                          ∙ (ap (λ (k : ℕ). turn_over (get_or ball.switches k empty)) (sym at_it)
                          ∙ ap turn_over (was i)))),
                    )
                | inr elsewhere ↦ inl (read
                    ∙ (get_or-set_other ball.switches turn.place i (turn_over (get_or ball.switches turn.place empty))
                    empty elsewhere ∙ was i))
              ]
            where
              has_place : (place : ℕ) → (get_or ball.switches place empty).due ≡ Some at → place < length ball.switches
              has_place place its = search (rules, cases_lt, ball, none-some, get_or_past)

      fired_changes : (m : SwitchId) → changes_of m (ls ++ after_alarm.lines) ≡ changes_of m ls
      fired_changes m = search (rules, flat_map-append, answered, append-nil)

      fired-heard : after_alarm.switches ≡ s.switches → AreHeard (ls ++ after_alarm.lines) after_alarm
      fired-heard switches = record {
        heard = λ n q e i of its.
            subst (λ (k : ℕ). IsHeard e (quick_at n) k (due_of after_alarm.switches n) (ball_switch after_alarm q i)
            (changes_of n (ls ++ after_alarm.lines))) (sym answered.moment)
            (subst (λ (w : SwitchesView). IsHeard e (quick_at n) at (due_of w n) (ball_switch after_alarm q i)
            (changes_of n (ls ++ after_alarm.lines))) (sym switches)
            (elim (each q e i of) [
              | inl same ↦
                  heard-on e (quick_at n) s.moment at later (due_of s.switches n) (ball_switch s q i) (changes_of n ls)
                  (h.heard n q e i of its)
                  (due_of s.switches n) (ball_switch after_alarm q i) (changes_of n (ls ++ after_alarm.lines))
                  (λ t o. inl o) same (fired_changes n)
              | inr turn ↦
                  heard-turned e (quick_at n) s.moment at later (due_of s.switches n) (ball_switch s q i)
                  (changes_of n ls) (h.heard n q e i of its)
                  (due_of s.switches n) (ball_switch after_alarm q i) (changes_of n (ls ++ after_alarm.lines)) turn.0
                  (λ normal t o. fresh n t o) turn.1 (fired_changes n)
            ]));
        unheard = λ q e i of none.
            elim (each q e i of) [
              | inl same ↦ same ∙ h.unheard q e i of none
              | inr turn ↦ absurd (none-some at
                  (sym (ap (λ (b : BallSwitch). b.due) (h.unheard q e i of none)) ∙ turn.0))
            ];
        quick = λ n fast. ap (λ (w : SwitchesView). due_of w n) switches ∙ h.quick n fast;
        changes = search (rules, ls, fired_changes);
        reads = subst AreRead (sym switches) h.reads;
      }

    -- ---- a stimulus

    kind-is : (s : Machine) → HasStates plan s → (n : SwitchId) → kind_at s.switches n ≡ (switch_at plan n).kind
    kind-is s states n = ap (λ (ks : List SwitchKind). get_or ks n.0 no_kind) states.kinds ∙ idle-kind plan n

    quick-after : (s : Machine) → HasStates plan s → ((m : SwitchId) → quick_at m ≡ true → due_of s.switches m ≡ None)
        → (n : SwitchId) (level : Bool) (at : ℕ)
        → (m : SwitchId) → quick_at m ≡ true → due_of (after_change n level at s.switches) m ≡ None
    quick-after s states quick n level at m fast = search (rules, none_of, due-set, none-some, kind-is)

    begin-heard : (before : List Line) (stimulus : Stimulus) (s : Machine) → IsAllowed plan s stimulus
        → IsFollowed before s
        → AreHeard ((before ++ s.lines) ++ (begin plan stimulus s).lines) (begin plan stimulus s)
    begin-heard before (Wait at) s allowed h =
        let ls = before ++ s.lines in
        on-heard ls (ls ++ []) s (arrive at s) allowed.forward (λ n t is. inl is) h.heard.quick (λ r d is. refl)
        (λ n. ap (changes_of n) (append-nil ls)) (λ n. refl) h.heard.reads h.heard
    begin-heard before (Alarm at (device r)) s allowed h =
        let ls = before ++ s.lines in
        let later = forward plan valid (Alarm at (device r)) s h.late allowed in
        let still = switches-begin plan (Alarm at (device r)) s in
        elim (is_ball (row_at plan r).settings) [
          | inl is ↦
              fired-heard ls s r is.0 at h.heard h.calm is.1 later allowed.0.due
              (λ n t due. elim (allowed.0.least (switch n) t due) [ inl past ↦ past | inr never ↦ absurd never.1 ])
              still
          | inr not ↦
              let goes = other-plays plan valid.entries own right IsNoCall calls.Fire r (arrive at s)
              (due-within plan valid own right s r at h.calm allowed.0.due) not in
              let steady = plays-steady plan no_call-keeping goes in
              let now = steady.moment in
              on-heard ls (ls ++ (begin plan (Alarm at (device r)) s).lines) s (begin plan (Alarm at (device r)) s)
              (omega (arith, later, now))
              (λ n t due. inl (ap (λ (v : SwitchesView). due_of v n) (sym still) ∙ due))
              (λ n fast. ap (λ (v : SwitchesView). due_of v n) still ∙ h.heard.quick n fast)
              steady.switches
              (λ n. flat_map-append (λ l. change_at n l.moment l.happening) ls
              (begin plan (Alarm at (device r)) s).lines
              ∙ (ap (λ xs. changes_of n ls ++ xs) (steady.changes n) ∙ append-nil (changes_of n ls)))
              (λ n. ap (λ (v : SwitchesView). active_at v n) still) (subst AreRead (sym still) h.heard.reads) h.heard
        ]
    begin-heard before (Alarm at (switch n)) s allowed h =
        let ls = before ++ s.lines in
        let v = accept n s.switches in
        accepted-heard ls s v n (report_change v n).active at h.heard h.calm
        (forward plan valid (Alarm at (switch n)) s h.late allowed)
        (λ m t due. inl (accept-due n s.switches m t due)) (accept-done n s.switches)
        (λ m fast. none_of (due_of v m) (λ t due. none-some t
        (sym (h.heard.quick m fast) ∙ accept-due n s.switches m t due)))
        (λ fast. absurd (none-some at (sym (h.heard.quick n fast) ∙ allowed.0.due)))
        (λ normal.
        (allowed.0.due, λ source t due. allowed-first plan valid (Alarm at (switch n)) s allowed source t due))
        refl (accept-other_level s.switches n at h.heard.reads (switch_lists.due-within s.switches n at allowed.0.due)
        allowed.0.due)
        (active-other s.switches n (switch_steps.fire_change (kind_at s.switches n) (state_at s.switches n)))
        (accept-read s.switches n h.heard.reads)
        (switches-begin plan (Alarm at (switch n)) s)
    begin-heard before (SwitchChange at n level) s allowed h =
        by (is_taken (kind_at s.switches n) level (state_at s.switches n)) refl
        (switches-begin plan (SwitchChange at n level) s)
      where
        ls : List Line
        ls = before ++ s.lines

        v : SwitchesView
        v = after_change n level at s.switches

        u : Machine
        u = set_switches v (arrive at s)

        by : (taken : Bool) → is_taken (kind_at s.switches n) level (state_at s.switches n) ≡ taken
            → (do_if_accepted plan (if taken then Some (report_change v n) else None) u).switches ≡ v
            → AreHeard (ls ++ (do_if_accepted plan (if taken then Some (report_change v n) else None) u).lines)
            (do_if_accepted plan (if taken then Some (report_change v n) else None) u)
        by false is switches =
            on-heard ls (ls ++ []) s u allowed.0.forward (λ m t due. changes_arm_later n level at s.switches m t due)
            (quick-after s h.states h.heard.quick n level at)
            (λ r d ball. refl) (λ m. ap (changes_of m) (append-nil ls)) (change-same_levels s.switches n level at is)
            (change-read s.switches n level at h.heard.reads) h.heard
        by true is switches =
            let fast : quick_at n ≡ true = ap (λ (k : SwitchKind). k.quick) (sym (kind-is s h.states n))
            ∙ (and_parts (kind_at s.switches n).quick _ is).0 in
            accepted-heard ls s v n (report_change v n).active at h.heard h.calm allowed.0.forward
            (λ m t due. changes_arm_later n level at s.switches m t due)
            (quick-after s h.states h.heard.quick n level at n fast) (quick-after s h.states h.heard.quick n level at)
            (λ yes source t due. allowed.0.quiet source t due) (λ normal. absurd (true≢false (sym fast ∙ normal)))
            refl (change-other_level s.switches n level at h.heard.reads
            (let states = h.states.switches in omega (arith, allowed.1, states)) is)
            (active-other s.switches n (change_level (kind_at s.switches n) at level (state_at s.switches n)))
            (change-read s.switches n level at h.heard.reads) switches

    -- ---- every run

    begin-followed : (before : List Line) (stimulus : Stimulus) (s : Machine) → IsAllowed plan s stimulus
        → s.waiting ≡ [] → IsFollowed before s
        → IsFollowed (before ++ s.lines) (begin plan stimulus s)
    begin-followed before stimulus s allowed empty_queue h =
        search (rules, begin-heard, begin-calm, has_states-begin, not_late-begin, allowed-first)

    -- a ball counts at a switch if it counts at its ball switch
    listener-says : (trace : List Line) (s : Machine) → AreHeard trace s → IsCalm plan no_lag s → (at : ℕ)
        → s.moment ≤ at → IsNoAlarmDueBy s at
        → (r : RowId) (d : BallSettings) → (row_at plan r).settings ≡ kinds.BallDevice d → (n : SwitchId) (i : ℕ)
        → is_heard r i (listeners_of plan n) ≡ true
        → (ball_switch s r i).counted ≡ is_counted plan d at trace n
    listener-says trace s h calm at later quiet r d is n i told =
        let its = h.heard n r d i is told in
        sym (its.follows.level at (let early = its.early in omega (arith, early, later))
        ∙ not_yet d (ball_switch s r i) at
        (λ t due. let first = part-of_device s calm r d is i t due in let past = quiet (device r) first.0 first.1
        in omega (arith, past, first.2)))

    -- a listener of a list is heard
    one-heard : (r : RowId) (ls : List Listener) (k : ℕ) (e : Listener) → k < length ls → (get_or ls k e).row.0 ≡ r.0
        → is_heard r (get_or ls k e).switch ls ≡ true
    one-heard r [] k e within its = absurd (omega arith)
    one-heard r (l ∷ ls) zero e within its = search rules
    one-heard r (l ∷ ls) (suc k) e within its =
        search (rules, ls, within, cases_Bool, is_for, get_or, or_left, is_heard, one-heard r ls k e (omega arith) its)

    two_rows : (n : SwitchId) → AllPairs AreOfTwoRows (listeners_of plan n)
    two_rows n = search (rules, cases_lt, there, All-get_or, get_or_past, within)

    pub changes-run : InEveryRun plan (λ stimuli trace s. (n : SwitchId) → n.0 < length plan.switches
        → LeadTo false (changes_of n trace) (active_at s.switches n))
    changes-run stimuli trace s run n within =
        let end = run-keeps plan IsFollowed step-followed begin-followed [] stimuli (initial plan) trace s run
        (record {
          heard = initial-heard;
          calm = calm-initial plan;
          states = has_states-initial plan;
          late = not_late-initial plan valid;
        }) in
        (subst (λ (ls : List Line). AreHeard ls s) end.2 end.1.heard).changes n

    pub counted-run : InEveryRun plan (λ stimuli trace s.
        (at : ℕ) → s.moment ≤ at → IsNoAlarmDueBy s at → (r : RowId) (d : BallSettings) → r.0 < length plan.rows →
        (row_at plan r).settings ≡ kinds.BallDevice d →
        counted_in s.ledger r ≡ count_by (is_counted plan d at trace) (ball_switches plan r))
    counted-run stimuli trace s run at later quiet r d within is =
        let end = run-keeps plan IsFollowed step-followed begin-followed [] stimuli (initial plan) trace s run
        (record {
          heard = initial-heard;
          calm = calm-initial plan;
          states = has_states-initial plan;
          late = not_late-initial plan valid;
        }) in
        let h : AreHeard trace s = subst (λ (ls : List Line). AreHeard ls s) end.2 end.1.heard in
        let calm = end.1.calm in
        let state = calm.shapes r d within is in
        calm.holding r d within is
        ∙ (ap balls_at state.is
        ∙ (ap (λ (x : DeviceState). count_by (λ b. b.counted) (ball_of x).switches) (sym state.is)
        ∙ row-count plan r (switches_at s r) (is_counted plan d at trace) right.apart
        (λ k e there. record {
          once = two_rows (get_or (switches_of plan) k e);
          says = search (rules, listener-says, calm, get_or, one-heard);
        })
        (λ i counts. covered h i counts (cases_Bool (is_heard r i all_listeners)))))
      where
        covered : AreHeard trace s → (i : ℕ) → (get_or (switches_at s r) i empty).counted ≡ true
            → (is_heard r i all_listeners ≡ true) ⊎ (is_heard r i all_listeners ≡ false)
            → is_heard r i all_listeners ≡ true
        covered h i counts (inl told) = told
        covered h i counts (inr not) = absurd
            (false≢true (sym (ap (λ (b : BallSwitch). b.counted) (h.unheard r d i is not)) ∙ counts))
