-- The plan of rows without faults of their own: nothing posts an event at which the machine itself does something, acts
-- are on rows of their own owner, each command to a coil is within the limits of the coil, and what is done with balls
-- is right.
use Rattle.std.proofs.Common.{rules, ◌≡◌, ◌≢◌, ℕ, zero, suc, ◌<◌, Bool, true, false, ◌||◌, List, [], ◌∷◌, length, map}
use Rattle.std.proofs.Common.{fold, get_or, Contains, ◌⊎◌, refl, sym, ap, ◌∙◌, true≢false, arith}
use Rattle.std.specs.{Prelude.{Ok, Option, Some, None, option_map}, Str.bytes_eq, List.{All, flat_map}}
use Rattle.std.proofs.lemmas.List.{get_or-map, Folds.list_any-append}
use Rattle.std.proofs.lemmas.{Slice.Eq.bytes_eq-Decides, Bool.{or_left, or_right, or_parts}}
use Rattle.std.proofs.lemmas.List.Elements.{All-nil, All-cons, All-weaker, Contains-append_right}
use Rattle.yaml_subset.specs.Keys.{is_among}
use Rattle.mpf_sections.specs.{Rows.{WrittenName, Coil}, Typed.listed_modes}
use Rattle.mpf_config.specs.{Rows.{ModeRows, Rows}, Short.AreListsShort, FewModes.AreFewModes, States.HaveStates}
use Rattle.plan_tables.specs.declared.entries.{EventId.EventId, Action.Action, CoilId.CoilId, Owner.Owner}
use Rattle.plan_tables.specs.declared.entries.{ModeEvent.ModeEvent, CoilLimits.CoilLimits}
use Rattle.plan_tables.specs.declared.entries.Target.{Target, TheVariants.Act}
use Rattle.plan_tables.specs.declared.devices.{RowId.RowId, Act.Act as ActOfDevice}
use Rattle.plan_tables.specs.PlanView.{PlanCoil, no_coil, PlanView, name_of_event, coil_at, row_at}
use Rattle.plan_tables.specs.{Valid.IsActionWithin, BallRows.BookingsAreRight}
use Rattle.cascade_rank.specs.Verified.{IsVerified}
use Rattle.coil_guard.specs.{Asked.limits_of, Limits.{no_limits, limits_at}}
use Rattle.machine_definitions.specs.{Definitions.coil_called, GameEvents.reserved_game_events}
use Rattle.plan_parts.specs.{Effects.mode_event_name, CoilEntries.limits_of_coil, Parts.parts_of}
use Rattle.plan_parts.proofs.DoingFacts.{all_do, doing_heard_once}
use Rattle.mpf_plan.specs.{PlanOf.plan_at, ByName.{IsByVariable, IsDone, effect_of, limits_called}}
use Rattle.mpf_plan.proofs.{DoneNames.{by_variable, done-named}, Called.left_false, ValidPlan.IsValid-plan_at}
use Rattle.mpf_plan.proofs.{ModeEventNames.free-by_name, DoneGiven.limits_are_given}
use Rattle.mpf_plan.proofs.ValidPlan.{HasEntries-plan_at, own-plan_at, listeners-plan_at, limits-plan_at}
use Rattle.mpf_plan.proofs.WithBalls.{ball_devices_own-plan_at, right_with_balls-plan_at}
use Rattle.written_machine.specs.CoilActions.{KeepsLimits, ActionsKeepLimits}
use Rattle.written_machine.specs.{Accepted.IsAccepted, CheckedView.CheckedView, Devices.{ActsAreOwn, IsOwnAct}}
use Rattle.written_machine.specs.FreePosts.{IsFree, IsFreeWork, IsFreeAction, IsFreeSwitch, PostsAreFree}
use Rattle.row_faults.specs.{Reserved.{events_of_modes, mode_names, is_reserved}, RowFaults.row_faults, Sound.IsSound}
use Rattle.row_faults.proofs.{Sound.no_faults_sound, None.map-none}
use Rattle.config_checker.specs.{FaultView.row, Checking.faults_of_rows}
use Rattle.config_checker.proofs.RowsDoing.{IsUnreserved, IsFine, IsThere, rows_doing}
use Rattle.yaml_bytes.proofs.Words.{is_word}

-- ---- the events of a mode are reserved

-- one of five that passes
one-passes : (a b c d e : Bool) → (a ≡ true) ⊎ ((b ≡ true) ⊎ ((c ≡ true) ⊎ ((d ≡ true) ⊎ (e ≡ true))))
    → (a || (b || (c || (d || (e || false))))) ≡ true
one-passes a b c d e x6 = search (rules, or_left, or_right)

module _ (name : List ℕ) where
  abbrev is_event : ModeEvent → List ℕ → Bool
  is_event which other = bytes_eq (mode_event_name which name) other

modes-among : (names : List (List ℕ)) (name : List ℕ) (which : ModeEvent) → Contains names name
    → is_among (events_of_modes names) (mode_event_name which name) ≡ true
modes-among [] name which (k, l, is) = absurd (omega arith)
modes-among (n ∷ names) name which (zero, l, is) = search (rules, list_any-append, or_left, one-passes, is_word)
modes-among (n ∷ names) name which (suc k, l, is) =
    search (rules, list_any-append, or_right, modes-among names name which (k, omega arith, is))

-- ---- the plan

-- rows without faults are sound
pub rows_sound : (rows : Rows) → faults_of_rows rows ≡ [] → IsSound rows
rows_sound rows none = no_faults_sound rows (map-none row (row_faults rows) none)

module _ (rows : Rows) (none : faults_of_rows rows ≡ []) (plan : PlanView) (is : plan_at rows ≡ Ok plan) where
  done : IsDone (IsFine rows) (IsUnreserved rows) plan
  done =
      done-named (IsFine rows) (IsUnreserved rows) (IsThere rows) rows plan is
      (all_do (IsFine rows) (IsUnreserved rows) (IsThere rows) rows (rows_doing rows (rows_sound rows none)))

  -- ---- what is posted

  -- what is not among names is none of them
  apart-all : (names : List (List ℕ)) (n : List ℕ) → is_among names n ≡ false → All (λ name. n ≢ name) names
  apart-all [] n h = All-nil (λ name. n ≢ name)
  apart-all (x ∷ names) n h =
      search (
        rules,
        All-cons,
        or_left,
        bytes_eq-Decides,
        or_parts,
        apart-all names n (or_parts (bytes_eq x n) (is_among names n) h).1,
      )

  -- an event whose name is not reserved is none of a mode's, and of the game's at most that of the start button
  event-free : (e : EventId) → IsUnreserved rows (name_of_event plan e) → IsFree plan e
  event-free e h = free-by_name rows plan is e (λ name there which same.
      let names = map (λ (w : WrittenName). w.text) (listed_modes rows.machine) in
      let more = map (λ (m : ModeRows). m.name) rows.modes in
      let among = modes-among (mode_names rows) name which (Contains-append_right names more name there) in
      true≢false (sym (or_right (is_among reserved_game_events (mode_event_name which name))
      (is_among (events_of_modes (mode_names rows)) (mode_event_name which name)) among)
      ∙ ap (is_reserved rows) (sym same) ∙ h))
      (apart-all reserved_game_events (name_of_event plan e)
      (left_false (is_among reserved_game_events (name_of_event plan e))
      (is_among (events_of_modes (mode_names rows)) (name_of_event plan e)) h))
      IsFreeWork tt refl

  action-free : (a : Action) → IsByVariable plan a → IsFine rows (effect_of plan a) → IsFreeAction plan a
  action-free x1 by h = search (rules, by, event-free)

  abbrev IsNamedFree : EventId → Type 0
  IsNamedFree e = IsUnreserved rows (name_of_event plan e)

  plan_free : PostsAreFree plan
  plan_free = record {
    lists =
        let by = by_variable rows plan is in
        let fine = done.lists in
        λ i d inside j a within. action-free (get_or (get_or plan.lists i d) j a) (by i d inside j a within)
        (fine i d inside j a within);
    switches = All-weaker (λ s. All IsNamedFree s.active × All IsNamedFree s.inactive) (IsFreeSwitch plan)
        (λ s h. (
          All-weaker IsNamedFree (IsFree plan) event-free s.active h.0,
          All-weaker IsNamedFree (IsFree plan) event-free s.inactive h.1,
        )) plan.switches done.switches;
  }

  -- ---- coils

  same_Some : (a b : CoilLimits) → Some a ≡ Some b → a ≡ b
  same_Some a b e = cc

  -- the limits of a coil of the plan are those of its entry
  limits_are : (c : CoilId) → c.0 < length plan.coils → (x : Coil)
      → coil_called rows.machine (coil_at plan c).name ≡ Some x → limits_at (limits_of plan) c ≡ limits_of_coil x
  limits_are c within x called =
      let name = (coil_at plan c).name in
      let given : limits_called (parts_of rows) name ≡ Some (coil_at plan c).limits =
      limits-plan_at rows plan is c within in
      let own : limits_called (parts_of rows) name ≡ Some (limits_of_coil x) = limits_are_given rows name
      ∙ ap (option_map limits_of_coil) called in
      get_or-map (λ (p : PlanCoil). p.limits) plan.coils c.0 no_coil no_limits within
      ∙ same_Some (coil_at plan c).limits (limits_of_coil x) (sym given ∙ own)

  action-keeps_limits : (a : Action) → IsActionWithin plan a → IsFine rows (effect_of plan a) → KeepsLimits plan a
  action-keeps_limits x1 within h = search (rules, limits_are)

  plan_keeps_limits : HaveStates rows → ActionsKeepLimits plan
  plan_keeps_limits states =
      let entries = HasEntries-plan_at rows states plan is in
      let fine = done.lists in
      λ i d inside j a within. action-keeps_limits (get_or (get_or plan.lists i d) j a)
      (entries.lists i d inside j a within) (fine i d inside j a within)

-- a binding acts on a device of its own owner, and a device that listens is the machine's, and so is a ball device
plan_own : (rows : Rows) (plan : PlanView) → plan_at rows ≡ Ok plan → ActsAreOwn plan
plan_own rows plan is = record {
  bindings = search (rules, All-weaker, own, own-plan_at);
  listeners = listeners-plan_at rows plan is;
  balls = ball_devices_own-plan_at rows plan is;
}
  where
    own : (owner : Owner) (t : Target) → ((r : RowId) (act : ActOfDevice) → t ≡ Act r act
        → (row_at plan r).owner ≡ owner) → IsOwnAct plan owner t
    own owner x2 h = search rules

-- ---- balls

plan_bookings : (rows : Rows) → HaveStates rows → faults_of_rows rows ≡ [] → (plan : PlanView) → plan_at rows ≡ Ok plan
    → BookingsAreRight plan
plan_bookings rows states none plan is =
    right_with_balls-plan_at rows states (doing_heard_once (IsFine rows) (IsUnreserved rows) (IsThere rows) rows
    (rows_doing rows (rows_sound rows none))) plan is

-- ---- what is accepted

-- if no list in the rows is too long, each profile of shots has a state, and there are not too many modes, their plan
-- is
-- accepted with weights that serve
pub plan_accepted : (rows : Rows) → AreListsShort rows → HaveStates rows → AreFewModes rows.modes
    → faults_of_rows rows ≡ [] → (c : CheckedView) → plan_at rows ≡ Ok c.plan → IsVerified c.plan c.weights c.bound
    → IsAccepted c
plan_accepted rows short states few none c is verified = record {
  valid = IsValid-plan_at rows short few states c.plan is;
  free = plan_free rows none c.plan is;
  own = plan_own rows c.plan is;
  limits = plan_keeps_limits rows none c.plan is states;
  bookings = plan_bookings rows states none c.plan is;
  weights_fit = verified;
}
