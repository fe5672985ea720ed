-- The fields of `Switches`, and the switches that they are.
use Rattle.std.proofs.Common.{rules, ◌≡◌, ℕ, ◌<◌, ◌≤◌, Bool, false, not, if◌then◌else◌, Option, Some, None, option_map}
use Rattle.std.proofs.Common.{IfSome, List, [], length, map, nat_eq, slice_index_or, slice_set, Vec, Global}
use Rattle.std.{proofs.Common.{vec_capacity, refl, ap, ap₂, sym, ◌∙◌, arith}, specs.{Bool.then_some, Option.option_eq}}
use Rattle.std.proofs.lemmas.{Bool.cases_lt, Option.none-some, List.map-set}
use Rattle.std.proofs.lemmas.List.{length-map, length-set, get_or_past, get_or_read, get_or-map, get_or-set_same}
use Rattle.plan_tables.specs.{declared.entries.{SwitchId.SwitchId, SwitchKind.SwitchKind}, PlanView.PlanSwitch}
use Rattle.switch_core.specs.{declared.{change.Change.Change, state.State.State}, StateView.state_view}
use Rattle.switch_core.specs.SwitchStep.{SwitchState, idle, change_level, is_taken, fire_change}
use Rattle.switch_core.specs.PendingSwitches.{waiting_from, soonest, IsWaiting, IsKept}
use Rattle.switch_core.specs.Switches.{SwitchesView, IsComplete, no_kind, kind_at, state_at, set_state, due_of}
use Rattle.switch_core.specs.Switches.{report_change, after_change, reported_by_change, IsNextDue, next_due_from}
use Rattle.switch_core.specs.Switches.{next_due, accept, accept_due, after_fire, reported_by_fire}
use Rattle.switch_core.proofs.NextDue.{next_due-least, nothing_due-is, next_due-same}
use Rattle.switch_core.proofs.DueMoments.{idle_list-nothing_due, due-kept}
use Rattle.switch_core.proofs.Waiting.{idle-waiting, soonest-is, waiting-set, waiting-was}

-- the switches of which these are the kinds and the states
abbrev pub lists_view : List SwitchKind → List State → SwitchesView
lists_view kinds states = record { kinds = kinds; states = map state_view states }

-- ---- what is due is one of the switches

pub due-within : (s : SwitchesView) (switch : SwitchId) (at : ℕ) → due_of s switch ≡ Some at
    → switch.0 < length s.states
due-within s switch at is = search (rules, cases_lt, none-some, get_or_past)

pub answer-within : (s : SwitchesView) (o : Option (ℕ × SwitchId)) → IsComplete s → IfSome o (λ d. IsNextDue s d.0 d.1)
    → IfSome o (λ d. d.1.0 < length s.kinds)
answer-within s o complete is = search (rules, due-within)

module _ (kinds : List SwitchKind) (states : List State) (next : Option (ℕ × SwitchId))
    (waiting : Vec (ℕ × SwitchId) Global) (kept : IsKept next waiting (lists_view kinds states)) (at : ℕ)
    (switch : SwitchId) (is : next ≡ Some (at, switch)) where
  pub kept-next : next_due (lists_view kinds states) ≡ Some (at, switch)
  kept-next = sym kept.next_is ∙ is

  pub kept-in_states : switch.0 < length states
  kept-in_states =
      let within = due-within (lists_view kinds states) switch at
      (next_due-least (lists_view kinds states) at switch kept-next).due in
      omega (arith, within, length-map states state_view)

  pub kept-in_kinds : switch.0 < length kinds
  kept-in_kinds = let same = kept.complete.states in omega (arith, same, kept-in_states, length-map states state_view)

-- nothing is due at the beginning
pub idle-next : (kinds : List SwitchKind) (switches : List PlanSwitch) (states : List State)
    → map state_view states ≡ map (λ (s : PlanSwitch). idle s.kind) switches → next_due (lists_view kinds states) ≡ None
idle-next kinds switches states is = ap (λ (xs : List SwitchState). next_due_from 0 xs) is
    ∙ nothing_due-is (record { kinds = kinds; states = map (λ (s : PlanSwitch). idle s.kind) switches })
    (idle_list-nothing_due kinds switches)

pub idle-none_wait : (switches : List PlanSwitch) (states : List State)
    → map state_view states ≡ map (λ (s : PlanSwitch). idle s.kind) switches
    → waiting_from 0 (map state_view states) ≡ []
idle-none_wait switches states is = ap (waiting_from 0) is ∙ idle-waiting 0 switches

-- a switch of the view has its place in both lists
module _ (kinds : List SwitchKind) (states : List State) (s : SwitchesView) (is : lists_view kinds states ≡ s)
    (switch : SwitchId) (within : switch.0 < length s.kinds) where
  pub view-in_kinds : switch.0 < length kinds
  view-in_kinds = let count = ap (λ (t : SwitchesView). length t.kinds) is in omega (arith, within)

  pub view-in_states : IsComplete (lists_view kinds states) → switch.0 < length states
  view-in_states complete = let same = complete.states
      in omega (arith, same, view-in_kinds, length-map states state_view)

-- ---- one state is set

pub complete-set : (kinds : List SwitchKind) (states : List State) (i : ℕ) (new : State)
    → IsComplete (lists_view kinds states) → IsComplete (lists_view kinds (slice_set states i new))
complete-set kinds states i new complete = search (rules, length-map, slice_set, length-set)

-- a test whether two moments differ
pub same-moment : (a b : Option ℕ) (differ : Bool) → differ ≡ not (option_eq nat_eq a b) → differ ≡ false → a ≡ b
same-moment a b differ is not_true = search rules

then_some-is : (b c : Bool) (x y : Change) → b ≡ c → x ≡ y → then_some b x ≡ then_some c y
then_some-is b c x y test is = ap₂ then_some test is

then_some-cond : (b : Bool) (x : Change) → then_some b x ≡ (if b then Some x else None)
then_some-cond b x = search rules

module _ (kinds : List SwitchKind) (states : List State) (switch : SwitchId) (kind : SwitchKind) (old new : State)
    (in_kinds : switch.0 < length kinds) (in_states : switch.0 < length states)
    (kind_is : kind ≡ slice_index_or kinds switch.0 kind) (old_is : old ≡ slice_index_or states switch.0 old) where
  read-kind : kind_at (lists_view kinds states) switch ≡ kind
  read-kind = sym (get_or_read kinds switch.0 kind in_kinds kind_is no_kind)

  read-state : state_at (lists_view kinds states) switch ≡ state_view old
  read-state = get_or-map state_view states switch.0 old (idle no_kind) in_states ∙ ap state_view (sym old_is)

  module _ (make : SwitchKind → SwitchState → SwitchState) (made : state_view new ≡ make kind (state_view old)) where
    makes : make (kind_at (lists_view kinds states) switch) (state_at (lists_view kinds states) switch) ≡ state_view new
    makes = ap₂ make read-kind read-state ∙ sym made

    set-made : lists_view kinds (slice_set states switch.0 new)
        ≡ set_state switch (make (kind_at (lists_view kinds states) switch) (state_at (lists_view kinds states) switch))
        (lists_view kinds states)
    set-made = search (rules, slice_set, map-set, makes)

    reported-made : report_change (set_state switch
        (make (kind_at (lists_view kinds states) switch) (state_at (lists_view kinds states) switch))
        (lists_view kinds states)) switch ≡ record { switch = switch; active = new.active }
    reported-made = search (rules, length-map, slice_index_or, slice_set, get_or-set_same, makes)

  -- what is due next is the same, if the new state is due as the old one was
  pub set-next : new.due ≡ old.due → next_due (lists_view kinds (slice_set states switch.0 new))
      ≡ next_due (lists_view kinds states)
  set-next same =
      let s = lists_view kinds states in
      let kept = due-kept s switch (state_view new) (same ∙ sym (ap (λ (x : SwitchState). x.due) read-state)) in
      ap next_due (set-made (λ k x. state_view new) refl) ∙ next_due-same s (set_state switch (state_view new) s) kept

  -- the switch waits as the old state says
  module _ (next : Option (ℕ × SwitchId)) (waiting : Vec (ℕ × SwitchId) Global)
      (kept : IsKept next waiting (lists_view kinds states)) where
    pub kept-waits : IsWaiting switch old.due (map state_view states) waiting.items
    kept-waits = search (rules, length-map, read-state)

    set_views : slice_set (map state_view states) switch.0 (state_view new)
        ≡ map state_view (slice_set states switch.0 new)
    set_views = sym (map-set state_view states switch.0 new)

    set_room : length (map state_view (slice_set states switch.0 new)) ≤ vec_capacity waiting
    set_room = search (rules, length-map, slice_set, length-set)

    -- the due moment is set
    pub kept-set : (new_next : Option (ℕ × SwitchId)) (after : Vec (ℕ × SwitchId) Global)
        → ((xs : List SwitchState) (x : SwitchState) → IsWaiting switch old.due xs waiting.items → x.due ≡ new.due
        → after.items ≡ waiting_from 0 (slice_set xs switch.0 x))
        → vec_capacity waiting ≤ vec_capacity after → new_next ≡ soonest after.items
        → IsKept new_next after (lists_view kinds (slice_set states switch.0 new))
    kept-set new_next after set grown is =
        search (rules, slice_set, kept-waits, set_views, complete-set, soonest-is, set_room)

    -- or stays the same
    pub kept-same : new.due ≡ old.due → IsKept next waiting (lists_view kinds (slice_set states switch.0 new))
    kept-same same = search (rules, complete-set, set-next, waiting-was, kept-waits, waiting-set, set_views, set_room)

  -- a change
  pub change-set : (level : Bool) (now : ℕ) → state_view new ≡ change_level kind now level (state_view old)
      → lists_view kinds (slice_set states switch.0 new) ≡ after_change switch level now (lists_view kinds states)
  change-set level now made = set-made (λ k x. change_level k now level x) made

  pub change-answer : (level : Bool) (now : ℕ) (taken : Bool)
      → state_view new ≡ change_level kind now level (state_view old) → taken ≡ is_taken kind level (state_view old)
      → then_some taken (record { switch = switch; active = new.active })
      ≡ reported_by_change switch level now (lists_view kinds states)
  change-answer level now taken made test =
      let s = lists_view kinds states in
      let reported_is = reported-made (λ k x. change_level k now level x) made in
      let test_is : taken ≡ is_taken (kind_at s switch) level (state_at s switch) = test
      ∙ sym (ap₂ (λ k x. is_taken k level x) read-kind read-state) in
      then_some-is taken (is_taken (kind_at s switch) level (state_at s switch))
      (record { switch = switch; active = new.active }) (report_change (after_change switch level now s) switch)
      test_is (sym reported_is)
      ∙ then_some-cond (is_taken (kind_at s switch) level (state_at s switch))
      (report_change (after_change switch level now s) switch)

  -- what is due next is accepted
  module _ (at : ℕ) (next : next_due (lists_view kinds states) ≡ Some (at, switch))
      (made : state_view new ≡ fire_change kind (state_view old)) where
    fires : after_fire (lists_view kinds states) ≡ accept switch (lists_view kinds states)
    fires = ap (λ d. accept_due d (lists_view kinds states)) next

    pub fire-answer : reported_by_fire (lists_view kinds states)
        ≡ Some (record { switch = switch; active = new.active })
    fire-answer =
        let s = lists_view kinds states in
        ap (option_map (λ d. report_change (after_fire s) d.1)) next
        ∙ ap (λ (t : SwitchesView). Some (report_change t switch)) fires
        ∙ ap (λ (a : Change). Some a) (reported-made (λ k x. fire_change k x) made)

    pub fire-set : lists_view kinds (slice_set states switch.0 new) ≡ after_fire (lists_view kinds states)
    fire-set = set-made (λ k x. fire_change k x) made ∙ sym fires
