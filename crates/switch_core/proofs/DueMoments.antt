-- What each call does with the due moments: a change arms its own switch alone, and later than its moment; what is
-- accepted is not due any more.
use Rattle.std.proofs.Common.{rules, ◌≡◌, ◌≢◌, ℕ, ◌<◌, ◌≤◌, ◌⊎◌, Bool, Some, None, List, length, map, slice_set}
use Rattle.std.proofs.Common.{slice_index_or, refl, ap, sym, subst, inl, inr}
use Rattle.std.proofs.{lemmas.{Bool.{cases_lt, cases_eq}, Option.none-some}, Math.ListN.get_or-map}
use Rattle.std.proofs.lemmas.List.{get_or-set_same, get_or-set_other, get_or_past, set_past}
use Rattle.plan_tables.specs.declared.entries.{SwitchId.SwitchId, SwitchKind.SwitchKind}
use Rattle.plan_tables.specs.PlanView.{PlanView, PlanSwitch, no_switch, switch_at}
use Rattle.switch_core.specs.{SwitchStep.{SwitchState, idle, change_level, fire_change}, Calls.ChangesArmLater}
use Rattle.switch_core.specs.Switches.{SwitchesView, no_kind, kind_at, state_at, set_state, due_of, all_idle}
use Rattle.switch_core.specs.Switches.{after_change, IsNextDue, IsNothingDue, accept, accept_due, after_fire}
use Rattle.switch_core.proofs.NextDue.{next_due-is}

-- ---- the state of a switch is set

module _ (s : SwitchesView) (set : SwitchId) (x : SwitchState) where
  -- the other switches stay as they were
  pub state-other : (n : SwitchId) → n.0 ≢ set.0 → state_at (set_state set x s) n ≡ state_at s n
  state-other n other = get_or-set_other s.states set.0 n.0 x (idle no_kind) other

  pub due-other : (n : SwitchId) → n.0 ≢ set.0 → due_of (set_state set x s) n ≡ due_of s n
  due-other n other = ap (λ (y : SwitchState). y.due) (state-other n other)

  pub state-same : set.0 < length s.states → state_at (set_state set x s) set ≡ x
  state-same within = get_or-set_same s.states set.0 x (idle no_kind) within

  -- a number that no switch has changes nothing
  pub set-past : length s.states ≤ set.0 → set_state set x s ≡ s
  set-past past = search (rules, set_past)

  -- a due moment is an old one, or that of the new state
  pub due-set : (n : SwitchId) (at : ℕ) → due_of (set_state set x s) n ≡ Some at
      → (due_of s n ≡ Some at) ⊎ ((n.0 ≡ set.0) × (x.due ≡ Some at))
  due-set n at is = search (rules, cases_eq, due-other, cases_lt, slice_index_or, slice_set, state-same, set-past)

  -- it is not due if the new state is not
  pub due-none : x.due ≡ None → due_of (set_state set x s) set ≡ None
  due-none none = search (rules, cases_lt, state-same, set-past, get_or_past)

  -- if the new state is due as the old one was, all are
  pub due-kept : x.due ≡ due_of s set → (n : SwitchId) → due_of (set_state set x s) n ≡ due_of s n
  due-kept kept n = search (rules, cases_eq, due-other, cases_lt, slice_index_or, slice_set, state-same, set-past)

pub idle-kind : (plan : PlanView) (n : SwitchId) → kind_at (all_idle plan) n ≡ (switch_at plan n).kind
idle-kind plan n = get_or-map (λ (s : PlanSwitch). s.kind) plan.switches n.0 no_switch

pub idle-state : (plan : PlanView) (n : SwitchId) → state_at (all_idle plan) n ≡ idle (switch_at plan n).kind
idle-state plan n = get_or-map (λ (s : PlanSwitch). idle s.kind) plan.switches n.0 no_switch

pub idle_list-nothing_due : (kinds : List SwitchKind) (switches : List PlanSwitch)
    → IsNothingDue (record { kinds = kinds; states = map (λ s. idle s.kind) switches })
idle_list-nothing_due kinds switches n = ap (λ (x : SwitchState). x.due)
    (get_or-map (λ (s : PlanSwitch). idle s.kind) switches n.0 no_switch)

pub idle-nothing_due : (plan : PlanView) → IsNothingDue (all_idle plan)
idle-nothing_due plan n = idle_list-nothing_due (all_idle plan).kinds plan.switches n

-- ---- a change

changed-due : (kind : SwitchKind) (now due : ℕ) (level : Bool) (x : SwitchState)
    → (change_level kind now level x).due ≡ Some due → (x.due ≡ Some due) ⊎ (now < due)
changed-due kind now due level x = search rules

pub changes_arm_later : ChangesArmLater
changes_arm_later switch level now s other due is =
    elim (due-set s switch (change_level (kind_at s switch) now level (state_at s switch)) other due is) [
      | inl old ↦ inl old
      | inr new ↦
          elim (changed-due (kind_at s switch) now due level (state_at s switch) new.1) [
            | inl old ↦ inl (subst (λ (n : ℕ). (slice_index_or s.states n (idle no_kind)).due ≡ Some due) (sym new.0)
                old)
            | inr later ↦ inr later
          ]
    ]

module _ (switch : SwitchId) (level : Bool) (now : ℕ) (s : SwitchesView) where
  pub change-other : (n : SwitchId) → n.0 ≢ switch.0 → due_of (after_change switch level now s) n ≡ due_of s n
  change-other n = due-other s switch (change_level (kind_at s switch) now level (state_at s switch)) n

-- ---- what is due is accepted

module _ (switch : SwitchId) (s : SwitchesView) where
  pub accept-done : due_of (accept switch s) switch ≡ None
  accept-done = due-none s switch (fire_change (kind_at s switch) (state_at s switch)) refl

  -- nothing is due then that was not before
  pub accept-due : (n : SwitchId) (due : ℕ) → due_of (accept switch s) n ≡ Some due → due_of s n ≡ Some due
  accept-due n due is = search (rules, due-set, none-some)

  module _ (at : ℕ) (next : IsNextDue s at switch) where
    -- it is what a fire accepts and reports
    pub fire-accepts : after_fire s ≡ accept switch s
    fire-accepts = ap (λ d. accept_due d s) (next_due-is s at switch next)
