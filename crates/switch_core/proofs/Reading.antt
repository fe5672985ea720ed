-- What the state of a switch says of its raw level: it was accepted, or is due and says the other level than that which
-- was accepted last. So each level that is accepted is another one than before.
use Rattle.std.proofs.Common.{rules, ◌≡◌, ◌≢◌, ℕ, ◌<◌, Bool, true, false, not, Some, length, refl, sym, ap, subst, ◌∙◌}
use Rattle.std.proofs.{Common.{inl, inr}, lemmas.Bool.{cases_lt, cases_eq}}
use Rattle.plan_tables.specs.{declared.entries.{SwitchId.SwitchId, SwitchKind.SwitchKind}, PlanView.PlanView}
use Rattle.switch_core.specs.SwitchStep.{SwitchState, change_level, is_taken, fire_change}
use Rattle.switch_core.specs.Switches.{SwitchesView, kind_at, state_at, active_at, set_state, due_of, all_idle}
use Rattle.switch_core.specs.Switches.{after_change, accept, IsRead, AreRead}
use Rattle.switch_core.proofs.DueMoments.{state-other, state-same, set-past, idle-kind, idle-state}

-- ---- one switch

-- a change that is not accepted at once changes no level
untaken-same : (kind : SwitchKind) (now : ℕ) (level : Bool) (x : SwitchState) → is_taken kind level x ≡ false
    → (change_level kind now level x).active ≡ x.active
untaken-same kind now level x is = search rules

-- ---- all switches

pub idle-all_read : (plan : PlanView) → AreRead (all_idle plan)
idle-all_read plan n = search (rules, idle-kind, idle-state)

pub idle-inactive : (plan : PlanView) (n : SwitchId) → active_at (all_idle plan) n ≡ false
idle-inactive plan n = ap (λ (x : SwitchState). x.active) (idle-state plan n)

module _ (s : SwitchesView) (set : SwitchId) (x : SwitchState) where
  set-read : IsRead (kind_at s set) x → AreRead s → AreRead (set_state set x s)
  set-read new h n =
      elim (cases_eq n.0 set.0) [
        | inr other ↦ subst (IsRead (kind_at s n)) (sym (state-other s set x n other)) (h n)
        | inl same ↦
            let id : set ≡ n = ap (λ (k : ℕ). record { 0 = k }) (sym same) in
            subst (λ (m : SwitchId). IsRead (kind_at s m) (state_at (set_state set x s) m)) id
            (elim (cases_lt set.0 (length s.states)) [
              | inl there ↦ subst (IsRead (kind_at s set)) (sym (state-same s set x there)) new
              | inr past ↦ subst (λ (v : SwitchesView). IsRead (kind_at s set) (state_at v set))
                  (sym (set-past s set x past)) (h set)
            ])
      ]

  pub active-other : (n : SwitchId) → n.0 ≢ set.0 → active_at (set_state set x s) n ≡ active_at s n
  active-other n other = ap (λ (y : SwitchState). y.active) (state-other s set x n other)

module _ (s : SwitchesView) (n : SwitchId) where
  pub change-read : (level : Bool) (now : ℕ) → AreRead s → AreRead (after_change n level now s)
  change-read level now h = search (rules, set-read)

  pub accept-read : AreRead s → AreRead (accept n s)
  accept-read h = set-read s n (fire_change (kind_at s n) (state_at s n)) refl h

  -- a level that is accepted at once, or that was due, is another one than before
  pub change-other_level : (level : Bool) (now : ℕ) → AreRead s → n.0 < length s.states
      → is_taken (kind_at s n) level (state_at s n) ≡ true
      → active_at (after_change n level now s) n ≡ not (active_at s n)
  change-other_level level now h within is = search rules

  pub accept-other_level : (at : ℕ) → AreRead s → n.0 < length s.states → due_of s n ≡ Some at
      → active_at (accept n s) n ≡ not (active_at s n)
  accept-other_level at h within due = search rules

  -- if a change is not accepted at once, all levels are as before
  pub change-same_levels : (level : Bool) (now : ℕ) → is_taken (kind_at s n) level (state_at s n) ≡ false
      → (m : SwitchId)
      → active_at (after_change n level now s) m ≡ active_at s m
  change-same_levels level now is m =
      elim (cases_eq m.0 n.0) [
        | inr other ↦ active-other s n (change_level (kind_at s n) now level (state_at s n)) m other
        | inl same ↦
            let id : n ≡ m = ap (λ (k : ℕ). record { 0 = k }) (sym same) in
            subst (λ (k : SwitchId). active_at (after_change n level now s) k ≡ active_at s k) id
            (elim (cases_lt n.0 (length s.states)) [
              | inl there ↦
                  ap (λ (y : SwitchState). y.active)
                  (state-same s n (change_level (kind_at s n) now level (state_at s n)) there)
                  ∙ untaken-same (kind_at s n) now level (state_at s n) is
              | inr past ↦ ap (λ (v : SwitchesView). active_at v n)
                  (set-past s n (change_level (kind_at s n) now level (state_at s n)) past)
            ])
      ]
