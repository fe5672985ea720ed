-- The first coils, of which an owner holds none, while other coils are sent commands.
use Rattle.std.proofs.Common.{◌≡◌, ◌≢◌, ℕ, ◌+◌, ◌<◌, ◌≤◌, false, Some, None, List, length, ap, sym, subst, ◌∙◌, inl}
use Rattle.std.proofs.{Common.{inr, arith}, lemmas.{Bool.cases_eq, List.{get_or-set_same, get_or-set_other}}}
use Rattle.plan_tables.specs.declared.entries.{CoilId.CoilId, Owner.Owner}
use Rattle.coil_guard.specs.{declared.state.CoilState.CoilState, Lowest.IsLowest, Limits.no_limits}
use Rattle.coil_guard.specs.{GuardState.HoldsNone, CoilStep.{is_held_by, off}, Coils.{coil_at, set_coil, next_held}}
use Rattle.coil_guard.proofs.Lowest.{lowest-is, none-below, none-from}

module _ (owner : Owner) (s : List CoilState) (c : CoilId) (x : CoilState) (there : c.0 < length s) where
  changed : (n : ℕ) → ((coil : CoilId) → coil.0 < n → coil.0 ≢ c.0 → is_held_by owner (coil_at s coil) ≡ false)
      → (c.0 < n → is_held_by owner x ≡ false) → HoldsNone owner (set_coil c x s) n
  changed n others here = none-from (λ coil. is_held_by owner (coil_at (set_coil c x s) coil)) n (λ coil within.
      elim (cases_eq coil.0 c.0) [
        | inl same ↦
            ap (λ (d : CoilId). is_held_by owner (coil_at (set_coil c x s) d)) (ap (λ k. record { 0 = k }) same)
            ∙ ap (is_held_by owner) (get_or-set_same s c.0 x (off no_limits) there) ∙ here (omega (arith, same, within))
        | inr other ↦ ap (is_held_by owner) (get_or-set_other s c.0 coil.0 x (off no_limits) other)
            ∙ others coil within other
      ])

  -- the owner does not hold a coil that is sent a command, or it is not one of the first
  pub still-none : (n m : ℕ) → m ≤ n → HoldsNone owner s n → (c.0 < m → is_held_by owner x ≡ false)
      → HoldsNone owner (set_coil c x s) m
  still-none n m fewer none here = changed m
      (λ coil within other. none-below (λ d. is_held_by owner (coil_at s d)) n none coil (omega arith)) here

  -- the lowest that the owner held is put off
  pub none-after : Some c ≡ next_held owner s → is_held_by owner x ≡ false → HoldsNone owner (set_coil c x s) (c.0 + 1)
  none-after is put_off =
      let lowest : IsLowest (λ d. is_held_by owner (coil_at s d)) (length s) (Some c) =
      subst (IsLowest (λ d. is_held_by owner (coil_at s d)) (length s)) (sym is)
      (lowest-is (λ d. is_held_by owner (coil_at s d)) (length s)) in
      changed (c.0 + 1) (λ coil within other. lowest.2 coil (omega arith)) (λ within. put_off)
