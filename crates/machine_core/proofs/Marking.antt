-- The events of a plan are marked one by one as idle.
use Rattle.std.proofs.Common.{◌≡◌, ℕ, zero, suc, ◌+◌, ◌-◌, Bool, true, false, List, [], ◌∷◌, ◌++◌, length, get_or}
use Rattle.std.proofs.Common.{inl, inr, sym, ◌∙◌, subst, arith}
use Rattle.std.proofs.lemmas.{Bool.{cases_lt, false≢true}, List.{get_or_append_left, get_or-append_right}}
use Rattle.plan_tables.specs.PlanView.{PlanView}
use Rattle.machine_core.specs.Idle.{AreIdle, IsIdle}

module _ (plan : PlanView) where
  -- the next event is marked or not
  pub one-marked : (marks : List Bool) (n : ℕ) (mark : Bool) → length marks ≡ n → AreIdle plan marks
      → (mark ≡ true → IsIdle plan (record { 0 = n })) → AreIdle plan (marks ++ mark ∷ [])
  one-marked marks n mark count before here e marked =
      elim (cases_lt e.0 n) [
        | inl lt ↦ before e (sym (get_or_append_left marks (mark ∷ []) false e.0 (omega (arith, count, lt))) ∙ marked)
        | inr ge ↦ by (e.0 - n) (omega (arith, ge))
            (sym (get_or-append_right marks (mark ∷ []) n e.0 false count ge) ∙ marked)
      ]
    where
      by : (k : ℕ) → n + k ≡ e.0 → get_or (mark ∷ []) k false ≡ true → IsIdle plan e
      by zero is marked = subst (λ (m : ℕ). IsIdle plan (record { 0 = m })) (omega (arith, is)) (here marked)
      by (suc k) is marked = absurd (false≢true marked)
