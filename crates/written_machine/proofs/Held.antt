-- Who holds coils, after they are asked and after they are released.
use Rattle.std.proofs.Common.{rules, ◌≡◌, ℕ, zero, suc, ◌≤◌, ◌⊎◌, inl, inr, true, false, List, [], ◌∷◌, length, refl}
use Rattle.std.{proofs.{Common.{sym, ap, arith}, lemmas.Bool.{cases_eq, cases_lt}}, specs.Prelude.Contains}
use Rattle.std.proofs.lemmas.List.{length-map, get_or-map, get_or_past, get_or-set_other, set_past}
use Rattle.std.proofs.lemmas.List.FromFn.{length-map-range_with_len, get_or-map-range_with_len}
use Rattle.plan_tables.specs.{PlanView.{PlanView, coil_numbers}, declared.entries.{CoilId.CoilId, Owner.Owner}}
use Rattle.plan_tables.proofs.Owners.{is_owner-same}
use Rattle.coil_guard.specs.declared.{command.Command.Command, state.CoilState.CoilState}
use Rattle.coil_guard.specs.{Limits.no_limits, Coils.{all_off, coil_at}}
use Rattle.coil_guard.specs.{CoilStep.{off, is_held_by, is_on_at}, Asked.{limits_of, after_asking}}
use Rattle.written_machine.specs.Machine.{Machine, all_do, release_coil, release_coils}

-- the owner holds the coil
abbrev pub IsHolding : Owner → List CoilState → CoilId → Type 0
IsHolding owner coils coil = is_held_by owner (coil_at coils coil) ≡ true

abbrev pub IsNotHolding : Owner → List CoilState → CoilId → Type 0
IsNotHolding owner coils coil = is_held_by owner (coil_at coils coil) ≡ false

-- a coil that there is not is not held
pub past-not : (owner : Owner) (coils : List CoilState) (coil : CoilId) → length coils ≤ coil.0
    → IsNotHolding owner coils coil
past-not owner coils coil past = ap (is_held_by owner) (get_or_past coils coil.0 (off no_limits) past)

-- at first no coil is held
pub off-not : (plan : PlanView) (owner : Owner) (coil : CoilId) → IsNotHolding owner (all_off (limits_of plan)) coil
off-not plan owner coil =
    elim (cases_lt coil.0 (length (limits_of plan))) [
      | inl within ↦ ap (is_held_by owner) (get_or-map off (limits_of plan) coil.0 no_limits (off no_limits) within)
      | inr past ↦ let count = length-map (limits_of plan) off
          in past-not owner (all_off (limits_of plan)) coil (omega (arith, past, count))
    ]

-- ---- a coil is asked

pub asked-count : (owner : Owner) (command : Command) (now : ℕ) (coils : List CoilState)
    → length (after_asking command owner now coils) ≡ length coils
asked-count owner command now coils = search rules

-- who holds a coil then held it before, or has asked
pub asked-held : (owner : Owner) (command : Command) (now : ℕ) (coils : List CoilState) (o : Owner) (c : CoilId)
    → IsHolding o (after_asking command owner now coils) c → (owner ≡ o) ⊎ IsHolding o coils c
asked-held owner command now coils o c = search (rules, cases_lt, cases_eq, get_or-set_other, set_past, is_owner-same)

-- ---- coils are released

-- a coil that is held is on
pub held-on : (owner : Owner) (now : ℕ) (x : CoilState) → is_held_by owner x ≡ true → is_on_at now x ≡ true
held-on owner now x is = search rules

module _ (owner : Owner) where
  -- a coil that it holds is let go, and others stay
  released-one : (c : CoilId) (s : Machine) (coil : CoilId) → (coil.0 ≡ c.0) ⊎ IsNotHolding owner s.coils coil
      → IsNotHolding owner (release_coil owner c s).coils coil
  released-one c s coil free = search (rules, cases_eq, get_or-set_other, held-on, cases_lt, past-not)

  released-all : (cs : List CoilId) (s : Machine) (coil : CoilId) → Contains cs coil ⊎ IsNotHolding owner s.coils coil
      → IsNotHolding owner (all_do (release_coil owner) cs s).coils coil
  released-all [] s coil (inl (i, within, is)) = absurd (omega arith)
  released-all [] s coil (inr not) = not
  released-all (c ∷ cs) s coil free = released-all cs (release_coil owner c s) coil (by free)
    where
      by : Contains (c ∷ cs) coil ⊎ IsNotHolding owner s.coils coil
          → Contains cs coil ⊎ IsNotHolding owner (release_coil owner c s).coils coil
      by (inl (zero, within, is)) = inr (released-one c s coil (inl (sym (ap (λ (y : CoilId). y.0) is))))
      by (inl (suc i, within, is)) = inl (i, omega arith, is)
      by (inr not) = inr (released-one c s coil (inr not))

  released-count : (cs : List CoilId) (s : Machine) → length (all_do (release_coil owner) cs s).coils ≡ length s.coils
  released-count [] s = refl
  released-count (c ∷ cs) s = search (rules, asked-count, released-count cs (release_coil owner c s))

  -- then it holds none
  pub released-none : (plan : PlanView) (s : Machine) → length s.coils ≡ length plan.coils → (coil : CoilId)
      → IsNotHolding owner (release_coils plan owner s).coils coil
  released-none plan s count coil =
      elim (cases_lt coil.0 (length plan.coils)) [
        | inl there ↦ released-all (coil_numbers plan) s coil (inl (
          coil.0,
          omega (arith, there, length-map-range_with_len {X = CoilId} (λ n. record { 0 = n }) 0 (length plan.coils)),
          get_or-map-range_with_len (λ n. record { 0 = n }) 0 (length plan.coils) coil.0 coil.0 coil there
              (omega arith),
        ))
        | inr past ↦ past-not owner (release_coils plan owner s).coils coil
            (omega (arith, past, count, released-count (coil_numbers plan) s))
      ]
