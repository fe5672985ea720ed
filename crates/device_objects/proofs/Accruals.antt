-- Accruals are lawful.
use Rattle.std.proofs.Common.{rules, ◌≡◌, ℕ, zero, suc, nat_lt, ◌<◌, ◌≤◌, Bool, true, false, ◌&&◌, Some, List, []}
use Rattle.std.proofs.Common.{◌∷◌, ◌++◌, length, replicate, take, slice_get, slice_set, refl, sym, ap, ◌∙◌, arith}
use Rattle.std.{specs.List.{All, list_all}, proofs.lemmas.Bool.{and_from, and_parts, false≢true, ltb-true, true≢false}}
use Rattle.std.proofs.lemmas.List.{length-set, set-set, take-replicate, Elements.{All-nil, All-cons, All-append}}
use Rattle.plan_tables.specs.declared.devices.{Act.Act, Settings.TheVariants.Accrual}
use Rattle.plan_tables.specs.Devices.{IsWithinLimits, list_count}
use Rattle.plan_tables.specs.declared.devices.Act.TheVariants as acts
use Rattle.machine_settings.specs.declared.settings.StepSettings.{StepSettings}
use Rattle.device_objects.specs.{declared.state.AccrualSlot.AccrualSlot, Outcomes.only_if, Accrual.step_once}
use Rattle.device_objects.specs.{Blocks.{completing, going_on}, Kinds.moments_of, Laws.IsLawful}
use Rattle.device_objects.specs.Accrual.{HasMarks, accrual_slots, accruals, are_all_done, after_completion, is_open}
use Rattle.device_objects.specs.Accrual.{enable, is_step_open, none_done, of_accrual, reset, slot_step, slots}
use Rattle.device_objects.proofs.Among.{In, here, there, at_last, if_holds, either, one, all_if, if_true, if_false}
use Rattle.device_objects.proofs.BlockLaws.{block-in, nobody-in, by_slot, block-comes}
use Rattle.device_objects.proofs.{SlotLaws.{Comes, slotted-lawful}, Replicas.slice_get-replicate}
use Rattle.device_objects.proofs.Replicas.{nat_lt-not_zero, not_below_one, one_below, set-replicate}
use Rattle.device_objects.specs.declared.state.DeviceState.TheVariants as states

-- ---- marks

-- if there is but one step, it completes the accrual
alone : (steps i : ℕ) (done : List Bool) → nat_lt i steps ≡ true → nat_lt 1 steps ≡ false
    → is_open (slice_get done i) ≡ true
    → list_all (λ d. d) (take steps (slice_set done i true)) ≡ true
alone zero i done within one opens = absurd (nat_lt-not_zero i within)
alone (suc zero) zero [] within one opens = absurd (false≢true opens)
alone (suc zero) zero (d ∷ done) within one opens = refl
alone (suc zero) (suc i) done within one opens = absurd (not_below_one i within)
alone (suc (suc n)) i done within one opens = absurd (one_below n one)

goes_on-in : (several : Bool) → (several ≡ false → ⊥) → In going_on (only_if several (going_on ∷ []) ++ completing ∷ [])
goes_on-in true is = here
goes_on-in false is = absurd (is refl)

all_set : (n : ℕ) → list_all (λ d. d) (replicate n true) ≡ true
all_set zero = refl
all_set (suc n) = all_set n

hole_at : (n i : ℕ) → i < n → slice_get (slice_set (replicate n true) i false) i ≡ Some false
hole_at zero i below = absurd (omega (arith, below))
hole_at (suc n) zero below = refl
hole_at (suc n) (suc i) below = hole_at n i (omega (arith, below))

some_left : (steps i : ℕ) → nat_lt 1 steps ≡ true → list_all (λ d. d) (take steps (slice_set none_done i true)) ≡ false
some_left (suc (suc n)) zero several = refl
some_left (suc (suc n)) (suc i) several = refl
some_left _ i several = absurd (false≢true several)

module _ (a : StepSettings) where
  -- ---- answers

  step-in : (i : ℕ) (slot : AccrualSlot) → nat_lt i a.steps ≡ true → is_open (slice_get slot.done i) ≡ true
      → In (step_once a (record slot { done = slice_set slot.done i true })).1 (of_accrual a (acts.Step i))
  step-in i slot within opens =
      let next : AccrualSlot = record slot { done = slice_set slot.done i true } in
      there (if_holds (nat_lt i a.steps) within
      (either (are_all_done a next.done) (after_completion a next, completing) (next, going_on)
      (λ all. at_last (only_if (nat_lt 1 a.steps) (going_on ∷ [])))
      (λ some. goes_on-in (nat_lt 1 a.steps)
      (λ one. true≢false (sym (alone a.steps i slot.done within one opens) ∙ some)))))

  answer-in : (act : Act) (now : ℕ) (slot : AccrualSlot) → In (slot_step a act slot).1 (of_accrual a act)
  answer-in (acts.Step i) now slot =
      either (slot.enabled && is_step_open a i slot.done)
      (step_once a (record slot { done = slice_set slot.done i true })) (slot, [])
      (λ is. let parts = and_parts slot.enabled (is_step_open a i slot.done) is in
      let at = and_parts (nat_lt i a.steps) (is_open (slice_get slot.done i)) parts.1 in
      step-in i slot at.0 at.1)
      (λ not. here)
  answer-in act now slot = block-in enable reset a.block act slot

  none-in : (act : Act) → a.block.persist ≡ true → In [] (of_accrual a act)
  none-in (acts.Step i) is = here
  none-in act is = nobody-in a.block act is

  -- ---- each comes about

  abbrev slot_with : Bool → List Bool → AccrualSlot
  slot_with enabled done = record { game = 0; enabled = enabled; done = done }

  answered : (act : Act) (lists : List ℕ) (enabled : Bool) (done : List Bool) → length done ≡ 16
      → (slot_step a act (slot_with enabled done)).1 ≡ lists → Comes (slots a) act lists
  answered act lists enabled done marks answers = by_slot (slots a) act lists (slot_with enabled done) marks answers

  opens_at : (i : ℕ) (done : List Bool) → nat_lt i a.steps ≡ true → slice_get done i ≡ Some false
      → is_step_open a i done ≡ true
  opens_at i done below at = and_from (nat_lt i a.steps) (is_open (slice_get done i)) below (ap is_open at)

  goes_on : (i : ℕ) → a.steps ≤ 16 → nat_lt i a.steps ≡ true → nat_lt 1 a.steps ≡ true
      → Comes (slots a) (acts.Step i) going_on
  goes_on i within below several =
      let small : i < a.steps = ltb-true i a.steps below in
      let next : AccrualSlot = slot_with true (slice_set none_done i true) in
      answered (acts.Step i) going_on true none_done refl
      (if_true (is_step_open a i none_done) (step_once a next) (slot_with true none_done, [])
      (opens_at i none_done below (slice_get-replicate 16 i false (omega (arith, small, within))))
      ∙ if_false (are_all_done a next.done) (after_completion a next, completing) (next, going_on)
      (some_left a.steps i several))

  completes : (i : ℕ) → a.steps ≤ 16 → nat_lt i a.steps ≡ true → Comes (slots a) (acts.Step i) completing
  completes i within below =
      let small : i < a.steps = ltb-true i a.steps below in
      let done : List Bool = slice_set (replicate 16 true) i false in
      let next : AccrualSlot = slot_with true (slice_set done i true) in
      answered (acts.Step i) completing true done (length-set (replicate 16 true) i false)
      (if_true (is_step_open a i done) (step_once a next) (slot_with true done, [])
      (opens_at i done below (hole_at 16 i (omega (arith, small, within))))
      ∙ if_true (are_all_done a next.done) (after_completion a next, completing) (next, going_on)
      (ap (λ marks. list_all (λ d. d) (take a.steps marks))
      (set-set (replicate 16 true) i false true ∙ set-replicate 16 i true)
      ∙ ap (list_all (λ d. d)) (take-replicate a.steps 16 true within) ∙ all_set a.steps))

  come : a.steps ≤ 16 → (act : Act) → All (Comes (slots a) act) (of_accrual a act)
  come within (acts.Step i) =
      let Answer : List ℕ → Type 0 = Comes (slots a) (acts.Step i) in
      All-cons Answer [] (only_if (nat_lt i a.steps) (only_if (nat_lt 1 a.steps) (going_on ∷ []) ++ completing ∷ []))
      (answered (acts.Step i) [] false none_done refl refl)
      (all_if Answer (nat_lt i a.steps) (only_if (nat_lt 1 a.steps) (going_on ∷ []) ++ completing ∷ [])
      (λ below. All-append Answer (only_if (nat_lt 1 a.steps) (going_on ∷ [])) (completing ∷ [])
      (all_if Answer (nat_lt 1 a.steps) (going_on ∷ [])
      (λ several. one Answer going_on (goes_on i within below several)))
      (one Answer completing (completes i within below))))
  come within act = block-comes (slots a) a.block refl enable reset (slot_with true none_done) refl act refl

  -- ---- the law

  keeps-marks : (act : Act) (now : ℕ) (slot : AccrualSlot) → HasMarks slot → HasMarks (slot_step a act slot).0
  keeps-marks act now slot marks = search rules

  pub accruals-lawful : IsLawful (accruals a) moments_of (IsWithinLimits (Accrual a)) (list_count (Accrual a))
  accruals-lawful =
      slotted-lawful states.Accrual accrual_slots (slots a) (IsWithinLimits (Accrual a)) 3 (λ held. refl)
      (λ state held is. search rules) (λ held. refl) (λ game. refl) keeps-marks answer-in none-in come
      (λ act. search rules) (λ act. search (rules, All-nil, All-cons, All-append))
