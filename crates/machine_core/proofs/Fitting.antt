-- Which devices are those of a plan.
use Rattle.std.proofs.Common.{◌≡◌, ℕ, suc, ◌<◌, ◌≤◌, inl, inr, Some, None, List, [], ◌∷◌, length, map, replicate}
use Rattle.std.{proofs.Common.{get_or, refl, ap, sym, ◌∙◌, arith}, specs.Prelude.slice_get}
use Rattle.std.proofs.lemmas.{Bool.cases_lt, List.{get_or-map, length-map}}
use Rattle.std.proofs.lemmas.Option.{slice_get-get_or, slice_get_within, same_Some}
use Rattle.plan_tables.specs.{PlanView.{PlanView, no_row, row_at}, declared.devices.DeviceRow.DeviceRow}
use Rattle.device_objects.specs.{declared.state.DeviceState.DeviceState, DeviceStep.{due_of, first_state}}
use Rattle.device_objects.proofs.Lawful.{nothing_is_due}
use Rattle.machine_core.specs.Fit.{IsRight, IsFit, IsFirstWrong}

-- lists with the same items are the same
same-items : {X : Type 0} (xs ys : List X) → length xs ≡ length ys
    → ((i : ℕ) → i < length ys → slice_get xs i ≡ slice_get ys i) → xs ≡ ys
same-items [] [] count each = refl
same-items [] (y ∷ ys) count each = absurd (omega (arith, count))
same-items (x ∷ xs) [] count each = absurd (omega (arith, count))
same-items (x ∷ xs) (y ∷ ys) count each =
    let first : x ≡ y = same_Some x y (each 0 (omega arith)) in
    let rest : xs ≡ ys = same-items xs ys (omega (arith, count)) (λ i within. each (suc i) (omega (arith, within))) in
    λ i. first i ∷ rest i

-- the first state of each row
abbrev firsts : PlanView → List DeviceState
firsts plan = map (λ (r : DeviceRow). first_state r.settings) plan.rows

firsts-count : (plan : PlanView) → length (firsts plan) ≡ length plan.rows
firsts-count plan = length-map plan.rows (λ (r : DeviceRow). first_state r.settings)

firsts-at : (plan : PlanView) (i : ℕ) → i < length plan.rows
    → slice_get (firsts plan) i ≡ Some (first_state (row_at plan (record { 0 = i })).settings)
firsts-at plan i there =
    slice_get-get_or (firsts plan) i (first_state no_row.settings) (omega (arith, there, firsts-count plan))
    ∙ ap Some (get_or-map (λ (r : DeviceRow). first_state r.settings) plan.rows i no_row
    (first_state no_row.settings) there)

module _ {A : Type 0} (row : A → DeviceRow) (state : A → DeviceState) (plan : PlanView) (devices : List A) where
  abbrev rows : List DeviceRow
  rows = map row devices

  abbrev states : List DeviceState
  states = map state devices

  -- the row that the device at a number must have
  abbrev wanted : ℕ → DeviceRow
  wanted i = row_at plan (record { 0 = i })

  -- what the device at a number has
  found : {X : Type 0} (f : A → X) (i : ℕ) (d : A) → i < length devices → d ≡ get_or devices i d
      → slice_get (map f devices) i ≡ Some (f d)
  found f i d within read =
      slice_get-get_or (map f devices) i (f d) (omega (arith, within, length-map devices f))
      ∙ ap Some (get_or-map f devices i d (f d) within ∙ ap f (sym read))

  -- the device at a number is right
  pub right-at : (i : ℕ) (d : A) → i < length plan.rows → i < length devices → d ≡ get_or devices i d
      → row d ≡ wanted i → state d ≡ first_state (wanted i).settings
      → IsRight plan rows states i
  right-at i d there within read row_is state_is = record {
    there = there;
    row = found row i d within read ∙ ap Some row_is;
    state = found state i d within read ∙ ap Some state_is;
  }

  right-there : (i : ℕ) → IsRight plan rows states i → i < length devices
  right-there i right = let inside = slice_get_within rows i (wanted i) right.row
      in omega (arith, inside, length-map devices row)

  -- devices that fit are right
  pub fit-right : IsFit plan rows states → (i : ℕ) → i < length plan.rows → IsRight plan rows states i
  fit-right fit i there = record {
    there = there;
    row = ap (λ (rs : List DeviceRow). slice_get rs i) fit.rows_are ∙ slice_get-get_or plan.rows i no_row there;
    state = ap (λ (ss : List DeviceState). slice_get ss i) fit.states_are ∙ firsts-at plan i there;
  }

  -- the first that is not right
  pub first-at : (i : ℕ) → i < length plan.rows → ((other : ℕ) → other < i → IsRight plan rows states other)
      → ¬ (IsRight plan rows states i) → IsFirstWrong plan rows states i
  first-at i there before wrong =
      record { before = before; wrong = wrong; unfit = λ fit. wrong (fit-right fit i there) }

  pub too-few : (i : ℕ) → length devices ≤ i → ¬ (IsRight plan rows states i)
  too-few i past right = let inside = right-there i right in absurd (omega (arith, inside, past))

  pub not-right : (i : ℕ) (d : A) → i < length devices → d ≡ get_or devices i d
      → ¬ ((row d ≡ wanted i) × (state d ≡ first_state (wanted i).settings))
      → ¬ (IsRight plan rows states i)
  not-right i d within read other right = other (
    same_Some (row d) (wanted i) (sym (found row i d within read) ∙ right.row),
    same_Some (state d) (first_state (wanted i).settings)
        (sym (found state i d within read) ∙ right.state),
  )

  -- if each row has its device, and there are no more devices, they fit
  module _ (all : (i : ℕ) → i < length plan.rows → IsRight plan rows states i)
      (few : length devices ≤ length plan.rows) where
    count : length devices ≡ length plan.rows
    count =
        elim (cases_lt (length devices) (length plan.rows)) [
          | inl short ↦ let inside = right-there (length devices) (all (length devices) short)
              in absurd (omega (arith, inside))
          | inr enough ↦ omega (arith, few, enough)
        ]

    pub all-fit : IsFit plan rows states
    all-fit = record {
      rows_are = same-items rows plan.rows (omega (arith, count, length-map devices row))
          (λ i there. (all i there).row ∙ sym (slice_get-get_or plan.rows i no_row there));
      states_are =
          same-items states (firsts plan) (omega (arith, count, firsts-count plan, length-map devices state))
          (λ i there. let inside : i < length plan.rows = omega (arith, there, firsts-count plan) in
          (all i inside).state ∙ sym (firsts-at plan i inside));
    }

-- at first no device is due
pub first-dues : (rows : List DeviceRow) → map due_of (map (λ (r : DeviceRow). first_state r.settings) rows)
    ≡ replicate (length rows) None
first-dues [] = refl
first-dues (r ∷ rows) = λ i. nothing_is_due.first r.settings i ∷ first-dues rows i
