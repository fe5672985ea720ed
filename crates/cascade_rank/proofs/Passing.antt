-- Walks over the rows of a plan that pass a test.
use Rattle.std.proofs.Common.{◌≡◌, ℕ, ◌+◌, ◌<◌, ◌≤◌, Bool, true, false, cond, List, [], ◌∷◌, ◌++◌, length, take, sym}
use Rattle.std.proofs.{Common.{subst, ap, ◌∙◌, arith, take_all}, lemmas.List.{append-nil, Elements.filter_more}}
use Rattle.std.specs.List.{filter}
use Rattle.plan_tables.specs.{PlanView.{PlanView, row_numbers}, declared.devices.RowId.RowId}
use Rattle.cascade_rank.specs.{Cost.{Cost, Both, Greater, each_of, dearest_of}, Measures.AreAlike}
use Rattle.cascade_rank.proofs.{Alike.{each_last, dearest_last}, Rows.{length-rows, row_of}}

module _ (plan : PlanView) (p : RowId → Bool) where
  -- those that pass, of the first so many rows
  abbrev pub passed : ℕ → List RowId
  passed n = filter p (take n (row_numbers plan))

  passed_more : (n : ℕ) (b : Bool) → n < length plan.rows → p (record { 0 = n }) ≡ b
      → passed (n + 1) ≡ passed n ++ cond b (record { 0 = n } ∷ []) []
  passed_more n b within is =
      let listed : n < length (row_numbers plan) = omega (arith, within, length-rows plan) in
      filter_more p (row_numbers plan) n (record { 0 = 0 }) listed
      ∙ ap (λ (r : RowId). passed n ++ cond (p r) (r ∷ []) []) (row_of plan n (record { 0 = 0 }) within)
      ∙ ap (λ (t : Bool). passed n ++ cond t (record { 0 = n } ∷ []) []) is

  -- one row more that does not pass
  pub passed_over : (n : ℕ) → n < length plan.rows → p (record { 0 = n }) ≡ false → passed (n + 1) ≡ passed n
  passed_over n within is = passed_more n false within is ∙ append-nil (passed n)

  -- at last they are all that pass
  pub passed_all : (n : ℕ) → length plan.rows ≤ n → passed n ≡ filter p (row_numbers plan)
  passed_all n whole = ap (filter p) (take_all n (row_numbers plan) (omega (arith, whole, length-rows plan)))

  -- one row more that passes
  module _ (f : RowId → Cost) (n : ℕ) (within : n < length plan.rows) (is : p (record { 0 = n }) ≡ true) where
    pub each_passed : AreAlike (Both (each_of f (passed n)) (f (record { 0 = n }))) (each_of f (passed (n + 1)))
    each_passed =
        subst (λ (rs : List RowId). AreAlike (Both (each_of f (passed n)) (f (record { 0 = n }))) (each_of f rs))
        (sym (passed_more n true within is)) (each_last f (passed n) (record { 0 = n }))

    pub dearest_passed : AreAlike (Greater (dearest_of f (passed n)) (f (record { 0 = n })))
        (dearest_of f (passed (n + 1)))
    dearest_passed =
        subst (λ (rs : List RowId). AreAlike (Greater (dearest_of f (passed n)) (f (record { 0 = n })))
        (dearest_of f rs)) (sym (passed_more n true within is)) (dearest_last f (passed n) (record { 0 = n }))
