-- The first row that passes a test, by its place.
use Rattle.std.proofs.Common.{rules, ◌≡◌, ℕ, suc, ◌+◌, ◌<◌, Bool, cond, not, nat_lt, List, [], ◌∷◌, length, map, get_or}
use Rattle.std.proofs.Common.{Some, None, refl, ◌∙◌, sym, ap, inl, inr, arith}
use Rattle.std.specs.{List.{find, position, position_or_len, range_with_len, slice_get}, Option.option_map}
use Rattle.std.proofs.lemmas.Bool.{cases_lt, cond-true, cond-false, lt-ltb, le-ltb}
use Rattle.std.proofs.lemmas.List.{Folds.find_at, FromFn.{length-range_with_len, get_or-range_with_len}}
use Rattle.std.proofs.lemmas.Option.{slice_get-get_or, slice_get-map, slice_get_past}
use Rattle.plan_tables.specs.PlanView.{PlanView, first_trough, is_trough, no_row, row_at}

-- the number at a place, if it is one of so many
numbered : (n i : ℕ) → slice_get (range_with_len 0 n) i ≡ cond (nat_lt i n) (Some i) None
numbered n i = elim (cases_lt i n) [
  | inl within ↦
      slice_get-get_or (range_with_len 0 n) i 0 (omega (arith, within, length-range_with_len 0 n))
      ∙ ap Some (omega (arith, get_or-range_with_len 0 n i 0 within))
      ∙ sym (cond-true _ (Some i) None (lt-ltb i n within))
  | inr past ↦
      slice_get_past (range_with_len 0 n) i (omega (arith, past, length-range_with_len 0 n))
      ∙ sym (cond-false _ (Some i) None (le-ltb i n past))
]

-- items stand at the numbers that are made
module _ {X Y : Type 0} (p : X → Bool) (item : Y → X) (make : ℕ → Y) (d : X) where
  place : (n : ℕ) (xs : List X) → ((i : ℕ) → i < length xs → item (make (n + i)) ≡ get_or xs i d)
      → position_or_len (λ y. p (item y)) (map make (range_with_len n (length xs))) ≡ position_or_len p xs
  place n [] stand = refl
  place n (x ∷ xs) stand =
      let here : n ≡ n + 0 = omega arith in
      let first : item (make n) ≡ x = ap (λ k. item (make k)) here ∙ stand 0 (omega arith) in
      let rest = place (n + 1) xs (λ i within. let e : (n + 1) + i ≡ n + suc i = omega arith
      in ap (λ k. item (make k)) e ∙ stand (suc i) (omega (arith, within))) in
      λ i. cond (not (p (first i))) (1 + rest i) 0

  found : (xs : List X) → ((i : ℕ) → i < length xs → item (make (0 + i)) ≡ get_or xs i d)
      → find (λ y. p (item y)) (map make (range_with_len 0 (length xs))) ≡ option_map make (position p xs)
  found xs stand = search (rules, find_at, place, slice_get-map, numbered)

-- the first trough is at the place of the first row that is one
pub trough_place : (plan : PlanView) → first_trough plan
    ≡ option_map (λ n. record { 0 = n }) (position (λ r. is_trough r.settings) plan.rows)
trough_place plan =
    found (λ r. is_trough r.settings) (row_at plan) (λ n. record { 0 = n }) no_row plan.rows
    (λ i within. let e : 0 + i ≡ i = omega arith in ap (λ k. row_at plan (record { 0 = k })) e)
