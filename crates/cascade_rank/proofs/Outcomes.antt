-- What a call of a device can answer, answer by answer.
use Rattle.std.proofs.Common.{◌≡◌, ℕ, ◌<◌, List, [], ◌∷◌, length, map, get_or, refl, sym, ap, ◌∙◌, subst, arith}
use Rattle.std.{specs.List.All, proofs.lemmas.List.{length-map, get_or-map, Elements.All-get_or}}
use Rattle.plan_tables.specs.{PlanView.{PlanView, row_at}, Devices.list_count}
use Rattle.plan_tables.specs.declared.devices.{RowId.RowId, Telling.Telling, DeviceRow.DeviceRow}
use Rattle.device_objects.{specs.{declared.device.Call.Call, DeviceStep.outcomes}, proofs.Lawful.outcomes_of_row}
use Rattle.cascade_rank.specs.Cost.{Cost, Greater, dearest_of, cost_of_answer_by}

dearest_of-map : {X Y : Type 0} (f : Y → Cost) (g : X → Y) (xs : List X)
    → dearest_of (λ x. f (g x)) xs ≡ dearest_of f (map g xs)
dearest_of-map f g [] = refl
dearest_of-map f g (x ∷ xs) = ap (Greater (f (g x))) (dearest_of-map f g xs)

-- the answers as they are given
module _ {X : Type 0} (items : X → List ℕ) (plan : PlanView) (r : RowId) (call : Call) (answers : List X)
    (are : map items answers ≡ outcomes (row_at plan r).settings call) where
  pub answer-within : (i : ℕ) (d : X) → i < length answers
      → All (λ k. k < list_count (row_at plan r).settings) (items (get_or answers i d))
  answer-within i d l =
      let listed : i < length (map items answers) = omega (arith, l, length-map answers items) in
      let whole = subst (λ (ls : List (List ℕ)). All (All (λ k. k < list_count (row_at plan r).settings)) ls) (sym are)
      (outcomes_of_row (row_at plan r).settings call) in
      subst (All (λ k. k < list_count (row_at plan r).settings)) (get_or-map items answers i d (items d) l)
      (All-get_or (All (λ k. k < list_count (row_at plan r).settings)) (map items answers) i (items d) listed whole)

  -- the dearest of them is that of what the call can answer
  pub answers-cost : (tell : Telling → Cost)
      → dearest_of (λ a. cost_of_answer_by plan tell r (items a)) answers
      ≡ dearest_of (cost_of_answer_by plan tell r) (outcomes (row_at plan r).settings call)
  answers-cost tell = dearest_of-map (cost_of_answer_by plan tell r) items answers
      ∙ ap (dearest_of (cost_of_answer_by plan tell r)) are

-- what was read of a row
pub outcomes-read : (plan : PlanView) (r : RowId) (call : Call) (row : DeviceRow) (all : List (List ℕ))
    → row ≡ row_at plan r → all ≡ outcomes row.settings call → all ≡ outcomes (row_at plan r).settings call
outcomes-read plan r call row all is given = given ∙ ap (λ (x : DeviceRow). outcomes x.settings call) is
