-- The rows of a plan, one after another, and what their devices answer.
use Rattle.std.specs.{Prelude.{◌&&◌, find}, List.All}
use Rattle.std.proofs.Common.{rules, ◌≡◌, ℕ, ◌+◌, ◌<◌, ◌≤◌, Bool, true, false, Option, None, Some, List, [], ◌∷◌}
use Rattle.std.proofs.Common.{length, filter, drop, refl, ap, sym, ◌∙◌, subst, arith}
use Rattle.std.proofs.lemmas.{Bool.and_parts, List.{drop_all, drop_more, Elements.All-get_or}}
use Rattle.plan_tables.specs.{PlanView.{PlanView, is_owner, row_at, row_numbers}, Devices.list_count}
use Rattle.plan_tables.specs.declared.{entries.ModeId.ModeId, devices.RowId.RowId}
use Rattle.plan_tables.specs.declared.entries.Owner.TheVariants as owners
use Rattle.device_objects.specs.{declared.device.Call.Call, Laws.MayCome, DeviceStep.outcomes}
use Rattle.device_objects.proofs.Lawful.{answers_are_outcomes, outcomes_of_row}
use Rattle.cascade_rank.proofs.Rows.{length-rows, row_of}
use Rattle.written_machine.specs.{Devices.HasDevices, Machine.{Machine, world_of, device_at, call_row, call_device}}
use Rattle.machine_core.{specs.Core.{CoreView, CanCall, after}, proofs.Going.{goes-can, goes-call}}

module _ (plan : PlanView) where
  -- the rows of a mode, from a number on
  abbrev pub rows_from : ModeId → ℕ → List RowId
  rows_from m i = filter (λ r. is_owner (owners.Mode m) (row_at plan r).owner) (drop i (row_numbers plan))

  -- ---- rows, one after another

  abbrev nth : ℕ → RowId
  nth i = record { 0 = i }

  -- those from a number on: the row of the number, and those after it
  rows-more : (i : ℕ) → i < length plan.rows
      → drop i (row_numbers plan) ≡ nth i ∷ drop (i + 1) (row_numbers plan)
  rows-more i there =
      let first : RowId = nth i in
      drop_more (row_numbers plan) i first (omega (arith, there, length-rows plan))
      ∙ ap (λ (r : RowId). r ∷ drop (i + 1) (row_numbers plan)) (row_of plan i first there)

  -- those of them that are meant
  pub row-first : (test : RowId → Bool) (i : ℕ) → i < length plan.rows → test (nth i) ≡ true
      → filter test (drop i (row_numbers plan)) ≡ nth i ∷ filter test (drop (i + 1) (row_numbers plan))
  row-first test i there meant = search (rules, rows-more)

  pub row-other : (test : RowId → Bool) (i : ℕ) → i < length plan.rows → test (nth i) ≡ false
      → filter test (drop i (row_numbers plan)) ≡ filter test (drop (i + 1) (row_numbers plan))
  row-other test i there other = search (rules, rows-more)

  pub rows-end : (i : ℕ) → length plan.rows ≤ i → drop i (row_numbers plan) ≡ []
  rows-end i past = drop_all i (row_numbers plan) (omega (arith, past, length-rows plan))

  -- the first of those that are meant which meets a test, from a number on
  module _ (meant meets : RowId → Bool) where
    abbrev pub first_from : ℕ → Option RowId
    first_from i = find meets (filter meant (drop i (row_numbers plan)))

    pub first-here : (i : ℕ) → i < length plan.rows → (meant (nth i) && meets (nth i)) ≡ true
        → first_from i ≡ Some (nth i)
    first-here i there both = search (rules, and_parts, row-first)

    pub first-later : (i : ℕ) → i < length plan.rows → (meant (nth i) && meets (nth i)) ≡ false
        → first_from i ≡ first_from (i + 1)
    first-later i there neither = by (meant (nth i)) (meets (nth i)) refl refl neither
      where
        by : (m t : Bool) → meant (nth i) ≡ m → meets (nth i) ≡ t → (m && t) ≡ false
            → first_from i ≡ first_from (i + 1)
        by x1 x2 is of h = search (rules, row-first, row-other)

    pub first-end : (i : ℕ) → length plan.rows ≤ i → first_from i ≡ None
    first-end i past = ap (λ (rs : List RowId). find meets (filter meant rs)) (rows-end i past)

  -- what a device answers are lists of its row
  pub answer-lists : (call : Call) (r : RowId) (s : Machine) → r.0 < length plan.rows → HasDevices plan s.devices
      → MayCome call (device_at s r) → All (λ k. k < list_count (row_at plan r).settings) (call_row plan call r s).1
  answer-lists call r s there has may =
      let settings = (row_at plan r).settings in
      let answer = (call_row plan call r s).1 in
      let (i, within, is) = answers_are_outcomes settings call s.moment (world_of s) (device_at s r)
      (has.shapes r there) may in
      subst (All (λ k. k < list_count settings)) is
      (All-get_or (All (λ k. k < list_count settings)) (outcomes settings call) i answer within
      (outcomes_of_row settings call))

-- after a call they can be called as before
pub call-calls : (call : Call) (r : RowId) (now next : CoreView) → next ≡ after (call_device now.plan call r) now
    → CanCall now → CanCall next
call-calls call r now next is h = subst CanCall (sym is)
    (goes-can now (call_device now.plan call r) (goes-call now.plan call r now.machine) h)
