-- How many balls are at home, one device after another.
use Rattle.std.proofs.Common.{◌≡◌, ℕ, ◌+◌, ◌<◌, ◌≤◌, ◌^◌, Bool, true, false, List, length, filter, map, drop, ap, ◌∙◌}
use Rattle.std.proofs.{Common.arith, lemmas.List.Sums.sum_by-cons}
use Rattle.plan_tables.specs.{PlanView.{PlanView, is_home, row_at, row_numbers}, declared.devices.RowId.RowId}
use Rattle.ball_devices.{specs.Ledger.{Ledger, IsLedger, counted_in, total}, proofs.Ledgers.at_most_total}
use Rattle.machine_core.proofs.Listing.{row-first, row-other, rows-end}

module _ (plan : PlanView) (l : Ledger) where
  abbrev at_home : RowId → Bool
  at_home r = is_home (row_at plan r).settings

  -- those in the devices from a row on
  abbrev pub home_from : ℕ → ℕ
  home_from i = total (map (counted_in l) (filter at_home (drop i (row_numbers plan))))

  pub home-here : (i : ℕ) → i < length plan.rows → at_home (record { 0 = i }) ≡ true
      → home_from i ≡ counted_in l (record { 0 = i }) + home_from (i + 1)
  home-here i there is =
      let rest = filter at_home (drop (i + 1) (row_numbers plan)) in
      ap (λ (rs : List RowId). total (map (counted_in l) rs)) (row-first plan at_home i there is)
      ∙ sum_by-cons (λ n. n) (counted_in l (record { 0 = i })) (map (counted_in l) rest)

  pub home-other : (i : ℕ) → i < length plan.rows → at_home (record { 0 = i }) ≡ false → home_from i ≡ home_from (i + 1)
  home-other i there is = ap (λ (rs : List RowId). total (map (counted_in l) rs)) (row-other plan at_home i there is)

  pub home-end : (i : ℕ) → length plan.rows ≤ i → home_from i ≡ 0
  home-end i past = ap (λ (rs : List RowId). total (map (counted_in l) (filter at_home rs))) (rows-end plan i past)

  -- a device has no more than are known
  pub counted-few : IsLedger l → (i : ℕ) → i < length l.counted → counted_in l (record { 0 = i }) ≤ 2 ^ 32
  counted-few is i there = let most = at_most_total l.counted i there in let balanced = is.balance in let few = is.few
      in omega arith
