-- Each call keeps what holds of every ledger.
use Rattle.std.proofs.Common.{rules, ℕ, ◌<◌, ◌≤◌, nat_lt, List, [], ◌∷◌, length, slice_index_or}
use Rattle.std.proofs.lemmas.Bool.{cond_both, ltb-true, ltb-false}
use Rattle.std.proofs.lemmas.List.{length-set, Sums.{sum_by-set, get_or-le-sum_by}, Folds.sum_by-replicate}
use Rattle.plan_tables.specs.declared.devices.{RowId.RowId, BallTarget.{BallTarget, TheVariants.Device}}
use Rattle.plan_tables.specs.{PlanView.PlanView, Valid.IsTargetThere}
use Rattle.ball_devices.specs.Ledger.{Ledger, no_balls, transit_to, total, origin_of, arrived, IsLedger}
use Rattle.ball_devices.specs.Bookings.{LedgerCall, after_call, MayBook, after_calls, MayBookAll, Says}

-- ---- totals

pub at_most_total : (xs : List ℕ) (i : ℕ) → i < length xs → slice_index_or xs i 0 ≤ total xs
at_most_total xs i within = get_or-le-sum_by (λ n. n) xs i 0 within

-- ---- where a ball comes from

pub origin-says : (d : RowId) (l : Ledger) → Says (origin_of d l) (transit_to l (Device d)) l.playfield
origin-says d l = search (rules, cond_both, nat_lt, ltb-true, ltb-false)

-- ---- one call

pub new-is : (plan : PlanView) → IsLedger (no_balls plan)
new-is plan = search (rules, sum_by-replicate)

module _ (l : Ledger) (is : IsLedger l) where
  pub arrived-is : (target : BallTarget) → IsTargetThere (length l.counted) target → 0 < transit_to l target
      → IsLedger (arrived target l)
  arrived-is x1 there some = search (rules, sum_by-set, length-set, slice_index_or)

-- ---- all calls

pub call-is : (c : LedgerCall) (l : Ledger) → IsLedger l → MayBook c l → IsLedger (after_call c l)
call-is x1 l is may = search (rules, sum_by-set, length-set, origin-says, arrived-is)

pub calls-are : (cs : List LedgerCall) (l : Ledger) → IsLedger l → MayBookAll cs l → IsLedger (after_calls cs l)
calls-are [] l is may = is
calls-are (c ∷ cs) l is may = calls-are cs (after_call c l) (call-is c l is may.0) may.1
