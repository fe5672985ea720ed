-- What it means that no least weights were found.
use Rattle.std.specs.Prelude.{ℕ, List}
use Rattle.plan_tables.specs.PlanView.{PlanView}
use Rattle.cascade_rank.specs.Weights.{IsLeastFitting, IsWithinLimit}
use Rattle.cascade_rank.specs.{LeadsTo.{IsCycle, HasNoFit}, Cycle.IsReportedCycle}
use Rattle.cascade_rank.specs.Finding.{RankView, cycle, bound_too_large, short, wrong_events}

-- there are least fitting weights, and they or their bound are above the limit
pub record IsTooDear (plan : PlanView) : Type 0 where
  pub weights : List ℕ
  pub least : IsLeastFitting plan weights
  pub above : ¬ (IsWithinLimit plan weights)

-- A reported cycle is real, and is the one the rule selects, and no weights fit. The only other reason is weights above
-- the limit.
abbrev pub IsUnfound : PlanView → RankView → Type 0
IsUnfound plan (cycle events) = IsCycle plan events × IsReportedCycle plan events × HasNoFit plan
IsUnfound plan bound_too_large = IsTooDear plan
IsUnfound plan (short event need) = ⊥
IsUnfound plan wrong_events = ⊥
