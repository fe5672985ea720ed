-- What was accepted.
use Rattle.std.specs.Prelude.{ℕ, List}
use Rattle.plan_tables.specs.PlanView.{PlanView}

-- a plan, the weight of each event in the order of their numbers, and the bound of a stimulus
pub record CheckedView : Type 0 where
  pub plan : PlanView
  pub weights : List ℕ
  pub bound : ℕ
