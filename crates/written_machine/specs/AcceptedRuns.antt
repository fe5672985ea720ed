-- Every run of what is accepted is good, whoever found its weights.
use Rattle.std.specs.Prelude.{◌≡◌, None}
use Rattle.plan_tables.specs.{PlanView.PlanView, Valid.IsValid}
use Rattle.cascade_rank.specs.{Verified.IsVerified, Cycle.first_open}
use Rattle.written_machine.specs.{CheckedView.CheckedView, Accepted.IsAccepted, Steps.WorkIsBounded}
use Rattle.written_machine.specs.GoodRun.{CascadesEnd, LevelsFollowRawChanges, IsGood}

pub record AcceptedIsGood : Type 0 where
  pub good : (c : CheckedView) → IsAccepted c → IsGood c
  -- For these two it does not matter what the plan posts.
  pub cascades : (c : CheckedView) → IsValid c.plan → IsVerified c.plan c.weights c.bound → CascadesEnd c
  pub levels : (plan : PlanView) → IsValid plan → LevelsFollowRawChanges plan
  -- For this one it does not matter how dear its lines are, either.
  pub work : (plan : PlanView) → IsValid plan → first_open plan ≡ None → WorkIsBounded plan
