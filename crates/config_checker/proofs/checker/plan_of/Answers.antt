use Rattle.std.{proofs.Common.{◌≡◌, [], subst}, specs.Prelude.{Ok, IfOk, OnOk, IfErr}}
use Rattle.mpf_config.specs.Rows.{Rows}
use Rattle.mpf_plan.specs.PlanOf.{plan_at}
use Rattle.config_checker.specs.{Checking.faults_of_rows, Refused.ReportsNoPlan}
use Rattle.config_checker.proofs.checker.plan_of.Goals as goal

pub returns-clause-none : goal.returns-clause-none
returns-clause-none c = subst (λ (rows : Rows). OnOk c.plan_of_definitions.result (faults_of_rows rows ≡ []))
    c.in_ok-definitions.ensures c.plan_of_definitions.ensures.none

pub returns-clause-plan : goal.returns-clause-plan
returns-clause-plan c = subst (λ (rows : Rows). IfOk c.plan_of_definitions.result (λ plan. plan_at rows ≡ Ok plan))
    c.in_ok-definitions.ensures c.plan_of_definitions.ensures.plan

pub returns-clause-refused : goal.returns-clause-refused
returns-clause-refused c = subst (λ (rows : Rows). IfErr c.plan_of_definitions.result
    (λ report. ReportsNoPlan rows report)) c.in_ok-definitions.ensures c.plan_of_definitions.ensures.refused
