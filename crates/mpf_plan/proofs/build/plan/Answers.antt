use Rattle.std.{proofs.Common.{◌≡◌, ◌≤◌, subst}, specs.Prelude.IfOk}
use Rattle.mpf_config.specs.Rows.{Rows}
use Rattle.plan_tables.specs.{declared.table.Table.Table, Limits.{entry_count, limit_of}}
use Rattle.mpf_plan.specs.PlanOf.{IsExceeded, GivesPlan, plan_at, plan_of}
use Rattle.mpf_plan.proofs.build.plan.Goals as goal

pub returns-clause-exact : goal.returns-clause-exact
returns-clause-exact c =
    subst (λ (rows : Rows). GivesPlan c.plan_of_definitions.result (plan_at rows))
    c.in_ok-definitions.ensures c.plan_of_definitions.ensures.exact

pub returns-clause-plan : goal.returns-clause-plan
returns-clause-plan c =
    subst (λ (rows : Rows). IfOk c.plan_of_definitions.result (λ p. p ≡ plan_of rows))
    c.in_ok-definitions.ensures c.plan_of_definitions.ensures.plan

pub returns-clause-within : goal.returns-clause-within
returns-clause-within c =
    subst
    (λ (rows : Rows). IfOk c.plan_of_definitions.result (λ p. (t : Table) → entry_count (plan_of rows) t ≤ limit_of t))
    c.in_ok-definitions.ensures c.plan_of_definitions.ensures.within

pub returns-clause-limit : goal.returns-clause-limit
returns-clause-limit c t exceeds =
    subst (λ (rows : Rows). IsExceeded rows t)
    c.in_ok-definitions.ensures (c.plan_of_definitions.ensures.limit t exceeds)
