use Rattle.std.{proofs.{Common.rules, lemmas.Result.{err_from_is_err_and, IfErr-weaker}}, specs.Prelude.{Result, OnOk}}
use Rattle.config_checker.proofs.Judging.{no-plan-own, no-plan-limit}
use Rattle.config_checker.proofs.checker.plan_of_definitions.Goals as goal

pub returns-in_err-refuse_own-clause-refused : goal.returns-in_err-refuse_own-clause-refused
returns-in_err-refuse_own-clause-refused c = search (rules, err_from_is_err_and, no-plan-own)

pub returns-clause-none : goal.returns-clause-none
returns-clause-none c = always c.plan_within.result c.in_ok-refuse_own.ensures.none
  where
    always : {X E : Type 0} {P : Type 0} (r : Result X E) → P → OnOk r P
    always x1 p = search rules

pub returns-clause-refused : goal.returns-clause-refused
returns-clause-refused c = IfErr-weaker c.plan_within.result _ _
    (λ report one. no-plan-limit c.args.definitions.now report c.in_ok-refuse_own.ensures.none one)
    c.plan_within.ensures.limit
