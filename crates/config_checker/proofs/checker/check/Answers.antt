use Rattle.std.proofs.{Common.{rules, Ok, sym, ap, ◌∙◌, subst}, lemmas.Result.err_from_is_err_and}
use Rattle.mpf_config.specs.View.{rows_view}
use Rattle.cascade_rank.specs.View.{rank_view}
use Rattle.written_machine.{specs.GoodRun.IsGood, proofs.Good.every_run_is_good}
use Rattle.config_checker.specs.{View.fault_view, Checking.checked_at, Refused.IsFaultOf}
use Rattle.config_checker.proofs.{PlanFree.plan_accepted, Judging.{unfound-checked, unfound-fault, found-accepted}}
use Rattle.config_checker.proofs.Judging.{reports-gives, reports-there, no-plan-found, no-plan-reports, limit-fault}
use Rattle.config_checker.proofs.checker.check.Goals as goal

pub returns-in_err-plan-clause-exact : goal.returns-in_err-plan-clause-exact
returns-in_err-plan-clause-exact c = search (rules, err_from_is_err_and, no-plan-found)

pub returns-in_err-plan-clause-refused : goal.returns-in_err-plan-clause-refused
returns-in_err-plan-clause-refused c = search (rules, err_from_is_err_and, no-plan-reports, limit-fault)

-- ---- no weights were found

pub returns-in_ok-named_fault-in-Err-clause-exact : goal.returns-in_ok-named_fault-in-Err-clause-exact
returns-in_ok-named_fault-in-Err-clause-exact c =
    let rows = rows_view c.args.config.now in
    reports-gives c.report_of.result (fault_view c.in_ok-named_fault-in-Err.field-0) (checked_at rows)
    c.report_of.ensures
    (unfound-checked rows c.in_ok-plan.ensures.none c.in_ok-plan.plan c.in_ok-plan.ensures.plan
    (rank_view c.in-Err.fault) (fault_view c.in_ok-named_fault-in-Err.field-0) c.in_ok-named_fault-in-Err.ensures
    c.in-Err.ensures.exact)

pub returns-in_ok-named_fault-in-Err-clause-refused : goal.returns-in_ok-named_fault-in-Err-clause-refused
returns-in_ok-named_fault-in-Err-clause-refused c =
    let rows = rows_view c.args.config.now in
    reports-there rows (IsFaultOf rows) c.report_of.result (fault_view c.in_ok-named_fault-in-Err.field-0)
    c.in_ok-plan.ensures.none c.report_of.ensures
    (unfound-fault rows c.in_ok-plan.ensures.none c.in_ok-plan.plan c.in_ok-plan.ensures.plan (rank_view c.in-Err.fault)
    (fault_view c.in_ok-named_fault-in-Err.field-0) c.in_ok-named_fault-in-Err.ensures c.in-Err.ensures.refused)

-- ---- accepted

pub new-requires : goal.new-requires
new-requires c = plan_accepted (rows_view c.args.config.now) c.args.config.now.lists_short c.args.config.now.have_states
    c.args.config.now.few_modes c.in_ok-plan.ensures.none _ c.in_ok-plan.ensures.plan c.in-Ok.ensures.verified

pub returns-in-Ok-clause-exact : goal.returns-in-Ok-clause-exact
returns-in-Ok-clause-exact c =
    found-accepted (rows_view c.args.config.now) c.in_ok-plan.ensures.none c.in_ok-plan.plan c.in_ok-plan.ensures.plan
    c.in-Ok.weights c.in-Ok.bound.0 c.in-Ok.ensures.exact c.in-Ok.ensures.verified.bound_is
    ∙ ap Ok (sym c.new.ensures)

pub returns-in-Ok-clause-good : goal.returns-in-Ok-clause-good
returns-in-Ok-clause-good c = subst IsGood (sym c.new.ensures)
    (every_run_is_good _ (plan_accepted (rows_view c.args.config.now) c.args.config.now.lists_short
    c.args.config.now.have_states c.args.config.now.few_modes c.in_ok-plan.ensures.none _ c.in_ok-plan.ensures.plan
    c.in-Ok.ensures.verified))
