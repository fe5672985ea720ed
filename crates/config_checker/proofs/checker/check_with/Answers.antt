use Rattle.std.proofs.{Common.{rules, sym, subst}, lemmas.Result.err_from_is_err_and}
use Rattle.mpf_config.specs.View.{rows_view}
use Rattle.written_machine.{specs.{CheckedView.CheckedView, GoodRun.IsGood}, proofs.Good.every_run_is_good}
use Rattle.config_checker.specs.CertificateText.{IsCertificateText}
use Rattle.config_checker.proofs.{PlanFree.plan_accepted, Judging.{given-checked, given-fault}}
use Rattle.config_checker.proofs.CertificateMeaning.{alone_ok, accepted_is_certified}
use Rattle.config_checker.proofs.Judging.{no-plan-given, no-plan-reports, limit-fault_with, certified-checked}
use Rattle.config_checker.proofs.checker.check_with.Goals as goal

pub returns-in_err-plan-clause-exact : goal.returns-in_err-plan-clause-exact
returns-in_err-plan-clause-exact c = search (rules, err_from_is_err_and, no-plan-given)

pub returns-in_err-plan-clause-refused : goal.returns-in_err-plan-clause-refused
returns-in_err-plan-clause-refused c = search (rules, err_from_is_err_and, no-plan-reports, limit-fault_with)

-- ---- the certificate is refused

pub returns-in_err-weights-clause-exact : goal.returns-in_err-weights-clause-exact
returns-in_err-weights-clause-exact c = search (rules, err_from_is_err_and, given-checked)

pub returns-in_err-weights-clause-refused : goal.returns-in_err-weights-clause-refused
returns-in_err-weights-clause-refused c = search (rules, err_from_is_err_and, given-fault)

-- ---- accepted

pub new-requires : goal.new-requires
new-requires c =
    let certified = accepted_is_certified c.in_ok-plan.plan c.args.certificate.now _
    (alone_ok _ _ c.in_ok-weights.ensures) in
    plan_accepted (rows_view c.args.config.now) c.args.config.now.lists_short c.args.config.now.have_states
    c.args.config.now.few_modes c.in_ok-plan.ensures.none _ c.in_ok-plan.ensures.plan certified.0

pub returns-clause-exact : goal.returns-clause-exact
returns-clause-exact c = search (rules, certified-checked)

pub returns-clause-text : goal.returns-clause-text
returns-clause-text c =
    let certified = accepted_is_certified c.in_ok-plan.plan c.args.certificate.now _
    (alone_ok _ _ c.in_ok-weights.ensures) in
    subst (λ (v : CheckedView). IsCertificateText v c.args.certificate.now) (sym c.new.ensures) certified.2

pub returns-clause-good : goal.returns-clause-good
returns-clause-good c =
    let certified = accepted_is_certified c.in_ok-plan.plan c.args.certificate.now _
    (alone_ok _ _ c.in_ok-weights.ensures) in
    subst IsGood (sym c.new.ensures) (every_run_is_good _
    (plan_accepted (rows_view c.args.config.now) c.args.config.now.lists_short c.args.config.now.have_states
    c.args.config.now.few_modes c.in_ok-plan.ensures.none _ c.in_ok-plan.ensures.plan certified.0))
