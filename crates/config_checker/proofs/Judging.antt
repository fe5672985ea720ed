-- What rows are judged to be, case by case.
use Rattle.std.proofs.Common.{rules, ◌≡◌, ℕ, List, [], ◌∷◌, map, Option, Some, None, option_map, Result, Ok, Err, refl}
use Rattle.std.proofs.Common.{sym, ap, ◌∙◌, subst, inl, inr}
use Rattle.mpf_config.specs.Rows.{Rows}
use Rattle.plan_tables.specs.PlanView.{PlanView}
use Rattle.mpf_plan.{specs.PlanOf.{plan_at, plan_of}, proofs.Judged.{plan_at-Ok, plan_at-exceeded}}
use Rattle.config_checker.proofs.{Given.lacks_nothing, PlanFree.rows_sound}
use Rattle.cascade_rank.specs.{Events.weight_of, Weights.bound_of}
use Rattle.cascade_rank.specs.{Finding.{RankView, found_at}, View.IfReported, Found.IsUnfound}
use Rattle.config_checker.specs.declared.report.Report.{Report, TheVariants.{NoMemory, Faults}}
use Rattle.written_machine.specs.CheckedView.{CheckedView}
use Rattle.config_checker.specs.Checking.{FaultView, named_fault, answer_of_weights, weighed_plan, certified_plan}
use Rattle.config_checker.specs.Checking.{reported_alone, faults_of_rows, faults_first, check_plan, checked_at}
use Rattle.config_checker.specs.{Checking.checked_with_at, Refused.{ReportsOwn, ReportsNoPlan}}
use Rattle.config_checker.specs.View.{GivesChecked, ReportsFault, fault_view}
use Rattle.config_checker.specs.Refused.{IsLimitFault, IsFaultOf, IsFaultWith, IsReport, Reports, ReportsOne}
use Rattle.config_checker.proofs.CertificateMeaning.{IsFaultOfText, fault_is_there, none-some}

-- ---- what a report lists

pub reports-there : (rows : Rows) (there : FaultView → Type 0) (report : Report) (fault : FaultView)
    → faults_of_rows rows ≡ [] → ReportsFault report fault → there fault → Reports there rows report
reports-there rows there x3 fault none h is = search rules

-- one fault is there, and is reported
pub one-there : (P : FaultView → Type 0) (report : Report) (fault : FaultView) → ReportsFault report fault → P fault
    → ReportsOne P report
one-there P x2 fault h is = search rules

-- ---- faults of the rows

own-gives : (rows : Rows) (report : Report) (answer : Result CheckedView (List FaultView)) → ReportsOwn rows report
    → GivesChecked (Err report) (faults_first (faults_of_rows rows) answer)
own-gives rows x2 answer h = search rules

pub own-found : (rows : Rows) (report : Report) → ReportsOwn rows report → GivesChecked (Err report) (checked_at rows)
unfolding checked_at
own-found rows report h = own-gives rows report (check_plan weighed_plan (plan_at rows)) h

pub own-given : (rows : Rows) (text : List ℕ) (report : Report) → ReportsOwn rows report
    → GivesChecked (Err report) (checked_with_at rows text)
unfolding checked_with_at
own-given rows text report h = own-gives rows report (check_plan (certified_plan text) (plan_at rows)) h

-- why there is no plan
pub no-plan-own : (rows : Rows) (report : Report) → ReportsOwn rows report → ReportsNoPlan rows report
no-plan-own rows x2 h = search rules

pub no-plan-limit : (rows : Rows) (report : Report) → faults_of_rows rows ≡ [] → ReportsOne (IsLimitFault rows) report
    → ReportsNoPlan rows report
no-plan-limit rows x2 none h = search rules

first-none : (rows : Rows) (answer : Result CheckedView (List FaultView)) → faults_of_rows rows ≡ []
    → faults_first (faults_of_rows rows) answer ≡ answer
first-none rows answer none = ap (λ (own : List FaultView). faults_first own answer) none

-- ---- an answer

-- the answer is what is reported
pub reports-gives : (report : Report) (fault : FaultView) (answer : Result CheckedView (List FaultView))
    → ReportsFault report fault → answer ≡ Err (fault ∷ []) → GivesChecked (Err report) answer
reports-gives x1 fault answer h is = search rules

pub one-gives : (P : FaultView → Type 0) (report : Report) (answer : Result CheckedView (List FaultView))
    → ReportsOne P report → ((fault : FaultView) → P fault → answer ≡ Err (fault ∷ []))
    → GivesChecked (Err report) answer
one-gives P x2 answer x4 gives = search rules

some_same : (x y : FaultView) → Some x ≡ Some y → x ≡ y
some_same x y e = cc

-- ---- a table above its limit

module _ (rows : Rows) where
  limit-checked : faults_of_rows rows ≡ [] → (judge : PlanView → Result CheckedView FaultView) (fault : FaultView)
      → IsLimitFault rows fault → check_plan judge (plan_at rows) ≡ Err (fault ∷ [])
  limit-checked none judge x3 h = search (rules, plan_at-exceeded, lacks_nothing, rows_sound)

  pub limit-found : faults_of_rows rows ≡ [] → (fault : FaultView) → IsLimitFault rows fault
      → checked_at rows ≡ Err (fault ∷ [])
  unfolding checked_at
  limit-found none fault h = first-none rows (check_plan weighed_plan (plan_at rows)) none
      ∙ limit-checked none weighed_plan fault h

  pub limit-given : faults_of_rows rows ≡ [] → (text : List ℕ) (fault : FaultView) → IsLimitFault rows fault
      → checked_with_at rows text ≡ Err (fault ∷ [])
  unfolding checked_with_at
  limit-given none text fault h = first-none rows (check_plan (certified_plan text) (plan_at rows)) none
      ∙ limit-checked none (certified_plan text) fault h

  pub limit-fault : (fault : FaultView) → IsLimitFault rows fault → IsFaultOf rows fault
  limit-fault x1 h = search rules

  pub limit-fault_with : (text : List ℕ) (fault : FaultView) → IsLimitFault rows fault → IsFaultWith rows text fault
  limit-fault_with text x2 h = search rules

  -- what is reported if there is no plan is what the checker reports
  pub no-plan-found : (report : Report) → ReportsNoPlan rows report → GivesChecked (Err report) (checked_at rows)
  no-plan-found x1 x2 = search (rules, own-found, one-gives, limit-found)

  pub no-plan-given : (text : List ℕ) (report : Report) → ReportsNoPlan rows report
      → GivesChecked (Err report) (checked_with_at rows text)
  no-plan-given text NoMemory h = tt
  no-plan-given text (Faults faults) (inl own) = own-given rows text (Faults faults) own
  no-plan-given text (Faults faults) (inr (none, one)) =
      one-gives (IsLimitFault rows) (Faults faults) (checked_with_at rows text) one (limit-given none text)

  pub no-plan-reports : (there : FaultView → Type 0) (report : Report)
      → ((fault : FaultView) → IsLimitFault rows fault → there fault) → ReportsNoPlan rows report
      → Reports there rows report
  no-plan-reports there x2 weaker x4 = search rules

  text-fault_with : (text : List ℕ) (fault : FaultView) → IsFaultOfText (plan_of rows) text fault
      → IsFaultWith rows text fault
  text-fault_with text x2 h = search rules

module _ (rows : Rows) (none : faults_of_rows rows ≡ []) (plan : PlanView) (made : plan_at rows ≡ Ok plan) where
  of_rows : plan ≡ plan_of rows
  of_rows = (plan_at-Ok rows plan made).0

  -- ---- the least weights

  found-checked : (answer : Result CheckedView FaultView) → weighed_plan plan ≡ answer
      → checked_at rows ≡ reported_alone answer
  unfolding checked_at
  found-checked answer is = first-none rows (check_plan weighed_plan (plan_at rows)) none
      ∙ ap (check_plan weighed_plan) made ∙ ap reported_alone is

  pub found-accepted : (ws : List ℕ) (b : ℕ) → found_at plan ≡ Ok ws → b ≡ bound_of plan (weight_of ws)
      → checked_at rows ≡ Ok (record { plan = plan; weights = ws; bound = b })
  unfolding weighed_plan
  found-accepted ws b found is =
      found-checked (Ok (record { plan = plan; weights = ws; bound = b }))
      (ap (answer_of_weights plan) found
      ∙ ap (λ (n : ℕ). Ok (record { plan = plan; weights = ws; bound = n })) (sym is))

  pub unfound-checked : (view : Option RankView) (fault : FaultView) → option_map (named_fault plan) view ≡ Some fault
      → IfReported view (λ reported. found_at plan ≡ Err reported) → checked_at rows ≡ Err (fault ∷ [])
  unfolding weighed_plan
  unfound-checked None fault named h = none-some fault named
  unfound-checked (Some reported) fault named h =
      found-checked (Err fault) (ap (answer_of_weights plan) h
      ∙ ap Err (some_same (named_fault plan reported) fault named))

  pub unfound-fault : (view : Option RankView) (fault : FaultView) → option_map (named_fault plan) view ≡ Some fault
      → IfReported view (IsUnfound plan) → IsFaultOf rows fault
  unfound-fault None fault named h = none-some fault named
  unfound-fault (Some reported) fault named h =
      subst (IsFaultOf rows) (some_same (named_fault plan reported) fault named)
      (subst (λ (p : PlanView). IsUnfound p reported → IsFaultOf rows (named_fault p reported)) (sym of_rows)
      (by reported) h)
    where
      by : (reported : RankView) → IsUnfound (plan_of rows) reported
          → IsFaultOf rows (named_fault (plan_of rows) reported)
      by x1 h = search rules

  -- ---- a certificate

  pub certified-checked : (text : List ℕ) → checked_with_at rows text ≡ reported_alone (certified_plan text plan)
  unfolding checked_with_at
  certified-checked text = first-none rows (check_plan (certified_plan text) (plan_at rows)) none
      ∙ ap (check_plan (certified_plan text)) made

  -- what is answered of the certificate is answered
  pub given-checked : (text : List ℕ) (report : Report)
      → GivesChecked (Err report) (reported_alone (certified_plan text plan))
      → GivesChecked (Err report) (checked_with_at rows text)
  given-checked text report h = subst (GivesChecked (Err report)) (sym (certified-checked text)) h

  -- and it is there
  pub given-fault : (text : List ℕ) (report : Report)
      → GivesChecked (Err report) (reported_alone (certified_plan text plan))
      → Reports (IsFaultWith rows text) rows report
  given-fault text NoMemory h = tt
  given-fault text (Faults faults) h = by (certified_plan text plan) refl h
    where
      by : (judged : Result CheckedView FaultView) → certified_plan text plan ≡ judged
          → reported_alone judged ≡ Err (map fault_view faults.items)
          → IsReport (IsFaultWith rows text) (faults_of_rows rows) (map fault_view faults.items)
      by x1 is e = search (rules, text-fault_with, of_rows, fault_is_there)
