-- What checking gives for a configuration as the code has it.
use Rattle.std.specs.Prelude.{◌≡◌, ℕ, List, [], Result, Ok}
use Rattle.mpf_config.specs.{declared.config.Config.Config, View.rows_view}
use Rattle.plan_tables.specs.PlanView.{PlanView}
use Rattle.mpf_plan.specs.PlanOf.{plan_at}
use Rattle.written_machine.specs.CheckedView.{CheckedView}
use Rattle.config_checker.specs.{declared.report.Report.Report, View.GivesChecked}
use Rattle.config_checker.specs.Checking.{faults_of_rows, checked_at, checked_with_at}
use Rattle.config_checker.specs.Refused.{IsFaultOf, IsFaultWith, Reports, ReportsNoPlan}

-- the answer is what checking the configuration gives, unless memory ran out
abbrev pub ChecksConfig : Config → Result CheckedView Report → Type 0
ChecksConfig config answer = GivesChecked answer (checked_at (rows_view config))

-- the answer is what checking it with this certificate gives, unless memory ran out
abbrev pub ChecksConfigWith : (certificate : List ℕ) → Config → Result CheckedView Report → Type 0
ChecksConfigWith certificate config answer = GivesChecked answer (checked_with_at (rows_view config) certificate)

-- this is the plan of the configuration
abbrev pub IsPlanOf : Config → PlanView → Type 0
IsPlanOf config plan = plan_at (rows_view config) ≡ Ok plan

-- no row of the configuration has a fault of its own
abbrev pub HasNoFaults : Config → Type 0
HasNoFaults config = faults_of_rows (rows_view config) ≡ []

-- the report lists the faults of the configuration's rows, or if there are none, one fault that is there
abbrev pub ReportsFaultsOf : Config → Report → Type 0
ReportsFaultsOf config report = Reports (IsFaultOf (rows_view config)) (rows_view config) report

-- the same of a configuration with this certificate
abbrev pub ReportsFaultsWith : (certificate : List ℕ) → Config → Report → Type 0
ReportsFaultsWith certificate config report =
    Reports (IsFaultWith (rows_view config) certificate) (rows_view config) report

-- the report says why the configuration has no plan
abbrev pub ReportsWithoutPlan : Config → Report → Type 0
ReportsWithoutPlan config report = ReportsNoPlan (rows_view config) report
