-- What contracts see of an answer.
use Rattle.std.specs.Prelude.{◌≡◌, ℕ, ◌<◌, Option, Some, option_map, List, [], ◌∷◌, length, map, Result, Ok, Err}
use Rattle.std.specs.List.{All}
use Rattle.row_faults.specs.{declared.fault.RowFault.RowFault, View.{row_fault_view, row_faults_view}}
use Rattle.plan_tables.specs.PlanView.{PlanView}
use Rattle.cascade_rank.specs.{declared.fault.RankFault.RankFault, View.rank_view, Finding.RankView}
use Rattle.cascade_rank.specs.Finding as ranks
use Rattle.config_checker.specs.{declared.report.CertificateFault.CertificateFault, Checking.named_fault}
use Rattle.config_checker.specs.declared.report.{CheckFault.CheckFault, Report.Report}
use Rattle.config_checker.specs.declared.report.CertificateFault.TheVariants as certificates
use Rattle.config_checker.specs.declared.report.CheckFault.TheVariants as faults
use Rattle.config_checker.specs.declared.report.Report.TheVariants as reports
use Rattle.written_machine.specs.CheckedView.{CheckedView}
use Rattle.config_checker.specs.Checking.{CertificateFaultView, bad_line, other_events, other_switches, short}
use Rattle.config_checker.specs.Checking.{other_bound, other_cost, FaultView, row, limit, cycle, bound, certificate}
use Rattle.config_checker.specs.ReportText.{certificate_fault_text, report_line, report_text}

abbrev pub certificate_fault_view : CertificateFault → CertificateFaultView
certificate_fault_view (certificates.Line number) = bad_line number
certificate_fault_view certificates.Events = other_events
certificate_fault_view certificates.Switches = other_switches
certificate_fault_view (certificates.Short event needed) = short event.items needed.value
certificate_fault_view (certificates.Bound stated) = other_bound stated
certificate_fault_view (certificates.Switch switch cost) = other_cost switch.items cost

abbrev pub fault_view : CheckFault → FaultView
fault_view (faults.Row f) = row (row_fault_view f)
fault_view (faults.Limit t) = limit t
fault_view (faults.Cycle names) = cycle (map (λ v. v.items) names.items)
fault_view faults.Bound = bound
fault_view (faults.Certificate c) = certificate (certificate_fault_view c)

-- An answer is what checking gives, unless memory ran out.
abbrev pub GivesChecked : Result CheckedView Report → Result CheckedView (List FaultView) → Type 0
GivesChecked (Ok c) checked = checked ≡ Ok c
GivesChecked (Err reports.NoMemory) checked = Unit {0}
GivesChecked (Err (reports.Faults faults)) checked = checked ≡ Err (map fault_view faults.items)

-- A report lists the fault alone, unless memory ran out.
abbrev pub ReportsFault : Report → FaultView → Type 0
ReportsFault reports.NoMemory fault = Unit {0}
ReportsFault (reports.Faults faults) fault = map fault_view faults.items ≡ fault ∷ []

-- the events of the fault are the plan's
abbrev pub HasEvents : PlanView → RankView → Type 0
HasEvents plan (ranks.cycle events) = All (λ e. e.0 < length plan.events) events
HasEvents plan ranks.bound_too_large = Unit {0}
HasEvents plan (ranks.short event needed) = event.0 < length plan.events
HasEvents plan ranks.wrong_events = Unit {0}

abbrev pub faults_view : List CheckFault → List FaultView
faults_view faults = map fault_view faults

-- the report lists this fault alone, unless memory ran out
abbrev pub ReportsAlone : Report → CheckFault → Type 0
ReportsAlone report fault = ReportsFault report (fault_view fault)

-- these are the faults of rows, each as a fault of the configuration
abbrev pub AreOfRows : List RowFault → List CheckFault → Type 0
AreOfRows own faults = faults_view faults ≡ map row (row_faults_view own)

-- the fault is the one that is wrong with the weights, by the names of the plan's events
abbrev pub IsWeightsFault : PlanView → RankFault → CheckFault → Type 0
IsWeightsFault plan fault its_view = option_map (named_fault plan) (rank_view fault) ≡ Some (fault_view its_view)

-- the fault of the certificate, if there is one, is this
abbrev pub FindsWrong : Option CertificateFault → Option CertificateFaultView → Type 0
FindsWrong fault wrong = option_map certificate_fault_view fault ≡ wrong

-- ---- as text

-- the lines of faults
abbrev pub text_of_faults : List CheckFault → List ℕ
text_of_faults faults = report_text (map fault_view faults)

-- the line of a fault
abbrev pub text_of_fault : CheckFault → List ℕ
text_of_fault fault = report_line (fault_view fault)

-- what the line of a fault says of a certificate
abbrev pub text_of_certificate_fault : CertificateFault → List ℕ
text_of_certificate_fault fault = certificate_fault_text (certificate_fault_view fault)
