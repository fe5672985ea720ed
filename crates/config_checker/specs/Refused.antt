-- Why a configuration or a certificate is refused.
use Rattle.std.specs.Prelude.{◌⊎◌, ◌≡◌, ◌≢◌, ℕ, ◌<◌, Option, None, Some, List, [], ◌∷◌, length, map, slice_index}
use Rattle.mpf_config.specs.Rows.{Rows}
use Rattle.plan_tables.specs.{PlanView.{PlanView, name_of_event, switch_at}, Limits.entry_names}
use Rattle.plan_tables.specs.declared.{table.Table.TheVariants.Switches, entries.EventId.EventId}
use Rattle.mpf_plan.specs.PlanOf.{plan_of, IsExceeded}
use Rattle.cascade_rank.specs.{Events.weight_of, Weights.switch_cost, Found.IsUnfound}
use Rattle.cascade_rank.specs.Finding as ranks
use Rattle.cascade_rank.specs.Verified.{IsVerified, IsFirstShort, IsUnverified}
use Rattle.config_checker.specs.{declared.report.Report.Report, CertificateOf.IsTextOf, View.fault_view}
use Rattle.config_checker.specs.declared.report.Report.TheVariants as reports
use Rattle.config_checker.specs.CertificateText.{NumberedName, Certificate}
use Rattle.config_checker.specs.Checking.{CertificateFaultView, bad_line, other_events, other_switches, short}
use Rattle.config_checker.specs.Checking.{other_bound, other_cost, FaultView, row, limit, cycle, bound, certificate}
use Rattle.config_checker.specs.Checking.{names_of, numbers_of, faults_of_rows}

-- the names are those of events that lead to each other: of the cycle that is reported
pub record IsCycleOf (plan : PlanView) (names : List (List ℕ)) : Type 0 where
  pub events : List EventId
  pub reason : IsUnfound plan (ranks.cycle events)
  pub names_are : names ≡ map (name_of_event plan) events

-- the table is the first that is above its limit
abbrev pub IsLimitFault : Rows → FaultView → Type 0
IsLimitFault rows (row f) = ⊥
IsLimitFault rows (limit t) = IsExceeded rows t
IsLimitFault rows (cycle names) = ⊥
IsLimitFault rows bound = ⊥
IsLimitFault rows (certificate fault) = ⊥

-- ---- with the least weights

-- The fault says what is wrong if no row has a fault: a table of the plan is above its limit, its events lead to each
-- other, or its least weights or their bound are above the limit.
abbrev pub IsFaultOf : Rows → FaultView → Type 0
IsFaultOf rows (row f) = ⊥
IsFaultOf rows (limit t) = IsExceeded rows t
IsFaultOf rows (cycle names) = IsCycleOf (plan_of rows) names
IsFaultOf rows bound = IsUnfound (plan_of rows) ranks.bound_too_large
IsFaultOf rows (certificate fault) = ⊥

-- ---- with a certificate

-- the switches are those of the plan, if they are stated
abbrev pub HasItsSwitches : PlanView → Option NumberedName → Type 0
HasItsSwitches plan None = Unit {0}
HasItsSwitches plan (Some switches) = names_of switches ≡ entry_names plan Switches

-- the text is a certificate, and its events and its switches are those of the plan
pub record IsCertificateOf (plan : PlanView) (text : List ℕ) (c : Certificate) : Type 0 where
  pub text_is : IsTextOf c text
  pub events : names_of c.events ≡ plan.events
  pub switches : HasItsSwitches plan c.switches

-- the text is no certificate
abbrev pub IsNoCertificate : List ℕ → Type 0
IsNoCertificate text = (c : Certificate) → ¬ (IsTextOf c text)

pub record HasOtherEvents (plan : PlanView) (text : List ℕ) : Type 0 where
  pub certificate : Certificate
  pub text_is : IsTextOf certificate text
  pub other : names_of certificate.events ≢ plan.events

-- the events are those of the plan, and the switches are not
pub record HasOtherSwitches (plan : PlanView) (text : List ℕ) : Type 0 where
  pub certificate : Certificate
  pub text_is : IsTextOf certificate text
  pub events : names_of certificate.events ≡ plan.events
  pub other : ¬ (HasItsSwitches plan certificate.switches)

-- of the events that weigh too little the first has this name, and needs so much
pub record HasShortEvent (plan : PlanView) (text name : List ℕ) (least_weight : ℕ) : Type 0 where
  pub certificate : Certificate
  pub of_plan : IsCertificateOf plan text certificate
  pub event : EventId
  pub first : IsFirstShort plan (numbers_of certificate.events) event least_weight
  pub name_is : name ≡ name_of_event plan event

-- the weights serve, and have another bound
pub record HasOtherBound (plan : PlanView) (text : List ℕ) (right : ℕ) : Type 0 where
  pub certificate : Certificate
  pub of_plan : IsCertificateOf plan text certificate
  pub verification : IsVerified plan (numbers_of certificate.events) right
  pub other : certificate.bound ≢ right

-- the stated cost of the switch of this number is right
abbrev pub IsRightAt : PlanView → (EventId → ℕ) → NumberedName → ℕ → Type 0
IsRightAt plan w switches n = slice_index (numbers_of switches) n ≡ switch_cost plan w (record { 0 = n })

-- the first switch whose stated cost is wrong has this name, and this is its right cost
pub record HasOtherCost (plan : PlanView) (text name : List ℕ) (right : ℕ) : Type 0 where
  pub certificate : Certificate
  pub of_plan : IsCertificateOf plan text certificate
  pub verification : IsVerified plan (numbers_of certificate.events) certificate.bound
  pub switches : NumberedName
  pub switches_are : certificate.switches ≡ Some switches
  pub number : ℕ
  pub within : number < length plan.switches
  pub other : ¬ (IsRightAt plan (weight_of (numbers_of certificate.events)) switches number)
  pub first : (n : ℕ) → n < number → IsRightAt plan (weight_of (numbers_of certificate.events)) switches n
  pub name_is : name ≡ (switch_at plan (record { 0 = number })).name
  pub right_is : right ≡ switch_cost plan (weight_of (numbers_of certificate.events)) (record { 0 = number })

-- the weights fit, and one of them or their bound is above the limit
pub record HasTooMuch (plan : PlanView) (text : List ℕ) : Type 0 where
  pub certificate : Certificate
  pub of_plan : IsCertificateOf plan text certificate
  pub above : IsUnverified plan (numbers_of certificate.events) ranks.bound_too_large

abbrev pub IsCertificateFault : PlanView → List ℕ → CertificateFaultView → Type 0
IsCertificateFault plan text (bad_line number) = IsNoCertificate text
IsCertificateFault plan text other_events = HasOtherEvents plan text
IsCertificateFault plan text other_switches = HasOtherSwitches plan text
IsCertificateFault plan text (short name least_weight) = HasShortEvent plan text name least_weight
IsCertificateFault plan text (other_bound right) = HasOtherBound plan text right
IsCertificateFault plan text (other_cost name right) = HasOtherCost plan text name right

-- the fault says what is wrong with the rows or with the certificate
abbrev pub IsFaultWith : Rows → List ℕ → FaultView → Type 0
IsFaultWith rows text (row f) = ⊥
IsFaultWith rows text (limit t) = IsExceeded rows t
IsFaultWith rows text (cycle names) = ⊥
IsFaultWith rows text bound = HasTooMuch (plan_of rows) text
IsFaultWith rows text (certificate fault) = IsCertificateFault (plan_of rows) text fault

-- A report lists all faults of the rows. If they have none, it lists one fault that is there: of their plan or of
-- the certificate.
abbrev pub IsReport : (FaultView → Type 0) → List FaultView → List FaultView → Type 0
IsReport there [] faults = (fault : FaultView) × (faults ≡ fault ∷ []) × there fault
IsReport there (own ∷ more) faults = faults ≡ own ∷ more

-- so it is of rows, unless memory ran out
abbrev pub Reports : (FaultView → Type 0) → Rows → Report → Type 0
Reports there rows reports.NoMemory = Unit {0}
Reports there rows (reports.Faults faults) = IsReport there (faults_of_rows rows) (map fault_view faults.items)

-- the report of one fault, which is there
abbrev pub ReportsOne : (FaultView → Type 0) → Report → Type 0
ReportsOne there reports.NoMemory = Unit {0}
ReportsOne there (reports.Faults faults) = IsReport there [] (map fault_view faults.items)

-- the report of the faults of rows, of which there are some
abbrev pub AreOwn : List FaultView → List FaultView → Type 0
AreOwn [] faults = ⊥
AreOwn (own ∷ more) faults = faults ≡ own ∷ more

abbrev pub ReportsOwn : Rows → Report → Type 0
ReportsOwn rows reports.NoMemory = Unit {0}
ReportsOwn rows (reports.Faults faults) = AreOwn (faults_of_rows rows) (map fault_view faults.items)

-- the report if there is no plan: that of the faults of rows, or if there are none, of the table above its limit
abbrev pub ReportsNoPlan : Rows → Report → Type 0
ReportsNoPlan rows reports.NoMemory = Unit {0}
ReportsNoPlan rows (reports.Faults faults) =
    ReportsOwn rows (reports.Faults faults)
    ⊎ ((faults_of_rows rows ≡ []) × ReportsOne (IsLimitFault rows) (reports.Faults faults))
