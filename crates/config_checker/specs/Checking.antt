-- What the checker answers.
use Rattle.std.specs.Prelude.{ℕ, ◌==◌, ◌&&◌, Bool, true, false, if◌then◌else◌, Option, None, Some, List, [], ◌∷◌, map}
use Rattle.std.specs.{Prelude.{Result, Ok, Err}, Str.bytes_eq}
use Rattle.mpf_config.specs.Rows.{Rows}
use Rattle.plan_tables.specs.{PlanView.{PlanView, name_of_event}, Limits.entry_names}
use Rattle.plan_tables.specs.declared.table.Table.TheVariants.{Switches}
use Rattle.mpf_plan.specs.PlanOf.{plan_at, PlanRefusal, no_such_name, above_limit}
use Rattle.cascade_rank.specs.{Events.weight_of, Weights.{bound_of, switch_costs}}
use Rattle.cascade_rank.specs.Finding.{RankView, found_at, verified_at}
use Rattle.cascade_rank.specs.Finding as ranks
use Rattle.written_machine.specs.CheckedView.{CheckedView}
pub use Rattle.config_checker.specs.FaultView.{CertificateFaultView, bad_line, other_events, other_switches, short}
pub use Rattle.config_checker.specs.FaultView.{other_bound, other_cost, FaultView, row, limit, cycle, bound}
pub use Rattle.config_checker.specs.FaultView.{certificate}
use Rattle.row_faults.specs.RowFaults.{row_faults}
use Rattle.config_checker.specs.{CertificateText.{NumberedName, Certificate}, CertificateOf.certificate_at}

-- what is wrong, by the names of the events
abbrev pub named_fault : PlanView → RankView → FaultView
named_fault plan (ranks.cycle events) = cycle (map (name_of_event plan) events)
named_fault plan ranks.bound_too_large = bound
named_fault plan (ranks.short event needed) = certificate (short (name_of_event plan event) needed)
named_fault plan ranks.wrong_events = certificate other_events

-- ---- with the least weights

abbrev pub answer_of_weights : PlanView → Result (List ℕ) RankView → Result CheckedView FaultView
answer_of_weights plan (Ok weights) = Ok (record
    { plan = plan; weights = weights; bound = bound_of plan (weight_of weights) })
answer_of_weights plan (Err fault) = Err (named_fault plan fault)

unfoldable pub weighed_plan : PlanView → Result CheckedView FaultView
weighed_plan plan = answer_of_weights plan (found_at plan)

-- ---- with the weights of a certificate

abbrev pub same_names : List (List ℕ) → List (List ℕ) → Bool
same_names [] [] = true
same_names (x ∷ xs) (y ∷ ys) = bytes_eq x y && same_names xs ys
same_names [] (y ∷ ys) = false
same_names (x ∷ xs) [] = false

abbrev pub names_of : NumberedName → List (List ℕ)
names_of all = map (λ s. s.0) all

abbrev pub numbers_of : NumberedName → List ℕ
numbers_of all = map (λ s. s.1) all

-- the fault, if switches are stated that are not those of the plan
abbrev pub other_names : PlanView → Option NumberedName → Option CertificateFaultView
other_names plan None = None
other_names plan (Some switches) = if same_names (entry_names plan Switches) (names_of switches) then None else Some
    other_switches

-- other events are reported before other switches
abbrev pub wrong_names : PlanView → Certificate → Option CertificateFaultView
wrong_names plan c = if same_names plan.events (names_of c.events) then other_names plan c.switches else Some
    other_events

-- the first whose number differs from the one at its place in the second list: its name, and the number in the second
-- list
abbrev pub first_other : NumberedName → List ℕ → Option (List ℕ × ℕ)
first_other (s ∷ more) (right ∷ rights) = if s.1 == right then first_other more rights else Some (s.0, right)
first_other [] rights = None
first_other (s ∷ more) [] = None

-- the first switch whose stated cost is wrong: its name, and its cost at the certificate's weights
abbrev pub wrong_cost : PlanView → List ℕ → Option NumberedName → Option (List ℕ × ℕ)
wrong_cost plan weights None = None
wrong_cost plan weights (Some switches) = first_other switches (switch_costs plan (weight_of weights))

abbrev pub with_costs : PlanView → Certificate → Option (List ℕ × ℕ) → Result CheckedView FaultView
with_costs plan c None = Ok (record { plan = plan; weights = numbers_of c.events; bound = c.bound })
with_costs plan c (Some s) = Err (certificate (other_cost s.0 s.1))

-- the weights are judged before the bound that is stated, and that before the costs of the switches
abbrev pub answer_by_bound : PlanView → Certificate → Result ℕ RankView → Result CheckedView FaultView
answer_by_bound plan c (Ok b) = if b == c.bound then with_costs plan c
    (wrong_cost plan (numbers_of c.events) c.switches) else Err (certificate (other_bound b))
answer_by_bound plan c (Err fault) = Err (named_fault plan fault)

-- the names are judged before the weights
abbrev pub named_as : PlanView → Certificate → Option CertificateFaultView → Result CheckedView FaultView
named_as plan c (Some fault) = Err (certificate fault)
named_as plan c None = answer_by_bound plan c (verified_at plan (numbers_of c.events))

abbrev pub certify : PlanView → Result Certificate ℕ → Result CheckedView FaultView
certify plan (Ok c) = named_as plan c (wrong_names plan c)
certify plan (Err number) = Err (certificate (bad_line number))

unfoldable pub certified_plan : List ℕ → PlanView → Result CheckedView FaultView
certified_plan text plan = certify plan (certificate_at text)

-- ---- rows

-- the faults of the rows themselves, in the order in which a report lists them
abbrev pub faults_of_rows : Rows → List FaultView
faults_of_rows rows = map row (row_faults rows)

-- A report lists them all. Only if there are none does it say what is wrong with the plan.
abbrev pub faults_first : {X : Type 0} → List FaultView → Result X (List FaultView) → Result X (List FaultView)
faults_first [] answer = answer
faults_first (fault ∷ faults) answer = Err (fault ∷ faults)

-- a fault of a plan, or of a certificate for it, is reported alone
abbrev pub reported_alone : {X Y : Type 0} → Result X Y → Result X (List Y)
reported_alone (Ok x) = Ok x
reported_alone (Err y) = Err (y ∷ [])

-- A table above its limit is reported before a fault of the plan. Rows without faults lack no name.
abbrev pub check_plan : (PlanView → Result CheckedView FaultView) → Result PlanView PlanRefusal
    → Result CheckedView (List FaultView)
check_plan judge (Ok plan) = reported_alone (judge plan)
check_plan judge (Err no_such_name) = Err []
check_plan judge (Err (above_limit t)) = Err (limit t ∷ [])

unfoldable pub checked_at : Rows → Result CheckedView (List FaultView)
checked_at rows = faults_first (faults_of_rows rows) (check_plan weighed_plan (plan_at rows))

-- the certificate's weights are taken as they are
unfoldable pub checked_with_at : Rows → List ℕ → Result CheckedView (List FaultView)
checked_with_at rows text = faults_first (faults_of_rows rows) (check_plan (certified_plan text) (plan_at rows))
