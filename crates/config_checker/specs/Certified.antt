-- What contracts see of a certificate that was judged for a plan.
use Rattle.std.specs.Prelude.{ℕ, List, Result, Ok, Err}
use Rattle.plan_tables.specs.PlanView.{PlanView}
use Rattle.cascade_rank.specs.{declared.verdict.Bound.Bound, Finding.verified_at}
use Rattle.written_machine.specs.CheckedView.{CheckedView}
use Rattle.config_checker.specs.{declared.report.Report.Report, CertificateText.Certificate}
use Rattle.config_checker.specs.Checking.{FaultView, numbers_of, answer_by_bound}

-- the plan with the weights and the bound, if they serve
abbrev pub as_checked : PlanView → Result (List ℕ × Bound) Report → Result CheckedView Report
as_checked plan (Ok x) = Ok (record { plan = plan; weights = x.0; bound = x.1.0 })
as_checked plan (Err report) = Err report

-- a certificate whose names are those of the plan
abbrev pub judge : PlanView → Certificate → Result CheckedView FaultView
judge plan c = answer_by_bound plan c (verified_at plan (numbers_of c.events))
