-- Faults, apart from where they lie in memory.
use Rattle.std.specs.Prelude.{ℕ, List}
use Rattle.plan_tables.specs.declared.table.Table.{Table}
use Rattle.row_faults.specs.FaultView.{RowFaultView}

-- what is wrong with a certificate
pub data CertificateFaultView : Type 0 where
  -- the first bad line
  bad_line : (number : ℕ) → CertificateFaultView
  -- its events are not those of the plan
  other_events : CertificateFaultView
  -- its switches are not those of the plan
  other_switches : CertificateFaultView
  -- the event weighs less than it needs
  short : (name : List ℕ) (least_weight : ℕ) → CertificateFaultView
  -- it states another bound than its weights have; theirs is this one
  other_bound : (bound : ℕ) → CertificateFaultView
  -- it states another cost of this switch than its weights give; the right cost is this one
  other_cost : (name : List ℕ) (cost : ℕ) → CertificateFaultView

-- a fault
pub data FaultView : Type 0 where
  -- what is wrong with the rows of a text
  row : RowFaultView → FaultView
  limit : Table → FaultView
  cycle : List (List ℕ) → FaultView
  bound : FaultView
  certificate : CertificateFaultView → FaultView
