-- Faults of rows, apart from where they lie in memory.
use Rattle.std.specs.Prelude.{ℕ, List}
use Rattle.row_faults.specs.declared.fault.RowFaultKind.{RowFaultKind}

-- what is wrong with the rows of a text: of which kind it is, the name of the text, and the line and the name that are
-- at fault
pub record RowFaultView : Type 0 where
  pub kind : RowFaultKind
  pub text : List ℕ
  pub line : ℕ
  pub name : List ℕ
