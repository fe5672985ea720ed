-- The line that a fault of rows is printed as.
use Rattle.std.specs.{Prelude.{ℕ, List, [], ◌∷◌, ◌++◌, codes}, Fmt.decimal}
use Rattle.mpf_config.specs.{FaultLine.with_blank, Escaped.escape_bytes}
use Rattle.row_faults.specs.declared.fault.RowFaultKind.{RowFaultKind, TheVariants.{TimerAtEnd, BallRoute}}
use Rattle.row_faults.specs.FaultView.{RowFaultView}
use Rattle.row_faults.specs.declared.fault.RowFaultKind.TheVariants.{Name, PulseLimit, PowerLimit, HoldNotAllowed}

-- the number and the name of a fault of a row
abbrev pub row_fault_number : RowFaultKind → ℕ
row_fault_number Name = 1
row_fault_number PulseLimit = 2
row_fault_number PowerLimit = 3
row_fault_number HoldNotAllowed = 4
row_fault_number TimerAtEnd = 5
row_fault_number BallRoute = 6

abbrev pub row_fault_name : RowFaultKind → List ℕ
row_fault_name Name = codes "Name"
row_fault_name PulseLimit = codes "PulseLimit"
row_fault_name PowerLimit = codes "PowerLimit"
row_fault_name HoldNotAllowed = codes "HoldNotAllowed"
row_fault_name TimerAtEnd = codes "TimerAtEnd"
row_fault_name BallRoute = codes "BallRoute"

-- `fault NUMBER NAME`
abbrev pub row_title : RowFaultKind → List ℕ
row_title kind = codes "fault " ++ decimal (row_fault_number kind) ++ with_blank (row_fault_name kind)

-- ` TEXT LINE NAME`, and LF
abbrev pub row_place : List ℕ → ℕ → List ℕ → List ℕ
row_place text line name = with_blank (escape_bytes text) ++ with_blank (decimal line) ++ with_blank name ++ 10 ∷ []

-- `fault NUMBER NAME TEXT LINE NAME`, and LF
abbrev pub row_fault_line : RowFaultView → List ℕ
row_fault_line f = row_title f.kind ++ row_place f.text f.line f.name
