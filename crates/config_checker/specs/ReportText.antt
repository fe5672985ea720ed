-- The text of a report.
use Rattle.std.specs.{Prelude.{ℕ, List, [], ◌∷◌, ◌++◌, codes}, List.flat_map, Fmt.decimal}
use Rattle.plan_tables.specs.Limits.{table_name}
use Rattle.mpf_config.specs.FaultLine.{with_blank}
use Rattle.row_faults.specs.FaultText.{row_fault_line}
use Rattle.config_checker.specs.FaultView.{CertificateFaultView, bad_line, other_events, other_switches, short}
use Rattle.config_checker.specs.FaultView.{other_bound, other_cost, FaultView, row, limit, cycle, bound, certificate}

-- `Line N`, `Events`, `Switches`, `Short EVENT NEEDED`, `Bound N` or `Switch SWITCH COST`
abbrev pub certificate_fault_text : CertificateFaultView → List ℕ
certificate_fault_text (bad_line number) = codes "Line " ++ decimal number
certificate_fault_text other_events = codes "Events"
certificate_fault_text other_switches = codes "Switches"
certificate_fault_text (short name needed) = codes "Short " ++ name ++ codes " " ++ decimal needed
certificate_fault_text (other_bound right) = codes "Bound " ++ decimal right
certificate_fault_text (other_cost name right) = codes "Switch " ++ name ++ codes " " ++ decimal right

-- the line of a fault of a row, `fault 7 Limit TABLE`, `fault 8 Cycle E1 E2 ..`, `fault 9 Bound` or
-- `fault 10 Certificate ..`, and LF
abbrev pub report_line : FaultView → List ℕ
report_line (row f) = row_fault_line f
report_line (limit t) = codes "fault 7 Limit " ++ table_name t ++ 10 ∷ []
report_line (cycle names) = codes "fault 8 Cycle" ++ flat_map with_blank names ++ 10 ∷ []
report_line bound = codes "fault 9 Bound" ++ 10 ∷ []
report_line (certificate fault) = codes "fault 10 Certificate " ++ certificate_fault_text fault ++ 10 ∷ []

-- a line for each fault, in order
abbrev pub report_text : List FaultView → List ℕ
report_text faults = flat_map report_line faults
