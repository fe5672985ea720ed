use Rattle.std.{proofs.Common.take, specs.{List.flat_map, Io.KnownBytes.Appends}}
use Rattle.config_checker.specs.{View.fault_view, ReportText.report_line}
use Rattle.config_checker.proofs.report_text.write_report.Given as goal

-- the lines of the faults so far are written
abbrev pub invariant-loop-fault : goal.invariant-loop-fault
invariant-loop-fault g l =
    Appends (g.W.Write.contents l.fn.writer) (g.W.Write.contents l.writer)
    (flat_map (λ f. report_line (fault_view f)) (take l.fault-index l.faults))
