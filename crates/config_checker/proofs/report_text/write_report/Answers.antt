use Rattle.config_checker.{specs.{View.fault_view, ReportText.report_line}, proofs.Writing.written-seen}
use Rattle.config_checker.proofs.report_text.write_report.Goals as goal
use Rattle.yaml_bytes.proofs.Writing.{one_more_piece, all_pieces}

pub loop-fault-preserved : goal.loop-fault-preserved
loop-fault-preserved g c =
    one_more_piece (λ f. report_line (fault_view f)) c.args.faults.now c.loop-fault.fault-index c.fault-item.result _ _
    _ c.loop-fault-test.true c.loop-fault.invariant
    (rw (← c.fault-item.is) c.in_ok-write_fault.ensures)

pub returns : goal.returns
returns g c =
    written-seen report_line fault_view c.args.faults.now _ _
    (all_pieces (λ f. report_line (fault_view f)) c.args.faults.now c.loop-fault.fault-index _ _
    c.loop-fault-test.false c.loop-fault.invariant)
