use Rattle.trace_lines.specs.LineText.{off_text}
use Rattle.trace_lines.proofs.trace.write_off.Goals as goal
use Rattle.yaml_bytes.proofs.Writing.{one_more_piece}

pub loop-coil-preserved : goal.loop-coil-preserved
loop-coil-preserved g c =
    one_more_piece (off_text c.args.plan.now c.args.moment) c.args.coils.now c.loop-coil.coil-index _ _ _ _
    c.loop-coil-test.true c.loop-coil.invariant c.in_ok-write_coil_off.ensures
