use Rattle.mpf_config.{specs.Escaped.escaped_byte, proofs.Writing.escaped_all}
use Rattle.yaml_bytes.proofs.Writing.{one_more_piece}
use Rattle.mpf_config.proofs.escape.write_bytes.Goals as goal

pub loop-byte-preserved : goal.loop-byte-preserved
loop-byte-preserved g c = one_more_piece escaped_byte c.args.text.now c.loop-byte.byte-index 0 _ _ _
    c.loop-byte-test.true c.loop-byte.invariant c.in_ok-write_byte.ensures

pub returns : goal.returns
returns g c = escaped_all c.args.text.now c.loop-byte.byte-index _ _ c.loop-byte-test.false c.loop-byte.invariant
