use Rattle.mpf_config.{specs.View.rows_fault_view, proofs.Writing.written}
use Rattle.mpf_config.proofs.fault.write_fault.Goals as goal

pub returns : goal.returns
returns g c =
    written c.write_all.result (rows_fault_view c.args.fault.now) c.number.result c.name.result.now _ _ _ _ _ _
    c.number.ensures c.name.ensures
    c.in_ok-write.ensures.bytes (rw c.deref.ensures.value at c.in_ok-write_escaped.ensures)
    c.in_ok-write-2.ensures.bytes (rw c.deref-2.ensures.value at c.in_ok-write_escaped-2.ensures)
    c.write_all.ensures.bytes
