use Rattle.std.{proofs.Common.{◌≡◌, drop}, specs.List.flat_map}
use Rattle.row_faults.specs.{Named.named_faults, Collected.with_faults}
use Rattle.row_faults.proofs.as_written.add_parts.Given as goal

abbrev pub invariant-loop-part : goal.invariant-loop-part
invariant-loop-part l =
    with_faults l.faults (flat_map (λ part. named_faults l.faults.rows l.faults.text part.1)
    (drop l.part-index l.parts))
    ≡ with_faults l.initial.faults (flat_map (λ part. named_faults l.initial.faults.rows l.initial.faults.text part.1)
    l.parts)
