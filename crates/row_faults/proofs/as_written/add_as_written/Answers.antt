use Rattle.std.{proofs.Common.{ap, sym, ◌∙◌}, specs.List.flat_map}
use Rattle.row_faults.specs.{Collected.with_faults, Named.named_faults}
use Rattle.row_faults.proofs.AsWritten.{seen-in_order, seen-unwritten}
use Rattle.row_faults.proofs.as_written.add_as_written.Goals as goal

pub returns : goal.returns
returns c =
    let f = c.args.faults.now in
    let see = named_faults f.rows f.text in
    c.in_ok-add_parts-2.ensures
    ∙ ap (λ parts. with_faults f (flat_map (λ part. see part.1) parts))
    (c.deref.ensures.value ∙ c.in_ok-order_written.ensures)
    ∙ ap (with_faults f) (seen-in_order see c.args.order.now c.args.parts.now)

pub returns-then-is_empty : goal.returns-then-is_empty
returns-then-is_empty c =
    let f = c.args.faults.now in
    let see = named_faults f.rows f.text in
    c.in_ok-add_parts.ensures
    ∙ ap (with_faults f) (seen-unwritten see c.args.order.now c.args.parts.now
    (sym c.is_empty.ensures ∙ c.if-is_empty.true))
