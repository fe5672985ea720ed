use Rattle.std.{proofs.Common.{List, map, ap, sym, ◌∙◌}, specs.List.flat_map}
use Rattle.mpf_sections.specs.{Rows.WrittenName, View.name_view}
use Rattle.row_faults.{specs.Collected.{with_faults, post_faults}, proofs.AsWritten.{seen-in_order, seen-unwritten}}
use Rattle.row_faults.proofs.reserved.add_in_order.Goals as goal

pub returns : goal.returns
returns c =
    let f = c.args.faults.now in
    c.in_ok-add_parts-2.ensures
    ∙ ap (λ parts. with_faults f (post_faults f (flat_map (λ part. map name_view part.1.now) parts)))
    (c.deref.ensures.value ∙ c.in_ok-in_order.ensures)
    ∙ ap (λ (posts : List WrittenName). with_faults f (post_faults f posts))
    (seen-in_order (λ names. map name_view names.now) c.args.order.now c.args.parts.now)

pub returns-then-is_empty : goal.returns-then-is_empty
returns-then-is_empty c =
    let f = c.args.faults.now in
    c.in_ok-add_parts.ensures
    ∙ ap (λ (posts : List WrittenName). with_faults f (post_faults f posts))
    (seen-unwritten (λ names. map name_view names.now) c.args.order.now c.args.parts.now
    (sym c.is_empty.ensures ∙ c.if-is_empty.true))
