use Rattle.std.proofs.{Common.{rules, ap, ◌∙◌}, lemmas.Fn.always_returns_same}
use Rattle.row_faults.{specs.AsWritten.{ordered_by, written_before}, proofs.ByLine.sorted-is}
use Rattle.row_faults.proofs.as_written.as_written.Goals as goal

pub returns : goal.returns
returns g c =
    let sort = c.in_ok-sort_by_key.ensures in
    let order = c.args.order.now in
    sorted-is (λ part. written_before order part.0) c.in_ok-order_written.order_written.items
    c.sort_by_key.new.self.items
    (sort.sorted (λ part. written_before order part.0) (always_returns_same _ _ _ (λ a r q k. search rules)))
    (sort.stable (λ part. written_before order part.0) (always_returns_same _ _ _ (λ a r q k. search rules)))
    ∙ ap (ordered_by (λ part. written_before order part.0)) c.in_ok-order_written.ensures.items
