use Rattle.std.proofs.{Common.{rules, ◌≡◌, false, sym, arith}, lemmas.List.Sorted.IsPartitionPoint-from_clause}
use Rattle.event_queue.specs.OrderedLists.{runs_before}
use Rattle.event_queue.proofs.{Put.ordered-parted, Walk.none-before, Joined.runs-order}
use Rattle.event_queue.proofs.orders.index_of.Goals as goal

pub returns : goal.returns
returns c =
    let plan = c.args.plan.now in
    let places = c.args.order.now in
    let parted = ordered-parted (runs_before plan) (runs-order plan) c.args.place places c.requires in (
      c.partition_point.ensures.bound,
      IsPartitionPoint-from_clause (λ p. runs_before plan p c.args.place) places c.partition_point.result
          c.partition_point.ensures.partitioned parted (λ a r q k. search rules),
    )

pub returns-then-not-runs_before : goal.returns-then-not-runs_before
returns-then-not-runs_before c =
    let plan = c.args.plan.now in
    let not : runs_before plan c.in-Some.first.now c.args.place ≡ false = search rules in (
      omega arith,
      (
        (λ k d low high. absurd (omega arith)),
        λ k d low high. none-before (runs_before plan) (runs-order plan) c.args.place c.args.order.now
            c.in-Some.first.now (sym c.in-Some.ensures.value) c.requires not k d high,
      ),
    )
