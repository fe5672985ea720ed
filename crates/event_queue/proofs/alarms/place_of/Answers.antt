use Rattle.std.proofs.Common.{◌-◌, ◌≡◌, length, get_or, sym, subst, ap, ◌∙◌, refl, rules, arith}
use Rattle.std.proofs.lemmas.List.Sorted.{IsPartitionPoint-from_clause}
use Rattle.event_queue.specs.{Alarms.comes_before, OrderedLists.IsPlaceOf}
use Rattle.event_queue.proofs.{Put.{ordered-parted, place-front, place-back}, InOrder.before-order}
use Rattle.event_queue.proofs.alarms.place_of.Goals as goal

pub returns-then-not-comes_before : goal.returns-then-not-comes_before
returns-then-not-comes_before c =
    let alarms = c.args.queue.now.items in
    place-front comes_before before-order c.args.alarm c.in-Some-Some.first.now alarms c.requires
    (omega (arith, c.in-Some-Some.ensures.variant.0 refl, c.args.queue.now.ok.0))
    c.in-Some-Some.ensures.lookup (sym c.if-not-comes_before.ensures)

pub returns-then-comes_before : goal.returns-then-comes_before
returns-then-comes_before c =
    let alarms = c.args.queue.now.items in
    let last = c.in-Some-Some.last.now in
    let all : length alarms ≡ c.len.result = omega (arith, c.len.ensures, c.args.queue.now.ok.0) in
    let place : c.args.queue.now.len ≡ length alarms = omega (arith, c.args.queue.now.ok.0) in
    subst (IsPlaceOf comes_before c.args.alarm alarms) all
    (place-back comes_before before-order c.args.alarm last alarms c.requires
    (omega (arith, c.in-Some-Some.ensures.variant.0 refl, c.args.queue.now.ok.0))
    (c.in-Some-Some.ensures'.lookup ∙ ap (λ n. get_or alarms (n - 1) last) place) (sym c.if-comes_before.ensures))

pub returns : goal.returns
returns c =
    let alarms = c.args.queue.now.items in
    let parted = ordered-parted comes_before before-order c.args.alarm alarms c.requires in (
      omega (arith, c.partition_point.ensures.bound, c.args.queue.now.ok.0),
      IsPartitionPoint-from_clause (λ a. comes_before a c.args.alarm) alarms c.partition_point.result
          c.partition_point.ensures.partitioned parted (λ a r q k. search rules),
    )
