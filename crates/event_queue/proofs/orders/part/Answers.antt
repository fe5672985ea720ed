use Rattle.std.proofs.Common.{◌-◌, List, ◌++◌, length, take, drop, sym, ap, ◌∙◌, subst, arith}
use Rattle.std.proofs.lemmas.List.{length-append, length-drop}
use Rattle.plan_tables.specs.declared.entries.BindingId.{BindingId}
use Rattle.event_queue.specs.OrderedLists.{runs_before}
use Rattle.event_queue.proofs.{Walk.{IsParting, parting-there, parting-step, rest-of}, Joined.{runs-order, runs-same}}
use Rattle.event_queue.proofs.orders.part.Goals as goal

pub slice_bounds-rest_of_order-count : goal.slice_bounds-rest_of_order-count
slice_bounds-rest_of_order-count c =
    let there =
    parting-there (runs_before c.args.plan.now) (record { 0 = 0 }) (runs-order c.args.plan.now)
    (runs-same c.args.plan.now) c.args.group.now c.args.order.now c.loop-rest.rest.now c.loop-rest.fresh.items
    c.loop-rest.rest_of_order.now c.index_of.result c.in-len1-up.len_at_least c.index_of.ensures
    c.loop-rest.invariant.parting c.requires.among.0 c.requires.among.1 c.requires.among.2 in
    omega (arith, there, c.split_at.ensures.back_len)

pub slice_bounds-rest_of_order-start : goal.slice_bounds-rest_of_order-start
slice_bounds-rest_of_order-start c = slice_bounds-rest_of_order-count c

pub loop-rest-preserved : goal.loop-rest-preserved
loop-rest-preserved c =
    let before = runs_before c.args.plan.now in
    let group = c.args.group.now in
    let order = c.args.order.now in
    let fresh = c.loop-rest.fresh.items in
    let left = c.loop-rest.rest_of_order.now in
    let rest = c.loop-rest.rest.now in
    let k = c.index_of.result in
    let some = c.in-len1-up.len_at_least in
    let was = c.loop-rest.invariant in
    let now = c.add_all.new.to.items in
    let back = c.split_at.result.1.now in
    let written = c.add_all.ensures.items ∙ ap (λ xs. fresh ++ xs) c.split_at.ensures.front in
    let kept = rest-of back ∙ ap (λ xs. drop 1 xs) c.split_at.ensures.back in
    let step = parting-step before (record { 0 = 0 }) (runs-order c.args.plan.now) (runs-same c.args.plan.now) group
    order rest fresh left k some c.index_of.ensures was.parting in
    let all = ap length c.add_all.ensures.items ∙ length-append fresh c.split_at.result.0.now in
    let less = ap length (rest-of back) ∙ length-drop 1 back in
    record {
      parting =
          subst (λ (xs : List BindingId). IsParting before group order xs now (take (length back - 1) (drop 1 back)))
          (sym (rest-of rest))
          (subst (λ (xs : List BindingId). IsParting before group order (drop 1 rest) xs
          (take (length back - 1) (drop 1 back))) (sym written)
          (subst (λ (xs : List BindingId). IsParting before group order (drop 1 rest) (fresh ++ take k left) xs)
          (sym kept) step));
      room = omega (arith, all, less, c.split_at.ensures.front_len, c.split_at.ensures.back_len, was.room);
      capacity = omega (arith, c.add_all.ensures.capacity, was.capacity);
    }
