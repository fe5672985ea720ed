use Rattle.std.proofs.Common.{List, [], ◌∷◌, ◌++◌, length, take, drop, get_or, sym, ap, ◌∙◌, subst, arith}
use Rattle.std.proofs.lemmas.List.{length-append, length-drop}
use Rattle.plan_tables.specs.declared.entries.BindingId.{BindingId}
use Rattle.event_queue.specs.OrderedLists.{put_all, runs_before}
use Rattle.event_queue.proofs.{Walk.{IsMerging, merging-step, rest-of}, Joined.runs-order}
use Rattle.event_queue.proofs.orders.merge.Goals as goal

pub loop-rest-preserved : goal.loop-rest-preserved
loop-rest-preserved c =
    let before = runs_before c.args.plan.now in
    let target = put_all before c.args.group.now c.args.order.now in
    let fresh = c.loop-rest.fresh.items in
    let rest = c.loop-rest.rest.now in
    let first : BindingId = get_or rest 0 (record { 0 = 0 }) in
    let some = c.in-len1-up.len_at_least in
    let was = c.loop-rest.invariant in
    let now = c.add_one.new.to.items in
    let back = c.split_at.result.1.now in
    let written = c.add_one.ensures.items ∙ ap (λ xs. xs ++ first ∷ [])
    (c.add_all.ensures.items ∙ ap (λ xs. fresh ++ xs) c.split_at.ensures.front) in
    let step = merging-step before (record { 0 = 0 }) (runs-order c.args.plan.now) target rest fresh
    c.loop-rest.rest_of_order.now c.index_of.result some c.index_of.ensures was.merging in
    let one = ap length c.add_one.ensures.items ∙ length-append c.add_all.new.to.items (first ∷ []) in
    let all = ap length c.add_all.ensures.items ∙ length-append fresh c.split_at.result.0.now in
    let more = ap length (rest-of rest) ∙ length-drop 1 rest in
    record {
      merging =
          subst (λ (xs : List BindingId). IsMerging before target xs now back) (sym (rest-of rest))
          (subst (λ (xs : List BindingId). IsMerging before target (drop 1 rest) xs back) (sym written)
          (subst (λ (xs : List BindingId). IsMerging before target (drop 1 rest)
          ((fresh ++ take c.index_of.result c.loop-rest.rest_of_order.now) ++ first ∷ []) xs)
          (sym c.split_at.ensures.back) step));
      room = omega (arith, one, all, more, some, c.split_at.ensures.front_len, c.split_at.ensures.back_len, was.room);
      capacity = omega (arith, c.add_one.ensures.capacity, c.add_all.ensures.capacity, was.capacity);
    }
