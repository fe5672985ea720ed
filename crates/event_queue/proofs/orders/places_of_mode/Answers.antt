use Rattle.std.proofs.{Common.{rules, IsPermutation, subst, ◌∙◌}, lemmas.Fn.always_returns_same}
use Rattle.event_queue.{specs.OrderedLists.stands_before, proofs.Rests.{stands-order, sorted-owned}}
use Rattle.event_queue.proofs.orders.places_of_mode.Goals as goal

pub returns : goal.returns
returns c =
    let plan = c.args.plan.now in
    let sort = c.sort_unstable_by.ensures in
    sorted-owned plan c.args.mode c.sort_unstable_by.new.self.items
    (subst (λ xs. IsPermutation xs c.sort_unstable_by.new.self.items)
    (c.in_ok-own.ensures.items ∙ c.bindings_of_mode.ensures.places) sort.permutation)
    (sort.sorted (stands_before plan) (stands-order plan) (always_returns_same _ _ _ (λ a r q k. search rules)))
