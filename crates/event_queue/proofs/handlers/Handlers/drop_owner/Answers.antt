use Rattle.std.proofs.Common.{◌≡◌, ◌<◌, ◌++◌, true, false, List, Vec, Global, length, get_or, slice_set, sym, ap, ◌∙◌}
use Rattle.std.proofs.{Common.{subst, arith}, lemmas.List.get_or_default}
use Rattle.plan_tables.specs.declared.entries.BindingId.{BindingId}
use Rattle.event_queue.{specs.Handlers.{HandlersView, runs_at}, proofs.{Handling.orders-agree, Rests.drop-begins}}
use Rattle.event_queue.specs.OrderedLists.{HasOrders, IsOwnedBy, also_all, without_all}
use Rattle.event_queue.proofs.Rests.{IsRest, rest-all, rest-after, rest-group, group-same, rest-took, drop-more}
use Rattle.event_queue.proofs.handlers.Handlers.drop_owner.Goals as goal

pub groups-init : goal.groups-init
groups-init c =
    let plan = c.self.inside.plan.now in
    let running = c.self.inside.running.items in
    let m = c.args.mode in
    let rest = c.as_slice-rest.result.now in
    let there : m.0 < length plan.modes = omega
    (arith, c.requires, ap (λ (h : HandlersView). length h.plan.modes) c.self.view_is) in
    let inside : m.0 < length running = omega (arith, there, c.self.invariant.0) in
    let own : IsOwnedBy plan m rest =
    subst (IsOwnedBy plan m) (sym (c.as_slice-rest.ensures.value
    ∙ ap (λ (v : Vec BindingId Global). v.items) c.index-2.ensures))
    (c.self.invariant.1.each m.0 c.index-2.result.now there) in
    let now : get_or running m.0 false ≡ true = get_or_default running m.0 false c.index.result.now inside
    ∙ sym c.index.ensures ∙ c.if-not-index.false in
    record {
      orders = orders-agree plan (runs_at plan running) c.self.inside.orders.items c.self.invariant.2
          (also_all (runs_at plan (slice_set running m.0 false)) rest) (drop-begins plan m running inside rest own now);
      rest = rest-all plan m rest own;
      room = c.self.invariant.3;
    }

pub drop_group-requires-clause-group : goal.drop_group-requires-clause-group
drop_group-requires-clause-group c =
    let plan = c.self.inside.plan.now in
    let group = c.split_at.result.0.now in
    let after = c.split_at.result.1.now in
    let one = c.of_one_event.ensures in
    rest-group plan c.args.mode group after
    (subst (IsRest plan c.args.mode) c.split_at.ensures.by_index.0 c.groups.invariant.rest)
    (omega (arith, one.count.0, c.split_at.ensures.front_len))
    (group-same plan c.groups.rest.now group after c.of_one_event.result c.split_at.ensures.by_index.0
    c.split_at.ensures.front_len one.count.0 one.same)

pub drop_group-requires-clause-orders : goal.drop_group-requires-clause-orders
drop_group-requires-clause-orders c =
    let plan = c.self.inside.plan.now in
    let running = c.self.inside.running.items in
    let m = c.args.mode in
    let group = c.split_at.result.0.now in
    let after = c.split_at.result.1.now in
    let there : m.0 < length plan.modes = omega
    (arith, c.requires, ap (λ (h : HandlersView). length h.plan.modes) c.self.view_is) in
    let inside : m.0 < length running = omega (arith, there, c.self.invariant.0) in
    let takes = runs_at plan (slice_set running m.0 false) in
    let rest = subst (IsRest plan m) c.split_at.ensures.by_index.0 c.groups.invariant.rest in (
      also_all takes (group ++ after),
      subst (λ (xs : List BindingId). HasOrders plan (also_all takes xs) c.groups.orders.items)
          c.split_at.ensures.by_index.0 c.groups.invariant.orders,
      rest-took plan m group after rest running inside takes,
    )

pub groups-preserved : goal.groups-preserved
groups-preserved c =
    let plan = c.self.inside.plan.now in
    let running = c.self.inside.running.items in
    let m = c.args.mode in
    let group = c.split_at.result.0.now in
    let after = c.split_at.result.1.now in
    let there : m.0 < length plan.modes = omega
    (arith, c.requires, ap (λ (h : HandlersView). length h.plan.modes) c.self.view_is) in
    let inside : m.0 < length running = omega (arith, there, c.self.invariant.0) in
    let takes = runs_at plan (slice_set running m.0 false) in
    let rest = subst (IsRest plan m) c.split_at.ensures.by_index.0 c.groups.invariant.rest in
    let was = subst (λ (xs : List BindingId). HasOrders plan (also_all takes xs) c.groups.orders.items)
    c.split_at.ensures.by_index.0 c.groups.invariant.orders in
    let made = c.drop_group.ensures.orders (also_all takes (group ++ after)) was
    (rest-took plan m group after rest running inside takes) in
    record {
      orders = orders-agree plan (without_all (also_all takes (group ++ after)) group) c.drop_group.new.orders.items
          made (also_all takes after) (λ p known. drop-more plan m group after rest running inside p);
      rest = rest-after plan m group after rest;
      room = omega (arith, c.groups.invariant.room, c.drop_group.ensures.room);
    }
