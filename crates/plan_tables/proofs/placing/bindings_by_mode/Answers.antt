use Rattle.std.proofs.{Common.{rules, ◌≡◌, get_or, refl, ap, ◌∙◌}, lemmas.List.get_or_default}
use Rattle.plan_tables.specs.PlanView.{no_binding}
use Rattle.plan_tables.proofs.ListsBy.{binding_mode, binding_number, listed_none, item_listed, mode_bindings_whole}
use Rattle.plan_tables.proofs.placing.bindings_by_mode.Goals as goal

pub loop-place-init : goal.loop-place-init
loop-place-init c = record {
  count = c.in_ok-lists.ensures.0;
  listed = listed_none binding_number (λ b. b.0) (λ n. refl) binding_mode no_binding c.args.bindings.now
      c.in_ok-lists.lists.items c.in_ok-lists.ensures.1;
}

pub loop-place-preserved : goal.loop-place-preserved
loop-place-preserved c =
    let bindings = c.args.bindings.now in
    let n = c.loop-place.place in
    let at : c.mode_place.result ≡ binding_mode (get_or bindings n no_binding) = c.mode_place.ensures
    ∙ ap binding_mode (get_or_default bindings n _ no_binding c.loop-place-test.true) in
    let more =
    item_listed binding_number (λ b. b.0) (λ n. refl) binding_mode no_binding bindings n c.loop-place.lists.items
    c.add.new.lists.items c.mode_place.result c.args.modes c.in_ok-add.ensures at
    (c.requires.modes n no_binding c.loop-place-test.true) c.loop-place.invariant.count c.loop-place.invariant.listed in
    record { count = more.0; listed = more.1 }

pub returns : goal.returns
returns c plan count same = search (rules, mode_bindings_whole)
