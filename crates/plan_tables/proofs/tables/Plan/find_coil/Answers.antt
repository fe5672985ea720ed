use Rattle.std.proofs.Common.{◌≡◌, Some, None, refl, sym, ap, subst, ◌∙◌}
use Rattle.std.specs.{Str.bytes_eq, List.position, Option.option_map}
use Rattle.plan_tables.specs.{declared.table.Table.TheVariants.Coils, PlanView.coil_named}
use Rattle.plan_tables.specs.PlanFields.{name_sets_view, coil_entry_view}
use Rattle.plan_tables.proofs.{Places.position-map, Named.{coil_found, coil_within}, Shown.position-shown}
use Rattle.plan_tables.proofs.tables.Plan.find_coil.Goals as goal

-- the switch of the name, by the place that the set gives
named_in_err : (c : goal.After-from_residual) → coil_named c.args.self.now c.args.name.now ≡ None
named_in_err c =
    let at = position-shown coil_entry_view (λ s. s.name) (λ n e. refl) c.args.name.now
    (name_sets_view c.self.inside.tables.names Coils) c.self.inside.tables.coils.items c.self.invariant.4
    ∙ ap (position (bytes_eq c.args.name.now)) (sym c.of.ensures.names)
    ∙ position-map (λ v. v.items) (bytes_eq c.args.name.now) c.of.result.now.keys ∙ sym c.get_index_of.ensures.index
    ∙ c.in_err-place.was in
    subst (λ p. coil_named p c.args.name.now ≡ None) c.self.view_is (ap (option_map (λ n. record { 0 = n })) at)

named_in_ok : (c : goal.In_ok-place) → coil_named c.args.self.now c.args.name.now
    ≡ Some (record { 0 = c.in_ok-place.place })
named_in_ok c =
    let at = position-shown coil_entry_view (λ s. s.name) (λ n e. refl) c.args.name.now
    (name_sets_view c.self.inside.tables.names Coils) c.self.inside.tables.coils.items c.self.invariant.4
    ∙ ap (position (bytes_eq c.args.name.now)) (sym c.of.ensures.names)
    ∙ position-map (λ v. v.items) (bytes_eq c.args.name.now) c.of.result.now.keys ∙ sym c.get_index_of.ensures.index
    ∙ c.in_ok-place.was in
    subst (λ p. coil_named p c.args.name.now ≡ Some (record { 0 = c.in_ok-place.place })) c.self.view_is
    (ap (option_map (λ n. record { 0 = n })) at)

pub returns-in_err-place-clause-coil : goal.returns-in_err-place-clause-coil
returns-in_err-place-clause-coil c = c.from_residual.ensures ∙ sym (named_in_err c)

pub returns-clause-coil : goal.returns-clause-coil
returns-clause-coil c = sym (named_in_ok c)

pub returns-clause-found : goal.returns-clause-found
returns-clause-found c = coil_found c.args.self.now c.args.name.now (record { 0 = c.in_ok-place.place }) (named_in_ok c)

pub returns-clause-within : goal.returns-clause-within
returns-clause-within c = coil_within c.args.self.now c.args.name.now (record { 0 = c.in_ok-place.place })
    (named_in_ok c)
