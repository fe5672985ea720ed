use Rattle.std.proofs.Common.{rules, ◌≡◌, ◌<◌, ℕ, [], length, get_or, Vec, Global, refl, sym, ap, subst, ◌∙◌, arith}
use Rattle.std.proofs.lemmas.List.{length-map, get_or-map}
use Rattle.plan_tables.specs.{declared.table.Table.TheVariants.Coils, PlanView.{PlanView, no_coil, coil_at}}
use Rattle.plan_tables.{specs.PlanFields.{name_sets_view, coil_entry_view}, proofs.Shown.{length-shown, name_shown}}
use Rattle.plan_tables.proofs.tables.Plan.coil_name.Goals as goal

pub bounds-names-coil : goal.bounds-names-coil
bounds-names-coil c = search (rules, length-shown, length-map)

pub returns-clause-name : goal.returns-clause-name
returns-clause-name c =
    let names = name_sets_view c.self.inside.tables.names Coils in
    let entries = c.self.inside.tables.coils.items in
    let keys = c.of.result.now.keys in
    let i = c.args.coil.0 in
    let count = length-shown coil_entry_view names entries c.self.invariant.4 in
    let within : i < length names = omega (arith, c.requires, ap (λ p. length p.coils) c.self.view_is, count) in
    let inside : i < length keys =
    omega (arith, within, ap length c.of.ensures.names, length-map keys (λ (v : Vec ℕ Global). v.items)) in
    let here = ap (λ v. v.items) (c.index-names-coil.is
    ∙ ap (λ ks. get_or ks i c.index-names-coil.result) c.as_slice-names.ensures.keys) in
    let named = sym (get_or-map (λ v. v.items) keys i c.index-names-coil.result [] inside)
    ∙ ap (λ ns. get_or ns i []) c.of.ensures.names in
    let at = name_shown coil_entry_view (λ s. s.name) (λ n e. refl) names entries i no_coil c.self.invariant.4 within in
    subst (λ (p : PlanView). c.as_slice.result.now ≡ (coil_at p c.args.coil).name) c.self.view_is
    (c.as_slice.ensures.value ∙ here ∙ named ∙ sym at)
