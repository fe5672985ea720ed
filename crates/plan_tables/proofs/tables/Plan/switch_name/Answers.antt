use Rattle.std.proofs.Common.{rules, ◌≡◌, ◌<◌, ℕ, [], length, get_or, Vec, Global, refl, sym, ap, subst, ◌∙◌, arith}
use Rattle.std.proofs.lemmas.List.{length-map, get_or-map}
use Rattle.plan_tables.specs.{declared.table.Table.TheVariants.Switches, PlanView.{PlanView, no_switch, switch_at}}
use Rattle.plan_tables.{specs.PlanFields.{name_sets_view, switch_entry_view}, proofs.Shown.{length-shown, name_shown}}
use Rattle.plan_tables.proofs.tables.Plan.switch_name.Goals as goal

pub bounds-names-switch : goal.bounds-names-switch
bounds-names-switch c = search (rules, length-shown, length-map)

pub returns-clause-name : goal.returns-clause-name
returns-clause-name c =
    let names = name_sets_view c.self.inside.tables.names Switches in
    let entries = c.self.inside.tables.switches.items in
    let keys = c.of.result.now.keys in
    let i = c.args.switch.0 in
    let count = length-shown switch_entry_view names entries c.self.invariant.3 in
    let within : i < length names = omega (arith, c.requires, ap (λ p. length p.switches) c.self.view_is, count) in
    let inside : i < length keys =
    omega (arith, within, ap length c.of.ensures.names, length-map keys (λ (v : Vec ℕ Global). v.items)) in
    let here = ap (λ v. v.items) (c.index-names-switch.is
    ∙ ap (λ ks. get_or ks i c.index-names-switch.result) c.as_slice-names.ensures.keys) in
    let named = sym (get_or-map (λ v. v.items) keys i c.index-names-switch.result [] inside)
    ∙ ap (λ ns. get_or ns i []) c.of.ensures.names in
    let at = name_shown switch_entry_view (λ s. s.name) (λ n e. refl) names entries i no_switch c.self.invariant.3
    within in
    subst (λ (p : PlanView). c.as_slice.result.now ≡ (switch_at p c.args.switch).name) c.self.view_is
    (c.as_slice.ensures.value ∙ here ∙ named ∙ sym at)
