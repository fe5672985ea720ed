use Rattle.std.proofs.Common.{rules, ◌≡◌, ◌<◌, length, refl, sym, ap, subst, ◌∙◌, arith}
use Rattle.plan_tables.specs.{declared.table.Table.TheVariants.Coils, PlanView.{PlanView, no_coil, coil_at}}
use Rattle.plan_tables.{specs.PlanFields.{name_sets_view, coil_entry_view}, proofs.Shown.{length-shown, entry_shown}}
use Rattle.plan_tables.proofs.tables.Plan.coil_limits.Goals as goal

pub index-requires : goal.index-requires
index-requires c = search (rules, length-shown)

pub returns-clause-limits : goal.returns-clause-limits
returns-clause-limits c =
    let names = name_sets_view c.self.inside.tables.names Coils in
    let entries = c.self.inside.tables.coils.items in
    let count = length-shown coil_entry_view names entries c.self.invariant.4 in
    let within : c.args.coil.0 < length names =
    omega (arith, c.requires, ap (λ p. length p.coils) c.self.view_is, count) in
    let at = entry_shown coil_entry_view (λ s. s.limits) (λ e. e) (λ n e. refl) names entries c.args.coil.0
    c.index.result.now no_coil c.self.invariant.4 within in
    subst (λ (p : PlanView). c.index.result.now ≡ (coil_at p c.args.coil).limits) c.self.view_is
    (c.index.ensures ∙ sym at)
