use Rattle.std.proofs.Common.{rules, ◌≡◌, ◌<◌, length, refl, sym, ap, subst, ◌∙◌, arith}
use Rattle.plan_tables.specs.{declared.table.Table.TheVariants.Switches, PlanView.{PlanView, no_switch, switch_at}}
use Rattle.plan_tables.{specs.PlanFields.{name_sets_view, switch_entry_view}, proofs.Shown.{length-shown, entry_shown}}
use Rattle.plan_tables.proofs.tables.Plan.switch_kind.Goals as goal

pub index-requires : goal.index-requires
index-requires c = search (rules, length-shown)

pub returns-clause-kind : goal.returns-clause-kind
returns-clause-kind c =
    let names = name_sets_view c.self.inside.tables.names Switches in
    let entries = c.self.inside.tables.switches.items in
    let count = length-shown switch_entry_view names entries c.self.invariant.3 in
    let within : c.args.switch.0 < length names =
    omega (arith, c.requires, ap (λ p. length p.switches) c.self.view_is, count) in
    let at = entry_shown switch_entry_view (λ s. s.kind) (λ e. e.kind) (λ n e. refl) names entries c.args.switch.0
    c.index.result.now no_switch c.self.invariant.3 within in
    subst (λ (p : PlanView). c.index.result.now.kind ≡ (switch_at p c.args.switch).kind) c.self.view_is
    (ap (λ e. e.kind) c.index.ensures ∙ sym at)
