use Rattle.std.proofs.Common.{rules, ◌≡◌, ◌<◌, Bool, true, false, length, refl, sym, ap, subst, ◌∙◌, arith}
use Rattle.plan_tables.specs.{declared.table.Table.TheVariants.Switches, PlanView.{PlanView, no_switch, posts_of}}
use Rattle.plan_tables.{specs.PlanFields.{name_sets_view, switch_entry_view}, proofs.Shown.{length-shown, entry_shown}}
use Rattle.plan_tables.proofs.tables.Plan.posts.Goals as goal

pub index-posts-requires : goal.index-posts-requires
index-posts-requires c = search (rules, length-shown)

pub returns-then-active-clause-posts : goal.returns-then-active-clause-posts
returns-then-active-clause-posts c =
    let names = name_sets_view c.self.inside.tables.names Switches in
    let entries = c.self.inside.tables.switches.items in
    let count = length-shown switch_entry_view names entries c.self.invariant.3 in
    let within : c.args.switch.0 < length names =
    omega (arith, c.requires, ap (λ p. length p.switches) c.self.view_is, count) in
    let at = entry_shown switch_entry_view (λ s. s.active) (λ e. e.active.items) (λ n e. refl) names entries
    c.args.switch.0 c.index-posts.result.now no_switch c.self.invariant.3 within in
    let P : Bool → Type 0 = λ b. c.as_slice.result.now ≡ posts_of c.args.self.now c.args.switch b in
    let Q : PlanView → Type 0 = λ p. c.as_slice.result.now ≡ posts_of p c.args.switch true in
    subst P (sym c.if-active.true) (subst Q c.self.view_is
    (c.as_slice.ensures.value ∙ ap (λ e. e.active.items) c.index-posts.ensures ∙ sym at))

pub returns-else-active-clause-posts : goal.returns-else-active-clause-posts
returns-else-active-clause-posts c =
    let names = name_sets_view c.self.inside.tables.names Switches in
    let entries = c.self.inside.tables.switches.items in
    let count = length-shown switch_entry_view names entries c.self.invariant.3 in
    let within : c.args.switch.0 < length names =
    omega (arith, c.requires, ap (λ p. length p.switches) c.self.view_is, count) in
    let at = entry_shown switch_entry_view (λ s. s.inactive) (λ e. e.inactive.items) (λ n e. refl) names entries
    c.args.switch.0 c.index-posts.result.now no_switch c.self.invariant.3 within in
    let P : Bool → Type 0 = λ b. c.as_slice-else-active.result.now ≡ posts_of c.args.self.now c.args.switch b in
    let Q : PlanView → Type 0 = λ p. c.as_slice-else-active.result.now ≡ posts_of p c.args.switch false in
    subst P (sym c.if-active.false) (subst Q c.self.view_is
    (c.as_slice-else-active.ensures.value ∙ ap (λ e. e.inactive.items) c.index-posts.ensures ∙ sym at))
