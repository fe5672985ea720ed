use Rattle.std.proofs.Common.{ℕ, [], ◌∷◌, refl, ap, ◌∙◌}
use Rattle.mpf_sections.specs.CoilRules.{coil_rule_view}
use Rattle.row_faults.{specs.{Collected.with_faults, AsWritten.in_order}, proofs.NoRules.no_hold}
use Rattle.row_faults.specs.CoilFaults.{coil_name_faults, named_switch_faults}
use Rattle.row_faults.proofs.coil_faults.add_coil_rule.Goals as goal

pub returns-then-is_none : goal.returns-then-is_none
returns-then-is_none c =
    let f = c.args.faults.now in
    let machine = f.rows.machine in
    let r = coil_rule_view c.args.rule in
    c.in_ok-add_as_written.ensures
    ∙ ap (λ (place : ℕ). with_faults f (in_order r.order ((r.form.coil, coil_name_faults machine f.text r.coil)
    ∷ (place, named_switch_faults machine f.text r.switch) ∷ []))) c.unwrap_or-switch_place.ensures
    ∙ ap (with_faults f) (no_hold machine f.text r c.args.rule.hold_coil refl c.is_none.result c.is_none.ensures
    c.if-is_none.true)
