use Rattle.std.proofs.Common.{ap, sym, ◌∙◌}
use Rattle.yaml_subset.specs.Keys.{is_among}
use Rattle.mpf_sections.specs.{CoilRules.coil_rule_sections, Typed.entries_in, View.content_view}
use Rattle.row_faults.proofs.NoRules.{not_rules}
use Rattle.row_faults.proofs.coil_faults.add_rules.Goals as goal

pub returns : goal.returns
returns c =
    let section = c.args.section.now in
    not_rules c.args.faults.now section.name.items (entries_in (content_view section.content))
    (ap (is_among coil_rule_sections) (sym c.deref.ensures.value) ∙ sym c.has_coil_rules.ensures
    ∙ c.if-has_coil_rules.false)
