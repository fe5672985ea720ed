use Rattle.std.{proofs.Common.{[], ◌∷◌, sym, ap, ◌∙◌}, specs.Prelude.option_map}
use Rattle.mpf_sections.specs.{Rows.{Coil, Switch}, View.entry_view, CoilRules.coil_rule_view}
use Rattle.plan_parts.{specs.Parts.{coil_part, switch_part}, proofs.Gives.{gives_added, gives_same}}
use Rattle.plan_parts.specs.Gives.{machine_entry_gives, device_entry_gives, switch_gives, coil_rule_in}
use Rattle.plan_parts.proofs.RowKinds.{coil_there, switch_there, rule_there, device_there}
use Rattle.plan_parts.proofs.collect.collect_machine_entry.Goals as goal

pub returns-then-eq : goal.returns-then-eq
returns-then-eq c =
    let machine = c.args.definitions.now.machine in
    λ whose none.
    c.collect_coil.ensures whose none
    ∙ ap (λ (x : Coil). coil_part machine whose x ∷ []) c.as_coil.ensures
    ∙ coil_there machine c.args.section.now (entry_view c.args.entry.now) whose (sym c.eq.ensures ∙ c.if-eq.true)

pub returns-then-eq-2 : goal.returns-then-eq-2
returns-then-eq-2 c =
    let machine = c.args.definitions.now.machine in
    let section = c.args.section.now in
    gives_same c.collect_switch.result c.args.parts.now c.collect_switch.new.parts
    (switch_gives machine c.as_switch.result) (machine_entry_gives machine section c.args.entry.now)
    (λ whose. ap (λ (x : Switch). switch_part machine whose x ∷ []) c.as_switch.ensures
    ∙ switch_there machine section (entry_view c.args.entry.now) whose (sym c.eq.ensures ∙ c.if-eq.false)
    (sym c.eq-2.ensures ∙ c.if-eq-2.true))
    c.collect_switch.ensures

pub returns-in-Some : goal.returns-in-Some
returns-in-Some c =
    let machine = c.args.definitions.now.machine in
    let section = c.args.section.now in
    let is = ap (option_map coil_rule_view) (sym c.in-Some.is) ∙ c.as_coil_rule.ensures in
    gives_added c.collect_coil_rule.result c.args.parts.now c.collect_coil_rule.new.parts
    (coil_rule_in machine c.in-Some.rule) (machine_entry_gives machine section c.args.entry.now)
    (λ whose. rule_there machine section (entry_view c.args.entry.now) whose (sym c.eq.ensures ∙ c.if-eq.false)
    (sym c.eq-2.ensures ∙ c.if-eq-2.false) (coil_rule_view c.in-Some.rule) is)
    c.collect_coil_rule.ensures

pub returns-in-None : goal.returns-in-None
returns-in-None c =
    let machine = c.args.definitions.now.machine in
    let section = c.args.section.now in
    let is = ap (option_map coil_rule_view) (sym c.in-None.is) ∙ c.as_coil_rule.ensures in
    gives_same c.collect_device.result c.args.parts.now c.collect_device.new.parts
    (device_entry_gives section c.args.entry.now) (machine_entry_gives machine section c.args.entry.now)
    (λ whose. device_there machine section (entry_view c.args.entry.now) whose (sym c.eq.ensures ∙ c.if-eq.false)
    (sym c.eq-2.ensures ∙ c.if-eq-2.false) is)
    c.collect_device.ensures
