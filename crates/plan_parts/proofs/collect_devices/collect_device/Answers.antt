use Rattle.std.proofs.Common.{rules, sym, ap, ◌∙◌}
use Rattle.mpf_sections.specs.View.{entry_view}
use Rattle.plan_parts.specs.{Parts.{device, where_some}, Gives.{save_entry_gives, device_entry_gives}}
use Rattle.plan_parts.proofs.Entries.{counter_there, accrual_there, sequence_there, timer_there, save_there}
use Rattle.plan_parts.proofs.Gives.{gives_some, gives_same}
use Rattle.plan_parts.proofs.collect_devices.collect_device.Goals as goal

pub returns-then-eq : goal.returns-then-eq
returns-then-eq c = search (rules, gives_some, counter_there)

pub returns-then-eq-2 : goal.returns-then-eq-2
returns-then-eq-2 c = search (rules, gives_some, accrual_there)

pub returns-then-eq-3 : goal.returns-then-eq-3
returns-then-eq-3 c = search (rules, gives_some, sequence_there)

pub returns-then-eq-4 : goal.returns-then-eq-4
returns-then-eq-4 c = search (rules, gives_some, timer_there)

pub returns : goal.returns
returns c =
    let section = c.args.section.now in
    let e = c.args.entry.now in
    gives_same c.collect_save_device.result c.args.parts.now c.collect_save_device.new.parts
    (save_entry_gives section e) (device_entry_gives section e)
    (λ whose. ap (where_some (device whose))
    (save_there section (entry_view e) (sym c.eq.ensures ∙ c.if-eq.false) (sym c.eq-2.ensures ∙ c.if-eq-2.false)
    (sym c.eq-3.ensures ∙ c.if-eq-3.false) (sym c.eq-4.ensures ∙ c.if-eq-4.false)))
    c.collect_save_device.ensures
