use Rattle.std.proofs.{Common.{ap, ◌∙◌}, lemmas.List.{length-set, get_or_default}}
use Rattle.plan_tables.specs.{declared.entries.SwitchEntry.SwitchEntry, PlanFields.switch_entry_view}
use Rattle.mpf_plan.{specs.Drafting.entered_as, proofs.Slotted.switch_set}
use Rattle.mpf_plan.proofs.fill.enter_switch.Goals as goal

pub returns : goal.returns
returns c =
    let items = c.args.switches.now.items in
    let k = c.args.number in
    let was = c.index_mut-entry.result.now in
    let e = c.args.switch_entry in
    let now : SwitchEntry =
    record {
      kind = e.kind;
      listeners = was.listeners;
      confirms_playfield = e.confirms_playfield;
      active = e.active;
      inactive = e.inactive;
    } in
    let change = entered_as e.kind e.confirms_playfield e.active.items e.inactive.items in (
      length-set items k now,
      λ within ns. switch_set ns items k now change within
          (λ n. ap (λ (x : SwitchEntry). change (switch_entry_view (n, x)))
          (c.index_mut-entry.ensures.value ∙ get_or_default items k was now within)),
    )
