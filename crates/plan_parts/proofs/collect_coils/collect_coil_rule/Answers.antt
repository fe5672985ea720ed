use Rattle.std.proofs.{Common.{◌++◌, refl, ap, sym, ◌∙◌}, lemmas.{Result.on_ok_weaker, List.{append_assoc, append-nil}}}
use Rattle.mpf_sections.specs.CoilRules.{coil_rule_view}
use Rattle.plan_tables.specs.declared.devices.Act.TheVariants.{Enable, Disable}
use Rattle.plan_parts.specs.declared.row_parts.RowHead.TheVariants as heads
use Rattle.plan_parts.specs.{Devices.acts, RowViews.{acts_view, names_view}}
use Rattle.plan_parts.proofs.collect_coils.collect_coil_rule.Goals as goal

pub returns : goal.returns
returns c =
    let row = coil_rule_view c.args.row in
    let old = c.args.parts.now in
    let enables = acts Enable row.enables in
    let disables = acts Disable row.disables in
    on_ok_weaker c.collect_lists.result
    (λ doing. record {
      head = ap heads.Device c.settings_of_rule-settings.ensures;
      of = refl;
      known = refl;
      mentions = refl;
      listens = c.in_ok-listen_to.ensures;
      event_acts = c.in_ok-collect_acts-2.ensures ∙ ap (λ l. l ++ disables) c.in_ok-collect_acts.ensures
          ∙ append_assoc (acts_view old.event_acts.items) enables disables;
      other_mentions = sym (append-nil (names_view old.other_mentions.items));
      lists = doing;
    })
    c.collect_lists.ensures
