-- The draft of no parts.
use Rattle.std.proofs.Common.{◌≡◌, [], map, length, None, sym, ap, ◌∙◌, arith}
use Rattle.plan_tables.specs.declared.table.Table.{Table, TheVariants.{Events, Switches, Coils, Variables}}
use Rattle.plan_tables.specs.PlanFields.{action_lists, coils_view, mode_entry_view, switches_view}
use Rattle.mpf_plan.specs.{declared.draft.Draft.Draft, PlanOf.{names_of, part_places, plan_by}}
use Rattle.mpf_plan.{specs.Drafting.{AreNamesOf, IsDraftOf, kept_names}, proofs.Noted.kept_all}

module _ (d : Draft) (names : AreNamesOf [] d.names) where
  none : (t : Table) → kept_names d.names t ≡ []
  none t = kept_all [] d.names t names (omega arith)

  pub blank_draft : d.modes.items ≡ [] → d.switches.items ≡ [] → d.coils.items ≡ [] → d.lists.items ≡ []
      → d.bindings.items ≡ [] → d.rows.items ≡ [] → d.row_lists.items ≡ []
      → d.game ≡ None → IsDraftOf [] d
  unfolding names_of part_places plan_by
  blank_draft modes switches coils lists bindings rows row_lists game = record {
    names = names;
    switches = λ within. ap length switches ∙ sym (ap length (none Switches));
    coils = λ within. ap length coils ∙ sym (ap length (none Coils));
    counts = record { bindings = ap length bindings; rows = ap length rows; lists = ap length lists };
    plan = λ kept within i. record {
      modes = ap (map mode_entry_view) modes i;
      events = none Events i;
      switches = switches_view (none Switches i) d.switches.items;
      coils = coils_view (none Coils i) d.coils.items;
      lists = ap action_lists lists i;
      bindings = bindings i;
      rows = rows i;
      row_lists = row_lists i;
      variables = none Variables i;
      game = game i;
    };
  }
