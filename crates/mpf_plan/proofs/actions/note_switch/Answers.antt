use Rattle.std.proofs.Common.{[], ◌∷◌, Vec, Global, inl, inr, sym, ap, subst, arith}
use Rattle.plan_tables.specs.declared.{entries.SwitchEntry.SwitchEntry, table.Table.TheVariants.Switches}
use Rattle.plan_tables.specs.PlanFields.{switches_view}
use Rattle.mpf_plan.specs.{Uses.number_among, Drafting.{IsNumbered, Notes, kept_names, named_switch}}
use Rattle.mpf_plan.proofs.Entries.{HasBlank, HasBlankWhereNew, switch_noted}
use Rattle.mpf_plan.proofs.actions.note_switch.Goals.{then-len-count+in_ok-add_blank_switch, else-len-count}
use Rattle.mpf_plan.proofs.actions.note_switch.Goals as goal

pub returns-clause-names : goal.returns-clause-names
returns-clause-names c =
    let was = c.args.switches.now.items in
    let pushed : HasBlankWhereNew switches_view named_switch (kept_names c.note.new.names Switches) was
    c.if-len-count.switches.items =
    elim c.if-len-count.branch [
      | then-len-count+in_ok-add_blank_switch w ↦ inl (
        omega (arith, w.if-len-count.true, c.len.ensures, c.count.ensures),
        subst (λ (v : Vec SwitchEntry Global). HasBlank switches_view named_switch was v.items) (sym w.switches-is)
            (w.in_ok-add_blank_switch.ensures.count, w.in_ok-add_blank_switch.ensures.entries),
      )
      | else-len-count w ↦ inr (
        omega (arith, w.if-len-count.false, c.len.ensures, c.count.ensures),
        ap (λ (v : Vec SwitchEntry Global). v.items) w.switches-is,
      )
    ] in
    switch_noted c.args.names.now c.note.new.names c.args.switches.now c.if-len-count.switches c.args.name.now
    (subst (λ n. Notes c.args.names.now c.note.new.names ((Switches, n) ∷ [])) c.whole.ensures
    c.in_ok-number.ensures.names) pushed

pub returns-clause-number : goal.returns-clause-number
returns-clause-number c =
    subst (λ n. IsNumbered c.args.names.now ((Switches, n) ∷ []) (λ ns. number_among (ns Switches) n)
    c.in_ok-number.number) c.whole.ensures (c.in_ok-number.ensures.number tt)
