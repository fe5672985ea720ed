use Rattle.std.proofs.Common.{[], ◌∷◌, inl, inr, refl, subst, arith}
use Rattle.plan_tables.specs.declared.table.Table.TheVariants.{Coils}
use Rattle.mpf_plan.{specs.Drafting.Notes, proofs.Entries.coil_noted}
use Rattle.mpf_plan.proofs.actions.note_coil.Goals as goal

pub returns-in_ok-push-clause-names : goal.returns-in_ok-push-clause-names
returns-in_ok-push-clause-names c =
    coil_noted c.args.names.now c.note.new.names c.args.coils.now c.push.new.self c.args.name.now
    (subst (λ n. Notes c.args.names.now c.note.new.names ((Coils, n) ∷ [])) c.whole.ensures
    c.in_ok-number.ensures.names)
    (inl (omega (arith, c.if-len-count.true, c.len.ensures, c.count.ensures), c.in_ok-push.ensures.items))

pub returns-else-len-count-clause-names : goal.returns-else-len-count-clause-names
returns-else-len-count-clause-names c =
    coil_noted c.args.names.now c.note.new.names c.args.coils.now c.args.coils.now c.args.name.now
    (subst (λ n. Notes c.args.names.now c.note.new.names ((Coils, n) ∷ [])) c.whole.ensures
    c.in_ok-number.ensures.names)
    (inr (omega (arith, c.if-len-count.false, c.len.ensures, c.count.ensures), refl))
