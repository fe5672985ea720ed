use Rattle.std.proofs.Common.{ℕ, [], ◌∷◌, ap, subst}
use Rattle.plan_tables.specs.declared.{entries.VariableId.VariableId, table.Table.TheVariants.Variables}
use Rattle.mpf_plan.specs.{Uses.number_among, Drafting.{IsNumbered, Notes}}
use Rattle.mpf_plan.proofs.numbering.note_variable.Goals as goal

abbrev variable_at : ℕ → VariableId
variable_at k = record { 0 = k }

pub returns-clause-names : goal.returns-clause-names
returns-clause-names c =
    subst (λ n. Notes c.args.names.now c.note.new.names ((Variables, n) ∷ [])) c.whole.ensures
    c.in_ok-note.ensures.names

pub returns-clause-number : goal.returns-clause-number
returns-clause-number c us are within =
    ap variable_at (subst (λ n. IsNumbered c.args.names.now ((Variables, n) ∷ []) (λ ns. number_among (ns Variables) n)
    c.in_ok-note.field-0) c.whole.ensures (c.in_ok-note.ensures.number tt) us are within)
