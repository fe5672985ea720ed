use Rattle.std.proofs.{Common.{rules, [], ◌∷◌, ◌++◌, w64, refl, sym, ap, ◌∙◌, subst}, lemmas.Int.to_z-of_z}
use Rattle.plan_tables.specs.declared.{table.Table.TheVariants.Events, entries.Action.TheVariants.Change}
use Rattle.plan_parts.specs.declared.effects.Effect as effects
use Rattle.plan_parts.specs.View.{effect_view, pieces_text}
use Rattle.mpf_plan.specs.{PlanOf.effect_uses, ByNumber.{action_of, event_of}, Drafting.{IsNumbered, Notes, NotesCoils}}
use Rattle.mpf_plan.proofs.Entries.{coils_stay, change_noted, change_numbered}
use Rattle.mpf_plan.proofs.actions.action_of.Goals as goal

pub returns-in_ok-note_event-in-Post-clause-names : goal.returns-in_ok-note_event-in-Post-clause-names
returns-in_ok-note_event-in-Post-clause-names c =
    let coils = c.args.coils.now in
    subst (λ (e : effects.Effect). NotesCoils c.args.names.now c.note_event.new.names coils coils
    (effect_uses (effect_view e) ++ [])) (sym c.in-Post.is)
    (coils_stay c.args.names.now c.note_event.new.names coils ((Events, pieces_text c.in-Post.name) ∷ []) refl
    c.in_ok-note_event-in-Post.ensures.names)

pub returns-in_ok-note_event-in-Enter-clause-names : goal.returns-in_ok-note_event-in-Enter-clause-names
returns-in_ok-note_event-in-Enter-clause-names c =
    let coils = c.args.coils.now in
    subst (λ (e : effects.Effect). NotesCoils c.args.names.now c.note_event-in-Enter.new.names coils coils
    (effect_uses (effect_view e) ++ [])) (sym c.in-Enter.is)
    (coils_stay c.args.names.now c.note_event-in-Enter.new.names coils ((Events, pieces_text c.in-Enter.name) ∷ []) refl
    c.in_ok-note_event-in-Enter.ensures.names)

pub returns-in_ok-variable-in-Variable-clause-names : goal.returns-in_ok-variable-in-Variable-clause-names
returns-in_ok-variable-in-Variable-clause-names c =
    let coils = c.args.coils.now in
    let a = c.args.names.now in
    let b = c.note_event-in-Variable.new.names in
    subst (λ (e : effects.Effect). NotesCoils a c.note_variable.new.names coils coils
    (effect_uses (effect_view e) ++ [])) (sym c.in-Variable.is)
    (change_noted a b c.note_variable.new.names c.in-Variable.name.now coils
    (subst (λ n. Notes a b ((Events, n) ∷ [])) c.player_event.ensures c.in_ok-event-in-Variable.ensures.names)
    c.in_ok-variable-in-Variable.ensures.names)

pub returns-in_ok-variable-in-Variable-clause-action : goal.returns-in_ok-variable-in-Variable-clause-action
returns-in_ok-variable-in-Variable-clause-action c us are within =
    let a = c.args.names.now in
    let b = c.note_event-in-Variable.new.names in
    let v = c.in-Variable.name.now in
    let event = c.in_ok-event-in-Variable.event in
    let variable = c.in_ok-variable-in-Variable.variable in
    ap (λ z. Change variable c.in-Variable.action z event) (to_z-of_z w64 c.in-Variable.number (search rules))
    ∙ subst (λ (e : effects.Effect). IsNumbered a (effect_uses (effect_view e))
    (λ ns. action_of ns c.args.row (effect_view e))
    (Change variable c.in-Variable.action c.in-Variable.number event)) (sym c.in-Variable.is)
    (change_numbered a b c.note_variable.new.names v c.args.coils.now
    (subst (λ n. Notes a b ((Events, n) ∷ [])) c.player_event.ensures c.in_ok-event-in-Variable.ensures.names)
    c.args.row c.in-Variable.action c.in-Variable.number event variable
    (subst (λ n. IsNumbered a ((Events, n) ∷ []) (λ ns. event_of (ns Events) n) event) c.player_event.ensures
    c.in_ok-event-in-Variable.ensures.number)
    c.in_ok-variable-in-Variable.ensures.number) us are within
