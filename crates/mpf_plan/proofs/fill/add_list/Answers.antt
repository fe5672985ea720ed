use Rattle.std.proofs.Common.{[], ◌∷◌, ◌++◌, map, length, refl, sym, ap, ◌∙◌, subst, append-nil}
use Rattle.std.{specs.List.flat_map, proofs.lemmas.List.{length_push, map_push}}
use Rattle.plan_tables.specs.PlanFields.{action_lists}
use Rattle.plan_parts.specs.View.{effect_view}
use Rattle.mpf_plan.specs.{ByNumber.action_of, PlanOf.effect_uses, Drafting.{AreWithin, Notes, NotesCoils, names_by}}
use Rattle.mpf_plan.proofs.fill.add_list.Goals as goal

pub returns : goal.returns
returns c =
    let a = c.args.draft.now in
    let es = map effect_view c.args.effects.now in
    let same = append-nil (flat_map effect_uses es) in
    record {
      keeps =
          record {
            names = subst (Notes a.names c.actions_of.new.names) (sym same) c.in_ok-actions.ensures.names.names;
            modes = refl;
            game = refl;
          };
      coils = subst (NotesCoils a.names c.actions_of.new.names a.coils c.actions_of.new.coils) (sym same)
          c.in_ok-actions.ensures.names;
      switches = refl;
      bindings = refl;
      rows = refl;
      row_lists = refl;
      count = ap length c.in_ok-push.ensures.items ∙ length_push a.lists.items _;
      lists = λ us are within.
          ap action_lists c.in_ok-push.ensures.items
          ∙ map_push (λ v. v.items) a.lists.items _
          ∙ ap (λ more. action_lists a.lists.items ++ more ∷ [])
          (c.in_ok-actions.ensures.actions us are (subst (λ vs. AreWithin (us ++ vs)) same within)
          ∙ ap (λ vs. map (action_of (names_by (us ++ vs)) c.args.row) es) (sym same));
    }
