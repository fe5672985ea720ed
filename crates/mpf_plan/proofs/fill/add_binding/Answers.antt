use Rattle.std.proofs.{Common.{[], ◌∷◌, ◌++◌, length, refl, ap, ◌∙◌}, lemmas.List.length_push}
use Rattle.std.specs.Prelude.{option_map, Option}
use Rattle.plan_tables.specs.declared.{entries.{Binding.Binding, EventId.EventId}, table.Table.TheVariants.Events}
use Rattle.plan_tables.specs.declared.entries.Condition as numbered
use Rattle.plan_parts.specs.RowViews.{handled_event_view}
use Rattle.mpf_plan.specs.{ByNumber.{condition_of, event_of}, PlanOf.condition_uses}
use Rattle.mpf_plan.proofs.{Numbered.event_stays, Noted.{notes_more, numbered_both}}
use Rattle.mpf_plan.proofs.fill.add_binding.Goals as goal

pub returns : goal.returns
returns c =
    let a = c.args.draft.now in
    let e = handled_event_view c.args.handled_name in
    let U = (Events, e.name) ∷ [] in
    let V = condition_uses e.condition in
    let make = λ (k : EventId) (o : Option numbered.Condition).
    (let b : Binding =
    record {
      event = k;
      owner = c.args.whose.owner;
      priority = c.args.whose.priority;
      condition = o;
      target = c.args.target;
    } in b) in
    record {
      keeps =
          record {
            names = notes_more a.names c.note_event.new.names c.note_condition.new.names U V
                c.in_ok-event.ensures.names c.in_ok-condition.ensures.names;
            modes = refl;
            game = refl;
          };
      switches = refl;
      coils = refl;
      lists = refl;
      rows = refl;
      row_lists = refl;
      count = λ ns. ap length c.in_ok-push.ensures.items ∙ length_push a.bindings.items _;
      bindings = λ us are within.
          c.in_ok-push.ensures.items
          ∙ ap (λ b. a.bindings.items ++ b ∷ [])
          (numbered_both make (λ ns. event_of (ns Events) e.name) (λ ns. option_map (condition_of ns) e.condition)
          c.in_ok-event.event c.in_ok-condition.condition a.names c.note_event.new.names U V
          (event_stays e.name) c.in_ok-event.ensures.names c.in_ok-event.ensures.number c.in_ok-condition.ensures.number
          us are within);
    }
