use Rattle.std.proofs.{Common.map, lemmas.Result.on_ok_weaker}
use Rattle.plan_parts.specs.{RowViews.{handled_event_view, whose_view}, View.effect_view}
use Rattle.mpf_plan.proofs.Listed.{adds_handled}
use Rattle.mpf_plan.proofs.fill.add_handler.Goals as goal

pub returns : goal.returns
returns c =
    on_ok_weaker c.add_list.result
    (λ does. adds_handled c.args.draft.now c.add_binding.new.draft c.add_list.new.draft (whose_view c.args.whose)
    (handled_event_view c.args.handled_name) (map effect_view c.args.effects.now)
    c.next_row-row.result c.next_list-list.result c.in_ok-add_binding.ensures does c.next_row-row.ensures
    c.next_list-list.ensures)
    c.add_list.ensures
