use Rattle.std.proofs.Common.{rules, sym, ap, subst, ◌∙◌}
use Rattle.yaml_subset.specs.View.{node_view}
use Rattle.setting_values.specs.{Reading.most_items, KindView.bounds_view}
use Rattle.setting_values.specs.ValueAnswers.{GivesHandlers, read_one_handler}
use Rattle.config_faults.specs.Faults.{spot_view}
use Rattle.setting_values.proofs.{NameLists.one_handled, NodeLists.{only_handlers, counted_listed}}
use Rattle.setting_values.proofs.lists.handlers.Goals as goal

pub returns-in-Some : goal.returns-in-Some
returns-in-Some c = search (rules, counted_listed, only_handlers)

pub returns : goal.returns
returns c =
    let text = c.in-Some-as_scalar.text.now in
    let same = one_handled most_items (bounds_view c.args.bounds) (spot_view c.args.spot) (node_view c.args.value.now)
    text (sym c.in-Some-as_scalar.ensures) (sym c.is_name.ensures ∙ c.if-is_name.true) in
    let line = ap (λ n. read_one_handler c.args.spot c.args.bounds n text) c.line.ensures in
    subst (GivesHandlers c.one_handler.result) (line ∙ same) c.one_handler.ensures
