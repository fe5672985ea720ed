use Rattle.std.proofs.Common.{rules, sym, ap, subst, ◌∙◌}
use Rattle.yaml_subset.specs.View.{node_view}
use Rattle.setting_values.specs.{KindView.bounds_view, Gives.GivesNames, ValueAnswers.read_one_name}
use Rattle.config_faults.specs.Faults.{spot_view}
use Rattle.setting_values.proofs.{NameLists.one_written, NodeLists.{only_names, counted_listed}}
use Rattle.setting_values.proofs.lists.names.Goals as goal

pub returns-in-Some : goal.returns-in-Some
returns-in-Some c = search (rules, counted_listed, only_names)

pub returns : goal.returns
returns c =
    let text = c.in-Some-as_scalar.text.now in
    let same = one_written c.args.most (bounds_view c.args.bounds) (spot_view c.args.spot) (node_view c.args.value.now)
    text (sym c.in-Some-as_scalar.ensures) (sym c.is_name.ensures ∙ c.if-is_name.true) in
    let line = ap (λ n. read_one_name c.args.spot c.args.most c.args.bounds n text) c.line.ensures in
    subst (GivesNames c.one_name.result) (line ∙ same) c.one_name.ensures
