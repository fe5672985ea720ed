use Rattle.std.proofs.Common.{sym, ap, ◌∙◌}
use Rattle.yaml_subset.specs.View.{node_view}
use Rattle.setting_values.{specs.{Values.written_at, View.name_view}, proofs.NameLists.one_step}
use Rattle.config_faults.specs.Faults.{spot_view}
use Rattle.setting_values.proofs.by_kind.step.Goals as goal

pub returns : goal.returns
returns c =
    let text = c.in-Some.text.now in
    one_step (spot_view c.args.spot) (node_view c.args.node.now) text (name_view c.in_ok-name.name)
    (sym c.in-Some.ensures) (sym c.is_name.ensures ∙ c.if-is_name.true)
    (c.in_ok-name.ensures ∙ ap (λ n. written_at n text) c.line.ensures)
