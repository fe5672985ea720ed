use Rattle.std.proofs.Common.{rules, not, length, map, filter, sym, ap, ◌∙◌, arith}
use Rattle.yaml_subset.specs.View.{node_view}
use Rattle.mpf_values.proofs.ListNodes.{none_behind}
use Rattle.setting_values.{specs.Reading.counts, proofs.Counting.{counted, passed_over}}
use Rattle.setting_values.proofs.lists.item_count.Goals.{then-not-is_empty, else-not-is_empty}
use Rattle.setting_values.proofs.lists.item_count.Goals as goal

pub loop-node-preserved : goal.loop-node-preserved
loop-node-preserved c =
    let nodes = c.args.nodes.now in
    let i = c.loop-node.node-index in
    let count = c.loop-node.count in
    let total = length (filter counts (map node_view nodes)) in
    elim c.if-not-is_empty.branch [
      | then-not-is_empty w ↦ rw w.count-is (
        omega (arith, c.loop-node.invariant.0),
        counted nodes i c.node-item.result c.loop-node-test.true c.node-item.is count total
            (sym c.is_empty.ensures ∙ ap not w.if-not-is_empty.true) c.loop-node.invariant.1,
      )
      | else-not-is_empty w ↦ rw w.count-is (
        omega (arith, c.loop-node.invariant.0),
        passed_over nodes i c.node-item.result c.loop-node-test.true c.node-item.is count total
            (sym c.is_empty.ensures ∙ ap not w.if-not-is_empty.false) c.loop-node.invariant.1,
      )
    ]

pub returns : goal.returns
returns c = search (rules, none_behind)
