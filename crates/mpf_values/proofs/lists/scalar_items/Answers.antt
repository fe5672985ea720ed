use Rattle.std.proofs.Common.{rules, ◌≡◌, ◌+◌, not, [], ◌∷◌, ◌++◌, drop, map, refl, sym, ap, ◌∙◌}
use Rattle.std.proofs.lemmas.List.{map_push}
use Rattle.yaml_subset.specs.View.{node_view, line_of}
use Rattle.mpf_values.specs.{Lists.item_at, Reading.scalars_at, View.{item_view, items_view}}
use Rattle.mpf_values.proofs.ListNodes.{node_item, no_item, adds, skips, fails, is_done, nodes_at, none_behind}
use Rattle.mpf_values.proofs.lists.scalar_items.Goals.{then-not-is_empty+in_ok-push, else-not-is_empty}
use Rattle.mpf_values.proofs.lists.scalar_items.Goals as goal

pub returns-in_default : goal.returns-in_default
returns-in_default c =
    let nodes = c.args.nodes.now in
    let i = c.loop-node.node-index in
    let first = nodes_at nodes i c.node-item.result c.loop-node-test.true c.node-item.is in
    fails (items_view c.loop-node.items.items) (node_view c.node-item.result) (map node_view (drop (i + 1) nodes))
    (map node_view (drop i nodes)) (scalars_at (map node_view nodes))
    first (no_item (node_view c.node-item.result) c.in_default.ensures) c.loop-node.invariant

pub loop-node-preserved : goal.loop-node-preserved
loop-node-preserved c =
    let nodes = c.args.nodes.now in
    let i = c.loop-node.node-index in
    let node = node_view c.node-item.result in
    let rest = map node_view (drop (i + 1) nodes) in
    let here = map node_view (drop i nodes) in
    let total = scalars_at (map node_view nodes) in
    let front = items_view c.loop-node.items.items in
    let first = nodes_at nodes i c.node-item.result c.loop-node-test.true c.node-item.is in
    elim c.if-not-is_empty.branch [
      | then-not-is_empty+in_ok-push w ↦
          let line = w.line-line.result in
          let item = item_at line c.in-Some.text.now in
          let pushed : items_view c.if-not-is_empty.items.items ≡ front ++ item ∷ [] =
          rw (w.items-is, w.in_ok-push.ensures.items) (map_push item_view c.loop-node.items.items _) in
          let some = ap not (sym c.is_empty.ensures ∙ w.if-not-is_empty.true) in
          rw pushed (adds front node rest here total item first
          (node_item node c.in-Some.text.now line c.in-Some.ensures w.line-line.ensures) some c.loop-node.invariant)
      | else-not-is_empty w ↦
          let item = item_at (line_of node) c.in-Some.text.now in
          let none = ap not (sym c.is_empty.ensures ∙ w.if-not-is_empty.false) in
          rw w.items-is (skips front node rest here total item first
          (node_item node c.in-Some.text.now (line_of node) c.in-Some.ensures refl) none c.loop-node.invariant)
    ]

pub returns : goal.returns
returns c = search (rules, is_done, none_behind)
