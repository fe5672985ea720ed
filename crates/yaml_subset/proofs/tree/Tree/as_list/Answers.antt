use Rattle.std.proofs.Common.{map, ap, sym, ◌∙◌, Some, List}
use Rattle.yaml_subset.{specs.{declared.tree.Tree.Tree, View.{node_view, items_in}}, proofs.Views.items_in-List}
use Rattle.yaml_subset.proofs.tree.Tree.as_list.Goals as goal

pub returns-in-List : goal.returns-in-List
returns-in-List c =
    ap (λ (ts : List Tree). Some (map node_view ts)) c.deref.ensures.value
    ∙ sym (items_in-List c.in-List.field-0 c.in-List.items)
    ∙ ap (λ (t : Tree). items_in (node_view t)) (sym c.in-List.is)
