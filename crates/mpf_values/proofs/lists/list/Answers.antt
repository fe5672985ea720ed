use Rattle.yaml_subset.specs.View.{node_view}
use Rattle.mpf_values.{specs.View.items_view, proofs.ListNodes.{list_found, list_only, list_refused}}
use Rattle.mpf_values.proofs.lists.list.Goals as goal

pub returns-clause-found : goal.returns-clause-found
returns-clause-found c = list_found (λ items. items_view items.items) (node_view c.args.tree.now) c.items_of.result
    c.items_of.ensures

pub returns-clause-only : goal.returns-clause-only
returns-clause-only c = list_only (λ items. items_view items.items) (node_view c.args.tree.now) c.items_of.result
    c.items_of.ensures

pub returns-clause-refused : goal.returns-clause-refused
returns-clause-refused c = list_refused (λ items. items_view items.items) (node_view c.args.tree.now) c.items_of.result
    c.items_of.ensures
