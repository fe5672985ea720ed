-- Lists are read as they are.
use Rattle.std.proofs.Common.{rules, ◌≡◌, ℕ, ◌+◌, ◌<◌, ◌≤◌, true, false, List, [], ◌∷◌, ◌++◌, length, map, filter, drop}
use Rattle.std.proofs.Common.{get_or, Option, Some, None, Result, IfOk, IfErr, ◌≢◌, refl, sym, ap, ◌∙◌, append_assoc}
use Rattle.std.proofs.{Common.add-one, Math.Seq.drop-cons, lemmas.{List.drop_all, Option.{same_Some, none-some}}}
use Rattle.yaml_subset.specs.{declared.tree.Tree.Tree, View.{line_of, text_in, node_view}}
use Rattle.yaml_subset.specs.Node.{Node, scalar, sequence, mapping, list_nodes}
use Rattle.mpf_values.specs.{declared.fault.ListFault.ListFault, View.GivesList}
use Rattle.mpf_values.specs.declared.fault.ListFault.TheVariants as faults
use Rattle.mpf_values.specs.Lists.{Item, item_at, has_text, scalar_node, IsList}
use Rattle.mpf_values.specs.Reading.{◌>>=◌, items_of, scalar_at, onto_list, scalars_at, list_at}
use Rattle.mpf_values.proofs.{Steps.bind_some, ListTexts.{is_list_text, one_list}}

-- ---- nodes that are scalars

onto_filter : (item : Item) (items : List Item)
    → onto_list item (filter has_text items) ≡ filter has_text (item ∷ items)
onto_filter item items = refl

-- the scalars that nodes are
record Scalars (nodes : List Node) (items : List Item) : Type 0 where
  scalars : List Item
  are : nodes ≡ map scalar_node scalars
  kept : items ≡ filter has_text scalars

scalar_sound : (node : Node) (item : Item) → scalar_at node ≡ Some item → node ≡ scalar_node item
scalar_sound x1 item e = search rules

scalars_sound : (nodes : List Node) (items : List Item) → scalars_at nodes ≡ Some items → Scalars nodes items
unfolding scalars_at
scalars_sound [] items e = record { scalars = []; are = refl; kept = sym (same_Some [] items e) }
scalars_sound (node ∷ nodes) items e =
    let a = bind_some (scalar_at node) (λ item. scalars_at nodes >>= λ rest. Some (onto_list item rest)) items e in
    let b = bind_some (scalars_at nodes) (λ rest. Some (onto_list a.0 rest)) items a.2 in
    let s = scalars_sound nodes b.0 b.1 in
    record {
      scalars = a.0 ∷ s.scalars;
      are = ap (λ (n : Node). n ∷ nodes) (scalar_sound node a.0 a.1)
          ∙ ap (λ (ns : List Node). scalar_node a.0 ∷ ns) s.are;
      kept = sym (same_Some (onto_list a.0 b.0) items b.2) ∙ ap (onto_list a.0) s.kept ∙ onto_filter a.0 s.scalars;
    }

scalars_complete : (scalars : List Item) → scalars_at (map scalar_node scalars) ≡ Some (filter has_text scalars)
unfolding scalars_at
scalars_complete [] = refl
scalars_complete (item ∷ items) = rw (scalars_complete items)
    (ap (λ (is : List Item). Some is) (onto_filter item items))

-- ---- node by node

-- the items of the nodes before, and those of the nodes from here on
abbrev pub with_front : List Item → Option (List Item) → Option (List Item)
with_front front read = read >>= λ items. Some (front ++ items)

regroup : (front : List Item) (item : Item) (read : Option (List Item))
    → with_front front (read >>= λ items. Some (item ∷ items)) ≡ with_front (front ++ item ∷ []) read
regroup front item x3 = search (rules, append_assoc)

pub node_item : (node : Node) (text : List ℕ) (line : ℕ) → Some text ≡ text_in node → line ≡ line_of node
    → scalar_at node ≡ Some (item_at line text)
node_item node text line e n = rw (← e, n) refl

pub no_item : (node : Node) → None ≡ text_in node → scalar_at node ≡ None
no_item node e = rw (← e) refl

module _ (front : List Item) (node : Node) (nodes all : List Node) (total : Option (List Item)) where
  -- a scalar with text
  pub adds : (item : Item) → all ≡ node ∷ nodes → scalar_at node ≡ Some item → has_text item ≡ true
      → with_front front (scalars_at all) ≡ total → with_front (front ++ item ∷ []) (scalars_at nodes) ≡ total
  unfolding scalars_at
  adds item e is some so_far =
      let one : with_front front (scalars_at all) ≡ with_front (front ++ item ∷ []) (scalars_at nodes) =
      rw (e, is, some) (regroup front item (scalars_at nodes)) in
      sym one ∙ so_far

  -- an empty one
  pub skips : (item : Item) → all ≡ node ∷ nodes → scalar_at node ≡ Some item → has_text item ≡ false
      → with_front front (scalars_at all) ≡ total → with_front front (scalars_at nodes) ≡ total
  unfolding scalars_at
  skips item e is none so_far = search rules

  -- no scalar
  pub fails : all ≡ node ∷ nodes → scalar_at node ≡ None → with_front front (scalars_at all) ≡ total → total ≡ None
  unfolding scalars_at
  fails e is so_far = search rules

-- none is left
pub is_done : (front : List Item) (all : List Node) (total : Option (List Item)) → all ≡ []
    → with_front front (scalars_at all) ≡ total → total ≡ Some front
unfolding scalars_at
is_done front all total none so_far = search rules

pub nodes_at : (nodes : List Tree) (i : ℕ) (node : Tree) → i < length nodes → node ≡ get_or nodes i node
    → map node_view (drop i nodes) ≡ node_view node ∷ map node_view (drop (i + 1) nodes)
nodes_at nodes i node lt is = search (rules, get_or, add-one, drop-cons)

pub none_behind : (nodes : List Tree) (i : ℕ) → length nodes ≤ i → map node_view (drop i nodes) ≡ []
none_behind nodes i le = ap (map node_view) (drop_all i nodes le)

-- ---- lists

pub list_sound : (node : Node) (items : List Item) → list_at node ≡ Some items → IsList node items
unfolding list_at
list_sound (scalar line text) items e =
    (items_of text, is_list_text text, sym (same_Some (map (item_at line) (items_of text)) items e))
list_sound (sequence line nodes) items e = let s = scalars_sound (list_nodes nodes) items e
    in (s.scalars, s.are, s.kept)
list_sound (mapping line pairs) items e = absurd (none-some items e)

pub list_complete : (node : Node) (items : List Item) → IsList node items → list_at node ≡ Some items
unfolding list_at
list_complete x1 items h = search (rules, one_list, scalars_complete)

-- ---- what `list` answers

pub list_found : {X : Type 0} (view : X → List Item) (node : Node) (r : Result X ListFault)
    → GivesList view r (list_at node) → IfOk r (λ x. IsList node (view x))
list_found view node x3 g = search (rules, list_sound)

pub list_only : {X : Type 0} (view : X → List Item) (node : Node) (r : Result X ListFault)
    → GivesList view r (list_at node) → IfOk r (λ x. (items : List Item) → IsList node items → items ≡ view x)
list_only view node x3 g = search (rules, same_Some, list_complete)

pub list_refused : {X : Type 0} (view : X → List Item) (node : Node) (r : Result X ListFault)
    → GivesList view r (list_at node) → IfErr r (λ e. e ≢ faults.NoMemory → (items : List Item) → IsList node items → ⊥)
list_refused view node x3 g = search (rules, none-some, list_complete)
