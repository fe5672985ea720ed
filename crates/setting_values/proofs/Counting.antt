-- The nodes of a YAML list that count as items, good or bad, are no more than the items that are read.
use Rattle.std.proofs.Common.{rules, ◌≡◌, ℕ, ◌+◌, ◌<◌, ◌≤◌, ◌==◌, Bool, true, false, List, [], ◌∷◌, length, map, filter}
use Rattle.std.proofs.{Common.{drop, get_or, Some, refl, ap, ◌∙◌, arith}, lemmas.Option.{same_Some, none-some}}
use Rattle.yaml_subset.specs.{declared.tree.Tree.Tree, View.{items_in, node_view}}
use Rattle.yaml_subset.specs.Node.{Node, scalar, sequence, mapping}
use Rattle.mpf_values.specs.{Lists.{Item, item_at}, Reading.{◌>>=◌, scalar_at, onto_list, scalars_at, list_at}}
use Rattle.mpf_values.proofs.{Steps.bind_some, ListNodes.nodes_at}
use Rattle.setting_values.specs.Reading.{counts, count_of}

-- of a list that is read, no more nodes count than there are items
count_onto : (node : Node) (item : Item) (n : ℕ) (items : List Item) → scalar_at node ≡ Some item → n ≤ length items
    → length (filter counts (node ∷ [])) + n ≤ length (onto_list item items)
unfolding counts
count_onto (scalar line text) item n items e few = by (length text == 0) refl
  where
    same : item_at line text ≡ item
    same = same_Some (item_at line text) item e

    by : (empty : Bool) → (length text == 0) ≡ empty
        → length (filter counts (scalar line text ∷ [])) + n ≤ length (onto_list item items)
    by true is = let less : 0 + n ≤ length items = omega (arith, few) in rw (← same, is) less
    by false is = rw (← same, is) (omega (arith, few))
count_onto (sequence line nodes) item n items e few = absurd (none-some item e)
count_onto (mapping line pairs) item n items e few = absurd (none-some item e)

count_cons : (node : Node) (nodes : List Node)
    → length (filter counts (node ∷ nodes)) ≡ length (filter counts (node ∷ [])) + length (filter counts nodes)
count_cons node nodes = by (counts node) refl
  where
    by : (b : Bool) → counts node ≡ b → length (filter counts (node ∷ nodes))
        ≡ length (filter counts (node ∷ [])) + length (filter counts nodes)
    by true is = rw is (omega arith)
    by false is = rw is (omega arith)

count_scalars : (nodes : List Node) (items : List Item) → scalars_at nodes ≡ Some items
    → length (filter counts nodes) ≤ length items
unfolding scalars_at
count_scalars [] items e = omega arith
count_scalars (node ∷ nodes) items e =
    let a = bind_some (scalar_at node) (λ item. scalars_at nodes >>= λ rest. Some (onto_list item rest)) items e in
    let b = bind_some (scalars_at nodes) (λ rest. Some (onto_list a.0 rest)) items a.2 in
    let few = count_onto node a.0 (length (filter counts nodes)) b.0 a.1 (count_scalars nodes b.0 b.1) in
    let all : onto_list a.0 b.0 ≡ items = same_Some (onto_list a.0 b.0) items b.2 in
    omega (arith, few, count_cons node nodes, ap length all)

pub count_few : (node : Node) (items : List Item) → list_at node ≡ Some items → count_of (items_in node) ≤ length items
unfolding list_at
count_few x1 items e = search (rules, count_scalars)

-- ---- node by node

module _ (nodes : List Tree) (i : ℕ) (node : Tree) (within : i < length nodes) (here : node ≡ get_or nodes i node) where
  abbrev from : ℕ → ℕ
  from n = length (filter counts (map node_view (drop n nodes)))

  one : from i ≡ length (filter counts (node_view node ∷ [])) + from (i + 1)
  one = ap (λ ns. length (filter counts ns)) (nodes_at nodes i node within here)
      ∙ count_cons (node_view node) (map node_view (drop (i + 1) nodes))

  pub counted : (count total : ℕ) → counts (node_view node) ≡ true → count + from i ≡ total
      → (count + 1) + from (i + 1) ≡ total
  counted count total is so_far = let this : length (filter counts (node_view node ∷ [])) ≡ 1 = rw is refl
      in omega (arith, one, this, so_far)

  pub passed_over : (count total : ℕ) → counts (node_view node) ≡ false → count + from i ≡ total
      → count + from (i + 1) ≡ total
  passed_over count total is so_far = let this : length (filter counts (node_view node ∷ [])) ≡ 0 = rw is refl
      in omega (arith, one, this, so_far)
