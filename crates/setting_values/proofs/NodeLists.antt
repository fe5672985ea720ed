-- The nodes of a YAML list that count are read as its items are.
use Rattle.std.proofs.Common.{rules, ◌≡◌, ℕ, ◌+◌, nat_lt, ◌==◌, Bool, true, false, List, [], ◌∷◌, length, map, filter}
use Rattle.std.proofs.Common.{Option, Some, None, Result, Ok, Err, refl, sym, ap, arith}
use Rattle.std.proofs.lemmas.Option.{same_Some, none-some}
use Rattle.yaml_subset.specs.{declared.tree.Tree.Tree, View.{items_in, node_view}}
use Rattle.yaml_subset.specs.Node.{Node, scalar, sequence, mapping}
use Rattle.mpf_values.specs.{Lists.{Item, item_at}, Reading.{is_name, onto_list, scalars_at, list_at, event_at}}
use Rattle.mpf_values.proofs.Steps.{bind_some}
use Rattle.config_faults.specs.declared.fault.BundleFaultKind.TheVariants.{BadValue, Limit}
use Rattle.setting_values.specs.{Values.handled_at, Kinds.{Bounds, fits}, Reading.{list_items_at, listed_at}}
use Rattle.setting_values.specs.ValueAnswers.{is_counted, node_item_at, counted_at}
use Rattle.config_faults.specs.Faults.{RowsFault, Spot, rows_fault_at, refuse}
use Rattle.setting_values.specs.Reading.{◌>>=◌, expect, give, each_read, counts, count_at, written_in, handled_in}

-- ---- nodes, seen before they are sorted out, and after it

pub seen_counted : (nodes : List Tree) → map node_view (filter is_counted nodes) ≡ filter counts (map node_view nodes)
seen_counted [] = refl
seen_counted (node ∷ nodes) = by (counts (node_view node)) refl (seen_counted nodes)
  where
    by : (b : Bool) → counts (node_view node) ≡ b
        → map node_view (filter is_counted nodes) ≡ filter counts (map node_view nodes)
        → map node_view (filter is_counted (node ∷ nodes)) ≡ filter counts (map node_view (node ∷ nodes))
    by true is rest = rw (is, rest) refl
    by false is rest = rw (is, rest) refl

-- ---- what f gives for each item

-- if it fails, it says that the value is bad
abbrev OnlyBad : {B : Type 0} → Spot → Result B RowsFault → Type 0
OnlyBad spot (Ok y) = Unit {0}
OnlyBad spot (Err e) = e ≡ rows_fault_at BadValue spot

only_expected : {B : Type 0} (spot : Spot) (o : Option B) → OnlyBad spot (expect spot o)
only_expected spot x2 = search rules

pub only_names : (spot : Spot) (item : Item) → OnlyBad spot (written_in spot item)
unfolding written_in
only_names spot item = by (is_name item.text) refl
  where
    by : (b : Bool) → is_name item.text ≡ b → OnlyBad spot (written_in spot item)
    by true is = rw is tt
    by false is = rw is refl

pub only_handlers : (spot : Spot) (item : Item) → OnlyBad spot (handled_in spot item)
unfolding handled_in
only_handlers spot item = only_expected spot (give (handled_at item.line) (event_at item.text))

module _ {B : Type 0} (f : Spot → Item → Result B RowsFault) (spot : Spot) where
  abbrev read : List Node → Result (List B) RowsFault
  read nodes = each_read (node_item_at f spot) (filter counts nodes)

  -- if a list has items, these are what is read
  abbrev Same : List Node → List Item → Type 0
  Same nodes items = (length (filter counts nodes) ≡ length items) × (read nodes ≡ each_read (f spot) items)

  same_onto : (line : ℕ) (text : List ℕ) (nodes : List Node) (items : List Item) → Same nodes items
      → Same (scalar line text ∷ nodes) (onto_list (item_at line text) items)
  unfolding counts each_read
  same_onto line text nodes items h = by (length text == 0) refl
    where
      by : (b : Bool) → (length text == 0) ≡ b → Same (scalar line text ∷ nodes) (onto_list (item_at line text) items)
      by true is = rw is h
      by false is = let longer : length (filter counts nodes) + 1 ≡ length items + 1 = ap (λ n. n + 1) h.0
          in rw (is, h.1) (omega (arith, longer), refl)

  same : (nodes : List Node) (items : List Item) → scalars_at nodes ≡ Some items → Same nodes items
  unfolding scalars_at each_read
  same [] items e = rw (← same_Some [] items e) (refl, refl)
  same (scalar line text ∷ nodes) items e =
      let b = bind_some (scalars_at nodes) (λ rest. Some (onto_list (item_at line text) rest)) items e in
      rw (← same_Some (onto_list (item_at line text) b.0) items b.2)
      (same_onto line text nodes b.0 (same nodes b.0 b.1))
  same (sequence line inner ∷ nodes) items e = absurd (none-some items e)
  same (mapping line pairs ∷ nodes) items e = absurd (none-some items e)

  -- if it has none, the value is bad
  bad_onto : (r : Result B RowsFault) (rest : Result (List B) RowsFault) → OnlyBad spot r → rest ≡ refuse BadValue spot
      → (r >>= λ y. rest >>= λ ys. Ok (y ∷ ys)) ≡ refuse BadValue spot
  bad_onto x1 rest only e = search rules

  some_none : (line : ℕ) (text : List ℕ) (nodes : List Node) (o : Option (List Item)) → scalars_at nodes ≡ o
      → scalars_at (scalar line text ∷ nodes) ≡ None → scalars_at nodes ≡ None
  unfolding scalars_at
  some_none line text nodes x4 is e = search rules

  bad : ((item : Item) → OnlyBad spot (f spot item)) → (nodes : List Node) → scalars_at nodes ≡ None
      → read nodes ≡ refuse BadValue spot
  unfolding scalars_at each_read counts
  bad only [] e = absurd (none-some [] (sym e))
  bad only (scalar line text ∷ nodes) e = by (length text == 0) refl
      (bad only nodes (some_none line text nodes (scalars_at nodes) refl e))
    where
      by : (b : Bool) → (length text == 0) ≡ b → read nodes ≡ refuse BadValue spot
          → read (scalar line text ∷ nodes) ≡ refuse BadValue spot
      by true is rest = rw is rest
      by false is rest = rw is (bad_onto (f spot (item_at line text)) (read nodes) (only (item_at line text)) rest)
  bad only (sequence line inner ∷ nodes) e = refl
  bad only (mapping line pairs ∷ nodes) e = refl

  -- ---- lists

  counted_by : (most : ℕ) (bounds : Bounds) (nodes : List Node) (o : Option (List Item))
      → ((item : Item) → OnlyBad spot (f spot item)) → scalars_at nodes ≡ o
      → nat_lt most (length (filter counts nodes)) ≡ false
      → counted_at f most bounds spot nodes
      ≡ (expect spot o >>= λ items. count_at most bounds spot (length items) >>= λ _. Ok items) >>= each_read
      (f spot)
  unfolding count_at
  counted_by most bounds nodes (Some items) only is few =
      let h = same nodes items is in
      let lt : nat_lt most (length items) ≡ false = rw (← h.0) few in
      by h lt (fits bounds (length items)) refl
    where
      by : Same nodes items → nat_lt most (length items) ≡ false → (b : Bool) → fits bounds (length items) ≡ b
          → counted_at f most bounds spot nodes
          ≡ (expect spot (Some items) >>= λ its. count_at most bounds spot (length its) >>= λ _. Ok its) >>=
          each_read (f spot)
      by h lt true fit = rw (h.0, lt, fit, h.1) refl
      by h lt false fit = rw (h.0, lt, fit) refl
  counted_by most bounds nodes None only is few = by (fits bounds (length (filter counts nodes))) refl
    where
      by : (b : Bool) → fits bounds (length (filter counts nodes)) ≡ b
          → counted_at f most bounds spot nodes ≡ refuse BadValue spot
      by true fit = rw (few, fit) (bad only nodes is)
      by false fit = rw (few, fit) refl

  counted_long : (most : ℕ) (bounds : Bounds) (nodes : List Node) → nat_lt most (length (filter counts nodes)) ≡ true
      → counted_at f most bounds spot nodes ≡ refuse Limit spot
  unfolding count_at
  counted_long most bounds nodes long = rw long refl

  listed_long : (most : ℕ) (bounds : Bounds) (node : Node) (nodes : List Node) → items_in node ≡ Some nodes
      → nat_lt most (length (filter counts nodes)) ≡ true → listed_at f most bounds spot node ≡ refuse Limit spot
  unfolding list_items_at
  listed_long most bounds node nodes is long = rw (is, long) refl

  listed_few : (most : ℕ) (bounds : Bounds) (node : Node) (nodes : List Node) → items_in node ≡ Some nodes
      → list_at node ≡ scalars_at nodes → nat_lt most (length (filter counts nodes)) ≡ false
      → listed_at f most bounds spot node ≡ (expect spot (scalars_at nodes) >>= λ items. count_at most bounds spot
      (length items) >>= λ _. Ok items) >>= each_read (f spot)
  unfolding list_items_at
  listed_few most bounds node nodes is at_nodes few = rw (is, few, at_nodes) refl

  counted_sequence : (most : ℕ) (bounds : Bounds) (node : Node) (nodes : List Node)
      → ((item : Item) → OnlyBad spot (f spot item)) → items_in node ≡ Some nodes → list_at node ≡ scalars_at nodes
      → (b : Bool) → nat_lt most (length (filter counts nodes)) ≡ b
      → counted_at f most bounds spot nodes ≡ listed_at f most bounds spot node
  counted_sequence most bounds node nodes only is at_nodes x8 x9 =
      search (rules, counted_long, listed_long, counted_by, listed_few)

  -- the items of a YAML list, read node by node
  pub counted_listed : (most : ℕ) (bounds : Bounds) (node : Node) (nodes : List Node)
      → ((item : Item) → OnlyBad spot (f spot item)) → items_in node ≡ Some nodes
      → counted_at f most bounds spot nodes ≡ listed_at f most bounds spot node
  unfolding list_at
  counted_listed most bounds x3 nodes only is = search (rules, same_Some, counted_sequence, nat_lt, none-some)
