-- Values that are texts or lists are those that are read, and no others.
use Rattle.std.proofs.Common.{rules, ◌≡◌, ℕ, ◌<◌, ◌≤◌, nat_lt, Bool, true, false, List, length, Option, Some, Result}
use Rattle.std.proofs.{Common.{Ok, refl, inl, inr, arith}, lemmas.Bool.ltb-true}
use Rattle.yaml_subset.specs.{Node.Node, View.{line_of, items_in}}
use Rattle.mpf_values.specs.{Lists.Item, Reading.{list_at, event_at}}
use Rattle.mpf_values.proofs.NameTexts.{IsName-from_is_name, is_name-from_IsName}
use Rattle.mpf_values.proofs.{EventTexts.event_computes, ListNodes.{list_sound, list_complete}}
use Rattle.config_faults.specs.declared.fault.BundleFaultKind.TheVariants.{Limit}
use Rattle.config_faults.specs.Faults.{RowsFault, Spot, rows_fault_at}
use Rattle.setting_values.specs.Values.{WrittenName, HandledEvent, Plain, handled_at}
use Rattle.setting_values.specs.{Kinds.{Scalar, Bounds, fits}, Below.nodes_below, Reading.{list_nodes_at, nodes_at}}
use Rattle.setting_values.proofs.{ScalarTexts.{scalar_sound, scalar_complete}, Outcomes.{then_or, each_sound, each_or}}
use Rattle.setting_values.specs.ValueOf.{IsPlain, AreListed, AreNodes, IsWritten, IsHandled}
use Rattle.setting_values.specs.Reading.{most_items, IsReadOr, IsReadOrLong, ◌>>=◌, expect, give, each_read, plain_at}
use Rattle.setting_values.specs.Reading.{written_in, handled_in, count_at, count_of, list_items_at, listed_at}
use Rattle.setting_values.proofs.{Steps.expected, Counting.count_few, Options.gave}
use Rattle.yaml_bytes.proofs.Steps.{bind_ok, guard_true, guard_false, ok_is}

-- ---- texts

pub plain_sound : (kind : Scalar) (spot : Spot) (node : Node) (v : Plain) → plain_at kind spot node ≡ Ok v
    → IsPlain kind node v
unfolding plain_at
plain_sound kind spot node v e = search (rules, bind_ok, scalar_sound)

pub plain_complete : (longest : ℕ) (kind : Scalar) (spot : Spot) (node : Node) (v : Plain) → IsPlain kind node v
    → IsReadOrLong longest (plain_at kind spot node) v
unfolding plain_at
plain_complete longest kind spot node v h = inl (rw (h.1, scalar_complete kind (line_of node) h.0 v h.2) refl)

pub name_sound : (spot : Spot) (item : Item) (w : WrittenName) → written_in spot item ≡ Ok w → IsWritten item w
unfolding written_in
name_sound spot item w e = search (rules, guard_true, IsName-from_is_name, ok_is)

pub name_complete : (Above : Type 0) (spot : Spot) (item : Item) (w : WrittenName) → IsWritten item w
    → IsReadOr Above (written_in spot item) w
unfolding written_in
name_complete Above spot item w h = inl (rw (is_name-from_IsName item.text h.0, h.1) refl)

pub handled_sound : (spot : Spot) (item : Item) (w : HandledEvent) → handled_in spot item ≡ Ok w → IsHandled item w
unfolding handled_in
handled_sound spot item w e =
    let a = gave (handled_at item.line) (event_at item.text) w
    (expected spot (give (handled_at item.line) (event_at item.text)) w e) in
    (a.0, (event_computes item.text).sound a.0 a.1, a.2)

pub handled_complete : (Above : Type 0) (spot : Spot) (item : Item) (w : HandledEvent) → IsHandled item w
    → IsReadOr Above (handled_in spot item) w
unfolding handled_in
handled_complete Above spot item w h = inl (rw ((event_computes item.text).complete h.0 h.1, h.2) refl)

-- ---- how many items

count_sound : (most : ℕ) (bounds : Bounds) (spot : Spot) (n : ℕ) (u : Unit {0}) → count_at most bounds spot n ≡ Ok u
    → (n ≤ most) × (fits bounds n ≡ true)
unfolding count_at
count_sound most bounds spot n u e = search rules

count_by : (most longest : ℕ) (bounds : Bounds) (spot : Spot) (n : ℕ) → n ≤ longest → fits bounds n ≡ true
    → (long : Bool) → nat_lt most n ≡ long
    → IsReadOr (most < longest) (count_at most bounds spot n) tt
unfolding count_at
count_by most longest bounds spot n few fit x8 e = search rules

module _ {A : Type 0} (most : ℕ) (bounds : Bounds) (spot : Spot) (o : Option (List A)) where
  abbrev pub counted : Result (List A) RowsFault
  counted = expect spot o >>= λ xs. count_at most bounds spot (length xs) >>= λ _. Ok xs

  pub counted_sound : (xs : List A) → counted ≡ Ok xs
      → (o ≡ Some xs) × (length xs ≤ most) × (fits bounds (length xs) ≡ true)
  counted_sound xs e = search (rules, bind_ok, count_sound, ok_is)

  pub counted_complete : (longest : ℕ) (xs : List A) → o ≡ Some xs → length xs ≤ longest
      → fits bounds (length xs) ≡ true → IsReadOr (most < longest) counted xs
  counted_complete longest xs is few fit = search (rules, is, count_by, nat_lt, then_or)

-- ---- lists

module _ {B : Type 0} (f : Spot → Item → Result B RowsFault) (IsOne : Item → B → Type 0) where
  pub listed_sound : ((spot : Spot) (item : Item) (y : B) → f spot item ≡ Ok y → IsOne item y)
      → (most : ℕ) (bounds : Bounds) (spot : Spot) (node : Node) (ys : List B)
      → listed_at f most bounds spot node ≡ Ok ys → AreListed IsOne bounds most node ys
  unfolding list_items_at
  listed_sound sound most bounds spot node ys e =
      let a = bind_ok (list_items_at most bounds spot node) (each_read (f spot)) ys e in
      let g = guard_false (nat_lt most (count_of (items_in node))) (counted most bounds spot (list_at node))
      (rows_fault_at Limit spot) a.0 a.1 in
      let k = counted_sound most bounds spot (list_at node) a.0 g.1 in
      record {
        items = a.0;
        list = list_sound node a.0 k.0;
        few = k.1;
        fit = k.2;
        each = each_sound (f spot) IsOne (sound spot) a.0 ys a.2;
      }

  pub listed_complete : (most longest : ℕ)
      → ((spot : Spot) (item : Item) (y : B) → IsOne item y → IsReadOr (most < longest) (f spot item) y)
      → (bounds : Bounds) (spot : Spot) (node : Node) (ys : List B) → AreListed IsOne bounds longest node ys
      → IsReadOr (most < longest) (listed_at f most bounds spot node) ys
  unfolding list_items_at
  listed_complete most longest complete bounds spot node ys h =
      then_or (most < longest) (list_items_at most bounds spot node) (each_read (f spot)) h.items ys
      (by (nat_lt most (count_of (items_in node))) refl)
      (each_or (f spot) IsOne (most < longest) (complete spot) h.items ys h.each)
    where
      is : list_at node ≡ Some h.items
      is = list_complete node h.items h.list

      by : (long : Bool) → nat_lt most (count_of (items_in node)) ≡ long
          → IsReadOr (most < longest) (list_items_at most bounds spot node) h.items
      by true e =
          let many : most < count_of (items_in node) = ltb-true most (count_of (items_in node)) e in
          let above : most < longest = omega (arith, many, count_few node h.items is, h.few) in
          inr (above, rw e refl)
      by false e = rw e (counted_complete most bounds spot (list_at node) longest h.items is h.few h.fit)

module _ {B : Type 0} (f : Spot → Node → Result B RowsFault) (IsOne : Node → B → Type 0) where
  pub nodes_sound : ((spot : Spot) (node : Node) (y : B) → f spot node ≡ Ok y → IsOne node y)
      → (bounds : Bounds) (spot : Spot) (node : Node) (ys : List B)
      → nodes_at f bounds spot node ≡ Ok ys → AreNodes IsOne bounds most_items node ys
  unfolding list_nodes_at
  nodes_sound sound bounds spot node ys e =
      let a = bind_ok (list_nodes_at bounds spot node) (each_read (f spot)) ys e in
      let k = counted_sound most_items bounds spot (nodes_below node) a.0 a.1 in
      record { nodes = a.0; list = k.0; few = k.1; fit = k.2; each = each_sound (f spot) IsOne (sound spot) a.0 ys a.2 }

  pub nodes_complete : (longest : ℕ) → ((spot : Spot) (node : Node) (y : B) → IsOne node y
      → IsReadOrLong longest (f spot node) y)
      → (bounds : Bounds) (spot : Spot) (node : Node) (ys : List B) → AreNodes IsOne bounds longest node ys
      → IsReadOrLong longest (nodes_at f bounds spot node) ys
  unfolding list_nodes_at
  nodes_complete longest complete bounds spot node ys h =
      then_or (most_items < longest) (list_nodes_at bounds spot node) (each_read (f spot)) h.nodes ys
      (counted_complete most_items bounds spot (nodes_below node) longest h.nodes h.list h.few h.fit)
      (each_or (f spot) IsOne (most_items < longest) (complete spot) h.nodes ys h.each)
