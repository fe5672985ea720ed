use Rattle.std.proofs.Common.{◌≡◌, ℕ, ◌<◌, List, [], ◌∷◌, ◌++◌, length, map, Result, Ok, refl, sym, inl, ◌∙◌, arith}
use Rattle.std.{proofs.lemmas.{Result.err_from_is_err_and, List.map_push}, specs.Cow.cow_slice_items}
use Rattle.yaml_subset.specs.{declared.place.PlacedFault.PlacedFault, View.{node_view, pair_view}, Flow.flow_at}
use Rattle.yaml_subset.specs.Node.{Node, Pair, sequence, mapping, nodes_of, pairs_of}
use Rattle.yaml_subset.specs.Flow.{keys_of, between_at, flow_pair_at, flow_list_at, flow_mapping_at, flow_value_at}
use Rattle.yaml_subset.proofs.{Views.{node_view-List, node_view-Map}, FlowWords.word_less, Groups.fails_then}
use Rattle.yaml_subset.proofs.{FlowParts.parted_less, FlowReads.{value_less, pair_less}}
use Rattle.yaml_subset.proofs.FlowLoops.{begun, begin_fails, closed, close_fails, part_fails, parted_fails, goes_on}
use Rattle.yaml_subset.proofs.flow.+flow.Goals as goal

abbrev value_in : ℕ → ℕ → List ℕ → Result (Node × List ℕ) PlacedFault
value_in levels n = flow_value_at n (flow_at levels n)

abbrev item_in : ℕ → ℕ → List Node → List ℕ → Result (Node × List ℕ) PlacedFault
item_in levels n before = value_in levels n

abbrev pair_in : ℕ → ℕ → List Pair → List ℕ → Result (Pair × List ℕ) PlacedFault
pair_in levels n before = flow_pair_at n (value_in levels n) (keys_of before)

abbrev list_of : ℕ → List Node × List ℕ → Result (Node × List ℕ) PlacedFault
list_of n r = Ok (sequence n (nodes_of r.0), r.1)

abbrev mapping_of : ℕ → List Pair × List ℕ → Result (Node × List ℕ) PlacedFault
mapping_of n r = Ok (mapping n (pairs_of r.0), r.1)

-- ---- lists

pub list-returns-in_err-text : goal.list-returns-in_err-text
unfolding flow_list_at
list-returns-in_err-text t c =
    let p = err_from_is_err_and c.from_residual.result c.from_residual.ensures.1 in
    let part = item_in c.args.levels c.args.number in
    let after = c.args.after.now in
    let e = c.in_err-text.field-0.0 in
    rw (p.1, p.2) (fails_then e (between_at c.args.number 93 part after) (list_of c.args.number)
    (begin_fails c.args.number 93 part after e c.in_err-text.ensures))

pub list-loop-alloc-init : goal.list-loop-alloc-init
list-loop-alloc-init t c =
    rw c.in_ok-items.ensures.items (begun c.args.number 93 (item_in c.args.levels c.args.number) c.args.after.now
    c.in_ok-text.text.now c.in_ok-text.ensures)

pub list-returns-in_err-item : goal.list-returns-in_err-item
unfolding flow_list_at
list-returns-in_err-item t c =
    let p = err_from_is_err_and c.from_residual-in_err-item.result c.from_residual-in_err-item.ensures.1 in
    let part = item_in c.args.levels c.args.number in
    let total = between_at c.args.number 93 part c.args.after.now in
    let e = c.in_err-item.field-0.0 in
    let more = sym c.begins_with.ensures ∙ c.loop-alloc-test.true in
    let d = part_fails c.args.number 93 part total (map node_view c.loop-alloc.items.items) c.loop-alloc.text.now
    c.loop-alloc.invariant more e c.in_err-item.ensures in
    rw (p.1, p.2) (fails_then e total (list_of c.args.number) d)

pub list-returns-in_err-text-2 : goal.list-returns-in_err-text-2
unfolding flow_list_at
list-returns-in_err-text-2 t c =
    let p = err_from_is_err_and c.from_residual-in_err-text-2.result c.from_residual-in_err-text-2.ensures.1 in
    let part = item_in c.args.levels c.args.number in
    let total = between_at c.args.number 93 part c.args.after.now in
    let e = c.in_err-text-2.field-0.0 in
    let more = sym c.begins_with.ensures ∙ c.loop-alloc-test.true in
    let d = parted_fails c.args.number 93 part total (map node_view c.loop-alloc.items.items) c.loop-alloc.text.now
    c.loop-alloc.invariant more (node_view c.in_ok-item.item) c.in_ok-item.rest.now c.in_ok-item.ensures e
    c.in_err-text-2.ensures in
    rw (p.1, p.2) (fails_then e total (list_of c.args.number) d)

pub list-loop-alloc-smaller : goal.list-loop-alloc-smaller
list-loop-alloc-smaller t c =
    let one = value_less c.args.levels c.args.number c.loop-alloc.text.now (node_view c.in_ok-item.item)
    c.in_ok-item.rest.now c.in_ok-item.ensures in
    let two = parted_less c.args.number 93 c.in_ok-item.rest.now c.in_ok-text-2.text.now c.in_ok-text-2.ensures in
    omega (arith, one, two)

pub list-loop-alloc-preserved : goal.list-loop-alloc-preserved
list-loop-alloc-preserved t c =
    let item = c.in_ok-item.item in
    let text = c.loop-alloc.text.now in
    let rest = c.in_ok-item.rest.now in
    let next = c.in_ok-text-2.text.now in
    let part = item_in c.args.levels c.args.number in
    let e : map node_view c.push.new.self.items ≡ map node_view c.loop-alloc.items.items ++ node_view item ∷ [] =
    rw c.in_ok-push.ensures.items (map_push node_view c.loop-alloc.items.items item) in
    let more = sym c.begins_with.ensures ∙ c.loop-alloc-test.true in
    let less : length next < length text =
    omega (
      arith,
      value_less c.args.levels c.args.number text (node_view item) rest c.in_ok-item.ensures,
      parted_less c.args.number 93 rest next c.in_ok-text-2.ensures,
    ) in
    rw e (goes_on c.args.number 93 part (between_at c.args.number 93 part c.args.after.now)
    (map node_view c.loop-alloc.items.items) text c.loop-alloc.invariant more (node_view item) rest
    c.in_ok-item.ensures next c.in_ok-text-2.ensures less)

pub list-returns-in_err-rest : goal.list-returns-in_err-rest
unfolding flow_list_at
list-returns-in_err-rest t c =
    let p = err_from_is_err_and c.from_residual-in_err-rest.result c.from_residual-in_err-rest.ensures.1 in
    let part = item_in c.args.levels c.args.number in
    let total = between_at c.args.number 93 part c.args.after.now in
    let e = c.in_err-rest.field-0.0 in
    let ends = sym c.begins_with.ensures ∙ c.loop-alloc-test.false in
    let d = close_fails c.args.number 93 part total (map node_view c.loop-alloc.items.items) c.loop-alloc.text.now
    c.loop-alloc.invariant ends e c.in_err-rest.ensures in
    rw (p.1, p.2) (fails_then e total (list_of c.args.number) d)

pub list-returns : goal.list-returns
unfolding flow_list_at
list-returns t c =
    let part = item_in c.args.levels c.args.number in
    let total = between_at c.args.number 93 part c.args.after.now in
    let ends = sym c.begins_with.ensures ∙ c.loop-alloc-test.false in
    let d = closed c.args.number 93 part total (map node_view c.loop-alloc.items.items) c.loop-alloc.text.now
    c.loop-alloc.invariant ends c.in_ok-rest.rest.now c.in_ok-rest.ensures in
    rw (d, node_view-List, c.shrink_to_fit.ensures.items) refl

-- ---- mappings

pub mapping-returns-in_err-text : goal.mapping-returns-in_err-text
unfolding flow_mapping_at
mapping-returns-in_err-text t c =
    let p = err_from_is_err_and c.from_residual.result c.from_residual.ensures.1 in
    let part = pair_in c.args.levels c.args.number in
    let after = c.args.after.now in
    let e = c.in_err-text.field-0.0 in
    rw (p.1, p.2) (fails_then e (between_at c.args.number 125 part after) (mapping_of c.args.number)
    (begin_fails c.args.number 125 part after e c.in_err-text.ensures))

pub mapping-loop-alloc-init : goal.mapping-loop-alloc-init
mapping-loop-alloc-init t c = record {
  known = inl c.no_keys-keys.ensures;
  so_far = rw c.in_ok-pairs.ensures.items (begun c.args.number 125 (pair_in c.args.levels c.args.number)
      c.args.after.now c.in_ok-text.text.now c.in_ok-text.ensures);
}

pub mapping-returns-in_err-next : goal.mapping-returns-in_err-next
unfolding flow_mapping_at
mapping-returns-in_err-next t c =
    let p = err_from_is_err_and c.from_residual-in_err-next.result c.from_residual-in_err-next.ensures.1 in
    let n = c.args.number in
    let part = pair_in c.args.levels n in
    let total = between_at c.args.number 125 part c.args.after.now in
    let pairs = map pair_view c.loop-alloc.pairs.items in
    let text = c.loop-alloc.text.now in
    let e = c.in_err-next.field-0.0 in
    let more = sym c.begins_with.ensures ∙ c.loop-alloc-test.true in
    let d = part_fails c.args.number 125 part total pairs text c.loop-alloc.invariant.so_far more e
    (rw c.deref.ensures.value at c.in_err-next.ensures.value) in
    rw (p.1, p.2) (fails_then e total (mapping_of n) d)

pub mapping-returns-in_err-text-2 : goal.mapping-returns-in_err-text-2
unfolding flow_mapping_at
mapping-returns-in_err-text-2 t c =
    let p = err_from_is_err_and c.from_residual-in_err-text-2.result c.from_residual-in_err-text-2.ensures.1 in
    let n = c.args.number in
    let part = pair_in c.args.levels n in
    let total = between_at c.args.number 125 part c.args.after.now in
    let pairs = map pair_view c.loop-alloc.pairs.items in
    let text = c.loop-alloc.text.now in
    let e = c.in_err-text-2.field-0.0 in
    let more = sym c.begins_with.ensures ∙ c.loop-alloc-test.true in
    let d = parted_fails c.args.number 125 part total pairs text c.loop-alloc.invariant.so_far more
    (pair_view c.in_ok-next.next) c.in_ok-next.rest.now (rw c.deref.ensures.value at c.in_ok-next.ensures.value) e
    c.in_err-text-2.ensures in
    rw (p.1, p.2) (fails_then e total (mapping_of n) d)

pub mapping-loop-alloc-smaller : goal.mapping-loop-alloc-smaller
mapping-loop-alloc-smaller t c =
    let n = c.args.number in
    let pairs = map pair_view c.loop-alloc.pairs.items in
    let text = c.loop-alloc.text.now in
    let one = pair_less c.args.levels n pairs text (pair_view c.in_ok-next.next) c.in_ok-next.rest.now
    (rw c.deref.ensures.value at c.in_ok-next.ensures.value) in
    let two = parted_less c.args.number 125 c.in_ok-next.rest.now c.in_ok-text-2.text.now c.in_ok-text-2.ensures in
    omega (arith, one, two)

pub mapping-loop-alloc-preserved : goal.mapping-loop-alloc-preserved
mapping-loop-alloc-preserved t c =
    let n = c.args.number in
    let part = pair_in c.args.levels n in
    let pairs = map pair_view c.loop-alloc.pairs.items in
    let p = pair_view c.in_ok-next.next in
    let text = c.loop-alloc.text.now in
    let rest = c.in_ok-next.rest.now in
    let next = c.in_ok-text-2.text.now in
    let e : map pair_view c.push.new.self.items ≡ pairs ++ p ∷ [] =
    rw c.in_ok-push.ensures.items (map_push pair_view c.loop-alloc.pairs.items c.in_ok-next.next) in
    let more = sym c.begins_with.ensures ∙ c.loop-alloc-test.true in
    let read = rw c.deref.ensures.value at c.in_ok-next.ensures.value in
    let keys : keys_of (pairs ++ p ∷ []) ≡ keys_of pairs ++ p.key ∷ [] = map_push (λ (r : Pair). r.key) pairs p in
    let less : length next < length text =
    omega (
      arith,
      pair_less c.args.levels n pairs text p rest read,
      parted_less c.args.number 125 rest next c.in_ok-text-2.ensures,
    ) in
    record {
      known = rw (e, keys) (rw c.deref.ensures.value at c.in_ok-next.ensures.known);
      so_far = rw e (goes_on c.args.number 125 part (between_at c.args.number 125 part c.args.after.now) pairs text
          c.loop-alloc.invariant.so_far more p rest read next c.in_ok-text-2.ensures less);
    }

pub mapping-returns-in_err-rest : goal.mapping-returns-in_err-rest
unfolding flow_mapping_at
mapping-returns-in_err-rest t c =
    let p = err_from_is_err_and c.from_residual-in_err-rest.result c.from_residual-in_err-rest.ensures.1 in
    let part = pair_in c.args.levels c.args.number in
    let total = between_at c.args.number 125 part c.args.after.now in
    let e = c.in_err-rest.field-0.0 in
    let ends = sym c.begins_with.ensures ∙ c.loop-alloc-test.false in
    let d = close_fails c.args.number 125 part total (map pair_view c.loop-alloc.pairs.items) c.loop-alloc.text.now
    c.loop-alloc.invariant.so_far ends e c.in_err-rest.ensures in
    rw (p.1, p.2) (fails_then e total (mapping_of c.args.number) d)

pub mapping-returns : goal.mapping-returns
unfolding flow_mapping_at
mapping-returns t c =
    let part = pair_in c.args.levels c.args.number in
    let total = between_at c.args.number 125 part c.args.after.now in
    let ends = sym c.begins_with.ensures ∙ c.loop-alloc-test.false in
    let d = closed c.args.number 125 part total (map pair_view c.loop-alloc.pairs.items) c.loop-alloc.text.now
    c.loop-alloc.invariant.so_far ends c.in_ok-rest.rest.now c.in_ok-rest.ensures in
    rw (d, node_view-Map, c.shrink_to_fit.ensures.items) refl

-- ---- pairs

pub pair-slice_bounds-is_too_long-count : goal.pair-slice_bounds-is_too_long-count
pair-slice_bounds-is_too_long-count t c = word_less c.args.number c.args.text.now (cow_slice_items c.in_ok-key.key)
    c.in_ok-key.colon.now c.in_ok-key.ensures
