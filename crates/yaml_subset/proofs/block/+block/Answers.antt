use Rattle.std.proofs.Common.{◌≡◌, ℕ, ◌+◌, Bool, true, false, List, [], ◌∷◌, ◌++◌, length, map, drop, Ok, refl, inl}
use Rattle.std.proofs.{Common.arith, lemmas.{Result.err_from_is_err_and, List.map_push}}
use Rattle.yaml_subset.specs.{Node.{Pair, mapping, pairs_of, sequence, nodes_of}, ParserViews.{line_view, lines_view}}
use Rattle.yaml_subset.specs.{TreeOf.Group, Flow.keys_of, View.{node_view, pair_view}}
use Rattle.yaml_subset.specs.Reading.{hangs, groups_of, pairs_at, mapping_at, sequence_items_at, sequence_at, tree_at}
use Rattle.yaml_subset.specs.declared.line.TextLine as lines
use Rattle.yaml_subset.proofs.Groups.{groups_at, at_start, pairs_go_on, pairs_stop, pairs_done, items_go_on, items_stop}
use Rattle.yaml_subset.proofs.{Groups.{items_done, fails_then}, KeySets.among-push}
use Rattle.yaml_subset.proofs.Views.{node_view-Map, node_view-List}
use Rattle.yaml_subset.proofs.block.+block.Goals as goal

abbrev group : lines.TextLine → List lines.TextLine → Group
group l below = record { head = line_view l; below = lines_view below }

abbrev groups_from : Bool → ℕ → ℕ → List lines.TextLine → List Group
groups_from entry i at ls = groups_of (hangs entry i) (lines_view (drop at ls))

pub mapping-loop-at-init : goal.mapping-loop-at-init
mapping-loop-at-init t c =
    let total = pairs_at 8 (tree_at c.args.levels 8) c.args.around c.args.first.now.indent []
    (groups_from true c.args.first.now.indent 0 (c.args.first.now ∷ c.args.others.now)) in
    record {
      known = inl c.no_keys-keys.ensures;
      so_far = rw c.in_ok-pairs.ensures.items (at_start total);
    }

pub mapping-returns-in_err-next : goal.mapping-returns-in_err-next
unfolding mapping_at
mapping-returns-in_err-next t c =
    let p = err_from_is_err_and c.from_residual-in_err-next.result c.from_residual-in_err-next.ensures.1 in
    let first = c.args.first.now in
    let i = first.indent in
    let ls : List lines.TextLine = first ∷ c.args.others.now in
    let line = c.line_at-line.result in
    let below = c.split_below.result.0.now in
    let gs = groups_at (hangs true i) c.loop-at.at line first c.args.others.now below c.split_below.result.1.now
    c.loop-at-test.true c.line_at-line.ensures c.split_below.ensures.parts c.split_below.ensures.after in
    let total = pairs_at 8 (tree_at c.args.levels 8) c.args.around i [] (groups_from true i 0 ls) in
    let d = pairs_stop 8 (tree_at c.args.levels 8) c.args.around i (map pair_view c.loop-at.pairs.items)
    (keys_of (map pair_view c.loop-at.pairs.items)) (groups_from true i c.loop-at.at ls)
    (group line below) (groups_from true i (c.loop-at.at + (1 + length below)) ls) total gs
    c.in_err-next.field-0.0 (rw c.deref.ensures.value at c.in_err-next.ensures.value) c.loop-at.invariant.so_far in
    rw (p.1, p.2) (fails_then c.in_err-next.field-0.0 total (λ ps. Ok (mapping first.number (pairs_of ps))) d)

pub mapping-loop-at-preserved : goal.mapping-loop-at-preserved
mapping-loop-at-preserved t c =
    let first = c.args.first.now in
    let i = first.indent in
    let ls : List lines.TextLine = first ∷ c.args.others.now in
    let line = c.line_at-line.result in
    let below = c.split_below.result.0.now in
    let next = c.in_ok-next.next in
    let gs = groups_at (hangs true i) c.loop-at.at line first c.args.others.now below c.split_below.result.1.now
    c.loop-at-test.true c.line_at-line.ensures c.split_below.ensures.parts c.split_below.ensures.after in
    let e : map pair_view c.push.new.self.items ≡ map pair_view c.loop-at.pairs.items ++ pair_view next ∷ [] =
    rw c.in_ok-push.ensures.items (map_push _ c.loop-at.pairs.items next) in
    let total = pairs_at 8 (tree_at c.args.levels 8) c.args.around i [] (groups_from true i 0 ls) in
    let front = map pair_view c.loop-at.pairs.items in
    let keys : keys_of (front ++ pair_view next ∷ []) ≡ keys_of front ++ (pair_view next).key ∷ [] =
    map_push (λ (p : Pair). p.key) front (pair_view next) in
    rw (e, keys) (record {
      known = rw c.deref.ensures.value at c.in_ok-next.ensures.known;
      so_far = pairs_go_on 8 (tree_at c.args.levels 8) c.args.around i front (keys_of front)
          (groups_from true i c.loop-at.at ls)
          (group line below) (groups_from true i (c.loop-at.at + (1 + length below)) ls) total gs
          (pair_view next) (keys_of front ++ (pair_view next).key ∷ [])
          (among-push (keys_of front) (pair_view next).key) (rw c.deref.ensures.value at c.in_ok-next.ensures.value)
          c.loop-at.invariant.so_far;
    })

pub mapping-returns : goal.mapping-returns
unfolding mapping_at
mapping-returns t c =
    let first = c.args.first.now in
    let i = first.indent in
    let ls : List lines.TextLine = first ∷ c.args.others.now in
    let total = pairs_at 8 (tree_at c.args.levels 8) c.args.around i [] (groups_from true i 0 ls) in
    let d : total ≡ Ok (map pair_view c.loop-at.pairs.items) =
    pairs_done 8 (tree_at c.args.levels 8) c.args.around i c.loop-at.at (hangs true i) ls
    (omega (arith, c.loop-at-test.false)) (map pair_view c.loop-at.pairs.items)
    (keys_of (map pair_view c.loop-at.pairs.items)) total c.loop-at.invariant.so_far in
    rw (d, node_view-Map, c.shrink_to_fit.ensures.items) refl

pub sequence-loop-at-init : goal.sequence-loop-at-init
sequence-loop-at-init t c =
    let total = sequence_items_at 8 (tree_at c.args.levels 8) c.args.around c.args.first.now.indent
    (groups_from false c.args.first.now.indent 0 (c.args.first.now ∷ c.args.others.now)) in
    rw c.in_ok-items.ensures.items (at_start total)

pub sequence-returns-in_err-next : goal.sequence-returns-in_err-next
unfolding sequence_at
sequence-returns-in_err-next t c =
    let p = err_from_is_err_and c.from_residual-in_err-next.result c.from_residual-in_err-next.ensures.1 in
    let first = c.args.first.now in
    let i = first.indent in
    let ls : List lines.TextLine = first ∷ c.args.others.now in
    let line = c.line_at-line.result in
    let below = c.split_below.result.0.now in
    let gs = groups_at (hangs false i) c.loop-at.at line first c.args.others.now below c.split_below.result.1.now
    c.loop-at-test.true c.line_at-line.ensures c.split_below.ensures.parts c.split_below.ensures.after in
    let total = sequence_items_at 8 (tree_at c.args.levels 8) c.args.around i (groups_from false i 0 ls) in
    let d = items_stop 8 (tree_at c.args.levels 8) c.args.around i (map node_view c.loop-at.items.items)
    (groups_from false i c.loop-at.at ls)
    (group line below) (groups_from false i (c.loop-at.at + (1 + length below)) ls) total gs
    c.in_err-next.field-0.0 c.in_err-next.ensures c.loop-at.invariant in
    rw (p.1, p.2) (fails_then c.in_err-next.field-0.0 total (λ ts. Ok (sequence first.number (nodes_of ts))) d)

pub sequence-loop-at-preserved : goal.sequence-loop-at-preserved
sequence-loop-at-preserved t c =
    let first = c.args.first.now in
    let i = first.indent in
    let ls : List lines.TextLine = first ∷ c.args.others.now in
    let line = c.line_at-line.result in
    let below = c.split_below.result.0.now in
    let next = c.in_ok-next.next in
    let gs = groups_at (hangs false i) c.loop-at.at line first c.args.others.now below c.split_below.result.1.now
    c.loop-at-test.true c.line_at-line.ensures c.split_below.ensures.parts c.split_below.ensures.after in
    let e : map node_view c.push.new.self.items ≡ map node_view c.loop-at.items.items ++ node_view next ∷ [] =
    rw c.in_ok-push.ensures.items (map_push _ c.loop-at.items.items next) in
    let total = sequence_items_at 8 (tree_at c.args.levels 8) c.args.around i (groups_from false i 0 ls) in
    rw e (items_go_on 8 (tree_at c.args.levels 8) c.args.around i (map node_view c.loop-at.items.items)
    (groups_from false i c.loop-at.at ls)
    (group line below) (groups_from false i (c.loop-at.at + (1 + length below)) ls) total gs
    (node_view next) c.in_ok-next.ensures c.loop-at.invariant)

pub sequence-returns : goal.sequence-returns
unfolding sequence_at
sequence-returns t c =
    let first = c.args.first.now in
    let i = first.indent in
    let ls : List lines.TextLine = first ∷ c.args.others.now in
    let total = sequence_items_at 8 (tree_at c.args.levels 8) c.args.around i (groups_from false i 0 ls) in
    let d : total ≡ Ok (map node_view c.loop-at.items.items) =
    items_done 8 (tree_at c.args.levels 8) c.args.around i c.loop-at.at (hangs false i) ls
    (omega (arith, c.loop-at-test.false)) (map node_view c.loop-at.items.items) total c.loop-at.invariant in
    rw (d, node_view-List, c.shrink_to_fit.ensures.items) refl
