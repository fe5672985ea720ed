-- More levels change nothing, so lines have one tree.
use Rattle.std.proofs.Common.{rules, ◌≡◌, ℕ, zero, suc, ◌+◌, ◌≤◌, ◌-◌, List, [], ◌∷◌, Option, None, zero-add, sym}
use Rattle.std.proofs.Common.{subst, ◌∙◌, inl, inr, arith}
use Rattle.yaml_subset.specs.{Node.{Node, Pair}, Values.{IsNode, IsInline}, TextLines.TextLine}
use Rattle.yaml_subset.specs.TreeOf.{Group, IsEntryValue, ArePairs, IsMapping, IsSequenceItem, AreSequenceItems}
use Rattle.yaml_subset.specs.TreeOf.{IsSequence, IsAlone, IsBlock, ByLines, IsTree}
use Rattle.yaml_bytes.proofs.Steps.{ok_is}
use Rattle.yaml_subset.proofs.{FlowReads.more_flow_levels, Meaning.tree_computes}

module _ (depth limit : ℕ) (within : depth ≤ limit) where
  node_more : (n : ℕ) (text : List ℕ) (t : Node) → IsNode depth n text t → IsNode limit n text t
  node_more n text t h =
      (h.0, elim h.1 [ inl w ↦ inl w | inr f ↦ inr (more_flow_levels depth limit n text t h.0 within f) ], h.2)

  inline_more : (n : ℕ) (text : List ℕ) (inline : Option Node) → IsInline depth n text inline
      → IsInline limit n text inline
  inline_more n text x3 h = search (rules, node_more)

  alone_more : (first : TextLine) (others : List TextLine) (t : Node) → IsAlone depth first others t
      → IsAlone limit first others t
  alone_more first others t h = record { alone = h.alone; value = node_more first.number first.text t h.value }

  module _ (R S : List TextLine → Node → Type 0) (more : (ls : List TextLine) (t : Node) → R ls t → S ls t) where
    value_more : (n : ℕ) (inline : Option Node) (below : List TextLine) (t : Node) → IsEntryValue R n inline below t
        → IsEntryValue S n inline below t
    value_more n x2 x3 t h = search rules

    pairs_more : (before : List (List ℕ)) (gs : List Group) (ps : List Pair) → ArePairs depth R before gs ps
        → ArePairs limit S before gs ps
    pairs_more before [] [] h = tt
    pairs_more before [] (p ∷ ps) h = h
    pairs_more before (g ∷ gs) [] h = h
    pairs_more before (g ∷ gs) (p ∷ ps) h = (
      record {
        line = h.0.line;
        after = h.0.after;
        entry = h.0.entry;
        fresh = h.0.fresh;
        inline = h.0.inline;
        is_inline = inline_more g.head.number h.0.after h.0.inline h.0.is_inline;
        value = value_more g.head.number h.0.inline g.below p.value h.0.value;
      },
      pairs_more (p.key ∷ before) gs ps h.1,
    )

    mapping_more : (first : TextLine) (others : List TextLine) (t : Node) → IsMapping depth R first others t
        → IsMapping limit S first others t
    mapping_more first others t h =
        record {
          groups = h.groups;
          pairs = h.pairs;
          run = h.run;
          each = pairs_more [] h.groups h.pairs h.each;
          tree = h.tree;
        }

    item_more : (g : Group) (t : Node) → IsSequenceItem depth R g t → IsSequenceItem limit S g t
    item_more g t h = search (rules, inline_more, value_more)

    items_more : (gs : List Group) (ts : List Node) → AreSequenceItems depth R gs ts → AreSequenceItems limit S gs ts
    items_more [] [] h = tt
    items_more [] (t ∷ ts) h = h
    items_more (g ∷ gs) [] h = h
    items_more (g ∷ gs) (t ∷ ts) h = (item_more g t h.0, items_more gs ts h.1)

    sequence_more : (first : TextLine) (others : List TextLine) (t : Node) → IsSequence depth R first others t
        → IsSequence limit S first others t
    sequence_more first others t h =
        record {
          groups = h.groups;
          nodes = h.nodes;
          run = h.run;
          each = items_more h.groups h.nodes h.each;
          tree = h.tree;
        }

    lines_more : (ls : List TextLine) (t : Node) → ByLines (IsBlock depth R) ls t → ByLines (IsBlock limit S) ls t
    lines_more [] t h = h
    lines_more (first ∷ others) t h =
        elim h [
          | inl s ↦ inl (sequence_more first others t s)
          | inr o ↦ inr (elim o [
            | inl m ↦ inl (mapping_more first others t m)
            | inr a ↦ inr
                (alone_more first others t a)
          ])
        ]

  depth_more : (levels : ℕ) (ls : List TextLine) (t : Node) → IsTree levels depth ls t → IsTree levels limit ls t
  depth_more zero [] t h = h
  depth_more zero (l ∷ ls) t h = alone_more l ls t h
  depth_more (suc levels) ls t h = lines_more (IsTree levels depth) (IsTree levels limit) (depth_more levels) ls t h

module _ (depth : ℕ) where
  one_more : (levels : ℕ) (ls : List TextLine) (t : Node) → IsTree levels depth ls t → IsTree (suc levels) depth ls t
  one_more zero [] t h = h
  one_more zero (l ∷ ls) t h = inr (inr h)
  one_more (suc levels) ls t h = lines_more depth depth (omega arith) (IsTree levels depth) (IsTree (suc levels) depth)
      (one_more levels) ls t h

  added_levels : (k levels : ℕ) (ls : List TextLine) (t : Node) → IsTree levels depth ls t
      → IsTree (k + levels) depth ls t
  added_levels zero levels ls t h = subst (λ n. IsTree n depth ls t) (sym (zero-add levels)) h
  added_levels (suc k) levels ls t h = subst (λ n. IsTree n depth ls t)
      (let e : suc (k + levels) ≡ suc k + levels = omega arith in e)
      (one_more (k + levels) ls t (added_levels k levels ls t h))

pub more_levels : (levels depth most deepest : ℕ) (ls : List TextLine) (t : Node) → levels ≤ most → depth ≤ deepest
    → IsTree levels depth ls t → IsTree most deepest ls t
more_levels levels depth most deepest ls t le within h =
    depth_more depth deepest within most ls t
    (subst (λ n. IsTree n depth ls t) (let e : most - levels + levels ≡ most = omega arith in e)
    (added_levels depth (most - levels) levels ls t h))

-- lines have one tree, however many levels are allowed
pub one_tree : (m d n e : ℕ) (ls : List TextLine) (t u : Node) → IsTree m d ls t → IsTree n e ls u → t ≡ u
one_tree m d n e ls t u h k =
    let computes = tree_computes (m + n) (d + e) None in
    let a = computes.complete ls t (more_levels m d (m + n) (d + e) ls t (omega arith) (omega arith) h) in
    let b = computes.complete ls u (more_levels n e (m + n) (d + e) ls u (omega arith) (omega arith) k) in
    ok_is t u (sym a ∙ b)
