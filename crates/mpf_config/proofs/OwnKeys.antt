-- No two entries of a text are of one section and name: no key of a mapping comes twice.
use Rattle.std.proofs.Common.{rules, ◌≡◌, ℕ, suc, zero, Bool, cond, not, List, [], ◌∷◌, ◌++◌, map, Option, Some, None}
use Rattle.std.proofs.{Common.{refl, sym, ap, subst, ◌∙◌, inl, inr, arith}, lemmas.List.map-append}
use Rattle.std.specs.List.{Contains, AllZip, filter}
use Rattle.yaml_subset.specs.Node.{Node, scalar, sequence, nodes_of, mapping, Pair, pairs_of}
use Rattle.yaml_subset.specs.{View.{pairs_in, text_in}, TextLines.TextLine, Values.{IsValueOf, IsInline, IsNode}}
use Rattle.yaml_subset.specs.Flow.{keys_of, ArePartsTo, IsFlowPair, IsFlowValue, IsFlow}
use Rattle.yaml_subset.{specs.TreeOf.{Group, IsEntryValue, ArePairs, IsTree}, proofs.Views.list_pairs-pairs_of}
use Rattle.mpf_tables.specs.declared.tables.TextKind.{TextKind}
use Rattle.section_tables.specs.{Shapes.Setting, EntryOf.IsOtherEntry}
use Rattle.setting_values.specs.Below.{or_none, pairs_below}
use Rattle.mpf_sections.specs.Rows.{Entry, Content, entries, SectionRows}
use Rattle.mpf_config.specs.{Unread.{is_skipped, read_of}, RowsOf.{Sizes, AreNew, IsContent, IsSection, AreRowsOf}}
use Rattle.mpf_config.specs.Apart.{EntryName, Differ, AreDistinct, named_entry, entries_named, entry_names}
use Rattle.mpf_config.proofs.NewNames.{nothing_in, not_again, new_kept}
use Rattle.std.proofs.lemmas.List.Elements.{Contains-append_cases, Contains-append_left, Contains-append_right}
use Rattle.yaml_bytes.proofs.Each.{here, there}

-- ---- the pairs of a node

-- this holds of the pairs of a node, if it is a mapping
abbrev Holds : (List Pair → Type 0) → Node → Type 0
Holds P t = (ps : List Pair) → pairs_in t ≡ Some ps → P ps

abbrev or_first : List Pair → Option (List Pair) → List Pair
or_first ps (Some qs) = qs
or_first ps None = ps

no_pairs_there : (ps : List Pair) → None ≡ Some ps → ⊥
no_pairs_there ps e = absurd cc

module _ (P : List Pair → Type 0) where
  of_pairs : (n : ℕ) (pairs : List Pair) (t : Node) → P pairs → t ≡ mapping n (pairs_of pairs) → Holds P t
  of_pairs n pairs t h is ps e = search (rules, list_pairs-pairs_of)

  of_none : (t u : Node) → t ≡ u → None ≡ pairs_in u → Holds P t
  of_none t u is none ps e = absurd (no_pairs_there ps (none ∙ ap pairs_in (sym is) ∙ e))

-- no key comes twice
abbrev HaveKeys : List Pair → Type 0
HaveKeys ps = AreNew [] (keys_of ps)

abbrev HasKeys : Node → Type 0
HasKeys = Holds HaveKeys

-- nor in the mappings that are their values
abbrev HaveKeysBelow : List Pair → Type 0
HaveKeysBelow [] = Unit {0}
HaveKeysBelow (p ∷ ps) = HasKeys p.value × HaveKeysBelow ps

-- ---- on one line

-- keys of pairs before, and one more
one_more : (names : List (List ℕ)) (before : List Pair) (p : Pair)
    → ((k : List ℕ) → Contains names k → Contains (keys_of before) k)
    → (k : List ℕ) → Contains (p.key ∷ names) k → Contains (keys_of (before ++ p ∷ [])) k
one_more names before p so k c = subst (λ (ks : List (List ℕ)). Contains ks k)
    (sym (map-append (λ (q : Pair). q.key) before (p ∷ []))) (either c)
  where
    either : Contains (p.key ∷ names) k → Contains (keys_of before ++ p.key ∷ []) k
    either x1 = search (rules, Contains-append_right, Contains-append_left)

flow_keys : (n : ℕ) (IsValue : List ℕ → Node → List ℕ → Type 0) (names : List (List ℕ)) (before ps : List Pair)
    (text rest : List ℕ)
    → ((k : List ℕ) → Contains names k → Contains (keys_of before) k)
    → ArePartsTo 125 (IsFlowPair n IsValue) before text ps rest → AreNew names (keys_of ps)
flow_keys n IsValue names before [] text rest so h = tt
flow_keys n IsValue names before (p ∷ ps) text rest so h =
    search (
      rules,
      one_more,
      flow_keys n IsValue (p.key ∷ names) (before ++ p ∷ []) ps h.1 rest (one_more names before p so)
          h.4,
    )

flow_has_keys : (levels n : ℕ) (text : List ℕ) (t : Node) (rest : List ℕ) → IsFlow levels n text t rest → HasKeys t
flow_has_keys zero n text t rest h = absurd h
flow_has_keys (suc levels) n text t rest (inl h) = of_none HaveKeys t (sequence n (nodes_of h.0)) h.2 refl
flow_has_keys (suc levels) n text t rest (inr h) = search (rules, of_pairs, flow_keys)

value_has_keys : (levels n : ℕ) (text : List ℕ) (t : Node) (rest : List ℕ) → IsFlowValue n (IsFlow levels n) text t rest
    → HasKeys t
value_has_keys levels n text t rest x6 = search (rules, of_none, flow_has_keys)

flow_values : (levels n : ℕ) (before ps : List Pair) (text rest : List ℕ)
    → ArePartsTo 125 (IsFlowPair n (IsFlowValue n (IsFlow levels n))) before text ps rest → HaveKeysBelow ps
flow_values levels n before [] text rest h = tt
flow_values levels n before (p ∷ ps) text rest h =
    (value_has_keys levels n h.2.inner p.value h.0 h.2.value, flow_values levels n (before ++ p ∷ []) ps h.1 rest h.4)

flow_has_below : (levels n : ℕ) (text : List ℕ) (t : Node) (rest : List ℕ) → IsFlow levels n text t rest
    → Holds HaveKeysBelow t
flow_has_below zero n text t rest h = absurd h
flow_has_below (suc levels) n text t rest (inl h) = of_none HaveKeysBelow t (sequence n (nodes_of h.0)) h.2 refl
flow_has_below (suc levels) n text t rest (inr h) =
    of_pairs HaveKeysBelow n h.0 t (flow_values levels n [] h.0 h.1.body rest h.1.each) h.2

value_of : (P : List Pair → Type 0) (depth n : ℕ) (text : List ℕ) (t : Node) (rest : List ℕ)
    → (IsFlow depth n text t rest → Holds P t) → IsValueOf depth n text t rest → Holds P t
value_of P depth n text t rest so x1 = search rules

node_has_keys : (depth n : ℕ) (text : List ℕ) (t : Node) → IsNode depth n text t → HasKeys t
node_has_keys depth n text t h = value_of HaveKeys depth n text t h.0 (flow_has_keys depth n text t h.0) h.1

node_has_below : (depth n : ℕ) (text : List ℕ) (t : Node) → IsNode depth n text t → Holds HaveKeysBelow t
node_has_below depth n text t h = value_of HaveKeysBelow depth n text t h.0 (flow_has_below depth n text t h.0) h.1

-- ---- on several lines

block_keys : (depth : ℕ) (IsBelow : List TextLine → Node → Type 0) (before : List (List ℕ)) (gs : List Group)
    (ps : List Pair) → ArePairs depth IsBelow before gs ps → AreNew before (keys_of ps)
block_keys depth IsBelow before [] [] h = tt
block_keys depth IsBelow before [] (p ∷ ps) h = absurd h
block_keys depth IsBelow before (g ∷ gs) [] h = absurd h
block_keys depth IsBelow before (g ∷ gs) (p ∷ ps) h = (h.0.fresh, block_keys depth IsBelow (p.key ∷ before) gs ps h.1)

tree_has_keys : (levels depth : ℕ) (lines : List TextLine) (t : Node) → IsTree levels depth lines t → HasKeys t
tree_has_keys zero depth [] t h = of_pairs HaveKeys 1 [] t tt h
tree_has_keys zero depth (l ∷ ls) t h = node_has_keys depth l.number l.text t h.value
tree_has_keys (suc levels) depth [] t h = of_pairs HaveKeys 1 [] t tt h
tree_has_keys (suc levels) depth (l ∷ ls) t (inl h) =
    of_none HaveKeys t (sequence l.number (nodes_of h.nodes)) h.tree refl
tree_has_keys (suc levels) depth (l ∷ ls) t (inr (inl h)) =
    of_pairs HaveKeys l.number h.pairs t (block_keys depth (IsTree levels depth) [] h.groups h.pairs h.each) h.tree
tree_has_keys (suc levels) depth (l ∷ ls) t (inr (inr h)) = node_has_keys depth l.number l.text t h.value

entry_has_keys : (levels depth n : ℕ) (after : List ℕ) (inline : Option Node) (below : List TextLine) (t : Node)
    → IsInline depth n after inline
    → IsEntryValue (IsTree levels depth) n inline below t → HasKeys t
entry_has_keys levels depth n after (Some u) below t i h = subst HasKeys (sym h.1) (node_has_keys depth n i.0 u i.3)
entry_has_keys levels depth n after None [] t i h = of_none HaveKeys t (scalar n []) h refl
entry_has_keys levels depth n after None (l ∷ ls) t i h = tree_has_keys levels depth (l ∷ ls) t h

block_values : (levels depth : ℕ) (before : List (List ℕ)) (gs : List Group) (ps : List Pair)
    → ArePairs depth (IsTree levels depth) before gs ps → HaveKeysBelow ps
block_values levels depth before [] [] h = tt
block_values levels depth before [] (p ∷ ps) h = absurd h
block_values levels depth before (g ∷ gs) [] h = absurd h
block_values levels depth before (g ∷ gs) (p ∷ ps) h =
    search (rules, entry_has_keys, block_values levels depth (p.key ∷ before) gs ps h.1)

tree_has_below : (levels depth : ℕ) (lines : List TextLine) (t : Node) → IsTree levels depth lines t
    → Holds HaveKeysBelow t
tree_has_below zero depth [] t h = of_pairs HaveKeysBelow 1 [] t tt h
tree_has_below zero depth (l ∷ ls) t h = node_has_below depth l.number l.text t h.value
tree_has_below (suc levels) depth [] t h = of_pairs HaveKeysBelow 1 [] t tt h
tree_has_below (suc levels) depth (l ∷ ls) t (inl h) =
    of_none HaveKeysBelow t (sequence l.number (nodes_of h.nodes)) h.tree refl
tree_has_below (suc levels) depth (l ∷ ls) t (inr (inl h)) =
    of_pairs HaveKeysBelow l.number h.pairs t (block_values levels depth [] h.groups h.pairs h.each) h.tree
tree_has_below (suc levels) depth (l ∷ ls) t (inr (inr h)) = node_has_below depth l.number l.text t h.value

-- ---- the entries of a section

-- the pairs of a mapping, or none of an empty text
below_keys : (o : Option (List Pair)) (text : Option (List ℕ)) (ps : List Pair)
    → ((qs : List Pair) → o ≡ Some qs → HaveKeys qs) → or_none o text ≡ Some ps → HaveKeys ps
below_keys o text ps so e = search rules

pairs_have_keys : (t : Node) (ps : List Pair) → HasKeys t → pairs_below t ≡ Some ps → HaveKeys ps
unfolding pairs_below
pairs_have_keys t ps so e = below_keys (pairs_in t) (text_in t) ps so e

section_is : (section : List ℕ) (es : List Entry) (f : EntryName) → Contains (map (named_entry section) es) f
    → f.section ≡ section
section_is section [] f c = absurd (nothing_in f c)
section_is section (e ∷ es) f (zero, lt, at) = ap (λ (x : EntryName). x.section) (sym at)
section_is section (e ∷ es) f (suc k, lt, at) = section_is section es f (k, omega (arith, lt), at)

module _ (longest : ℕ) (barred : List (List ℕ)) (table : List Setting) (section : List ℕ) where
  abbrev AreOf : List Pair → List Entry → Type 0
  AreOf = AllZip (IsOtherEntry longest barred table)

  key_is : (p : Pair) (e : Entry) → IsOtherEntry longest barred table p e → p.key ≡ e.name.text
  key_is p e h = ap (λ w. w.text) (sym h.entry.name)

  name_in : (ps : List Pair) (es : List Entry) (f : EntryName) → AreOf ps es → Contains (map (named_entry section) es) f
      → Contains (keys_of ps) f.name.text
  name_in [] [] f h c = absurd (nothing_in f c)
  name_in [] (e ∷ es) f h c = absurd h
  name_in (p ∷ ps) [] f h c = absurd h
  name_in (p ∷ ps) (e ∷ es) f h (zero, lt, at) = search rules
  name_in (p ∷ ps) (e ∷ es) f h (suc k, lt, at) =
      there p.key f.name.text (keys_of ps) (name_in ps es f h.1 (k, omega (arith, lt), at))

  entries_distinct : (names : List (List ℕ)) (ps : List Pair) (es : List Entry) → AreOf ps es
      → AreNew names (keys_of ps) → AreDistinct (map (named_entry section) es)
  entries_distinct names [] [] h new = tt
  entries_distinct names [] (e ∷ es) h new = absurd h
  entries_distinct names (p ∷ ps) [] h new = absurd h
  entries_distinct names (p ∷ ps) (e ∷ es) h new = (
    λ f c one same. not_again (p.key ∷ names) (keys_of ps) f.name.text new.1 (name_in ps es f h.1 c)
        (subst (Contains (p.key ∷ names)) (key_is p e h.0 ∙ same) (here p.key names)),
    entries_distinct (p.key ∷ names) ps es h.1 new.1,
  )

content_distinct : (sizes : Sizes) (kind : TextKind) (p : Pair) (section : List ℕ) (content : Content) → HasKeys p.value
    → IsContent sizes kind p content
    → AreDistinct (entries_named (record { name = section; content = content }))
content_distinct sizes kind p section (entries es) own h =
    entries_distinct sizes.longest h.0 h.1 section [] h.3.0 es h.3.2 (pairs_have_keys p.value h.3.0 own h.3.1)
content_distinct sizes kind p section _ own h = tt

-- ---- those of all sections

distinct_append : (es fs : List EntryName) → AreDistinct es → AreDistinct fs
    → ((e f : EntryName) → Contains es e → Contains fs f → Differ e f) → AreDistinct (es ++ fs)
distinct_append [] fs one two apart = two
distinct_append (e ∷ es) fs one two apart =
    (first, distinct_append es fs one.1 two (λ x f cx cf. apart x f (there e x es cx) cf))
  where
    first : (f : EntryName) → Contains (es ++ fs) f → Differ e f
    first f c =
        elim (Contains-append_cases es fs f c) [
          | inl own ↦ one.0 f own
          | inr other ↦ apart e f (here e es) other
        ]

module _ (sizes : Sizes) (kind : TextKind) where
  abbrev AreSections : List Pair → List SectionRows → Type 0
  AreSections = AllZip (IsSection sizes kind)

  named_by : (p : Pair) (s : SectionRows) (e : EntryName) → IsSection sizes kind p s → Contains (entries_named s) e
      → e.section ≡ p.key
  named_by p s e h c = section_is s.name _ e c ∙ h.name

  section_in : (ps : List Pair) (ss : List SectionRows) (f : EntryName) → AreSections ps ss
      → Contains (entry_names ss) f → Contains (keys_of ps) f.section
  section_in [] [] f h c = absurd (nothing_in f c)
  section_in [] (s ∷ ss) f h c = absurd h
  section_in (p ∷ ps) [] f h c = absurd h
  section_in (p ∷ ps) (s ∷ ss) f h c =
      elim (Contains-append_cases (entries_named s) (entry_names ss) f c) [
        | inl own ↦ subst (Contains (keys_of (p ∷ ps))) (sym (named_by p s f h.0 own)) (here p.key (keys_of ps))
        | inr other ↦ there p.key f.section (keys_of ps) (section_in ps ss f h.1 other)
      ]

  sections_distinct : (names : List (List ℕ)) (ps : List Pair) (ss : List SectionRows) → AreSections ps ss
      → AreNew names (keys_of ps) → HaveKeysBelow ps → AreDistinct (entry_names ss)
  sections_distinct names [] [] h new own = tt
  sections_distinct names [] (s ∷ ss) h new own = absurd h
  sections_distinct names (p ∷ ps) [] h new own = absurd h
  sections_distinct names (p ∷ ps) (s ∷ ss) h new own =
      distinct_append (entries_named s) (entry_names ss)
      (content_distinct sizes kind p s.name s.content own.0 h.0.content)
      (sections_distinct (p.key ∷ names) ps ss h.1 new.1 own.1)
      (λ e f ce cf one same. not_again (p.key ∷ names) (keys_of ps) f.section new.1 (section_in ps ss f h.1 cf)
      (subst (Contains (p.key ∷ names)) (sym (named_by p s e h.0 ce) ∙ one) (here p.key names)))

-- those that are read have keys too
below_by : (b : Bool) (p : Pair) (rest : List Pair) → HasKeys p.value → HaveKeysBelow rest
    → HaveKeysBelow (cond b (p ∷ rest) rest)
below_by b p rest own h = search rules

below_kept : (keeps : Pair → Bool) (ps : List Pair) → HaveKeysBelow ps → HaveKeysBelow (filter keeps ps)
below_kept keeps [] h = tt
below_kept keeps (p ∷ ps) h = below_by (keeps p) p (filter keeps ps) h.0 (below_kept keeps ps h.1)

-- no two entries of the rows of a text are the same
pub rows_distinct : (sizes : Sizes) (kind : TextKind) (text : List ℕ) (sections : List Pair) (rows : List SectionRows)
    → AreRowsOf sizes kind text sections rows → AreDistinct (entry_names rows)
rows_distinct sizes kind text sections rows h =
    let read : Pair → Bool = λ p. not (is_skipped p.key) in
    let lines = h.is_tree.lines in
    let keys = tree_has_keys sizes.levels sizes.depth lines h.tree h.is_tree.is_tree sections h.has in
    let below = tree_has_below sizes.levels sizes.depth lines h.tree h.is_tree.is_tree sections h.has in
    sections_distinct sizes kind [] (read_of sections) rows h.each (new_kept read (λ p. p.key) [] sections keys)
    (below_kept read sections below)
