-- The tree that lines are read as is the tree that they are, and no other.
use Rattle.std.proofs.Common.{rules, ◌≡◌, ℕ, zero, suc, ◌+◌, ◌==◌, ltb, ◌&&◌, Bool, true, false, cond, List, [], ◌∷◌}
use Rattle.std.proofs.Common.{◌++◌, drop, length, Option, Some, None, Result, Ok, refl, sym, ap, subst, ◌∙◌, inl, inr}
use Rattle.std.proofs.lemmas.Bool.{eqb-true, eq-eqb}
use Rattle.yaml_subset.specs.{declared.place.PlacedFault.PlacedFault, Keys.is_among, Placed.fault_at}
use Rattle.yaml_subset.specs.{TextLines.TextLine, Values.{IsKey, IsInline}}
use Rattle.yaml_subset.specs.declared.fault.TextFaultKind.TheVariants.{Tab, DuplicateKey, NotInSubset}
use Rattle.yaml_bytes.specs.{Bytes.{begins_blank, begins_item, is_over, characters}, Results.◌>>=◌}
use Rattle.yaml_subset.specs.Node.{Node, scalar, sequence, nodes_of, mapping, Pair, pairs_of}
use Rattle.yaml_subset.proofs.KeySets.{fresh_sound, fresh_complete}
use Rattle.yaml_bytes.specs.Scanning.{behind_blanks, spaces_len, behind_spaces, behind_dash, before_colon}
use Rattle.yaml_subset.specs.TreeOf.{Group, AreGroups, IsEntryValue, IsPair, ArePairs, IsMapping, IsDash, IsInner}
use Rattle.yaml_subset.specs.TreeOf.{IsSequenceItem, AreSequenceItems, IsSequence, IsAlone, IsBlock, ByLines, IsTree}
use Rattle.yaml_subset.specs.Reading.{LineHead, item, entry, alone, head_at, key_at, inline_at, BlockReader, hangs}
use Rattle.yaml_subset.specs.Reading.{groups_of, misplaced_line, closed_at, entry_value_at, pair_from, pair_at}
use Rattle.yaml_subset.specs.Reading.{pairs_at, mapping_at, inner, item_with, item_from, sequence_item_at}
use Rattle.yaml_subset.specs.Reading.{sequence_items_at, sequence_at, block_from, deep_from, block_at, tree_at}
use Rattle.yaml_bytes.proofs.Steps.{bind_ok, guard_true, guard_false, chosen, ok_is}
use Rattle.yaml_bytes.proofs.PlainTexts.{is_behind_blanks, behind_blanks-is}
use Rattle.yaml_bytes.proofs.Spaces.{spaces_parts, spaces_len-is, drop_spaces, blanks_are_spaces}
use Rattle.yaml_subset.proofs.Heads.{dash_sound, dash_complete, item_head, alone_sound, alone_complete, key_sound}
use Rattle.yaml_subset.proofs.Heads.{key_complete, key_begins, key_no_item, key_at_sound, key_at_complete, entry_sound}
use Rattle.yaml_subset.proofs.Heads.{entry_short, inline_sound, inline_complete}
use Rattle.yaml_subset.proofs.Runs.{AllStand, groups_are_run, run_stands, run_is_groups}

-- f gives the tree that lines have, and gives none if they have none
pub record Computes (f : List TextLine → Result Node PlacedFault) (R : List TextLine → Node → Type 0) : Type 0 where
  pub sound : (ls : List TextLine) (t : Node) → f ls ≡ Ok t → R ls t
  pub complete : (ls : List TextLine) (t : Node) → R ls t → f ls ≡ Ok t

-- a line at an indentation hangs from none there, unless it is an item
hangs_not : (entry : Bool) (i : ℕ) (l : TextLine) → l.indent ≡ i → (entry && begins_item l.text) ≡ false
    → hangs entry i l ≡ false
hangs_not x1 i l e f = search rules

-- a value on a line, with nothing below it
closed_sound : (around : Option ℕ) (u : Node) (below : List TextLine) (t : Node) → closed_at around u below ≡ Ok t
    → (below ≡ []) × (t ≡ u)
unfolding closed_at
closed_sound around u x3 t e = search rules

closed_complete : (around : Option ℕ) (u : Node) (below : List TextLine) (t : Node) → (below ≡ []) × (t ≡ u)
    → closed_at around u below ≡ Ok t
unfolding closed_at
closed_complete around u below t h = rw (h.0, h.1) refl

-- ---- a block of one line

alone_is : (depth : ℕ) (around : Option ℕ) (first : TextLine) (others : List TextLine) (t u : Node)
    → head_at depth first.number first.text ≡ Ok (alone u) → closed_at around u others ≡ Ok t
    → IsAlone depth first others t
alone_is depth around first others t u e k = search (rules, closed_sound, alone_sound)

-- ---- what comes after a `-`

inner_sound : (depth : ℕ) (l : TextLine) (after key behind : List ℕ) → begins_blank (behind_spaces after) ≡ false
    → head_at depth l.number (behind_blanks after) ≡ Ok (entry key behind) → IsInner l after (inner l after)
inner_sound depth l after key behind no_tab e =
    let same = blanks_are_spaces after (behind_spaces after) (spaces_len after) (spaces_parts after) no_tab in
    record {
      spaces = spaces_len after;
      parts = spaces_parts after;
      number = refl;
      column = refl;
      key = key;
      behind = behind;
      is_key = subst (λ text. IsKey text key behind) same (key_sound depth l.number (behind_blanks after) key behind e);
    }

inner_complete : (depth : ℕ) (l : TextLine) (after : List ℕ) (found : TextLine) (h : IsInner l after found)
    → (inner l after ≡ found) × (is_over (behind_blanks after) ≡ false)
    × (head_at depth l.number (behind_blanks after) ≡ Ok (entry h.key h.behind))
    × (begins_blank (behind_spaces after) ≡ false)
inner_complete depth l after found h =
    let begins = key_begins found.text h.key h.behind h.is_key in
    let len : spaces_len after ≡ h.spaces = ap spaces_len h.parts ∙ spaces_len-is h.spaces found.text begins.0 in
    let text : behind_spaces after ≡ found.text = ap (λ n. drop n after) len ∙ ap (drop h.spaces) h.parts
    ∙ drop_spaces h.spaces found.text in
    let behind : behind_blanks after ≡ found.text = blanks_are_spaces after found.text h.spaces h.parts begins.0 in
    let at_column : ℕ → TextLine = λ i. record { number = l.number; indent = i; text = behind_spaces after } in
    let with_text : List ℕ → TextLine = λ xs. record { number = l.number; indent = found.indent; text = xs } in
    let on_line : ℕ → TextLine = λ n. record { number = n; indent = found.indent; text = found.text } in (
      ap (λ n. at_column (l.indent + (1 + n))) len ∙ ap at_column (sym h.column) ∙ ap with_text text
          ∙ ap on_line (sym h.number),
      ap is_over behind ∙ begins.1,
      ap (head_at depth l.number) behind ∙ key_complete depth l.number found.text h.key h.behind h.is_key,
      ap begins_blank text ∙ begins.0,
    )

-- ---- one level

module _ (depth : ℕ) (block : BlockReader) (R : List TextLine → Node → Type 0)
    (computes : (around : Option ℕ) → Computes (block around) R) where
  value_sound : (n i : ℕ) (inline : Option Node) (below : List TextLine) (t : Node)
      → entry_value_at block n i inline below ≡ Ok t → IsEntryValue R n inline below t
  unfolding entry_value_at
  value_sound n i (Some u) below t e = closed_sound (Some i) u below t e
  value_sound n i None [] t e = sym (ok_is (scalar n []) t e)
  value_sound n i None (l ∷ ls) t e = (computes (Some i)).sound (l ∷ ls) t e

  value_complete : (n i : ℕ) (inline : Option Node) (below : List TextLine) (t : Node) → IsEntryValue R n inline below t
      → entry_value_at block n i inline below ≡ Ok t
  unfolding entry_value_at
  value_complete n i (Some u) below t h = closed_complete (Some i) u below t h
  value_complete n i None [] t h = rw h refl
  value_complete n i None (l ∷ ls) t h = (computes (Some i)).complete (l ∷ ls) t h

  -- ---- mappings

  pair_from_sound : (i : ℕ) (before : List (List ℕ)) (g : Group) (found : Option (List ℕ × List ℕ)) (p : Pair)
      → key_at g.head.number g.head.text ≡ found → pair_from depth block i before g found ≡ Ok p
      → IsPair depth R before g p
  unfolding pair_from
  pair_from_sound i before g None p e k = absurd cc
  pair_from_sound i before g (Some (key, after)) p e k =
      let n = g.head.number in
      let front = before_colon g.head.text after in
      let made : Node → Result Pair PlacedFault = λ t. Ok (record { line = n; key = key; value = t }) in
      let read : Result Pair PlacedFault =
      inline_at depth n after >>= λ inline. entry_value_at block n i inline g.below >>= made in
      let a = guard_false (is_among before key)
      (cond (ltb 1024 (characters front)) (fault_at NotInSubset n (length after + 1)) read)
      (record { kind = DuplicateKey; line = n; bytes_left = length g.head.text }) p k in
      let c = guard_false (ltb 1024 (characters front)) read
      (record { kind = NotInSubset; line = n; bytes_left = length after + 1 }) p a.1 in
      let inline = bind_ok (inline_at depth n after) (λ inline. entry_value_at block n i inline g.below >>= made) p c.1
      in
      let b = bind_ok (entry_value_at block n i inline.0 g.below) made p inline.2 in
      subst (IsPair depth R before g) (ok_is (record { line = n; key = key; value = b.0 }) p b.2) (record {
        line = refl;
        after = after;
        entry = entry_sound g.head.text key after (key_at_sound n g.head.text (key, after) e) c.0;
        fresh = fresh_sound before key a.0;
        inline = inline.0;
        is_inline = inline_sound depth n after inline.0 inline.1;
        value = value_sound n i inline.0 g.below b.0 b.1;
      })

  pair_sound : (around : Option ℕ) (i : ℕ) (before : List (List ℕ)) (g : Group) (p : Pair)
      → pair_at depth block around i before g ≡ Ok p → (g.head.indent ≡ i) × IsPair depth R before g p
  unfolding pair_at
  pair_sound around i before g p e =
      let a = guard_true (g.head.indent == i) (pair_from depth block i before g (key_at g.head.number g.head.text))
      (record { kind = misplaced_line around g.head; line = g.head.number; bytes_left = length g.head.text }) p e in
      (eqb-true g.head.indent i a.0, pair_from_sound i before g (key_at g.head.number g.head.text) p refl a.1)

  pair_complete : (around : Option ℕ) (i : ℕ) (before : List (List ℕ)) (g : Group) (p : Pair) → g.head.indent ≡ i
      → IsPair depth R before g p → pair_at depth block around i before g ≡ Ok p
  unfolding pair_at pair_from
  pair_complete around i before g p at h =
      rw (
        eq-eqb g.head.indent i at,
        key_at_complete g.head.number g.head.text p.key h.after h.entry.is_key,
        fresh_complete before p.key h.fresh,
        entry_short g.head.text p.key h.after h.entry,
        inline_complete depth g.head.number h.after h.inline h.is_inline,
        value_complete g.head.number i h.inline g.below p.value h.value,
      )
      (ap (λ (n : ℕ). Ok (record { line = n; key = p.key; value = p.value })) (sym h.line))

  pairs_sound : (around : Option ℕ) (i : ℕ) (before : List (List ℕ)) (gs : List Group) (ps : List Pair)
      → pairs_at depth block around i before gs ≡ Ok ps → AllStand (hangs true i) i gs × ArePairs depth R before gs ps
  unfolding pairs_at
  pairs_sound around i before [] ps e = (tt, subst (ArePairs depth R before []) (ok_is [] ps e) tt)
  pairs_sound around i before (g ∷ gs) ps e =
      let a = bind_ok (pair_at depth block around i before g)
      (λ p. pairs_at depth block around i (p.key ∷ before) gs >>= λ qs. Ok (p ∷ qs)) ps e in
      let b = bind_ok (pairs_at depth block around i (a.0.key ∷ before) gs) (λ qs. Ok (a.0 ∷ qs)) ps a.2 in
      let one = pair_sound around i before g a.0 a.1 in
      let more = pairs_sound around i (a.0.key ∷ before) gs b.0 b.1 in
      let stands = hangs_not true i g.head one.0 (key_no_item g.head.text a.0.key one.1.after one.1.entry.is_key) in
      (((one.0, stands), more.0), subst (ArePairs depth R before (g ∷ gs)) (ok_is (a.0 ∷ b.0) ps b.2) (one.1, more.1))

  pairs_complete : (around : Option ℕ) (i : ℕ) (before : List (List ℕ)) (gs : List Group) (ps : List Pair)
      → AllStand (hangs true i) i gs → ArePairs depth R before gs ps → pairs_at depth block around i before gs ≡ Ok ps
  unfolding pairs_at
  pairs_complete around i before [] [] at h = refl
  pairs_complete around i before [] (p ∷ ps) at h = absurd h
  pairs_complete around i before (g ∷ gs) [] at h = absurd h
  pairs_complete around i before (g ∷ gs) (p ∷ ps) at h =
      rw (pair_complete around i before g p at.0.0 h.0, pairs_complete around i (p.key ∷ before) gs ps at.1 h.1) refl

  mapping_sound : (around : Option ℕ) (first : TextLine) (others : List TextLine) (t : Node)
      → mapping_at depth block around first others ≡ Ok t → IsMapping depth R first others t
  unfolding mapping_at
  mapping_sound around first others t e =
      let i = first.indent in
      let gs = groups_of (hangs true i) (first ∷ others) in
      let a = bind_ok (pairs_at depth block around i [] gs) (λ ps. Ok (mapping first.number (pairs_of ps))) t e in
      let b = pairs_sound around i [] gs a.0 a.1 in
      record {
        groups = gs;
        pairs = a.0;
        run = groups_are_run (hangs true i) i (first ∷ others) b.0;
        each = b.1;
        tree = sym (ok_is (mapping first.number (pairs_of a.0)) t a.2);
      }

  mapping_complete : (around : Option ℕ) (first : TextLine) (others : List TextLine) (t : Node)
      → IsMapping depth R first others t → mapping_at depth block around first others ≡ Ok t
  unfolding mapping_at
  mapping_complete around first others t h = search (rules, run_stands, run_is_groups, pairs_complete)

  -- a mapping begins with an entry
  mapping_head : (first : TextLine) (others : List TextLine) (gs : List Group) (ps : List Pair)
      → AreGroups (hangs true first.indent) first.indent (first ∷ others) gs → ArePairs depth R [] gs ps
      → (key : List ℕ) × (after : List ℕ) × (head_at depth first.number first.text ≡ Ok (entry key after))
  mapping_head first others [] ps run each = absurd cc
  mapping_head first others (g ∷ gs) [] run each = absurd each
  mapping_head first others (g ∷ gs) (p ∷ ps) run each =
      let heads : first ∷ others ≡ g.head ∷ (g.below ++ run.0) = run.1 in
      let same : g.head ≡ first = cc in (
        p.key,
        each.0.after,
        subst (λ (l : TextLine). head_at depth l.number l.text ≡ Ok (entry p.key each.0.after)) same
            (key_complete depth g.head.number g.head.text p.key each.0.after each.0.entry.is_key),
      )

  -- ---- sequences

  item_with_sound : (i : ℕ) (g : Group) (after : List ℕ) (h : LineHead) (t : Node) → IsDash g.head.text after
      → is_over (behind_blanks after) ≡ false → head_at depth g.head.number (behind_blanks after) ≡ Ok h
      → item_with depth block i g after h ≡ Ok t → IsSequenceItem depth R g t
  unfolding item_with
  item_with_sound i g after (item behind) t dash some e k = absurd cc
  item_with_sound i g after (alone u) t dash some e k = record {
    after = after;
    dash = dash;
    node =
        inl (
          Some u,
          (
            behind_blanks after,
            is_behind_blanks after,
            some,
            alone_sound depth g.head.number (behind_blanks after) u e,
          ),
          value_sound g.head.number i (Some u) g.below t k,
        );
  }
  item_with_sound i g after (entry key behind) t dash some e k =
      let a = guard_false (begins_blank (behind_spaces after)) (block (Some i) (inner g.head after ∷ g.below))
      (record { kind = Tab; line = g.head.number; bytes_left = length (behind_spaces after) }) t k in
      record {
        after = after;
        dash = dash;
        node =
            inr (
              inner g.head after,
              inner_sound depth g.head after key behind a.0 e,
              (computes (Some i)).sound (inner g.head after ∷ g.below) t a.1,
            );
      }

  item_from_sound : (i : ℕ) (g : Group) (found : Option (List ℕ)) (t : Node) → behind_dash g.head.text ≡ found
      → item_from depth block i g found ≡ Ok t → IsSequenceItem depth R g t
  unfolding item_from
  item_from_sound i g None t d e = absurd cc
  item_from_sound i g (Some after) t d e =
      let n = g.head.number in
      let dash = dash_sound g.head.text after d in
      elim (chosen (is_over (behind_blanks after)) (entry_value_at block n i None g.below)
      (head_at depth n (behind_blanks after) >>= λ h. item_with depth block i g after h) (Ok t) e) [
        | inl p ↦
            record {
              after = after;
              dash = dash;
              node = inl (None, (behind_blanks after, is_behind_blanks after, p.0), value_sound n i None g.below t p.1);
            }
        | inr p ↦
            let b = bind_ok (head_at depth n (behind_blanks after)) (λ h. item_with depth block i g after h) t p.1 in
            item_with_sound i g after b.0 t dash p.0 b.1 b.2
      ]

  item_sound : (around : Option ℕ) (i : ℕ) (g : Group) (t : Node) → sequence_item_at depth block around i g ≡ Ok t
      → (g.head.indent ≡ i) × IsSequenceItem depth R g t
  unfolding sequence_item_at
  item_sound around i g t e = search (rules, guard_true, eqb-true, item_from_sound)

  -- an item with a value as entries have them
  valued : (i : ℕ) (g : Group) (after : List ℕ) (inline : Option Node) (t : Node) → behind_dash g.head.text ≡ Some after
      → IsInline depth g.head.number after inline → IsEntryValue R g.head.number inline g.below t
      → item_from depth block i g (behind_dash g.head.text) ≡ Ok t
  unfolding item_from item_with
  valued i g after None t d h v = rw (d, behind_blanks-is after h.0 h.1, h.2)
      (value_complete g.head.number i None g.below t v)
  valued i g after (Some u) t d h v =
      rw (d, behind_blanks-is after h.0 h.1, h.2, alone_complete depth g.head.number h.0 u h.3)
      (value_complete g.head.number i (Some u) g.below t v)

  item_from_complete : (i : ℕ) (g : Group) (t : Node) → IsSequenceItem depth R g t
      → item_from depth block i g (behind_dash g.head.text) ≡ Ok t
  unfolding item_from item_with
  item_from_complete i g t h =
      let n = g.head.number in
      let d = dash_complete g.head.text h.after h.dash in
      elim h.node [
        | inl v ↦ valued i g h.after v.0 t d v.1 v.2
        | inr m ↦
            let c = inner_complete depth g.head h.after m.0 m.1 in
            rw (d, c.1, c.2, c.3, c.0) ((computes (Some i)).complete (m.0 ∷ g.below) t m.2)
      ]

  item_complete : (around : Option ℕ) (i : ℕ) (g : Group) (t : Node) → g.head.indent ≡ i → IsSequenceItem depth R g t
      → sequence_item_at depth block around i g ≡ Ok t
  unfolding sequence_item_at
  item_complete around i g t at h = rw (eq-eqb g.head.indent i at) (item_from_complete i g t h)

  items_sound : (around : Option ℕ) (i : ℕ) (gs : List Group) (ts : List Node)
      → sequence_items_at depth block around i gs ≡ Ok ts
      → AllStand (hangs false i) i gs × AreSequenceItems depth R gs ts
  unfolding sequence_items_at
  items_sound around i [] ts e = (tt, subst (AreSequenceItems depth R []) (ok_is [] ts e) tt)
  items_sound around i (g ∷ gs) ts e =
      let a = bind_ok (sequence_item_at depth block around i g)
      (λ t. sequence_items_at depth block around i gs >>= λ us. Ok (t ∷ us)) ts e in
      let b = bind_ok (sequence_items_at depth block around i gs) (λ us. Ok (a.0 ∷ us)) ts a.2 in
      let one = item_sound around i g a.0 a.1 in
      let more = items_sound around i gs b.0 b.1 in (
        ((one.0, hangs_not false i g.head one.0 refl), more.0),
        subst (AreSequenceItems depth R (g ∷ gs)) (ok_is (a.0 ∷ b.0) ts b.2) (one.1, more.1),
      )

  items_complete : (around : Option ℕ) (i : ℕ) (gs : List Group) (ts : List Node) → AllStand (hangs false i) i gs
      → AreSequenceItems depth R gs ts → sequence_items_at depth block around i gs ≡ Ok ts
  unfolding sequence_items_at
  items_complete around i [] [] at h = refl
  items_complete around i [] (t ∷ ts) at h = absurd h
  items_complete around i (g ∷ gs) [] at h = absurd h
  items_complete around i (g ∷ gs) (t ∷ ts) at h =
      rw (item_complete around i g t at.0.0 h.0, items_complete around i gs ts at.1 h.1) refl

  sequence_sound : (around : Option ℕ) (first : TextLine) (others : List TextLine) (t : Node)
      → sequence_at depth block around first others ≡ Ok t → IsSequence depth R first others t
  unfolding sequence_at
  sequence_sound around first others t e =
      let i = first.indent in
      let gs = groups_of (hangs false i) (first ∷ others) in
      let a = bind_ok (sequence_items_at depth block around i gs) (λ ts. Ok (sequence first.number (nodes_of ts))) t e
      in
      let b = items_sound around i gs a.0 a.1 in
      record {
        groups = gs;
        nodes = a.0;
        run = groups_are_run (hangs false i) i (first ∷ others) b.0;
        each = b.1;
        tree = sym (ok_is (sequence first.number (nodes_of a.0)) t a.2);
      }

  sequence_complete : (around : Option ℕ) (first : TextLine) (others : List TextLine) (t : Node)
      → IsSequence depth R first others t → sequence_at depth block around first others ≡ Ok t
  unfolding sequence_at
  sequence_complete around first others t h = search (rules, run_stands, run_is_groups, items_complete)

  -- a sequence begins with an item
  sequence_head : (first : TextLine) (others : List TextLine) (gs : List Group) (ts : List Node)
      → AreGroups (hangs false first.indent) first.indent (first ∷ others) gs → AreSequenceItems depth R gs ts
      → (after : List ℕ) × (head_at depth first.number first.text ≡ Ok (item after))
  sequence_head first others [] ts run each = absurd cc
  sequence_head first others (g ∷ gs) [] run each = absurd each
  sequence_head first others (g ∷ gs) (t ∷ ts) run each = search (rules, item_head, dash_complete)

  -- ---- blocks

  block_from_sound : (around : Option ℕ) (first : TextLine) (others : List TextLine) (h : LineHead) (t : Node)
      → head_at depth first.number first.text ≡ Ok h → block_from depth block around first others h ≡ Ok t
      → IsBlock depth R first others t
  unfolding block_from
  block_from_sound around first others x4 t e k = search (rules, sequence_sound, mapping_sound, alone_is)

  block_sound : (around : Option ℕ) (ls : List TextLine) (t : Node)
      → block_at depth (block_from depth block) around ls ≡ Ok t → ByLines (IsBlock depth R) ls t
  unfolding block_at
  block_sound around x2 t e = search (rules, ok_is, bind_ok, block_from_sound)

  block_complete : (around : Option ℕ) (ls : List TextLine) (t : Node) → ByLines (IsBlock depth R) ls t
      → block_at depth (block_from depth block) around ls ≡ Ok t
  unfolding block_at block_from
  block_complete around [] t h = rw h refl
  block_complete around (first ∷ others) t h =
      elim h [
        | inl s ↦ rw (sequence_head first others s.groups s.nodes s.run s.each).1
            (sequence_complete around first others t s)
        | inr o ↦ elim o [
          | inl m ↦ rw (mapping_head first others m.groups m.pairs m.run m.each).2
              (mapping_complete around first others t m)
          | inr a ↦ rw (alone_complete depth first.number first.text t a.value)
              (closed_complete around t others t (a.alone, refl))
        ]
      ]

-- ---- all levels

deep_from_sound : (depth : ℕ) (around : Option ℕ) (first : TextLine) (others : List TextLine) (h : LineHead) (t : Node)
    → head_at depth first.number first.text ≡ Ok h → deep_from around first others h ≡ Ok t
    → IsAlone depth first others t
unfolding deep_from
deep_from_sound depth around first others x5 t e k = search (rules, alone_is)

deep_sound : (depth : ℕ) (around : Option ℕ) (ls : List TextLine) (t : Node) → block_at depth deep_from around ls ≡ Ok t
    → ByLines (λ first others t. IsAlone depth first others t) ls t
unfolding block_at
deep_sound depth around x3 t e = search (rules, ok_is, bind_ok, deep_from_sound)

deep_complete : (depth : ℕ) (around : Option ℕ) (ls : List TextLine) (t : Node)
    → ByLines (λ first others t. IsAlone depth first others t) ls t → block_at depth deep_from around ls ≡ Ok t
unfolding block_at deep_from
deep_complete depth around [] t h = rw h refl
deep_complete depth around (first ∷ others) t h =
    rw (alone_complete depth first.number first.text t h.value) (closed_complete around t others t (h.alone, refl))

pub tree_computes : (levels depth : ℕ) (around : Option ℕ)
    → Computes (tree_at levels depth around) (IsTree levels depth)
unfolding tree_at
tree_computes zero depth around = record { sound = deep_sound depth around; complete = deep_complete depth around }
tree_computes (suc levels) depth around =
    let below = tree_computes levels depth in
    record {
      sound = block_sound depth (tree_at levels depth) (IsTree levels depth) below around;
      complete = block_complete depth (tree_at levels depth) (IsTree levels depth) below around;
    }
