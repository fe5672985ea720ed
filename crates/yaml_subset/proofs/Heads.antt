-- What a line is read as is what it is.
use Rattle.std.proofs.Common.{rules, ◌≡◌, ℕ, ◌+◌, ◌-◌, ◌≤◌, ltb, true, false, ◌&&◌, List, ◌∷◌, ◌++◌, length, take}
use Rattle.std.proofs.Common.{Option, Some, None, Result, Ok, refl, sym, ap, subst, ◌∙◌, ◌⊎◌, inl, inr, arith}
use Rattle.std.proofs.{lemmas.{Bool.{le-ltb, ltb-false}, List.length-append}, Math.Seq.take-append_seam}
use Rattle.yaml_subset.specs.declared.{place.PlacedFault.PlacedFault, fault.TextFaultKind.TheVariants.Flow}
use Rattle.yaml_bytes.specs.Bytes.{is_mark, begins_blank, begins_gap, begins_item, is_over, characters}
use Rattle.yaml_subset.specs.{Node.{Node, scalar}, Words.{IsWordAt, word_at}, TreeOf.IsDash}
use Rattle.yaml_bytes.specs.{Results.◌>>=◌, Plain.ends_word, Scanning.{behind_dash, before_colon}}
use Rattle.yaml_subset.specs.{Values.{IsKey, IsShortKey, IsNode, IsInline}, Flow.{IsFlow, begins_bracket, flow_at}}
use Rattle.yaml_subset.specs.Reading.{LineHead, item, entry, alone, word_head, flow_head, text_head, head_from, head_at}
use Rattle.yaml_subset.specs.Reading.{key_in, key_from, key_at, node_from, inline_at}
use Rattle.yaml_bytes.proofs.Steps.{bind_ok, guard_true, chosen, ok_is}
use Rattle.yaml_bytes.proofs.PlainTexts.{is_behind_blanks, behind_blanks-is}
use Rattle.yaml_subset.proofs.WordTexts.{BeginsWord, word_sound, word_complete, word_begins, word_parts, word-rest_ends}
use Rattle.yaml_subset.proofs.FlowReads.{flow_sound, flow_complete}

-- ---- items

pub dash_sound : (text after : List ℕ) → behind_dash text ≡ Some after → IsDash text after
dash_sound x1 after e = search rules

pub dash_complete : (text after : List ℕ) → IsDash text after → behind_dash text ≡ Some after
dash_complete text after h = rw (h.0, h.1) refl

-- ---- how words, lists and mappings begin

no_dash : (b : ℕ) (bs : List ℕ) → (is_mark b && begins_gap bs) ≡ false → behind_dash (b ∷ bs) ≡ None
no_dash b bs e = search rules

word_no_dash : (text : List ℕ) → BeginsWord false text → behind_dash text ≡ None
word_no_dash text w = rw w.parts (no_dash w.first w.others w.no_mark)

word_no_bracket : (text : List ℕ) → BeginsWord false text → begins_bracket text ≡ false
word_no_bracket text w = search rules

flow_begins_so : (depth n : ℕ) (text : List ℕ) (t : Node) (rest : List ℕ) → IsFlow depth n text t rest
    → (behind_dash text ≡ None) × (begins_bracket text ≡ true)
flow_begins_so x1 n text t rest h = search rules

-- ---- values

abbrev ok_head : LineHead → Result LineHead PlacedFault
ok_head h = Ok h

is_alone : (n : ℕ) (text : List ℕ) (h : LineHead) (t : Node) → node_from n text h ≡ Ok t → h ≡ alone t
unfolding node_from
is_alone n text x3 t e = search rules

head_over : (n : ℕ) (value rest : List ℕ) → is_over rest ≡ true → word_head n value rest ≡ alone (scalar n value)
unfolding word_head
head_over n value x3 e = search rules

word_alone : (n : ℕ) (value rest : List ℕ) (t : Node) → ends_word false 32 rest ≡ true
    → word_head n value rest ≡ alone t → (is_over rest ≡ true) × (t ≡ scalar n value)
unfolding word_head
word_alone n value rest t ends e = search rules

word_entry : (n : ℕ) (value rest key after : List ℕ) → word_head n value rest ≡ entry key after
    → (rest ≡ 58 ∷ after) × (value ≡ key)
unfolding word_head
word_entry n value x3 key after e = search rules

-- ---- from the line to its text

head_from_cases : (depth n : ℕ) (text : List ℕ) (found : Option (List ℕ)) (h : LineHead)
    → head_from depth n text found ≡ Ok h → ((after : List ℕ) × (found ≡ Some after) × (h ≡ item after))
    ⊎ (text_head depth n text ≡ Ok h)
unfolding head_from
head_from_cases depth n text x4 h e = search rules

-- an item, or no item
head_cases : (depth n : ℕ) (text : List ℕ) (h : LineHead) → head_at depth n text ≡ Ok h
    → ((after : List ℕ) × (behind_dash text ≡ Some after) × (h ≡ item after)) ⊎ (text_head depth n text ≡ Ok h)
unfolding head_at
head_cases depth n text h e = head_from_cases depth n text (behind_dash text) h e

-- a list or mapping alone, or a word
text_cases : (depth n : ℕ) (text : List ℕ) (h : LineHead) → text_head depth n text ≡ Ok h
    → ((t : Node) × (rest : List ℕ) × IsFlow depth n text t rest × (is_over rest ≡ true) × (h ≡ alone t))
    ⊎ ((value : List ℕ) × (rest : List ℕ) × IsWordAt false text value rest × (word_head n value rest ≡ h))
unfolding text_head flow_head
text_cases depth n text h e =
    let worded : List ℕ × List ℕ → Result LineHead PlacedFault = λ r. Ok (word_head n r.0 r.1) in
    elim (chosen (begins_bracket text) (flow_at depth n text >>= λ r. flow_head n r) (word_at n false text >>= worded)
    (Ok h) e) [
      | inl p ↦
          let a = bind_ok (flow_at depth n text) (λ r. flow_head n r) h p.1 in
          let r = a.0 in
          let g = guard_true (is_over r.1) (Ok (alone r.0)) (record { kind = Flow; line = n; bytes_left = length r.1 })
          h a.2
          in
          inl (r.0, r.1, flow_sound depth n text r.0 r.1 a.1, g.0, sym (ok_is (alone r.0) h g.1))
      | inr p ↦
          let a = bind_ok (word_at n false text) worded h p.1 in
          let r = a.0 in
          inr (r.0, r.1, word_sound n false text r.0 r.1 a.1, ok_is (word_head n r.0 r.1) h a.2)
    ]

pub alone_sound : (depth n : ℕ) (text : List ℕ) (t : Node) → head_at depth n text ≡ Ok (alone t) → IsNode depth n text t
alone_sound depth n text t e =
    elim (head_cases depth n text (alone t) e) [
      | inl i ↦ let h : alone t ≡ item i.0 = i.2 in absurd cc
      | inr w ↦ elim (text_cases depth n text (alone t) w) [
        | inl f ↦
            let h : alone t ≡ alone f.0 = f.4 in
            let same : f.0 ≡ t = cc in
            (f.1, inr (subst (λ u. IsFlow depth n text u f.1) same f.2), f.3)
        | inr v ↦
            let a = word_alone n v.0 v.1 t (word-rest_ends false text v.0 v.1 v.2) v.3 in
            (v.1, inl (v.0, v.2, a.1), a.0)
      ]
    ]

pub alone_complete : (depth n : ℕ) (text : List ℕ) (t : Node) → IsNode depth n text t
    → head_at depth n text ≡ Ok (alone t)
unfolding head_at head_from text_head flow_head
alone_complete depth n text t h =
    elim h.1 [
      | inl v ↦
          let w = word_begins false text v.0 h.0 v.1 in
          rw (
            word_no_dash text w,
            word_no_bracket text w,
            word_complete n false text v.0 h.0 v.1,
            head_over n v.0 h.0 h.2,
            v.2,
          ) refl
      | inr f ↦
          let b = flow_begins_so depth n text t h.0 f in
          rw (b.0, b.1, flow_complete depth n text t h.0 f, h.2) refl
    ]

-- ---- keys

pub key_sound : (depth n : ℕ) (text key after : List ℕ) → head_at depth n text ≡ Ok (entry key after)
    → IsKey text key after
key_sound depth n text key after e = search (rules, head_cases, text_cases, word_entry)

pub key_complete : (depth n : ℕ) (text key after : List ℕ) → IsKey text key after
    → head_at depth n text ≡ Ok (entry key after)
unfolding head_at head_from text_head word_head
key_complete depth n text key after h =
    let w = word_begins false text key (58 ∷ after) h in
    rw (word_no_dash text w, word_no_bracket text w, word_complete n false text key (58 ∷ after) h) refl

-- a key begins with no blank, and with no comment
pub key_begins : (text key after : List ℕ) → IsKey text key after → (begins_blank text ≡ false) × (is_over text ≡ false)
key_begins text key after h = search rules

pub key_no_item : (text key after : List ℕ) → IsKey text key after → begins_item text ≡ false
key_no_item text key after h = search rules

-- what an item is read as
pub item_head : (depth n : ℕ) (text after : List ℕ) → behind_dash text ≡ Some after
    → head_at depth n text ≡ Ok (item after)
unfolding head_at head_from
item_head depth n text after e = rw e refl

-- ---- entries

before_colon-is : (text front after : List ℕ) → text ≡ front ++ 58 ∷ after → before_colon text after ≡ front
before_colon-is text front after e =
    let len : length text - (length after + 1) ≡ length front =
    omega (arith, ap length e, length-append front (58 ∷ after)) in
    ap (λ n. take n text) len ∙ ap (take (length front)) e ∙ take-append_seam front (58 ∷ after)

-- the key of a line that is an entry
key_in_sound : (word rest : List ℕ) (k : List ℕ × List ℕ) → key_in word rest ≡ Some k → (rest ≡ 58 ∷ k.1) × (word ≡ k.0)
unfolding key_in
key_in_sound word x2 k e = search rules

key_from_sound : (n : ℕ) (text : List ℕ) (read : Result (List ℕ × List ℕ) PlacedFault) (k : List ℕ × List ℕ)
    → word_at n false text ≡ read → key_from read ≡ Some k → IsKey text k.0 k.1
unfolding key_from
key_from_sound n text x3 k w e = search (rules, key_in_sound, word_sound)

pub key_at_sound : (n : ℕ) (text : List ℕ) (k : List ℕ × List ℕ) → key_at n text ≡ Some k → IsKey text k.0 k.1
unfolding key_at
key_at_sound n text k e = key_from_sound n text (word_at n false text) k refl e

pub key_at_complete : (n : ℕ) (text key after : List ℕ) → IsKey text key after → key_at n text ≡ Some (key, after)
unfolding key_at key_from key_in
key_at_complete n text key after h = rw (word_complete n false text key (58 ∷ after) h) refl

pub entry_sound : (text key after : List ℕ) → IsKey text key after
    → ltb 1024 (characters (before_colon text after)) ≡ false → IsShortKey text key after
entry_sound text key after k short =
    let f = word_parts false text key (58 ∷ after) k in
    let few : characters (before_colon text after) ≤ 1024 = ltb-false 1024 (characters (before_colon text after)) short
    in
    record {
      is_key = k;
      front = f.0;
      parts = f.1;
      short = subst (λ xs. characters xs ≤ 1024) (before_colon-is text f.0 after f.1) few;
    }

-- an entry's key is short
pub entry_short : (text key after : List ℕ) → IsShortKey text key after
    → ltb 1024 (characters (before_colon text after)) ≡ false
entry_short text key after h = rw (before_colon-is text h.front after h.parts)
    (le-ltb 1024 (characters h.front) h.short)

-- ---- what comes after a colon

pub inline_sound : (depth n : ℕ) (text : List ℕ) (value : Option Node) → inline_at depth n text ≡ Ok value
    → IsInline depth n text value
unfolding inline_at
inline_sound depth n text value e = search (rules, ok_is, is_behind_blanks, bind_ok, alone_sound, is_alone)

pub inline_complete : (depth n : ℕ) (text : List ℕ) (value : Option Node) → IsInline depth n text value
    → inline_at depth n text ≡ Ok value
unfolding inline_at node_from
inline_complete depth n text None h = rw (behind_blanks-is text h.0 h.1, h.2) refl
inline_complete depth n text (Some t) h = rw (behind_blanks-is text h.0 h.1, h.2, alone_complete depth n h.0 t h.3) refl
