-- A list or mapping is what reading it from the left gives, and nothing else.
use Rattle.std.proofs.Common.{rules, ◌≡◌, ℕ, zero, suc, ◌+◌, ◌-◌, ◌≤◌, ◌<◌, ltb, true, false, cond, List, [], ◌∷◌, ◌++◌}
use Rattle.std.proofs.Common.{length, take, Result, Ok, refl, sym, ap, subst, ◌∙◌, inl, inr, arith, length-append}
use Rattle.std.proofs.{Common.zero-add, lemmas.Bool.{eqb-true, le-ltb, ltb-false}, Math.Seq.take-append_seam}
use Rattle.yaml_subset.specs.declared.fault.TextFaultKind.TheVariants.{DuplicateKey, NotInSubset}
use Rattle.yaml_subset.specs.{declared.place.PlacedFault.PlacedFault, Flow.{bracketed_at, flow_value_at, flow_at}}
use Rattle.yaml_subset.proofs.FlowWords.{word_begins_part, word_reads}
use Rattle.yaml_bytes.{specs.{Bytes.characters, Results.◌>>=◌}, proofs.Steps.{bind_ok, guard_true, guard_false, chosen}}
use Rattle.yaml_subset.specs.{Keys.is_among, Placed.fault_at, Words.{IsWordAt, word_at}}
use Rattle.yaml_subset.specs.Node.{Node, scalar, sequence, mapping, Pair, nodes_of, pairs_of}
use Rattle.yaml_subset.specs.Flow.{begins_bracket, keys_of, ArePartsTo, IsBetween, IsFlowPair, IsBracketed, IsFlowValue}
use Rattle.yaml_subset.specs.Flow.{IsFlow, start_at, behind_colon_at, flow_pair_at, flow_list_at, flow_mapping_at}
use Rattle.yaml_subset.proofs.{KeySets.{fresh_sound, fresh_complete}, WordTexts.word_parts}
use Rattle.yaml_subset.proofs.FlowParts.{part_is, BeginsPart, Reads, part_goes_on, start_sound, start_complete}
use Rattle.yaml_subset.proofs.FlowParts.{behind_shorter, colon_sound, colon_complete, closes_list, closes_mapping}
use Rattle.yaml_subset.proofs.FlowParts.{between_sound, between_complete, between_shorter}

abbrev pub ValueReader : Type 0
ValueReader = List ℕ → Result (Node × List ℕ) PlacedFault

abbrev pub ValueRelation : Type 1
ValueRelation = List ℕ → Node → List ℕ → Type 0

-- what is in front of the rest
front_is : (text front rest : List ℕ) → text ≡ front ++ rest → take (length text - length rest) text ≡ front
front_is text front rest e =
    let k : length front ≡ length text - length rest = omega (arith, ap length e, length-append front rest) in
    subst (λ n. take n text ≡ front) k (ap (take (length front)) e ∙ take-append_seam front rest)

-- ---- pairs

module _ (n : ℕ) (value : ValueReader) where
  -- a pair whose value was read, and the steps before that, the last first
  abbrev made : List ℕ → Node × List ℕ → Result (Pair × List ℕ) PlacedFault
  made key v = Ok (record { line = n; key = key; value = v.0 }, v.1)

  abbrev inside : List ℕ → List ℕ → Result (Pair × List ℕ) PlacedFault
  inside key after = start_at n after >>= λ inner. value inner >>= made key

  abbrev measured : List ℕ → List ℕ × List ℕ → List ℕ → Result (Pair × List ℕ) PlacedFault
  measured text w after = cond (ltb 1024 (characters (take (length text - length w.1) text)))
      (fault_at NotInSubset n (length w.1)) (inside w.0 after)

  abbrev compared : List (List ℕ) → List ℕ → List ℕ × List ℕ → List ℕ → Result (Pair × List ℕ) PlacedFault
  compared keys text w after = cond (is_among keys w.0) (fault_at DuplicateKey n (length text)) (measured text w after)

  abbrev behind_key : List (List ℕ) → List ℕ → List ℕ × List ℕ → Result (Pair × List ℕ) PlacedFault
  behind_key keys text w = behind_colon_at n w.1 >>= compared keys text w

module _ (n : ℕ) (value : ValueReader) (R : ValueRelation) (reads : Reads value R) where
  pair_of : (before : List Pair) (text : List ℕ) (w : List ℕ × List ℕ) (after inner : List ℕ) (v : Node × List ℕ)
      (p : Pair) (rest : List ℕ)
      → word_at n true text ≡ Ok w → behind_colon_at n w.1 ≡ Ok after → is_among (keys_of before) w.0 ≡ false
      → ltb 1024 (characters (take (length text - length w.1) text)) ≡ false → start_at n after ≡ Ok inner
      → value inner ≡ Ok v
      → made n value w.0 v ≡ Ok (p, rest) → IsFlowPair n R before text p rest
  pair_of before text w after inner v p rest e c a l s r m =
      let colon = colon_sound n w.1 after c in
      let is_word = (word_reads n).sound text w.0 w.1 e in
      let f = word_parts true text w.0 w.1 is_word in
      let few : characters (take (length text - length w.1) text) ≤ 1024 =
      ltb-false 1024 (characters (take (length text - length w.1) text)) l in
      subst (λ (q : Pair × List ℕ). IsFlowPair n R before text q.0 q.1)
      (part_is (record { line = n; key = w.0; value = v.0 }, v.1) (p, rest) m) (record {
        line = refl;
        after = after;
        is_key = subst (IsWordAt true text w.0) colon.0 is_word;
        gap = colon.1;
        fresh = fresh_sound (keys_of before) w.0 a;
        front = f.0;
        parts = f.1 ∙ ap (λ (xs : List ℕ). f.0 ++ xs) colon.0;
        near = subst (λ xs. characters xs ≤ 1024) (front_is text f.0 w.1 f.1) few;
        inner = inner;
        behind = start_sound n after inner s;
        value = reads.sound inner v.0 v.1 r;
      })

  pair_sound : (before : List Pair) (text : List ℕ) (p : Pair) (rest : List ℕ)
      → flow_pair_at n value (keys_of before) text ≡ Ok (p, rest) → IsFlowPair n R before text p rest
  unfolding flow_pair_at
  pair_sound before text p rest e = search (rules, bind_ok, guard_false, pair_of)

  pair_complete : (before : List Pair) (text : List ℕ) (p : Pair) (rest : List ℕ) → IsFlowPair n R before text p rest
      → flow_pair_at n value (keys_of before) text ≡ Ok (p, rest)
  unfolding flow_pair_at
  pair_complete before text p rest h =
      let few : ltb 1024 (characters (take (length text - length (58 ∷ h.after)) text)) ≡ false =
      subst (λ xs. ltb 1024 (characters xs) ≡ false) (sym (front_is text h.front (58 ∷ h.after) h.parts))
      (le-ltb 1024 (characters h.front) h.near) in
      let inside = start_complete n h.after h.inner h.behind
      (part_goes_on h.inner (reads.begins h.inner p.value rest h.value)) in
      rw (
        (word_reads n).complete text p.key (58 ∷ h.after) h.is_key,
        colon_complete n h.after h.gap,
        fresh_complete (keys_of before) p.key h.fresh,
        few,
        inside,
        reads.complete h.inner p.value rest h.value,
      )
      (ap (λ (m : ℕ). Ok (record { line = m; key = p.key; value = p.value }, rest)) (sym h.line))

  pair_shorter : (before : List Pair) (text : List ℕ) (p : Pair) (rest : List ℕ) → IsFlowPair n R before text p rest
      → length rest < length text
  pair_shorter before text p rest h = search (rules, length-append, behind_shorter)

  pub pair_reads : (before : List Pair) → Reads (flow_pair_at n value (keys_of before)) (IsFlowPair n R before)
  pair_reads before = record {
    sound = pair_sound before;
    complete = pair_complete before;
    shorter = pair_shorter before;
    begins = λ text p rest h. (word_begins_part text p.key (58 ∷ h.after) h.is_key).0;
  }

  -- ---- lists and mappings

  list_sound : (after : List ℕ) (t : Node) (rest : List ℕ) → flow_list_at n value after ≡ Ok (t, rest)
      → (items : List Node) × IsBetween 91 93 (λ before. R) (91 ∷ after) items rest × (t ≡ sequence n (nodes_of items))
  unfolding flow_list_at
  list_sound after t rest e = search (rules, bind_ok, part_is, between_sound, closes_list)

  mapping_sound : (after : List ℕ) (t : Node) (rest : List ℕ) → flow_mapping_at n value after ≡ Ok (t, rest)
      → (pairs : List Pair) × IsBetween 123 125 (IsFlowPair n R) (123 ∷ after) pairs rest
      × (t ≡ mapping n (pairs_of pairs))
  unfolding flow_mapping_at
  mapping_sound after t rest e = search (rules, bind_ok, part_is, between_sound, closes_mapping, pair_reads)

  bracketed_sound : (text : List ℕ) (t : Node) (rest : List ℕ) → bracketed_at n value text ≡ Ok (t, rest)
      → IsBracketed n R text t rest
  unfolding bracketed_at
  bracketed_sound x1 t rest e = search (rules, eqb-true, list_sound, guard_true, mapping_sound)

  bracketed_complete : (text : List ℕ) (t : Node) (rest : List ℕ) → IsBracketed n R text t rest
      → bracketed_at n value text ≡ Ok (t, rest)
  unfolding bracketed_at flow_list_at flow_mapping_at
  bracketed_complete text t rest (inl h) =
      rw (
        h.1.opens,
        between_complete n 93 closes_list (λ before. value) (λ before. R) (λ before. reads) 91 text h.0
            rest h.1,
        h.2,
      ) refl
  bracketed_complete text t rest (inr h) =
      rw (
        h.1.opens,
        between_complete n 125 closes_mapping (λ before. flow_pair_at n value (keys_of before))
            (IsFlowPair n R) pair_reads 123 text h.0 rest h.1,
        h.2,
      ) refl

  bracketed_shorter : (text : List ℕ) (t : Node) (rest : List ℕ) → IsBracketed n R text t rest
      → length rest < length text
  bracketed_shorter text t rest (inl h) = between_shorter n 93 closes_list (λ before. value) (λ before. R)
      (λ before. reads) 91 text h.0 rest h.1
  bracketed_shorter text t rest (inr h) = between_shorter n 125 closes_mapping
      (λ before. flow_pair_at n value (keys_of before)) (IsFlowPair n R) pair_reads 123 text h.0 rest h.1

bracketed_begins : (n : ℕ) (R : ValueRelation) (text : List ℕ) (t : Node) (rest : List ℕ) → IsBracketed n R text t rest
    → BeginsPart text × (begins_bracket text ≡ true)
bracketed_begins n R text t rest x6 = search rules

-- ---- values

module _ (n : ℕ) (inner : ValueReader) (R : ValueRelation) (reads : Reads inner R)
    (opens : (text : List ℕ) (t : Node) (rest : List ℕ) → R text t rest → begins_bracket text ≡ true) where
  value_sound : (text : List ℕ) (t : Node) (rest : List ℕ) → flow_value_at n inner text ≡ Ok (t, rest)
      → IsFlowValue n R text t rest
  unfolding flow_value_at
  value_sound text t rest e =
      elim (chosen (begins_bracket text) (inner text) (word_at n true text >>= λ w. Ok (scalar n w.0, w.1))
      (Ok (t, rest)) e) [
        | inl p ↦ inr (reads.sound text t rest p.1)
        | inr p ↦
            let b = bind_ok (word_at n true text) (λ w. Ok (scalar n w.0, w.1)) (t, rest) p.1 in
            let q = part_is (scalar n b.0.0, b.0.1) (t, rest) b.2 in
            let ends : b.0.1 ≡ rest = ap (λ (z : Node × List ℕ). z.1) q in
            inl (
              b.0.0,
              subst (IsWordAt true text b.0.0) ends ((word_reads n).sound text b.0.0 b.0.1 b.1),
              sym (ap (λ (z : Node × List ℕ). z.0) q),
            )
      ]

  value_complete : (text : List ℕ) (t : Node) (rest : List ℕ) → IsFlowValue n R text t rest
      → flow_value_at n inner text ≡ Ok (t, rest)
  unfolding flow_value_at
  value_complete text t rest (inl w) =
      rw ((word_begins_part text w.0 rest w.1).1, (word_reads n).complete text w.0 rest w.1, w.2) refl
  value_complete text t rest (inr h) = rw (opens text t rest h) (reads.complete text t rest h)

  value_shorter : (text : List ℕ) (t : Node) (rest : List ℕ) → IsFlowValue n R text t rest → length rest < length text
  value_shorter text t rest (inl w) = (word_reads n).shorter text w.0 rest w.1
  value_shorter text t rest (inr h) = reads.shorter text t rest h

  value_begins : (text : List ℕ) (t : Node) (rest : List ℕ) → IsFlowValue n R text t rest → BeginsPart text
  value_begins text t rest (inl w) = (word_reads n).begins text w.0 rest w.1
  value_begins text t rest (inr h) = reads.begins text t rest h

  pub value_reads : Reads (flow_value_at n inner) (IsFlowValue n R)
  value_reads =
      record { sound = value_sound; complete = value_complete; shorter = value_shorter; begins = value_begins }

-- ---- all levels

-- a list or mapping begins with its bracket or brace
pub flow_begins : (levels n : ℕ) (text : List ℕ) (t : Node) (rest : List ℕ) → IsFlow levels n text t rest
    → begins_bracket text ≡ true
flow_begins x1 n text t rest h = search rules

pub flow_reads : (levels n : ℕ) → Reads (flow_at levels n) (IsFlow levels n)
unfolding flow_at
flow_reads zero n =
    record {
      sound = λ text t rest e. absurd cc;
      complete = λ text t rest h. absurd h;
      shorter = λ text t rest h. absurd h;
      begins = λ text t rest h. absurd h;
    }
flow_reads (suc levels) n =
    let value = flow_value_at n (flow_at levels n) in
    let R = IsFlowValue n (IsFlow levels n) in
    let reads = value_reads n (flow_at levels n) (IsFlow levels n) (flow_reads levels n) (flow_begins levels n) in
    record {
      sound = bracketed_sound n value R reads;
      complete = bracketed_complete n value R reads;
      shorter = bracketed_shorter n value R reads;
      begins = λ text t rest h. (bracketed_begins n R text t rest h).0;
    }

pub flow_sound : (levels n : ℕ) (text : List ℕ) (t : Node) (rest : List ℕ) → flow_at levels n text ≡ Ok (t, rest)
    → IsFlow levels n text t rest
flow_sound levels n text t rest e = (flow_reads levels n).sound text t rest e

pub flow_complete : (levels n : ℕ) (text : List ℕ) (t : Node) (rest : List ℕ) → IsFlow levels n text t rest
    → flow_at levels n text ≡ Ok (t, rest)
flow_complete levels n text t rest h = (flow_reads levels n).complete text t rest h

-- ---- what a loop needs: each part has a byte

pub value_less : (levels n : ℕ) (text : List ℕ) (t : Node) (rest : List ℕ)
    → flow_value_at n (flow_at levels n) text ≡ Ok (t, rest) → length rest < length text
value_less levels n text t rest e =
    let reads = value_reads n (flow_at levels n) (IsFlow levels n) (flow_reads levels n) (flow_begins levels n) in
    reads.shorter text t rest (reads.sound text t rest e)

pub pair_less : (levels n : ℕ) (before : List Pair) (text : List ℕ) (p : Pair) (rest : List ℕ)
    → flow_pair_at n (flow_value_at n (flow_at levels n)) (keys_of before) text ≡ Ok (p, rest)
    → length rest < length text
pair_less levels n before text p rest e =
    let value = value_reads n (flow_at levels n) (IsFlow levels n) (flow_reads levels n) (flow_begins levels n) in
    let reads = pair_reads n (flow_value_at n (flow_at levels n)) (IsFlowValue n (IsFlow levels n)) value before in
    reads.shorter text p rest (reads.sound text p rest e)

-- ---- more levels change nothing

module _ (n : ℕ) (R S : ValueRelation) (more : (text : List ℕ) (t : Node) (rest : List ℕ) → R text t rest
    → S text t rest) where
  items_more : (before : List Node) (text : List ℕ) (ts : List Node) (rest : List ℕ)
      → ArePartsTo 93 (λ before. R) before text ts rest → ArePartsTo 93 (λ before. S) before text ts rest
  items_more before text [] rest h = h
  items_more before text (t ∷ ts) rest h =
      (h.0, h.1, more text t h.0 h.2, h.3, items_more (before ++ t ∷ []) h.1 ts rest h.4)

  pair_more : (before : List Pair) (text : List ℕ) (p : Pair) (rest : List ℕ) → IsFlowPair n R before text p rest
      → IsFlowPair n S before text p rest
  pair_more before text p rest h = search rules

  pairs_more : (before : List Pair) (text : List ℕ) (ps : List Pair) (rest : List ℕ)
      → ArePartsTo 125 (IsFlowPair n R) before text ps rest → ArePartsTo 125 (IsFlowPair n S) before text ps rest
  pairs_more before text [] rest h = h
  pairs_more before text (p ∷ ps) rest h =
      (h.0, h.1, pair_more before text p h.0 h.2, h.3, pairs_more (before ++ p ∷ []) h.1 ps rest h.4)

  bracketed_more : (text : List ℕ) (t : Node) (rest : List ℕ) → IsBracketed n R text t rest
      → IsBracketed n S text t rest
  bracketed_more text t rest x4 = search (rules, items_more, pairs_more)

value_more : (n : ℕ) (R S : ValueRelation)
    (more : (text : List ℕ) (t : Node) (rest : List ℕ) → R text t rest → S text t rest) (text : List ℕ) (t : Node)
    (rest : List ℕ) → IsFlowValue n R text t rest → IsFlowValue n S text t rest
value_more n R S more text t rest x8 = search rules

one_more : (levels n : ℕ) (text : List ℕ) (t : Node) (rest : List ℕ) → IsFlow levels n text t rest
    → IsFlow (suc levels) n text t rest
one_more zero n text t rest h = absurd h
one_more (suc levels) n text t rest h =
    bracketed_more n (IsFlowValue n (IsFlow levels n)) (IsFlowValue n (IsFlow (suc levels) n))
    (value_more n (IsFlow levels n) (IsFlow (suc levels) n) (one_more levels n)) text t rest h

added_levels : (k levels n : ℕ) (text : List ℕ) (t : Node) (rest : List ℕ) → IsFlow levels n text t rest
    → IsFlow (k + levels) n text t rest
added_levels zero levels n text t rest h = subst (λ m. IsFlow m n text t rest) (sym (zero-add levels)) h
added_levels (suc k) levels n text t rest h =
    subst (λ m. IsFlow m n text t rest) (let e : suc (k + levels) ≡ suc k + levels = omega arith in e)
    (one_more (k + levels) n text t rest (added_levels k levels n text t rest h))

pub more_flow_levels : (levels limit n : ℕ) (text : List ℕ) (t : Node) (rest : List ℕ) → levels ≤ limit
    → IsFlow levels n text t rest → IsFlow limit n text t rest
more_flow_levels levels limit n text t rest le h =
    subst (λ m. IsFlow m n text t rest) (let e : limit - levels + levels ≡ limit = omega arith in e)
    (added_levels (limit - levels) levels n text t rest h)
