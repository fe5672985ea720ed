-- Lists `[a, b]` and mappings `{k: v}` on one line.
use Rattle.std.specs.Prelude.{◌≡◌, ℕ, zero, suc, ◌≤◌, ◌-◌, Bool, true, false, ◌&&◌, ◌||◌, nat_lt, List, [], ◌∷◌, ◌++◌}
use Rattle.std.specs.{Prelude.{length, map, take, Result, Ok, Err, if◌then◌else◌, ◌==◌, ◌⊎◌}, List.Contains}
use Rattle.yaml_subset.specs.declared.place.PlacedFault.{PlacedFault}
use Rattle.yaml_subset.specs.declared.fault.TextFaultKind.TheVariants.{DuplicateKey, Flow, NotInSubset, TooDeep}
use Rattle.yaml_bytes.specs.Bytes.{begins_blank, begins_gap, characters}
use Rattle.yaml_subset.specs.Node.{Node, scalar, sequence, mapping, Pair, nodes_of, pairs_of}
use Rattle.yaml_bytes.specs.{Results.◌>>=◌, Plain.IsBehindBlanks, Scanning.behind_blanks}
use Rattle.yaml_subset.specs.{Placed.fault_at, Keys.is_among, Words.{IsWordAt, word_at}}

-- whether a byte comes first
abbrev pub begins_with : ℕ → List ℕ → Bool
begins_with b [] = false
begins_with b (c ∷ cs) = c == b

-- whether `:` comes first, before a gap
abbrev pub begins_colon : List ℕ → Bool
begins_colon [] = false
begins_colon (b ∷ after) = (b == 58) && begins_gap after

-- whether a bracket or brace opens
abbrev pub begins_bracket : List ℕ → Bool
begins_bracket [] = false
begins_bracket (b ∷ bs) = (b == 91) || (b == 123)

-- the keys of pairs
abbrev pub keys_of : List Pair → List (List ℕ)
keys_of = map (λ p. p.key)

-- ---- what they are

-- The closing byte, and what comes after it and the blanks that follow it; a comment comes only after a blank.
pub record IsClosed (close : ℕ) (text rest : List ℕ) : Type 0 where
  pub after : List ℕ
  pub closes : text ≡ close ∷ after
  pub apart : begins_with 35 after ≡ false
  pub behind : IsBehindBlanks after rest

-- After a part: a comma, with what comes after it and the blanks that follow it; or else the closing byte is next.
abbrev pub IsParted : ℕ → List ℕ → List ℕ → Type 0
IsParted close text next = ((after : List ℕ) × (text ≡ 44 ∷ after) × IsBehindBlanks after next)
    ⊎ ((begins_with close text ≡ true) × (next ≡ text))

module _ {A : Type 0} (close : ℕ) (IsPart : List A → List ℕ → A → List ℕ → Type 0) where
  -- Parts with commas between them, after those before; the last may have a comma too. Then the closing byte.
  abbrev pub ArePartsTo : List A → List ℕ → List A → List ℕ → Type 0
  ArePartsTo before text [] rest = IsClosed close text rest
  ArePartsTo before text (x ∷ xs) rest =
      (more : List ℕ) × (next : List ℕ) × IsPart before text x more × IsParted close more next
      × ArePartsTo (before ++ x ∷ []) next xs rest

-- parts between an opening and a closing byte
pub record IsBetween {A : Type 0} (opening close : ℕ) (IsPart : List A → List ℕ → A → List ℕ → Type 0) (text : List ℕ)
    (parts : List A) (rest : List ℕ) : Type 0 where
  pub after : List ℕ
  pub opens : text ≡ opening ∷ after
  pub body : List ℕ
  pub behind : IsBehindBlanks after body
  pub each : ArePartsTo close IsPart [] body parts rest

-- A key that is none of those before it, `:` before a gap and at most 1,024 characters after the key's begin, and a
-- value.
pub record IsFlowPair (n : ℕ) (IsValue : List ℕ → Node → List ℕ → Type 0) (before : List Pair) (text : List ℕ)
    (p : Pair) (rest : List ℕ) : Type 0 where
  pub line : p.line ≡ n
  pub after : List ℕ
  pub is_key : IsWordAt true text p.key (58 ∷ after)
  pub gap : begins_gap after ≡ true
  pub fresh : Contains (keys_of before) p.key → ⊥
  pub front : List ℕ
  pub parts : text ≡ front ++ 58 ∷ after
  pub near : characters front ≤ 1024
  pub inner : List ℕ
  pub behind : IsBehindBlanks after inner
  pub value : IsValue inner p.value rest

-- a list or a mapping on the line n, of such values
abbrev pub IsBracketed : ℕ → (List ℕ → Node → List ℕ → Type 0) → List ℕ → Node → List ℕ → Type 0
IsBracketed n IsValue text t rest =
    ((items : List Node) × IsBetween 91 93 (λ before. IsValue) text items rest × (t ≡ sequence n (nodes_of items)))
    ⊎ ((pairs : List Pair) × IsBetween 123 125 (IsFlowPair n IsValue) text pairs rest
    × (t ≡ mapping n (pairs_of pairs)))

-- a value in a list or mapping: a word, or one of these
abbrev pub IsFlowValue : ℕ → (List ℕ → Node → List ℕ → Type 0) → List ℕ → Node → List ℕ → Type 0
IsFlowValue n IsInner text t rest = ((value : List ℕ) × IsWordAt true text value rest × (t ≡ scalar n value))
    ⊎ IsInner text t rest

-- A text begins with a list or a mapping, at most so many of them one inside the other, all on the line n; this rest
-- comes after it and the blanks after it.
abbrev pub IsFlow : ℕ → ℕ → List ℕ → Node → List ℕ → Type 0
IsFlow zero n text t rest = ⊥
IsFlow (suc levels) n text t rest = IsBracketed n (IsFlowValue n (IsFlow levels n)) text t rest

-- ---- reading them from the first byte to the last

-- whether the line's text ends here: by its end, or by a comment if a blank is in front
abbrev pub is_ended : Bool → List ℕ → Bool
is_ended blank [] = true
is_ended blank (b ∷ bs) = blank && (b == 35)

-- what comes after a bracket, a comma or a colon and the blanks that follow it
unfoldable pub start_at : ℕ → List ℕ → Result (List ℕ) PlacedFault
start_at n after = if is_ended (begins_blank after) (behind_blanks after) then fault_at Flow n 0 else Ok
    (behind_blanks after)

-- what is wrong with a text in the place of a comma, of the closing byte, or of a key's colon
unfoldable pub fault_in_flow : ℕ → List ℕ → PlacedFault
fault_in_flow n text =
    if is_ended true text
    then record { kind = Flow; line = n; bytes_left = 0 }
    else record { kind = if begins_colon text then NotInSubset else Flow; line = n; bytes_left = length text }

-- from the closing byte to what comes after it
unfoldable pub behind_close_at : ℕ → List ℕ → Result (List ℕ) PlacedFault
behind_close_at n [] = fault_at Flow n 0
behind_close_at n (b ∷ after) = if begins_with 35 after then fault_at Flow n (length after) else Ok
    (behind_blanks after)

-- from the end of a part to the next one, or to the closing byte
unfoldable pub parted_at : ℕ → ℕ → List ℕ → Result (List ℕ) PlacedFault
parted_at n close [] = Err (fault_in_flow n [])
parted_at n close (b ∷ after) = if b == 44 then start_at n after else
    (if b == close then Ok (b ∷ after) else Err (fault_in_flow n (b ∷ after)))

-- from a key's colon to what comes after it
unfoldable pub behind_colon_at : ℕ → List ℕ → Result (List ℕ) PlacedFault
behind_colon_at n [] = Err (fault_in_flow n [])
behind_colon_at n (b ∷ after) = if begins_colon (b ∷ after) then Ok after else Err (fault_in_flow n (b ∷ after))

module _ {A : Type 0} (n close : ℕ) (part : List A → List ℕ → Result (A × List ℕ) PlacedFault) where
  -- The parts up to the closing byte, after those before: fewer than so many.
  unfoldable pub parts_at : ℕ → List A → List ℕ → Result (List A × List ℕ) PlacedFault
  parts_at zero before text = fault_at Flow n 0
  parts_at (suc k) before text =
      if begins_with close text
      then (behind_close_at n text >>= λ rest. Ok (before, rest))
      else (part before text >>= λ p. parted_at n close p.1 >>= λ next. parts_at k (before ++ p.0 ∷ []) next)

  -- the parts after an opening byte; each has a byte, so they are no more than the bytes
  unfoldable pub between_at : List ℕ → Result (List A × List ℕ) PlacedFault
  between_at after = start_at n after >>= λ body. parts_at (suc (length body)) [] body

-- the pair at the front, after pairs with these keys
unfoldable pub flow_pair_at : ℕ → (List ℕ → Result (Node × List ℕ) PlacedFault) → List (List ℕ) → List ℕ
    → Result (Pair × List ℕ) PlacedFault
flow_pair_at n value keys text =
    word_at n true text
    >>= λ w. behind_colon_at n w.1
    >>= λ after.
    if is_among keys w.0
    then fault_at DuplicateKey n (length text)
    else (if nat_lt 1024 (characters (take (length text - length w.1) text))
    then fault_at NotInSubset n (length w.1)
    else (start_at n after >>= λ inner. value inner >>= λ v. Ok (record { line = n; key = w.0; value = v.0 }, v.1)))

-- a list, and a mapping, after its opening byte
unfoldable pub flow_list_at : ℕ → (List ℕ → Result (Node × List ℕ) PlacedFault) → List ℕ
    → Result (Node × List ℕ) PlacedFault
flow_list_at n value after = between_at n 93 (λ before. value) after >>= λ r. Ok (sequence n (nodes_of r.0), r.1)

unfoldable pub flow_mapping_at : ℕ → (List ℕ → Result (Node × List ℕ) PlacedFault) → List ℕ
    → Result (Node × List ℕ) PlacedFault
flow_mapping_at n value after = between_at n 125 (λ before. flow_pair_at n value (keys_of before)) after >>= λ r. Ok
    (mapping n (pairs_of r.0), r.1)

unfoldable pub bracketed_at : ℕ → (List ℕ → Result (Node × List ℕ) PlacedFault) → List ℕ
    → Result (Node × List ℕ) PlacedFault
bracketed_at n value [] = fault_at Flow n 0
bracketed_at n value (b ∷ after) =
    if b == 91
    then flow_list_at n value after
    else (if b == 123 then flow_mapping_at n value after else fault_at Flow n (length (b ∷ after)))

-- a value in a list or mapping
unfoldable pub flow_value_at : ℕ → (List ℕ → Result (Node × List ℕ) PlacedFault) → List ℕ
    → Result (Node × List ℕ) PlacedFault
flow_value_at n inner text = if begins_bracket text then inner text else
    (word_at n true text >>= λ w. Ok (scalar n w.0, w.1))

-- The list or mapping at the front of a text, and what comes after it and the blanks that follow it.
unfoldable pub flow_at : ℕ → ℕ → List ℕ → Result (Node × List ℕ) PlacedFault
flow_at zero n text = fault_at TooDeep n (length text)
flow_at (suc levels) n text = bracketed_at n (flow_value_at n (flow_at levels n)) text
