-- A text in quotes is what reading it from the left gives.
use Rattle.std.proofs.Common.{rules, ◌≡◌, ◌≢◌, ℕ, suc, ◌≤◌, ◌<◌, ◌-◌, ◌==◌, Bool, true, false, List, [], ◌∷◌, ◌++◌}
use Rattle.std.proofs.Common.{length, take, drop, get_or, Option, Some, Result, Ok, Err, refl, sym, ap, subst, ◌∙◌, inl}
use Rattle.std.{proofs.Common.{inr, arith, append_assoc}, specs.List.prefix_len}
use Rattle.std.proofs.lemmas.{Bool.{cases_Bool, both_ways, eqb-true, eq-eqb, ne_eqb}, List.append-nil}
use Rattle.yaml_subset.specs.declared.fault.TextFaultKind.TheVariants.{Quote}
use Rattle.yaml_subset.specs.{Placed.{fault_at, HaltsAs}, Quoted.{double_at, double_byte_at}}
use Rattle.yaml_subset.specs.declared.place.{PlacedFault.PlacedFault, Halt.Halt}
use Rattle.yaml_bytes.{specs.Results.◌>>=◌, proofs.{Steps.ok_is, TextLines.{none_at, after_first}}}
use Rattle.yaml_subset.specs.Quoted.{IsSingleByte, unescape, IsDoubleByte, is_itself_in_single, is_itself_in_double}
use Rattle.yaml_subset.specs.Quoted.{IsWrittenBy, begins_single, IsSingle, IsDouble, onto_value, single_at, escape_at}

-- ---- after bytes that were read

abbrev pub with_value : List ℕ → Result (List ℕ × List ℕ) PlacedFault → Result (List ℕ × List ℕ) PlacedFault
with_value front (Ok r) = Ok (front ++ r.0, r.1)
with_value front (Err f) = Err f

pub regroup : (front : List ℕ) (b : ℕ) (read : Result (List ℕ × List ℕ) PlacedFault)
    → with_value front (onto_value b read) ≡ with_value (front ++ b ∷ []) read
regroup front b x3 = search (rules, append_assoc)

-- ---- single quotes, byte for byte

pub begins_single-long : (text : List ℕ) → begins_single text ≡ true → 1 ≤ length text
begins_single-long x1 e = search rules

begins_single-first : (text : List ℕ) → begins_single text ≡ true → (get_or text 0 0 == 39) ≡ true
begins_single-first x1 e = search rules

pub single-ends : (n : ℕ) (b : ℕ) (bs : List ℕ) → (b == 39) ≡ true → begins_single bs ≡ false
    → single_at n (b ∷ bs) ≡ Ok ([], bs)
unfolding single_at
single-ends n b x3 e f = search rules

pub single-quote : (n : ℕ) (b c : ℕ) (cs : List ℕ) → (b == 39) ≡ true → (c == 39) ≡ true
    → single_at n (b ∷ c ∷ cs) ≡ onto_value 39 (single_at n cs)
unfolding single_at
single-quote n b c cs e f = rw (e, f) refl

pub single-other : (n : ℕ) (b : ℕ) (bs : List ℕ) → (b == 39) ≡ false
    → single_at n (b ∷ bs) ≡ onto_value b (single_at n bs)
unfolding single_at
single-other n b x3 e = search rules

-- ---- double quotes, byte for byte

pub double-ends : (n : ℕ) (b : ℕ) (bs : List ℕ) → (b == 34) ≡ true → double_at n (b ∷ bs) ≡ Ok ([], bs)
unfolding double_at
double-ends n b x3 e = search rules

double-other : (n : ℕ) (b : ℕ) (bs : List ℕ) → (b == 34) ≡ false → (b == 92) ≡ false
    → double_at n (b ∷ bs) ≡ onto_value b (double_at n bs)
unfolding double_at
double-other n b x3 f g = search rules

pub double-goes_on : (n : ℕ) (b : ℕ) (bs : List ℕ) → (b == 34) ≡ false
    → double_at n (b ∷ bs) ≡ (double_byte_at n (b ∷ bs) >>= λ r. onto_value r.0 (double_at n r.1))
unfolding double_at double_byte_at
double-goes_on n b [] e = search rules
double-goes_on n b (c ∷ cs) e = search rules

pub double_byte-shorter : (n : ℕ) (text : List ℕ) (byte : ℕ) (more : List ℕ) → double_byte_at n text ≡ Ok (byte, more)
    → length more < length text
unfolding double_byte_at
double_byte-shorter n x2 byte more e = search rules

-- ---- the loops: a value so far, and the rest of the text

abbrev behind : List ℕ → List ℕ
behind rest = take (length rest - 1) (drop 1 rest)

module _ (n : ℕ) (rest value : List ℕ) (total : Result (List ℕ × List ℕ) PlacedFault) where
  pub single_stops : with_value value (single_at n rest) ≡ total → 1 ≤ length rest → get_or rest 0 0 ≡ 39
      → begins_single (behind rest) ≡ false → total ≡ Ok (value, behind rest)
  single_stops so_far long quote ends = search (rules, after_first, single-ends, get_or, eq-eqb, append-nil)

  pub single_twice : with_value value (single_at n rest) ≡ total → 1 ≤ length rest → get_or rest 0 0 ≡ 39
      → begins_single (behind rest) ≡ true
      → with_value (value ++ get_or rest 0 0 ∷ []) (single_at n (behind (behind rest))) ≡ total
  single_twice so_far long quote again =
      sym (regroup value (get_or rest 0 0) (single_at n (behind (behind rest))))
      ∙ ap (λ b. with_value value (onto_value b (single_at n (behind (behind rest))))) quote
      ∙ ap (with_value value) (sym (single-quote n (get_or rest 0 0) (get_or (behind rest) 0 0) (behind (behind rest))
      (eq-eqb _ 39 quote) (begins_single-first (behind rest) again)))
      ∙ ap (λ xs. with_value value (single_at n (get_or rest 0 0 ∷ xs)))
      (sym (after_first (behind rest) (begins_single-long (behind rest) again)))
      ∙ ap (λ xs. with_value value (single_at n xs)) (sym (after_first rest long))
      ∙ so_far

  pub single_once : with_value value (single_at n rest) ≡ total → 1 ≤ length rest → get_or rest 0 0 ≢ 39
      → with_value (value ++ get_or rest 0 0 ∷ []) (single_at n (behind rest)) ≡ total
  single_once so_far long other = search (rules, regroup, get_or, single-other, ne_eqb, after_first)

  pub single_open : with_value value (single_at n rest) ≡ total → length rest < 1 → total ≡ fault_at Quote n 0
  unfolding single_at
  single_open so_far short = sym so_far ∙ ap (λ xs. with_value value (single_at n xs)) (none_at rest short)

  pub double_stops : with_value value (double_at n rest) ≡ total → 1 ≤ length rest → get_or rest 0 0 ≡ 34
      → total ≡ Ok (value, behind rest)
  double_stops so_far long quote = search (rules, after_first, double-ends, get_or, eq-eqb, append-nil)

  one_byte : 1 ≤ length rest → get_or rest 0 0 ≢ 34
      → double_at n rest ≡ (double_byte_at n rest >>= λ r. onto_value r.0 (double_at n r.1))
  one_byte long other = search (rules, after_first, double-goes_on, get_or, ne_eqb)

  pub double_once : with_value value (double_at n rest) ≡ total → 1 ≤ length rest → get_or rest 0 0 ≢ 34
      → (byte : ℕ) (more : List ℕ) → double_byte_at n rest ≡ Ok (byte, more)
      → with_value (value ++ byte ∷ []) (double_at n more) ≡ total
  double_once so_far long other byte more e = search (rules, one_byte, regroup)

  pub double_fails : with_value value (double_at n rest) ≡ total → 1 ≤ length rest → get_or rest 0 0 ≢ 34 → (e : Halt)
      → HaltsAs e (double_byte_at n rest) → HaltsAs e total
  double_fails so_far long other x4 h = search (rules, one_byte)

  pub double_open : with_value value (double_at n rest) ≡ total → length rest < 1 → total ≡ fault_at Quote n 0
  unfolding double_at
  double_open so_far short = sym so_far ∙ ap (λ xs. with_value value (double_at n xs)) (none_at rest short)

-- ---- the bytes at the front that are written as themselves

pub len_yes : (p : ℕ → Bool) (x : ℕ) (xs : List ℕ) → p x ≡ true → prefix_len p (x ∷ xs) ≡ suc (prefix_len p xs)
len_yes p x xs t = rw t (omega arith)

pub len_no : (p : ℕ → Bool) (x : ℕ) (xs : List ℕ) → p x ≡ false → prefix_len p (x ∷ xs) ≡ 0
len_no p x xs t = rw t refl

-- one byte more in front of those that were read
one_more : (p : ℕ → Bool) (b : ℕ) (bs after : List ℕ) (read : Result (List ℕ × List ℕ) PlacedFault) → p b ≡ true
    → read ≡ Ok (take (prefix_len p bs) bs, after)
    → onto_value b read ≡ Ok (take (prefix_len p (b ∷ bs)) (b ∷ bs), after)
one_more p b bs after read t e = ap (onto_value b) e ∙ ap (λ k. Ok (take k (b ∷ bs), after)) (sym (len_yes p b bs t))

-- none is in front of the quote
none_more : (p : ℕ → Bool) (b x : ℕ) (bs after : List ℕ) (read : Result (List ℕ × List ℕ) PlacedFault) → p b ≡ false
    → drop (prefix_len p (b ∷ bs)) (b ∷ bs) ≡ x ∷ after → read ≡ Ok ([], bs)
    → read ≡ Ok (take (prefix_len p (b ∷ bs)) (b ∷ bs), after)
none_more p b x bs after read f e is = search rules

single_front : (n : ℕ) (text : List ℕ) (x : ℕ) (after : List ℕ)
    → drop (prefix_len is_itself_in_single text) text ≡ x ∷ after → begins_single after ≡ false
    → single_at n text ≡ Ok (take (prefix_len is_itself_in_single text) text, after)
single_front n [] x after e ends = absurd cc
single_front n (b ∷ bs) x after e ends =
    elim (cases_Bool (b == 39)) [
      | inl t ↦
          let no : is_itself_in_single b ≡ false = rw t refl in
          let here : b ∷ bs ≡ x ∷ after = ap (λ k. drop k (b ∷ bs)) (sym (len_no is_itself_in_single b bs no)) ∙ e in
          none_more is_itself_in_single b x bs after (single_at n (b ∷ bs)) no e
          (single-ends n b bs t (ap (λ (xs : List ℕ). begins_single (drop 1 xs)) here ∙ ends))
      | inr f ↦
          let yes : is_itself_in_single b ≡ true = rw f refl in
          let below = single_front n bs x after
          (ap (λ k. drop k (b ∷ bs)) (sym (len_yes is_itself_in_single b bs yes)) ∙ e) ends in
          single-other n b bs f ∙ one_more is_itself_in_single b bs after (single_at n bs) yes below
    ]

double_front : (n : ℕ) (text after : List ℕ) → drop (prefix_len is_itself_in_double text) text ≡ 34 ∷ after
    → double_at n text ≡ Ok (take (prefix_len is_itself_in_double text) text, after)
double_front n [] after e = absurd cc
double_front n (b ∷ bs) after e =
    elim (cases_Bool (b == 34)) [
      | inl t ↦
          let no : is_itself_in_double b ≡ false = rw t refl in
          none_more is_itself_in_double b 34 bs after (double_at n (b ∷ bs)) no e (double-ends n b bs t)
      | inr f ↦ elim (cases_Bool (b == 92)) [
        | inl u ↦
            let no : is_itself_in_double b ≡ false = rw (f, u) refl in
            let here : b ∷ bs ≡ 34 ∷ after = ap (λ k. drop k (b ∷ bs)) (sym (len_no is_itself_in_double b bs no)) ∙ e in
            absurd (both_ways (b == 34) f (eq-eqb b 34 (ap (λ (xs : List ℕ). get_or xs 0 0) here)))
        | inr g ↦
            let yes : is_itself_in_double b ≡ true = rw (f, g) refl in
            let below = double_front n bs after
            (ap (λ k. drop k (b ∷ bs)) (sym (len_yes is_itself_in_double b bs yes)) ∙ e) in
            double-other n b bs f g ∙ one_more is_itself_in_double b bs after (double_at n bs) yes below
      ]
    ]

-- a text that is cut after those bytes
module _ (n : ℕ) (text front end : List ℕ) (len : ℕ) where
  pub single_cut : len ≡ prefix_len is_itself_in_single text → front ≡ take len text → end ≡ drop len text
      → 1 ≤ length end → begins_single (behind end) ≡ false → single_at n text ≡ Ok (front, behind end)
  single_cut is cut rest long ends =
      single_front n text (get_or end 0 0) (behind end)
      (ap (λ k. drop k text) (sym is) ∙ sym rest ∙ after_first end long) ends
      ∙ ap (λ k. Ok (take k text, behind end)) (sym is)
      ∙ ap (λ (xs : List ℕ). Ok (xs, behind end)) (sym cut)

  pub double_cut : len ≡ prefix_len is_itself_in_double text → front ≡ take len text → end ≡ drop len text
      → 1 ≤ length end → get_or end 0 0 ≡ 34 → double_at n text ≡ Ok (front, behind end)
  double_cut is cut rest long quote = search (rules, double_front, after_first)

-- ---- the value is written so

onto_ok : (b : ℕ) (read : Result (List ℕ × List ℕ) PlacedFault) (value after : List ℕ)
    → onto_value b read ≡ Ok (value, after) → (v : List ℕ) × (value ≡ b ∷ v) × (read ≡ Ok (v, after))
onto_ok b x2 value after e = search rules

escape_ok : (n : ℕ) (o : Option ℕ) (left : ℕ) (read : Result (List ℕ × List ℕ) PlacedFault) (value after : List ℕ)
    → escape_at n o left read ≡ Ok (value, after)
    → (b : ℕ) × (o ≡ Some b) × (v : List ℕ) × (value ≡ b ∷ v) × (read ≡ Ok (v, after))
escape_ok n x2 left read value after e = search rules

single_none : (n : ℕ) (b : ℕ) (bs value after : List ℕ) → (b == 39) ≡ true → begins_single bs ≡ false
    → single_at n (b ∷ bs) ≡ Ok (value, after) → IsSingle (b ∷ bs) value after
single_none n b bs value after t ends e = search (rules, ok_is, single-ends, eqb-true)

single_more : (b : ℕ) (bs v after : List ℕ) → (b == 39) ≡ false → IsSingle bs v after → IsSingle (b ∷ bs) (b ∷ v) after
single_more b bs v after f h = record {
  spelling = b ∷ h.spelling;
  is_written = (b ∷ [], h.spelling, refl, inr ((λ is. both_ways (b == 39) f (eq-eqb b 39 is)), refl), h.is_written);
  parts = ap (λ (xs : List ℕ). b ∷ xs) h.parts;
  ends = h.ends;
}

single_doubled : (b c : ℕ) (cs v after : List ℕ) → (b == 39) ≡ true → (c == 39) ≡ true → IsSingle cs v after
    → IsSingle (b ∷ c ∷ cs) (39 ∷ v) after
single_doubled b c cs v after t u h = record {
  spelling = 39 ∷ 39 ∷ h.spelling;
  is_written = (39 ∷ 39 ∷ [], h.spelling, refl, inl (refl, refl), h.is_written);
  parts = ap (λ x. x ∷ c ∷ cs) (eqb-true b 39 t) ∙ ap (λ x. 39 ∷ x ∷ cs) (eqb-true c 39 u)
      ∙ ap (λ (xs : List ℕ). 39 ∷ 39 ∷ xs) h.parts;
  ends = h.ends;
}

pub single_sound : (n : ℕ) (text value after : List ℕ) → single_at n text ≡ Ok (value, after)
    → IsSingle text value after
unfolding single_at
single_sound n [] value after e = absurd cc
single_sound n (b ∷ []) value after e = search rules
single_sound n (b ∷ c ∷ cs) value after e =
    elim (cases_Bool (b == 39)) [
      | inl t ↦ elim (cases_Bool (c == 39)) [
        | inl u ↦
            let p = onto_ok 39 (single_at n cs) value after (sym (single-quote n b c cs t u) ∙ e) in
            subst (λ xs. IsSingle (b ∷ c ∷ cs) xs after) (sym p.1)
            (single_doubled b c cs p.0 after t u (single_sound n cs p.0 after p.2))
        | inr g ↦ single_none n b (c ∷ cs) value after t g e
      ]
      | inr f ↦
          let p = onto_ok b (single_at n (c ∷ cs)) value after (sym (single-other n b (c ∷ cs) f) ∙ e) in
          subst (λ xs. IsSingle (b ∷ c ∷ cs) xs after) (sym p.1)
          (single_more b (c ∷ cs) p.0 after f (single_sound n (c ∷ cs) p.0 after p.2))
    ]

single_reads : (n : ℕ) (value spelling after : List ℕ) → IsWrittenBy IsSingleByte value spelling
    → begins_single after ≡ false → single_at n (spelling ++ 39 ∷ after) ≡ Ok (value, after)
single_reads n [] spelling after is ends = ap (λ (w : List ℕ). single_at n (w ++ 39 ∷ after)) is
    ∙ single-ends n 39 after refl ends
single_reads n (b ∷ bs) spelling after is ends =
    let front = is.0 in
    let rest = is.1 in
    let below = single_reads n bs rest after is.4 ends in
    elim is.3 [
      | inl p ↦
          ap (λ (w : List ℕ). single_at n (w ++ 39 ∷ after)) (is.2 ∙ ap (λ (f : List ℕ). f ++ rest) p.1)
          ∙ single-quote n 39 39 (rest ++ 39 ∷ after) refl refl
          ∙ ap (onto_value 39) below
          ∙ ap (λ x. Ok (x ∷ bs, after)) (sym p.0)
      | inr p ↦
          ap (λ (w : List ℕ). single_at n (w ++ 39 ∷ after)) (is.2 ∙ ap (λ (f : List ℕ). f ++ rest) p.1)
          ∙ single-other n b (rest ++ 39 ∷ after) (ne_eqb b 39 p.0)
          ∙ ap (onto_value b) below
    ]

pub single_complete : (n : ℕ) (text value after : List ℕ) → IsSingle text value after
    → single_at n text ≡ Ok (value, after)
single_complete n text value after h = ap (single_at n) h.parts
    ∙ single_reads n value h.spelling after h.is_written h.ends

double_none : (n : ℕ) (b : ℕ) (bs value after : List ℕ) → (b == 34) ≡ true → double_at n (b ∷ bs) ≡ Ok (value, after)
    → IsDouble (b ∷ bs) value after
double_none n b bs value after t e = search (rules, ok_is, double-ends, eqb-true)

double_more : (b : ℕ) (bs v after : List ℕ) → (b == 34) ≡ false → (b == 92) ≡ false → IsDouble bs v after
    → IsDouble (b ∷ bs) (b ∷ v) after
double_more b bs v after f g h = record {
  spelling = b ∷ h.spelling;
  is_written = (
    b ∷ [],
    h.spelling,
    refl,
    inl (
      (λ is. both_ways (b == 34) f (eq-eqb b 34 is)),
      (λ is. both_ways (b == 92) g (eq-eqb b 92 is)),
      refl,
    ),
    h.is_written,
  );
  parts = ap (λ (xs : List ℕ). b ∷ xs) h.parts;
}

double_escaped : (b c x : ℕ) (cs v after : List ℕ) → (b == 92) ≡ true → unescape c ≡ Some x → IsDouble cs v after
    → IsDouble (b ∷ c ∷ cs) (x ∷ v) after
double_escaped b c x cs v after t u h = record {
  spelling = 92 ∷ c ∷ h.spelling;
  is_written = (92 ∷ c ∷ [], h.spelling, refl, inr (c, u, refl), h.is_written);
  parts = ap (λ y. y ∷ c ∷ cs) (eqb-true b 92 t) ∙ ap (λ (xs : List ℕ). 92 ∷ c ∷ xs) h.parts;
}

double-escape : (n : ℕ) (b c : ℕ) (cs : List ℕ) → (b == 34) ≡ false → (b == 92) ≡ true
    → double_at n (b ∷ c ∷ cs) ≡ escape_at n (unescape c) (length (b ∷ c ∷ cs)) (double_at n cs)
unfolding double_at
double-escape n b c cs f t = rw (f, t) refl

pub double_sound : (n : ℕ) (text value after : List ℕ) → double_at n text ≡ Ok (value, after)
    → IsDouble text value after
unfolding double_at
double_sound n [] value after e = absurd cc
double_sound n (b ∷ []) value after e = search rules
double_sound n (b ∷ c ∷ cs) value after e =
    elim (cases_Bool (b == 34)) [
      | inl t ↦ double_none n b (c ∷ cs) value after t e
      | inr f ↦ elim (cases_Bool (b == 92)) [
        | inl u ↦
            let p = escape_ok n (unescape c) (length (b ∷ c ∷ cs)) (double_at n cs) value after
            (sym (double-escape n b c cs f u) ∙ e) in
            subst (λ xs. IsDouble (b ∷ c ∷ cs) xs after) (sym p.3)
            (double_escaped b c p.0 cs p.2 after u p.1 (double_sound n cs p.2 after p.4))
        | inr g ↦
            let p = onto_ok b (double_at n (c ∷ cs)) value after (sym (double-other n b (c ∷ cs) f g) ∙ e) in
            subst (λ xs. IsDouble (b ∷ c ∷ cs) xs after) (sym p.1)
            (double_more b (c ∷ cs) p.0 after f g (double_sound n (c ∷ cs) p.0 after p.2))
      ]
    ]

double_reads : (n : ℕ) (value spelling after : List ℕ) → IsWrittenBy IsDoubleByte value spelling
    → double_at n (spelling ++ 34 ∷ after) ≡ Ok (value, after)
double_reads n [] spelling after is = ap (λ (w : List ℕ). double_at n (w ++ 34 ∷ after)) is
    ∙ double-ends n 34 after refl
double_reads n (b ∷ bs) spelling after is =
    let front = is.0 in
    let rest = is.1 in
    let below = double_reads n bs rest after is.4 in
    elim is.3 [
      | inl p ↦
          ap (λ (w : List ℕ). double_at n (w ++ 34 ∷ after)) (is.2 ∙ ap (λ (f : List ℕ). f ++ rest) p.2)
          ∙ double-other n b (rest ++ 34 ∷ after) (ne_eqb b 34 p.0) (ne_eqb b 92 p.1)
          ∙ ap (onto_value b) below
      | inr p ↦
          ap (λ (w : List ℕ). double_at n (w ++ 34 ∷ after)) (is.2 ∙ ap (λ (f : List ℕ). f ++ rest) p.2)
          ∙ double-escape n 92 p.0 (rest ++ 34 ∷ after) refl refl
          ∙ ap (λ o. escape_at n o (length (92 ∷ p.0 ∷ (rest ++ 34 ∷ after))) (double_at n (rest ++ 34 ∷ after))) p.1
          ∙ ap (onto_value b) below
    ]

pub double_complete : (n : ℕ) (text value after : List ℕ) → IsDouble text value after
    → double_at n text ≡ Ok (value, after)
double_complete n text value after h = ap (double_at n) h.parts ∙ double_reads n value h.spelling after h.is_written
