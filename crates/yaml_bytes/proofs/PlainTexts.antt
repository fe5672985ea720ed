-- The plain text at the front of a line is what reading it from the left gives.
use Rattle.std.proofs.Common.{rules, ◌≡◌, ℕ, zero, suc, ◌<◌, ◌≤◌, Bool, true, false, List, [], ◌∷◌, ◌++◌, length, drop}
use Rattle.std.proofs.Common.{get_or, refl, sym, ap, subst, ◌∙◌, inl, inr, arith, append_assoc, length-take-le}
use Rattle.std.proofs.{Common.take-append-drop, Math.Seq.{take-append_seam, drop-append_seam}}
use Rattle.std.{proofs.lemmas.{Bool.{cases_Bool, cases_lt, both_ways}, List.append-nil}, specs.List.prefix_len}
use Rattle.yaml_bytes.specs.{Bytes.{is_blank, begins_blank, begins_word}, Plain.IsPlainWord}
use Rattle.yaml_bytes.specs.Plain.{AreBlank, IsBehindBlanks, ends_word, ends_word_at, IsWordEnd, EndsInNoBlank}
use Rattle.yaml_bytes.specs.Scanning.{word_len, onto_trimmed, trim_blanks, behind_blanks, word_front, word_rest}
use Rattle.yaml_bytes.proofs.Trimming.{last_split, trimmed-blank, trimmed_all}

-- ---- where a plain word ends

-- whether it ends at the place n, behind a byte
abbrev ends_from : Bool → ℕ → List ℕ → ℕ → Bool
ends_from flow before text n = ends_word flow (get_or (before ∷ text) n 0) (drop n text)

here_step : (flow : Bool) (before b : ℕ) (bs : List ℕ) (e : Bool) → ends_word flow before (b ∷ bs) ≡ e
    → ends_from flow b bs (word_len flow b bs) ≡ true
    → ends_from flow before (b ∷ bs) (word_len flow before (b ∷ bs)) ≡ true
here_step flow before b bs true e h = rw e e
here_step flow before b bs false e h = rw e h

here : (flow : Bool) (before : ℕ) (text : List ℕ) → ends_from flow before text (word_len flow before text) ≡ true
here flow before [] = refl
here flow before (b ∷ bs) = here_step flow before b bs (ends_word flow before (b ∷ bs)) refl (here flow b bs)

len_yes : (flow : Bool) (before b : ℕ) (bs : List ℕ) → ends_word flow before (b ∷ bs) ≡ true
    → word_len flow before (b ∷ bs) ≡ 0
len_yes flow before b bs e = rw e refl

len_no : (flow : Bool) (before b : ℕ) (bs : List ℕ) → ends_word flow before (b ∷ bs) ≡ false
    → word_len flow before (b ∷ bs) ≡ suc (word_len flow b bs)
len_no flow before b bs e = rw e refl

not_before : (flow : Bool) (before : ℕ) (text : List ℕ) (k : ℕ) → k < word_len flow before text
    → ends_from flow before text k ≡ false
not_before flow before [] k h = absurd (omega arith)
not_before flow before (b ∷ bs) zero h =
    elim (cases_Bool (ends_word flow before (b ∷ bs))) [
      | inl t ↦ let z = len_yes flow before b bs t in absurd (omega arith)
      | inr f ↦ f
    ]
not_before flow before (b ∷ bs) (suc k) h =
    elim (cases_Bool (ends_word flow before (b ∷ bs))) [
      | inl t ↦ let z = len_yes flow before b bs t in absurd (omega arith)
      | inr f ↦ let z = len_no flow before b bs f in not_before flow b bs k (omega arith)
    ]

pub word_len-le : (flow : Bool) (before : ℕ) (text : List ℕ) → word_len flow before text ≤ length text
word_len-le flow before [] = omega arith
word_len-le flow before (b ∷ bs) =
    let below = word_len-le flow b bs in
    elim (cases_Bool (ends_word flow before (b ∷ bs))) [
      | inl t ↦ let z = len_yes flow before b bs t in omega arith
      | inr f ↦ let z = len_no flow before b bs f in omega arith
    ]

pub word_end : (flow : Bool) (text : List ℕ) → IsWordEnd flow text (word_len flow 32 text)
word_end flow text = record { here = here flow 32 text; not_before = not_before flow 32 text }

pub word_end-is : (flow : Bool) (text : List ℕ) (n : ℕ) → IsWordEnd flow text n → n ≡ word_len flow 32 text
word_end-is flow text n h =
    elim (cases_lt n (word_len flow 32 text)) [
      | inl less ↦ absurd (both_ways (ends_word_at flow text n) (not_before flow 32 text n less) h.here)
      | inr le ↦ elim (cases_lt (word_len flow 32 text) n) [
        | inl more ↦ absurd (both_ways (ends_word_at flow text (word_len flow 32 text))
            (h.not_before (word_len flow 32 text) more) (here flow 32 text))
        | inr ge ↦ omega arith
      ]
    ]

-- ---- blanks at the end

push_is_no_nil : (front : List ℕ) (b : ℕ) → [] ≡ front ++ b ∷ [] → ⊥
push_is_no_nil [] b e = absurd cc
push_is_no_nil (f ∷ fs) b e = absurd cc

trimmed_step : (x : ℕ) (xs ts : List ℕ) → trim_blanks xs ≡ ts → (blanks : List ℕ) → AreBlank blanks → xs ≡ ts ++ blanks
    → (more : List ℕ) × AreBlank more × (x ∷ xs ≡ onto_trimmed x ts ++ more)
trimmed_step x xs [] e blanks are parts =
    elim (cases_Bool (is_blank x)) [
      | inl t ↦ (x ∷ blanks, (t, are), rw t (ap (λ (ys : List ℕ). x ∷ ys) parts))
      | inr f ↦ (blanks, are, rw f (ap (λ (ys : List ℕ). x ∷ ys) parts))
    ]
trimmed_step x xs (t ∷ ts) e blanks are parts = (blanks, are, ap (λ (ys : List ℕ). x ∷ ys) parts)

pub trimmed_parts : (xs : List ℕ) → (blanks : List ℕ) × AreBlank blanks × (xs ≡ trim_blanks xs ++ blanks)
trimmed_parts [] = ([], tt, refl)
trimmed_parts (x ∷ xs) = let r = trimmed_parts xs in trimmed_step x xs (trim_blanks xs) refl r.0 r.1 r.2

one_end : (x : ℕ) (front : List ℕ) (b : ℕ) → is_blank x ≡ false → x ∷ [] ≡ front ++ b ∷ [] → is_blank b ≡ false
one_end x [] b f e = let same : x ≡ b = cc in subst (λ y. is_blank y ≡ false) same f
one_end x (g ∷ gs) b f e = let more : [] ≡ gs ++ b ∷ [] = cc in absurd (push_is_no_nil gs b more)

onto_ends : (x : ℕ) (ts : List ℕ) → EndsInNoBlank ts → EndsInNoBlank (onto_trimmed x ts)
onto_ends x [] h front b e = search (rules, cases_Bool, push_is_no_nil, one_end)
onto_ends x (t ∷ ts) h [] b e = absurd cc
onto_ends x (t ∷ ts) h (f ∷ fs) b e = let k : t ∷ ts ≡ fs ++ b ∷ [] = cc in h fs b k

pub trimmed_ends : (xs : List ℕ) → EndsInNoBlank (trim_blanks xs)
trimmed_ends [] = λ front b e. absurd (push_is_no_nil front b e)
trimmed_ends (x ∷ xs) = onto_ends x (trim_blanks xs) (trimmed_ends xs)

pub trimmed-blanks : (xs blanks : List ℕ) → AreBlank blanks → trim_blanks (xs ++ blanks) ≡ trim_blanks xs
trimmed-blanks xs [] h = ap trim_blanks (append-nil xs)
trimmed-blanks xs (b ∷ bs) h = ap trim_blanks (sym (append_assoc xs (b ∷ []) bs)) ∙ trimmed-blanks (xs ++ b ∷ []) bs h.1
    ∙ trimmed-blank xs b h.0

trimmed_same : (xs : List ℕ) → EndsInNoBlank xs → trim_blanks xs ≡ xs
trimmed_same [] h = refl
trimmed_same (x ∷ xs) h =
    let long : 1 ≤ length (x ∷ xs) = omega arith in
    trimmed_all (x ∷ xs) long (h _ _ (sym (last_split (x ∷ xs) long)))

pub trimmed_is : (plain blanks : List ℕ) → AreBlank blanks → EndsInNoBlank plain → trim_blanks (plain ++ blanks) ≡ plain
trimmed_is plain blanks are h = trimmed-blanks plain blanks are ∙ trimmed_same plain h

-- ---- blanks at the front

behind_blank : (b : ℕ) (bs : List ℕ) → is_blank b ≡ true → behind_blanks (b ∷ bs) ≡ behind_blanks bs
behind_blank b bs t = let e : prefix_len is_blank (b ∷ bs) ≡ suc (prefix_len is_blank bs) = rw t (omega arith)
    in ap (λ n. drop n (b ∷ bs)) e

behind_other : (b : ℕ) (bs : List ℕ) → is_blank b ≡ false → behind_blanks (b ∷ bs) ≡ b ∷ bs
behind_other b bs f = rw f refl

pub is_behind_blanks : (text : List ℕ) → IsBehindBlanks text (behind_blanks text)
is_behind_blanks [] = record { blanks = []; are_blank = tt; parts = refl; no_more = refl }
is_behind_blanks (b ∷ bs) =
    elim (cases_Bool (is_blank b)) [
      | inl t ↦ let r = is_behind_blanks bs
          in rw (behind_blank b bs t) (record {
            blanks = b ∷ r.blanks;
            are_blank = (t, r.are_blank);
            parts = ap (λ (xs : List ℕ). b ∷ xs) r.parts;
            no_more = r.no_more;
          })
      | inr f ↦ rw (behind_other b bs f) (record { blanks = []; are_blank = tt; parts = refl; no_more = f })
    ]

pub no_blanks : (rest : List ℕ) → begins_blank rest ≡ false → behind_blanks rest ≡ rest
no_blanks x1 h = search rules

-- blanks in front of a text are dropped
pub in_front : (blanks text : List ℕ) → AreBlank blanks → behind_blanks (blanks ++ text) ≡ behind_blanks text
in_front [] text are = refl
in_front (b ∷ bs) text are = behind_blank b (bs ++ text) are.0 ∙ in_front bs text are.1

pub behind_blanks-is : (text rest : List ℕ) → IsBehindBlanks text rest → behind_blanks text ≡ rest
behind_blanks-is text rest h = ap behind_blanks h.parts ∙ in_front h.blanks rest h.are_blank ∙ no_blanks rest h.no_more

-- ---- both together

pub plain_word : (flow : Bool) (text : List ℕ) → begins_word flow text ≡ true
    → (blanks : List ℕ) × IsPlainWord flow text (trim_blanks (word_front flow text)) blanks (word_rest flow text)
    × (word_front flow text ≡ trim_blanks (word_front flow text) ++ blanks)
plain_word flow text begins =
    let front = word_front flow text in
    let r = trimmed_parts front in
    let len : length (trim_blanks front ++ r.0) ≡ word_len flow 32 text = ap length (sym r.2)
    ∙ length-take-le (word_len flow 32 text) text (word_len-le flow 32 text) in
    let whole : text ≡ trim_blanks front ++ (r.0 ++ word_rest flow text) =
    sym (take-append-drop (word_len flow 32 text) text) ∙ ap (λ (xs : List ℕ). xs ++ word_rest flow text) r.2
    ∙ append_assoc (trim_blanks front) r.0 (word_rest flow text) in (
      r.0,
      record {
        begins = begins;
        parts = whole;
        ends = subst (IsWordEnd flow text) (sym len) (word_end flow text);
        are_blank = r.1;
        no_more = trimmed_ends front;
      },
      r.2,
    )

pub plain_word-is : (flow : Bool) (text plain blanks rest : List ℕ) → IsPlainWord flow text plain blanks rest
    → (word_front flow text ≡ plain ++ blanks) × (word_rest flow text ≡ rest) × (trim_blanks (plain ++ blanks) ≡ plain)
plain_word-is flow text plain blanks rest h =
    search (rules, word_end-is, append_assoc, take-append_seam, drop-append_seam, trimmed_is)
