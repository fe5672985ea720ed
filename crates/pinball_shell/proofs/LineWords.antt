-- The first word of a line, and the words after it.
use Rattle.std.proofs.Common.{rules, ◌≡◌, ℕ, ◌+◌, ◌<◌, Bool, true, not, cond, nat_lt, Some, None, List, [], ◌∷◌, length}
use Rattle.std.proofs.Common.{take, drop, get_or, position, filter, refl, ap, sym, ◌∙◌, subst, arith, inl, inr}
use Rattle.std.proofs.Common.{add-zero, one-add, get_or-drop, length-take, length-drop}
use Rattle.std.{specs.List.{position_or_len, slice_split}, proofs.lemmas.Bool.{cases_lt, cond-true, lt-ltb}}
use Rattle.std.proofs.lemmas.List.Splits.{slice_split_first, slice_split_none, slice_split-cons_yes}
use Rattle.std.proofs.lemmas.List.{drop_more, take_all, drop_all, Sums.{passes_at_first, prefix_len-le-length}}
use Rattle.yaml_bytes.specs.Bytes.{is_blank}
use Rattle.pinball_shell.{specs.LogText.words, proofs.{FirstPlace.{place_some, place_none}, TextLines.none_passes}}

abbrev pub is_filled : List ℕ → Bool
is_filled w = nat_lt 0 (length w)

-- a blank at the front parts nothing
words-blank : (b : ℕ) (bs : List ℕ) → is_blank b ≡ true → words (b ∷ bs) ≡ words bs
words-blank b bs h = ap (filter is_filled) (slice_split-cons_yes is_blank b bs h)

abbrev is_word_byte : ℕ → Bool
is_word_byte b = not (is_blank b)

skip-cons : (b : ℕ) (bs : List ℕ) (t : Bool) → is_blank b ≡ t
    → words bs ≡ words (drop (position_or_len is_word_byte bs) bs)
    → words (b ∷ bs) ≡ words (drop (cond (not (not t)) (1 + position_or_len is_word_byte bs) 0) (b ∷ bs))
skip-cons b bs x3 h more = search (rules, words-blank, one-add)

-- nor do those before the first word
words-skip : (bs : List ℕ) → words bs ≡ words (drop (position_or_len is_word_byte bs) bs)
words-skip [] = refl
words-skip (b ∷ bs) = skip-cons b bs (is_blank b) refl (words-skip bs)

pub words-none : (text : List ℕ) → position is_word_byte text ≡ None → words text ≡ []
words-none text h = words-skip text ∙ ap words
    (drop_all (position_or_len is_word_byte text) text (place_none is_word_byte text h))

pub filter-word : (w : List ℕ) (parts : List (List ℕ)) → 0 < length w
    → filter is_filled (w ∷ parts) ≡ w ∷ filter is_filled parts
filter-word w parts h = cond-true (is_filled w) (w ∷ filter is_filled parts) (filter is_filled parts)
    (lt-ltb 0 (length w) h)

-- a text that begins with a word
words-word : (text : List ℕ) → 0 < position_or_len is_blank text
    → words text ≡ take (position_or_len is_blank text) text ∷ words (drop (position_or_len is_blank text) text)
words-word text h =
    let n = position_or_len is_blank text in
    elim (cases_lt n (length text)) [
      | inl l ↦
          let word = filter-word (take n text) (slice_split is_blank (drop (n + 1) text))
          (omega (arith, length-take n text)) in
          let rest : words (drop n text) ≡ words (drop (n + 1) text) = ap words (drop_more text n 0 l)
          ∙ words-blank (get_or text n 0) (drop (n + 1) text) (passes_at_first is_blank text 0 l) in
          ap (filter is_filled) (slice_split_first is_blank text 0 l) ∙ word
          ∙ ap (λ (ws : List (List ℕ)). take n text ∷ ws) (sym rest)
      | inr l ↦
          let alone = ap (filter is_filled) (slice_split_none is_blank text (none_passes is_blank text l)) in
          let word : filter is_filled (text ∷ []) ≡ text ∷ [] =
          filter-word text [] (omega (arith, prefix_len-le-length is_word_byte text)) in
          let rest : words (drop n text) ≡ [] = ap words (drop_all n text l) in
          alone ∙ word ∙ sym (ap (λ (ws : List (List ℕ)). take n text ∷ ws) rest
          ∙ ap (λ (w : List ℕ). w ∷ []) (take_all n text l))
    ]

-- a text that begins with no blank begins with a word
word_first : (text : List ℕ) → 0 < length text → is_word_byte (get_or text 0 0) ≡ true
    → 0 < position_or_len is_blank text
word_first [] h k = absurd (omega arith)
word_first (b ∷ bs) h k = go (is_blank b) k
  where
    go : (t : Bool) → not t ≡ true → 0 < cond (not t) (1 + position_or_len is_blank bs) 0
    go x1 e = search rules

pub words-some : (text : List ℕ) (n len : ℕ) → position is_word_byte text ≡ Some n
    → len ≡ position_or_len is_blank (drop n text)
    → words text ≡ take len (drop n text) ∷ words (drop len (drop n text))
words-some text n len h is =
    let (at, within) = place_some is_word_byte text n h in
    let first : is_word_byte (get_or text n 0) ≡ true =
    subst (λ (k : ℕ). is_word_byte (get_or text k 0) ≡ true) at (passes_at_first is_word_byte text 0 within) in
    let here : is_word_byte (get_or (drop n text) 0 0) ≡ true =
    subst (λ (d : ℕ). is_word_byte d ≡ true)
    (sym (get_or-drop n text 0 0 ∙ ap (λ (k : ℕ). get_or text k 0) (add-zero n))) first in
    let some : 0 < length (drop n text) = omega (arith, length-drop n text, at, within) in
    let skipped : words text ≡ words (drop n text) = words-skip text ∙ ap (λ (k : ℕ). words (drop k text)) at in
    skipped ∙ subst (λ (k : ℕ). words (drop n text) ≡ take k (drop n text) ∷ words (drop k (drop n text))) (sym is)
    (words-word (drop n text) (word_first (drop n text) some here))

-- the same, for a text that was cut twice
pub words-cut : (text word_on word rest : List ℕ) (n len : ℕ) → position is_word_byte text ≡ Some n
    → word_on ≡ drop n text → len ≡ position_or_len is_blank word_on → word ≡ take len word_on → rest ≡ drop len word_on
    → words text ≡ word ∷ words rest
words-cut text word_on word rest n len h on is front back = search (rules, words-some)
