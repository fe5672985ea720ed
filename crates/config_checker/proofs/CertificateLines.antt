-- What the first line of a text says, and what it leaves.
use Rattle.std.proofs.Common.{rules, ◌≡◌, ℕ, ◌+◌, ◌-◌, ◌<◌, ◌≤◌, ◌==◌, nat_lt, Bool, true, false, cond, Option, Some}
use Rattle.std.proofs.Common.{None, Err, List, [], ◌∷◌, ◌++◌, length, take, drop, position, codes, refl, sym, ap, ◌∙◌}
use Rattle.std.proofs.Common.{append_assoc, length-append, ◌&&◌, arith}
use Rattle.std.specs.{List.{position_or_len, join_with_byte, list_all}, Str.bytes_eq}
use Rattle.std.proofs.lemmas.Bool.{cond-true, ltb-true, ltb-false, ne_eqb}
use Rattle.std.proofs.lemmas.{Option.cond_some, List.Splits.join_with_byte-slice_split}
use Rattle.std.proofs.lemmas.List.{take_all, length-drop, append-nil, Sums.fails_before_first}
use Rattle.std.proofs.lemmas.List.Splits.{slice_split_first, slice_split_none, length-slice_split}
use Rattle.config_checker.{specs.CertificateText.NumberedName, proofs.Numerals.{no_number, not_in_digits}}
use Rattle.config_checker.specs.CertificateOf.{is_in_word, number_in, parts, has_switches, bound_by, bound_in}
use Rattle.config_checker.specs.CertificateOf.{named_number, numbered_by, numbered_in, with_line, front, is_end}
use Rattle.config_checker.specs.CertificateOf.{with_bound, bound_at, with_heading, heading_at, certificate_at}

-- ---- where a text is cut

module _ (end : ℕ) (text : List ℕ) where
  pub some_parts : 0 < length (parts end text)
  some_parts = omega (arith, length-slice_split (λ b. b == end) text)

  pub cut_at : (place : ℕ) → position (λ b. b == end) text ≡ Some place
      → parts end text ≡ take place text ∷ parts end (take (length text - (place + 1)) (drop (place + 1) text))
  cut_at place h = search (rules, cond_some, nat_lt, take_all, length-drop, slice_split_first, ltb-true)

  pub not_cut : position (λ b. b == end) text ≡ None → parts end text ≡ text ∷ []
  not_cut h =
      let past = ltb-false (position_or_len (λ b. b == end) text) (length text)
      (cond_none (nat_lt (position_or_len (λ b. b == end) text) (length text))
      (position_or_len (λ b. b == end) text) h) in
      slice_split_none (λ b. b == end) text (λ i d l. fails_before_first (λ b. b == end) text i d (omega (arith, past)))
    where
      cond_none : (t : Bool) (n : ℕ) → cond t (Some n) None ≡ None → t ≡ false
      cond_none x1 n h = search rules

-- ---- lines

heading-more : (line : List ℕ) (ps : List (List ℕ)) → 0 < length ps
    → heading_at (line ∷ ps) ≡ with_heading (has_switches line) ps
heading-more line x2 h = search rules

bound-more : (version : Bool) (line : List ℕ) (ps : List (List ℕ)) → 0 < length ps
    → bound_at version (line ∷ ps) ≡ with_bound version (bound_in line) ps
bound-more version line x3 h = search rules

front-more : (word line : List ℕ) (ps : List (List ℕ)) → 0 < length ps
    → front word (line ∷ ps) ≡ with_line (numbered_in word line) (line ∷ ps) (front word ps)
front-more word line x3 h = search rules

module _ (text : List ℕ) (whole : parts 10 text ≡ text ∷ []) where
  pub no_heading : certificate_at text ≡ Err 1
  unfolding certificate_at
  no_heading = ap heading_at whole

  pub no_front : (word : List ℕ) → front word (parts 10 text) ≡ ([], parts 10 text)
  no_front word = ap (front word) whole ∙ ap (λ (ps : List (List ℕ)). ([], ps)) (sym whole)

module _ (text line rest : List ℕ) (first : parts 10 text ≡ line ∷ parts 10 rest) where
  pub heading_first : certificate_at text ≡ with_heading (has_switches line) (parts 10 rest)
  unfolding certificate_at
  heading_first = ap heading_at first ∙ heading-more line (parts 10 rest) (some_parts 10 rest)

  pub bound_first : (version : Bool) → bound_at version (parts 10 text)
      ≡ with_bound version (bound_in line) (parts 10 rest)
  bound_first version = ap (bound_at version) first ∙ bound-more version line (parts 10 rest) (some_parts 10 rest)

  pub front_first : (word : List ℕ) → front word (parts 10 text)
      ≡ with_line (numbered_in word line) (parts 10 text) (front word (parts 10 rest))
  front_first word = search (rules, front-more, some_parts)

-- ---- words

none_anyway : {A : Type 0} (t : Bool) → cond {A = Option A} t None None ≡ None
none_anyway x1 = search rules

only : (text last : List ℕ) → parts 32 text ≡ last ∷ [] → last ≡ text
only text last e = sym (ap (join_with_byte 32) e) ∙ join_with_byte-slice_split 32 text

-- a number has no blank in it
no_number_with_blank : (word a b : List ℕ) (more : List (List ℕ)) → parts 32 word ≡ a ∷ b ∷ more → number_in word ≡ None
no_number_with_blank word a b more e = search (rules, no_number, slice_split_none, not_in_digits)

module _ (word number : List ℕ) where
  abbrev bound_of_words : Option ℕ → Option ℕ
  bound_of_words n = cond (bytes_eq word (codes "bound")) n None

  bound_by_two : (ps : List (List ℕ)) → parts 32 number ≡ ps → bound_by (word ∷ ps) ≡ bound_of_words (number_in number)
  bound_by_two [] e = absurd (omega (arith, some_parts 32 number, ap length e))
  bound_by_two (last ∷ []) e = ap (λ (w : List ℕ). bound_of_words (number_in w)) (only number last e)
  bound_by_two (a ∷ b ∷ more) e = sym (ap bound_of_words (no_number_with_blank number a b more e)
      ∙ none_anyway (bytes_eq word (codes "bound")))

  pub bound_of_two : (line : List ℕ) → parts 32 line ≡ word ∷ parts 32 number
      → bound_in line ≡ bound_of_words (number_in number)
  bound_of_two line e = ap bound_by e ∙ bound_by_two (parts 32 number) refl

module _ (word first name number : List ℕ) where
  abbrev numbered_of_words : Option ℕ → Option (List ℕ × ℕ)
  numbered_of_words n = cond (bytes_eq first word) (named_number name n) None

  no_number_of_words : numbered_of_words None ≡ None
  no_number_of_words = ap (λ (o : Option (List ℕ × ℕ)). cond (bytes_eq first word) o None)
      (none_anyway (nat_lt 0 (length name) && list_all is_in_word name)) ∙ none_anyway (bytes_eq first word)

  numbered_by_three : (ps : List (List ℕ)) → parts 32 number ≡ ps
      → numbered_by word (first ∷ name ∷ ps) ≡ numbered_of_words (number_in number)
  numbered_by_three [] e = absurd (omega (arith, some_parts 32 number, ap length e))
  numbered_by_three (last ∷ []) e = ap (λ (w : List ℕ). numbered_of_words (number_in w)) (only number last e)
  numbered_by_three (a ∷ b ∷ more) e = sym (ap numbered_of_words (no_number_with_blank number a b more e)
      ∙ no_number_of_words)

  pub numbered_of_three : (line rest : List ℕ) → parts 32 line ≡ first ∷ parts 32 rest
      → parts 32 rest ≡ name ∷ parts 32 number → numbered_in word line ≡ numbered_of_words (number_in number)
  numbered_of_three line rest e f = ap (numbered_by word) e
      ∙ ap (λ (ps : List (List ℕ)). numbered_by word (first ∷ ps)) f ∙ numbered_by_three (parts 32 number) refl

  module _ (line rest : List ℕ) (before : parts 32 line ≡ first ∷ parts 32 rest)
      (second : parts 32 rest ≡ name ∷ parts 32 number) where
    pub numbered_read : bytes_eq first word ≡ true → (nat_lt 0 (length name) && list_all is_in_word name) ≡ true
        → (n : ℕ) → number_in number ≡ Some n → numbered_in word line ≡ Some (name, n)
    numbered_read is named_number n says = numbered_of_three line rest before second ∙ ap numbered_of_words says
        ∙ cond-true (bytes_eq first word) _ None is
        ∙ cond-true (nat_lt 0 (length name) && list_all is_in_word name) (Some (name, n)) None named_number

    pub numbered_unread : number_in number ≡ None → numbered_in word line ≡ None
    numbered_unread says = numbered_of_three line rest before second ∙ ap numbered_of_words says ∙ no_number_of_words

-- ---- lines at the front

-- the lines at the front of a text are these, and then those of the rest
pub record IsReadTo (word text : List ℕ) (found : NumberedName) (rest : List ℕ) : Type 0 where
  pub read : front word (parts 10 text) ≡ (found ++ (front word (parts 10 rest)).0, (front word (parts 10 rest)).1)
  pub shorter : length found + length rest ≤ length text

pub read_none : (word text : List ℕ) → IsReadTo word text [] text
read_none word text = record { read = refl; shorter = omega arith }

pub read_more : (word text rest after : List ℕ) (found : NumberedName) (s : List ℕ × ℕ) → IsReadTo word text found rest
    → front word (parts 10 rest) ≡ with_line (Some s) [] (front word (parts 10 after)) → length after < length rest
    → IsReadTo word text (found ++ s ∷ []) after
read_more word text rest after found s h next less =
    let so_far = h.shorter in
    record {
      read =
          h.read ∙ ap (λ (x : NumberedName × List (List ℕ)). (found ++ x.0, x.1)) next
          ∙ ap (λ (all : NumberedName). (all, (front word (parts 10 after)).1))
          (sym (append_assoc found (s ∷ []) (front word (parts 10 after)).0));
      shorter = omega (arith, so_far, less, length-append found (s ∷ []));
    }

-- no more are at the front
pub read_all : (word text rest : List ℕ) (found : NumberedName) → IsReadTo word text found rest
    → front word (parts 10 rest) ≡ ([], parts 10 rest) → front word (parts 10 text) ≡ (found, parts 10 rest)
read_all word text rest found h none =
    h.read ∙ ap (λ (x : NumberedName × List (List ℕ)). (found ++ x.0, x.1)) none
    ∙ ap (λ (all : NumberedName). (all, parts 10 rest)) (append-nil found)

-- ---- the end

-- nothing is left after the last line end
pub ends_where_empty : (text : List ℕ) → is_end (parts 10 text) ≡ (length text == 0)
ends_where_empty [] = refl
ends_where_empty (b ∷ bs) = by (parts 10 (b ∷ bs)) (join_with_byte-slice_split 10 (b ∷ bs))
    ∙ sym (ne_eqb (length (b ∷ bs)) 0 (λ e. omega arith))
  where
    by : (ps : List (List ℕ)) → join_with_byte 10 ps ≡ b ∷ bs → is_end ps ≡ false
    by x1 e = search (rules, ne_eqb)
