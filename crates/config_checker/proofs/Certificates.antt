-- A text is read as the one certificate that it is the text of.
use Rattle.std.proofs.Common.{rules, ◌≡◌, ℕ, ◌+◌, ◌^◌, ◌<◌, ◌==◌, ◌&&◌, ◌||◌, not, nat_lt, Bool, true, false, cond}
use Rattle.std.proofs.Common.{Option, Some, None, IfSome, Ok, Err, List, [], ◌∷◌, ◌++◌, length, get_or, codes, refl}
use Rattle.std.proofs.Common.{sym, ap, subst, ◌∙◌, append_assoc, append-nil, arith}
use Rattle.std.specs.{List.{join_with_byte, list_all, All}, Char.is_ascii_digit, Fmt.decimal, Str.bytes_eq}
use Rattle.std.proofs.lemmas.Bool.{and_parts, or_parts, not-true, eqb-true, ltb-true, lt-ltb, cond-true}
use Rattle.std.proofs.lemmas.List.Elements.{All-head, All-tail, All-nil, All-cons, All-append}
use Rattle.std.proofs.lemmas.List.Splits.{slice_split_none, slice_split_at, join_with_byte-slice_split}
use Rattle.std.proofs.lemmas.{List.Sums.{AllPass-from_list_all, list_all-from_AllPass}, Slice.Eq.bytes_eq-Decides}
use Rattle.config_checker.specs.CertificateText.{NumberedName, Certificate, numbered_lines, bound_line, heading_of}
use Rattle.config_checker.specs.CertificateText.{switch_lines}
use Rattle.config_checker.specs.CertificateOf.{is_in_word, IsWord, AreWritable, IsWritable, IsTextOf, number_in, parts}
use Rattle.config_checker.specs.CertificateOf.{has_switches, bound_by, bound_in, named_number, numbered_by, numbered_in}
use Rattle.config_checker.specs.CertificateOf.{with_line, front, is_end, first_event, end_of_lines, after_switches}
use Rattle.config_checker.specs.CertificateOf.{body_at, with_bound, bound_at, with_heading, heading_at, certificate_at}
use Rattle.config_checker.proofs.Numerals.{says_number, number_said, is_written, written_says, not_in_digits}
use Rattle.config_checker.proofs.CertificateLines.{heading_first, bound_first, front_first}
use Rattle.mpf_values.proofs.Steps.{guard_true}
use Rattle.yaml_bytes.proofs.Words.{word_is}

-- ---- what was read

abbrev some_line : List ℕ × ℕ → Option (List ℕ × ℕ)
some_line s = Some s

-- what is before the line end
abbrev words_of : List ℕ → List ℕ × ℕ → List ℕ
words_of word s = word ++ codes " " ++ s.0 ++ codes " " ++ decimal s.1

-- and how it is parted by its blanks
parted : (word name digits : List ℕ) → word ++ codes " " ++ name ++ codes " " ++ digits
    ≡ word ++ 32 ∷ (name ++ 32 ∷ digits)
parted word name digits = search (rules, name, append_assoc)

record IsLineOf (word line : List ℕ) (s : List ℕ × ℕ) : Type 0 where
  text : line ≡ words_of word s
  name : IsWord s.0
  number : s.1 < 2 ^ 32

named_line : (word first name number : List ℕ) (o : Option ℕ) (s : List ℕ × ℕ) → first ≡ word → o ≡ number_in number
    → named_number name o ≡ Some s → IsLineOf word (join_with_byte 32 (first ∷ name ∷ number ∷ [])) s
named_line word first name number None s w o h = let a =
    guard_true (nat_lt 0 (length name) && list_all is_in_word name) None s h in absurd (never a.1)
  where
    never : None ≡ some_line s → ⊥
    never z = cc
named_line word first name number (Some n) s w o h =
    let a = guard_true (nat_lt 0 (length name) && list_all is_in_word name) (Some (name, n)) s h in
    let b = and_parts (nat_lt 0 (length name)) (list_all is_in_word name) a.0 in
    let same : (name, n) ≡ s = cc in
    let says = says_number number n (sym o) in
    subst (IsLineOf word (join_with_byte 32 (first ∷ name ∷ number ∷ []))) same
    (record {
      text = rw (w, is_written number n says) (sym (parted word name (decimal n)));
      name =
          record {
            some = λ z. omega (arith, ltb-true 0 (length name) b.0, ap length z);
            letters = AllPass-from_list_all is_in_word name b.1;
          };
      number = says.small;
    })

line_by_sound : (word : List ℕ) (ws : List (List ℕ)) (s : List ℕ × ℕ) → numbered_by word ws ≡ Some s
    → IsLineOf word (join_with_byte 32 ws) s
line_by_sound word [] s h = absurd cc
line_by_sound word (a ∷ []) s h = absurd cc
line_by_sound word (a ∷ b ∷ []) s h = absurd cc
line_by_sound word (first ∷ name ∷ number ∷ []) s h =
    let g = guard_true (bytes_eq first word) (named_number name (number_in number)) s h in
    named_line word first name number (number_in number) s (word_is first word g.0) refl g.1
line_by_sound word (a ∷ b ∷ c ∷ d ∷ more) s h = absurd cc

line_sound : (word line : List ℕ) (s : List ℕ × ℕ) → numbered_in word line ≡ Some s → IsLineOf word line s
line_sound word line s h = subst (λ (xs : List ℕ). IsLineOf word xs s) (join_with_byte-slice_split 32 line)
    (line_by_sound word (parts 32 line) s h)

-- the lines of these are in front of the rest
record AreInFront (word all : List ℕ) (x : NumberedName × List (List ℕ)) : Type 0 where
  text : all ≡ numbered_lines word x.0 ++ join_with_byte 10 x.1
  writable : AreWritable x.0

none_writable : AreWritable []
none_writable = record { names = All-nil (λ s. IsWord s.0); numbers = All-nil (λ s. s.1 < 2 ^ 32) }

one_more : (word line rest : List ℕ) (s : List ℕ × ℕ) (x : NumberedName × List (List ℕ)) → IsLineOf word line s
    → AreInFront word rest x → AreInFront word (line ++ 10 ∷ rest) (s ∷ x.0, x.1)
one_more word line rest s x h k =
    record {
      text =
          rw (h.text, k.text)
          (sym (append_assoc (words_of word s ++ 10 ∷ []) (numbered_lines word x.0) (join_with_byte 10 x.1)
          ∙ append_assoc (words_of word s) (10 ∷ []) (numbered_lines word x.0 ++ join_with_byte 10 x.1)));
      writable = record {
        names = All-cons (λ e. IsWord e.0) s x.0 h.name k.writable.names;
        numbers = All-cons (λ e. e.1 < 2 ^ 32) s x.0 h.number k.writable.numbers;
      };
    }

with_line_sound : (word line next : List ℕ) (more : List (List ℕ)) (o : Option (List ℕ × ℕ))
    (x : NumberedName × List (List ℕ))
    → ((s : List ℕ × ℕ) → o ≡ Some s → IsLineOf word line s) → AreInFront word (join_with_byte 10 (next ∷ more)) x
    → AreInFront word (join_with_byte 10 (line ∷ next ∷ more)) (with_line o (line ∷ next ∷ more) x)
with_line_sound word line next more None x h k = record { text = refl; writable = none_writable }
with_line_sound word line next more (Some s) x h k =
    one_more word line (join_with_byte 10 (next ∷ more)) s x (h s refl) k

front_sound : (word : List ℕ) (lines : List (List ℕ)) → AreInFront word (join_with_byte 10 lines) (front word lines)
front_sound word [] = record { text = refl; writable = none_writable }
front_sound word (last ∷ []) = record { text = refl; writable = none_writable }
front_sound word (line ∷ next ∷ more) = with_line_sound word line next more (numbered_in word line)
    (front word (next ∷ more)) (line_sound word line) (front_sound word (next ∷ more))

record IsBoundOf (line : List ℕ) (bound : ℕ) : Type 0 where
  text : line ≡ codes "bound " ++ decimal bound
  small : bound < 2 ^ 32

bound_by_sound : (ws : List (List ℕ)) (bound : ℕ) → bound_by ws ≡ Some bound → IsBoundOf (join_with_byte 32 ws) bound
bound_by_sound [] bound h = absurd cc
bound_by_sound (a ∷ []) bound h = absurd cc
bound_by_sound (word ∷ number ∷ []) bound h =
    let g = guard_true (bytes_eq word (codes "bound")) (number_in number) bound h in
    let says = says_number number bound g.1 in
    record { text = rw (word_is word (codes "bound") g.0, is_written number bound says) refl; small = says.small }
bound_by_sound (a ∷ b ∷ c ∷ more) bound h = absurd cc

bound_sound : (line : List ℕ) (bound : ℕ) → bound_in line ≡ Some bound → IsBoundOf line bound
bound_sound line bound h = subst (λ (xs : List ℕ). IsBoundOf xs bound) (join_with_byte-slice_split 32 line)
    (bound_by_sound (parts 32 line) bound h)

-- nothing is left
no_more : (lines : List (List ℕ)) → is_end lines ≡ true → join_with_byte 10 lines ≡ []
no_more [] e = refl
no_more ([] ∷ []) e = refl
no_more ((b ∷ bs) ∷ []) e = absurd (let k = eqb-true (length (b ∷ bs)) 0 e in omega arith)
no_more (a ∷ b ∷ more) e = absurd cc

-- all after the bound is what the certificate says
record IsBodyOf (version : Bool) (bound : ℕ) (all : List ℕ) (c : Certificate) : Type 0 where
  bound_is : c.bound ≡ bound
  heading : has_switches (heading_of c.switches) ≡ Some version
  text : all ≡ switch_lines c.switches ++ numbered_lines (codes "event") c.events
  switches : IfSome c.switches AreWritable
  events : AreWritable c.events

ended_then : (bound : ℕ) (switches : Option NumberedName) (x : NumberedName × List (List ℕ)) (c : Certificate)
    → end_of_lines bound switches x ≡ Ok c
    → (is_end x.1 ≡ true) × (record { bound = bound; switches = switches; events = x.0 } ≡ c)
ended_then bound switches x c e = by (is_end x.1) refl e
  where
    by : (t : Bool) → is_end x.1 ≡ t → cond t (Ok (record { bound = bound; switches = switches; events = x.0 }))
        (Err (first_event switches + length x.0)) ≡ Ok c
        → (is_end x.1 ≡ true) × (record { bound = bound; switches = switches; events = x.0 } ≡ c)
    by x1 is e = search (rules, is)

events_sound : (bound : ℕ) (switches : Option NumberedName) (lines : List (List ℕ)) (c : Certificate)
    → end_of_lines bound switches (front (codes "event") lines) ≡ Ok c
    → (c.bound ≡ bound) × (c.switches ≡ switches) × (join_with_byte 10 lines ≡ numbered_lines (codes "event") c.events)
    × AreWritable c.events
events_sound bound switches lines c e =
    let x : NumberedName × List (List ℕ) = front (codes "event") lines in
    let whole = ended_then bound switches x c e in
    let read = front_sound (codes "event") lines in
    let text : join_with_byte 10 lines ≡ numbered_lines (codes "event") x.0 =
    read.text ∙ ap (λ (rest : List ℕ). numbered_lines (codes "event") x.0 ++ rest) (no_more x.1 whole.0)
    ∙ append-nil (numbered_lines (codes "event") x.0) in
    subst (λ (d : Certificate). (d.bound ≡ bound) × (d.switches ≡ switches)
    × (join_with_byte 10 lines ≡ numbered_lines (codes "event") d.events) × AreWritable d.events) whole.1
    (refl, refl, text, read.writable)

body_sound : (version : Bool) (bound : ℕ) (lines : List (List ℕ)) (c : Certificate) → body_at version bound lines ≡ Ok c
    → IsBodyOf version bound (join_with_byte 10 lines) c
body_sound false bound lines c e =
    let events = events_sound bound None lines c e in
    record {
      bound_is = events.0;
      heading = ap (λ (o : Option NumberedName). has_switches (heading_of o)) events.1;
      text = events.2 ∙ ap (λ (o : Option NumberedName). switch_lines o ++ numbered_lines (codes "event") c.events)
          (sym events.1);
      switches = subst (λ (o : Option NumberedName). IfSome o AreWritable) (sym events.1) tt;
      events = events.3;
    }
body_sound true bound lines c e =
    let x : NumberedName × List (List ℕ) = front (codes "switch") lines in
    let read = front_sound (codes "switch") lines in
    let events = events_sound bound (Some x.0) x.1 c e in
    record {
      bound_is = events.0;
      heading = ap (λ (o : Option NumberedName). has_switches (heading_of o)) events.1;
      text =
          read.text ∙ ap (λ (rest : List ℕ). numbered_lines (codes "switch") x.0 ++ rest) events.2
          ∙ ap (λ (o : Option NumberedName). switch_lines o ++ numbered_lines (codes "event") c.events) (sym events.1);
      switches = subst (λ (o : Option NumberedName). IfSome o AreWritable) (sym events.1) read.writable;
      events = events.3;
    }

-- and all after the heading
record IsBehindHeading (version : Bool) (rest : List ℕ) (c : Certificate) : Type 0 where
  heading : has_switches (heading_of c.switches) ≡ Some version
  text : rest ≡ bound_line c.bound ++ switch_lines c.switches ++ numbered_lines (codes "event") c.events
  writable : IsWritable c

with_bound_sound : (version : Bool) (line : List ℕ) (next : List ℕ) (more : List (List ℕ)) (o : Option ℕ)
    (c : Certificate)
    → ((b : ℕ) → o ≡ Some b → IsBoundOf line b) → with_bound version o (next ∷ more) ≡ Ok c
    → IsBehindHeading version (join_with_byte 10 (line ∷ next ∷ more)) c
with_bound_sound version line next more None c h e = absurd cc
with_bound_sound version line next more (Some b) c h e =
    let stated = h b refl in
    let body = body_sound version b (next ∷ more) c e in
    let behind : List ℕ = switch_lines c.switches ++ numbered_lines (codes "event") c.events in
    record {
      heading = body.heading;
      text =
          rw (stated.text, body.text)
          (sym (append_assoc (codes "bound " ++ decimal b) (10 ∷ []) behind)
          ∙ ap (λ (n : ℕ). bound_line n ++ behind) (sym body.bound_is)
          ∙ sym (append_assoc (bound_line c.bound) (switch_lines c.switches)
          (numbered_lines (codes "event") c.events)));
      writable =
          record {
            bound = subst (λ (n : ℕ). n < 2 ^ 32) (sym body.bound_is) stated.small;
            switches = body.switches;
            events = body.events;
          };
    }

bound_at_sound : (version : Bool) (lines : List (List ℕ)) (c : Certificate) → bound_at version lines ≡ Ok c
    → IsBehindHeading version (join_with_byte 10 lines) c
bound_at_sound version [] c e = absurd cc
bound_at_sound version (line ∷ []) c e = absurd cc
bound_at_sound version (line ∷ next ∷ more) c e =
    with_bound_sound version line next more (bound_in line) c (bound_sound line) e

-- a heading says which version it is of, and there is one for each
abbrev heading_for : Bool → List ℕ
heading_for false = codes "pinball-certificate 1"
heading_for true = codes "pinball-certificate 2"

one_heading : (line other : List ℕ) (version : Bool) → has_switches line ≡ Some version
    → has_switches other ≡ Some version → line ≡ other
one_heading line other version h k = is line version h ∙ sym (is other version k)
  where
    is : (line : List ℕ) (version : Bool) → has_switches line ≡ Some version → line ≡ heading_for version
    is line version h = by (bytes_eq line (codes "pinball-certificate 1"))
        (bytes_eq line (codes "pinball-certificate 2")) refl refl h
      where
        by : (a b : Bool) → bytes_eq line (codes "pinball-certificate 1") ≡ a
            → bytes_eq line (codes "pinball-certificate 2") ≡ b
            → cond a (Some false) (cond b (Some true) None) ≡ Some version → line ≡ heading_for version
        by x1 x2 first second e = search (rules, word_is)

with_heading_sound : (line next : List ℕ) (more : List (List ℕ)) (o : Option Bool) (c : Certificate)
    → has_switches line ≡ o → with_heading o (next ∷ more) ≡ Ok c → IsTextOf c (join_with_byte 10 (line ∷ next ∷ more))
with_heading_sound line next more None c is e = absurd cc
with_heading_sound line next more (Some version) c is e =
    let b = bound_at_sound version (next ∷ more) c e in
    let switches : List ℕ = switch_lines c.switches in
    let events : List ℕ = numbered_lines (codes "event") c.events in
    let begun : List ℕ = heading_of c.switches ++ 10 ∷ [] in (
      b.writable,
      rw (one_heading line (heading_of c.switches) version is b.heading, b.text)
          (sym (append_assoc (heading_of c.switches) (10 ∷ []) (bound_line c.bound ++ switches ++ events))
          ∙ sym (append_assoc begun (bound_line c.bound ++ switches) events)
          ∙ ap (λ (xs : List ℕ). xs ++ events) (sym (append_assoc begun (bound_line c.bound) switches))),
    )

heading_at_sound : (lines : List (List ℕ)) (c : Certificate) → heading_at lines ≡ Ok c
    → IsTextOf c (join_with_byte 10 lines)
heading_at_sound [] c e = absurd cc
heading_at_sound (line ∷ []) c e = absurd cc
heading_at_sound (line ∷ next ∷ more) c e = with_heading_sound line next more (has_switches line) c refl e

-- what is read is a certificate, and the text is its text
pub read-is_text : (text : List ℕ) (c : Certificate) → certificate_at text ≡ Ok c → IsTextOf c text
unfolding certificate_at
read-is_text text c e = subst (IsTextOf c) (join_with_byte-slice_split 10 text) (heading_at_sound (parts 10 text) c e)

-- ---- what is written

-- it is not in the text
abbrev Without : ℕ → List ℕ → Type 0
Without c text = All (λ b. (b == c) ≡ false) text

without-append : (c : ℕ) (xs ys : List ℕ) → Without c xs → Without c ys → Without c (xs ++ ys)
without-append c xs ys h k = All-append (λ b. (b == c) ≡ false) xs ys h k

in_text : (c : ℕ) (text : List ℕ) → list_all (λ b. not (b == c)) text ≡ true → Without c text
in_text c text h = λ i d l. not-true (get_or text i d == c) (AllPass-from_list_all (λ b. not (b == c)) text h i d l)

no_end_in : (word : List ℕ) → IsWord word → Without 10 word
no_end_in word h = λ i d l. let b = get_or word i d
    in (or_parts (b == 32 || b == 9) (b == 10) (not-true (b == 32 || b == 9 || b == 10) (h.letters i d l))).1

not_in_decimal : (c : ℕ) → is_ascii_digit c ≡ false → (n : ℕ) → n < 2 ^ 32 → Without c (decimal n)
not_in_decimal c other n small = not_in_digits c other (decimal n) (written_says n small).number.digits

is_some_word : (word : List ℕ) → IsWord word → (nat_lt 0 (length word) && list_all is_in_word word) ≡ true
is_some_word [] h = absurd (h.some refl)
is_some_word (b ∷ bs) h =
    rw (lt-ltb 0 (length (b ∷ bs)) (omega arith), list_all-from_AllPass is_in_word (b ∷ bs) h.letters) refl

-- a line, and what follows it
first_line : (line rest : List ℕ) → Without 10 line → parts 10 (line ++ 10 ∷ [] ++ rest) ≡ line ∷ parts 10 rest
first_line line rest h = ap (parts 10) (append_assoc line (10 ∷ []) rest)
    ∙ slice_split_at (λ b. b == 10) line 10 rest h refl

-- ---- a line with a number

-- if the word that begins it has neither a blank nor a line end
module _ (word : List ℕ) (no_blank : list_all (λ b. not (b == 32)) word ≡ true)
    (no_end : list_all (λ b. not (b == 10)) word ≡ true) where
  words_are : (name : List ℕ) (number : ℕ) → IsWord name → number < 2 ^ 32
      → parts 32 (words_of word (name, number)) ≡ word ∷ name ∷ decimal number ∷ []
  words_are name number h small =
      search (
        rules,
        name,
        number,
        small,
        slice_split_at,
        in_text,
        or_parts,
        not-true,
        slice_split_none,
        not_in_decimal,
        parted,
      )

  line_complete : (name : List ℕ) (number : ℕ) → IsWord name → number < 2 ^ 32
      → numbered_in word (words_of word (name, number)) ≡ Some (name, number)
  line_complete name number h small = search (
    rules,
    name,
    number,
    small,
    words_are,
    cond-true,
    bytes_eq-Decides,
    number_said,
    written_says,
    nat_lt,
    is_some_word,
  )

  words_end : (name : List ℕ) (number : ℕ) → IsWord name → number < 2 ^ 32 → Without 10 (words_of word (name, number))
  words_end name number h small =
      search (rules, name, number, small, without-append, in_text, no_end_in, not_in_decimal)

  -- lines at the front, and what follows them
  front_complete : (all : NumberedName) (behind : List ℕ) → AreWritable all
      → front word (parts 10 behind) ≡ ([], parts 10 behind)
      → front word (parts 10 (numbered_lines word all ++ behind)) ≡ (all, parts 10 behind)
  front_complete [] behind h none = none
  front_complete (s ∷ all) behind h none =
      let name = All-head (λ e. IsWord e.0) s all h.names in
      let number = All-head (λ e. e.1 < 2 ^ 32) s all h.numbers in
      let more : AreWritable all =
      record {
        names = All-tail (λ e. IsWord e.0) s all h.names;
        numbers = All-tail (λ e. e.1 < 2 ^ 32) s all h.numbers;
      } in
      let text : List ℕ = numbered_lines word (s ∷ all) ++ behind in
      let rest : List ℕ = numbered_lines word all ++ behind in
      let cut : parts 10 text ≡ words_of word s ∷ parts 10 rest =
      ap (parts 10) (append_assoc (words_of word s ++ 10 ∷ []) (numbered_lines word all) behind)
      ∙ first_line (words_of word s) rest (words_end s.0 s.1 name number) in
      front_first text (words_of word s) rest cut word
      ∙ ap (λ (o : Option (List ℕ × ℕ)). with_line o (parts 10 text) (front word (parts 10 rest)))
      (line_complete s.0 s.1 name number)
      ∙ ap (with_line (some_line s) (parts 10 text)) (front_complete all behind more none)

-- what follows a line
first_event_line : (s : List ℕ × ℕ) (events : NumberedName) → IsWord s.0 → s.1 < 2 ^ 32
    → parts 10 (numbered_lines (codes "event") (s ∷ events))
    ≡ words_of (codes "event") s ∷ parts 10 (numbered_lines (codes "event") events)
first_event_line s events name number = first_line (words_of (codes "event") s) (numbered_lines (codes "event") events)
    (words_end (codes "event") refl refl s.0 s.1 name number)

-- no line of an event is that of a switch
no_switches : (events : NumberedName) → AreWritable events
    → front (codes "switch") (parts 10 (numbered_lines (codes "event") events))
    ≡ ([], parts 10 (numbered_lines (codes "event") events))
no_switches [] h = refl
no_switches (s ∷ events) h =
    let name = All-head (λ e. IsWord e.0) s events h.names in
    let number = All-head (λ e. e.1 < 2 ^ 32) s events h.numbers in
    let text : List ℕ = numbered_lines (codes "event") (s ∷ events) in
    let rest : List ℕ = numbered_lines (codes "event") events in
    let other : numbered_in (codes "switch") (words_of (codes "event") s) ≡ None =
    ap (numbered_by (codes "switch")) (words_are (codes "event") refl refl s.0 s.1 name number) in
    front_first text (words_of (codes "event") s) rest (first_event_line s events name number) (codes "switch")
    ∙ ap (λ (o : Option (List ℕ × ℕ)). with_line o (parts 10 text) (front (codes "switch") (parts 10 rest))) other

events_complete : (bound : ℕ) (switches : Option NumberedName) (events : NumberedName) → AreWritable events
    → end_of_lines bound switches (front (codes "event") (parts 10 (numbered_lines (codes "event") events)))
    ≡ Ok (record { bound = bound; switches = switches; events = events })
events_complete bound switches events h =
    let lines : List ℕ = numbered_lines (codes "event") events in
    let read = front_complete (codes "event") refl refl events [] h refl in
    ap (end_of_lines bound switches) (ap (λ (text : List ℕ). front (codes "event") (parts 10 text))
    (sym (append-nil lines)) ∙ read)

-- the version of a certificate
abbrev version_of : Option NumberedName → Bool
version_of None = false
version_of (Some switches) = true

heading_version : (switches : Option NumberedName) → has_switches (heading_of switches) ≡ Some (version_of switches)
heading_version None = refl
heading_version (Some switches) = refl

heading_end : (switches : Option NumberedName) → Without 10 (heading_of switches)
heading_end None = in_text 10 (codes "pinball-certificate 1") refl
heading_end (Some switches) = in_text 10 (codes "pinball-certificate 2") refl

body_complete : (bound : ℕ) (switches : Option NumberedName) (events : NumberedName) → IfSome switches AreWritable
    → AreWritable events
    → body_at (version_of switches) bound (parts 10 (switch_lines switches ++ numbered_lines (codes "event") events))
    ≡ Ok (record { bound = bound; switches = switches; events = events })
body_complete bound None events s e = events_complete bound None events e
body_complete bound (Some switches) events s e =
    ap (after_switches bound) (front_complete (codes "switch") refl refl switches
    (numbered_lines (codes "event") events) s (no_switches events e))
    ∙ events_complete bound (Some switches) events e

bound_complete : (bound : ℕ) → bound < 2 ^ 32 → bound_in (codes "bound " ++ decimal bound) ≡ Some bound
bound_complete bound small =
    search (rules, small, slice_split_at, in_text, slice_split_none, not_in_decimal, number_said, written_says)

-- the text of a certificate is read as that certificate
pub text-is_read : (c : Certificate) (text : List ℕ) → IsTextOf c text → certificate_at text ≡ Ok c
text-is_read c text (h, is) =
    let switches : List ℕ = switch_lines c.switches in
    let events : List ℕ = numbered_lines (codes "event") c.events in
    let body : List ℕ = switches ++ events in
    let behind : List ℕ = bound_line c.bound ++ body in
    let heading : List ℕ = heading_of c.switches in
    let version = version_of c.switches in
    let whole : text ≡ heading ++ 10 ∷ [] ++ behind =
    is ∙ append_assoc (heading ++ 10 ∷ [] ++ bound_line c.bound) switches events
    ∙ append_assoc (heading ++ 10 ∷ []) (bound_line c.bound) body in
    let stated = without-append 10 (codes "bound ") (decimal c.bound) (in_text 10 (codes "bound ") refl)
    (not_in_decimal 10 refl c.bound h.bound) in
    heading_first text heading behind (ap (parts 10) whole ∙ first_line heading behind (heading_end c.switches))
    ∙ ap (λ (o : Option Bool). with_heading o (parts 10 behind)) (heading_version c.switches)
    ∙ bound_first behind (codes "bound " ++ decimal c.bound) body
    (first_line (codes "bound " ++ decimal c.bound) body stated) version
    ∙ ap (λ (o : Option ℕ). with_bound version o (parts 10 body)) (bound_complete c.bound h.bound)
    ∙ body_complete c.bound c.switches c.events h.switches h.events
