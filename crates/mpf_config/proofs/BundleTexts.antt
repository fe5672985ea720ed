-- The texts of a bundle are those that are read, and no others.
use Rattle.std.proofs.Common.{rules, ◌≡◌, ◌≢◌, ℕ, ◌+◌, true, false, List, [], ◌∷◌, ◌++◌, Option, Some, Ok, refl, sym}
use Rattle.std.proofs.{Common.{ap, subst, ◌∙◌, append_assoc}, lemmas.List.append-nil}
use Rattle.yaml_bytes.specs.{Bytes.{is_blank, begins_blank}, Plain.{AreBlank, EndsInNoBlank}}
use Rattle.yaml_bytes.{specs.Scanning.{behind_blanks, trim_blanks}, proofs.Steps.{bind_ok, ok_is}}
use Rattle.yaml_bytes.proofs.PlainTexts.{trimmed_parts, trimmed_ends, trimmed_is, is_behind_blanks, no_blanks, in_front}
use Rattle.mpf_config.specs.BundleText.{NamedText, first_line, behind_first_line, name_in, pieces_of, line_ends}
use Rattle.mpf_config.specs.{BundleText.number_lines, Reading.{text_from, text_at, texts_at}}
use Rattle.mpf_config.specs.RowsOf.{IsFirstLine, IsBare, IsPiece, EndsLine, AreTexts}
use Rattle.setting_values.specs.Reading.{◌>>=◌, each_read}
use Rattle.mpf_config.proofs.FirstLines.{splitting, begins_is}
use Rattle.mpf_config.proofs.Pieces.{piece_sound, none_is_empty, BeginsAt, piece_complete}

-- ---- the name

abbrev named : List ℕ → Option (List ℕ)
named name = Some name

-- a line `@ NAME`
record Named (line name : List ℕ) : Type 0 where
  blank : ℕ
  rest : List ℕ
  is : line ≡ 64 ∷ blank ∷ rest
  is_a_blank : is_blank blank ≡ true
  name_is : trim_blanks (behind_blanks rest) ≡ name

name_sound : (line name : List ℕ) → name_in line ≡ Some name → Named line name
name_sound line name e = search rules

begins_front : (front behind : List ℕ) → begins_blank (front ++ behind) ≡ false → begins_blank front ≡ false
begins_front front behind h = search rules

bare_from : (rest name : List ℕ) → trim_blanks (behind_blanks rest) ≡ name → IsBare name
bare_from rest name e =
    let t = trimmed_parts (behind_blanks rest) in
    let parts : behind_blanks rest ≡ name ++ t.0 = t.2 ∙ ap (λ (xs : List ℕ). xs ++ t.0) e in
    record {
      first = begins_front name t.0 (subst (λ xs. begins_blank xs ≡ false) parts (is_behind_blanks rest).no_more);
      last = subst EndsInNoBlank e (trimmed_ends (behind_blanks rest));
    }

bare_again : (name blanks : List ℕ) → IsBare name → AreBlank blanks
    → trim_blanks (behind_blanks (name ++ blanks)) ≡ name
bare_again [] blanks h k = ap (λ (xs : List ℕ). trim_blanks (behind_blanks xs)) (sym (append-nil blanks))
    ∙ ap trim_blanks (in_front blanks [] k)
bare_again (b ∷ bs) blanks h k = ap trim_blanks (no_blanks ((b ∷ bs) ++ blanks) h.first)
    ∙ trimmed_is (b ∷ bs) blanks k h.last

-- ---- one text

from_sound : (line : ℕ) (piece : List ℕ) (name : Option (List ℕ)) (t : NamedText) → text_from line piece name ≡ Ok t
    → (name ≡ Some t.name) × (t.text ≡ behind_first_line piece)
from_sound line piece name t e = search rules

text_sound : (line : ℕ) (piece : List ℕ) (t : NamedText) → text_at (line, piece) ≡ Ok t
    → ((front rest : List ℕ) → piece ≢ front ++ 10 ∷ 64 ∷ rest) → IsPiece piece t
unfolding text_at
text_sound line piece t e alone =
    let f = from_sound line piece (name_in (first_line piece)) t e in
    let n = name_sound (first_line piece) t.name f.0 in
    let s = is_behind_blanks n.rest in
    let r = trimmed_parts (behind_blanks n.rest) in
    let front = 64 ∷ n.blank ∷ (s.blanks ++ t.name) in
    let behind : behind_blanks n.rest ≡ t.name ++ r.0 = r.2 ∙ ap (λ (xs : List ℕ). xs ++ r.0) n.name_is in
    let rest : n.rest ≡ (s.blanks ++ t.name) ++ r.0 = s.parts ∙ ap (λ (xs : List ℕ). s.blanks ++ xs) behind
    ∙ sym (append_assoc s.blanks t.name r.0) in
    let whole : first_line piece ≡ front ++ r.0 = n.is ∙ ap (λ (xs : List ℕ). 64 ∷ n.blank ∷ xs) rest in
    let first : IsFirstLine (front ++ r.0) piece t.text =
    subst (λ xs. IsFirstLine xs piece t.text) whole
    (subst (λ xs. IsFirstLine (first_line piece) piece xs) (sym f.1) (splitting piece)) in
    record {
      blank = n.blank;
      blanks = s.blanks;
      are_blank = (n.is_a_blank, s.are_blank);
      bare = bare_from n.rest t.name n.name_is;
      begins = record { blanks = r.0; are_blank = r.1; whole = first };
      alone = alone;
    }

text_complete : (line : ℕ) (piece : List ℕ) (t : NamedText) → IsPiece piece t → text_at (line, piece) ≡ Ok t
unfolding text_at
text_complete line piece t h =
    let front = 64 ∷ h.blank ∷ (h.blanks ++ t.name) in
    let r = begins_is front piece t.text h.begins in
    let after = h.begins.blanks in
    let name : trim_blanks (behind_blanks ((h.blanks ++ t.name) ++ after)) ≡ t.name =
    ap (λ (xs : List ℕ). trim_blanks (behind_blanks xs)) (append_assoc h.blanks t.name after)
    ∙ ap trim_blanks (in_front h.blanks (t.name ++ after) h.are_blank.1)
    ∙ bare_again t.name after h.bare h.begins.are_blank in
    let found : name_in (first_line piece) ≡ Some t.name = ap name_in r.0 ∙ rw (h.are_blank.0, name) refl in
    rw (found, r.1) refl

-- ---- all of them

each_sound : (line : ℕ) (pieces : List (List ℕ)) (bundle : List ℕ) (texts : List NamedText) → pieces_of bundle ≡ pieces
    → each_read text_at (number_lines line pieces) ≡ Ok texts → AreTexts bundle texts
unfolding each_read
each_sound line [] bundle texts p e = subst (AreTexts bundle) (ok_is [] texts e) (none_is_empty bundle p)
each_sound line (piece ∷ pieces) bundle texts p e =
    let f = piece_sound bundle piece pieces p in
    let others = number_lines (line + line_ends piece) pieces in
    let a = bind_ok (text_at (line, piece)) (λ t. each_read text_at others >>= λ ts. Ok (t ∷ ts)) texts e in
    let b = bind_ok (each_read text_at others) (λ ts. Ok (a.0 ∷ ts)) texts a.2 in
    let rest = each_sound (line + line_ends piece) pieces f.behind b.0 f.others b.1 in
    subst (AreTexts bundle) (ok_is (a.0 ∷ b.0) texts b.2)
    (piece, f.behind, f.parts, text_sound line piece a.0 a.1 f.alone, f.ends, rest)

pub texts_sound : (bundle : List ℕ) (texts : List NamedText) → texts_at bundle ≡ Ok texts → AreTexts bundle texts
unfolding texts_at
texts_sound bundle texts e = each_sound 1 (pieces_of bundle) bundle texts refl e

-- a piece begins with `@`
record BeginsPiece (piece : List ℕ) : Type 0 where
  rest : List ℕ
  is : piece ≡ 64 ∷ rest

begins_piece : (piece : List ℕ) (t : NamedText) → IsPiece piece t → BeginsPiece piece
begins_piece piece t h =
    record {
      rest = h.blank ∷ (((h.blanks ++ t.name) ++ h.begins.blanks) ++ (h.begins.whole.end ++ t.text));
      is = h.begins.whole.parts;
    }

begins_at : (bundle : List ℕ) (texts : List NamedText) → AreTexts bundle texts → BeginsAt bundle
begins_at [] texts h = tt
begins_at (b ∷ bs) [] h = absurd cc
begins_at (b ∷ bs) (t ∷ ts) h = search rules

each_complete : (line : ℕ) (bundle : List ℕ) (texts : List NamedText) → AreTexts bundle texts
    → each_read text_at (number_lines line (pieces_of bundle)) ≡ Ok texts
unfolding each_read pieces_of
each_complete line bundle [] h = rw h refl
each_complete line bundle (t ∷ ts) h =
    let piece = h.0 in
    let behind = h.1 in
    let k = begins_piece piece t h.3 in
    let alone : (front others : List ℕ) → 64 ∷ k.rest ≢ front ++ 10 ∷ 64 ∷ others =
    subst (λ xs. (front others : List ℕ) → xs ≢ front ++ 10 ∷ 64 ∷ others) k.is h.3.alone in
    let pieces = piece_complete k.rest behind alone (begins_at behind ts h.5)
    (subst (λ xs. EndsLine xs behind) k.is h.4) in
    let whole : pieces_of bundle ≡ piece ∷ pieces_of behind =
    ap pieces_of (h.2 ∙ ap (λ (xs : List ℕ). xs ++ behind) k.is) ∙ pieces
    ∙ ap (λ (xs : List ℕ). xs ∷ pieces_of behind) (sym k.is) in
    rw (whole, text_complete line piece t h.3, each_complete (line + line_ends piece) behind ts h.5) refl

pub texts_complete : (bundle : List ℕ) (texts : List NamedText) → AreTexts bundle texts → texts_at bundle ≡ Ok texts
unfolding texts_at
texts_complete bundle texts h = each_complete 1 bundle texts h
