-- The pieces of a bundle, one after the other.
use Rattle.std.proofs.Common.{rules, ◌≡◌, ◌≢◌, ℕ, zero, suc, ◌+◌, ◌-◌, ◌<◌, ◌≤◌, ◌==◌, Bool, true, false, cond, ◌&&◌}
use Rattle.std.proofs.Common.{List, [], ◌∷◌, ◌++◌, length, take, drop, refl, sym, ap, ap₂, ◌∙◌, ◌⊎◌, inl, inr, arith}
use Rattle.std.proofs.lemmas.List.{take-append-drop, length-drop, drop-drop, drop_all, Sums.sum_by-cons}
use lib.Seq.{take-nil}
use Rattle.std.proofs.lemmas.Bool.{eqb-true, and_parts, false_from_ne_true}
use Rattle.mpf_config.specs.{RowsOf.EndsLine, BundleText.{pieces_from, pieces_of, piece_len, line_ends, number_lines}}

abbrev Cut : Bool → List ℕ → Type 0
Cut begins text =
    pieces_from begins text ≡ (take (piece_len begins text) text, pieces_of (drop (piece_len begins text) text))

cut_here : (begins : Bool) (b : ℕ) (bs : List ℕ) → (begins && (b == 64)) ≡ true → Cut begins (b ∷ bs)
unfolding pieces_of
cut_here begins b bs e = search rules

cut_step : (begins : Bool) (b : ℕ) (bs : List ℕ) (here : Bool) → (begins && (b == 64)) ≡ here → Cut (b == 10) bs
    → Cut begins (b ∷ bs)
cut_step begins b bs x4 e h = search (rules, cut_here)

-- the bytes before the next line that begins with `@`, and the pieces from there on
pub cut : (begins : Bool) (text : List ℕ) → Cut begins text
unfolding pieces_of
cut begins [] = refl
cut begins (b ∷ bs) = cut_step begins b bs (begins && (b == 64)) refl (cut (b == 10) bs)

first_by : (b : ℕ) (bs : List ℕ) (at : Bool) → b == 64 ≡ at
    → pieces_of (b ∷ bs) ≡ (b ∷ (pieces_from (b == 10) bs).0) ∷ (pieces_from (b == 10) bs).1
unfolding pieces_of
first_by b bs at e = search rules

pub first_piece : (b : ℕ) (bs : List ℕ) → pieces_of (b ∷ bs)
    ≡ take (piece_len false (b ∷ bs)) (b ∷ bs) ∷ pieces_of (drop (piece_len false (b ∷ bs)) (b ∷ bs))
first_piece b bs = first_by b bs (b == 64) refl ∙ rw (cut (b == 10) bs) refl

-- ---- what the code goes by

pub none_left : (bundle : List ℕ) (at : ℕ) → length bundle ≤ at → pieces_of (drop at bundle) ≡ []
unfolding pieces_of
none_left bundle at all = rw (drop_all at bundle all) refl

next_piece : (rest : List ℕ) (n : ℕ) → 0 < length rest → n ≡ piece_len false rest
    → pieces_of rest ≡ take n rest ∷ pieces_of (drop n rest)
next_piece [] n some len = let no : ⊥ = omega (arith, some) in absurd no
next_piece (b ∷ bs) n some len = rw len (first_piece b bs)

-- the lines that end in two parts, one after the other
ends_more : (bundle : List ℕ) (at n : ℕ) → line_ends (take (at + n) bundle)
    ≡ line_ends (take at bundle) + line_ends (take n (drop at bundle))
ends_more bundle zero n = let sum : 0 + n ≡ n = omega arith in ap (λ k. line_ends (take k bundle)) sum ∙ omega arith
ends_more [] (suc at) n = ap line_ends (take-nil (suc at + n) ∙ sym (take-nil n)) ∙ omega arith
ends_more (b ∷ bs) (suc at) n =
    let sum : suc at + n ≡ suc (at + n) = omega arith in
    let whole = sum_by-cons (λ c. cond (c == 10) 1 0) b (take (at + n) bs) in
    let front = sum_by-cons (λ c. cond (c == 10) 1 0) b (take at bs) in
    let more = ends_more bs at n in
    ap (λ k. line_ends (take k (b ∷ bs))) sum ∙ omega (arith, whole, front, more)

-- the pieces from a place on, each with the number of its first line
abbrev pub numbered_from : List ℕ → ℕ → List (ℕ × List ℕ)
numbered_from bundle at = number_lines (1 + line_ends (take at bundle)) (pieces_of (drop at bundle))

pub next_numbered : (bundle : List ℕ) (at n : ℕ) → at < length bundle → n ≡ piece_len false (drop at bundle)
    → numbered_from bundle at ≡ (1 + line_ends (take at bundle), take n (drop at bundle))
    ∷ numbered_from bundle (at + n)
next_numbered bundle at n some len =
    let left = length-drop at bundle in
    let first = next_piece (drop at bundle) n (omega (arith, some, left)) len in
    let more = ends_more bundle at n in
    ap (number_lines (1 + line_ends (take at bundle))) first
    ∙ ap₂ (λ (line : ℕ) (behind : List ℕ). (1 + line_ends (take at bundle), take n (drop at bundle))
    ∷ number_lines line (pieces_of behind))
    (omega (arith, more)) (drop-drop n at bundle)

pub has_bytes : (bundle : List ℕ) (at n : ℕ) → at < length bundle → n ≡ piece_len false (drop at bundle) → 0 < n
has_bytes bundle at n some len = seen (drop at bundle) (length-drop at bundle) len
  where
    seen : (rest : List ℕ) → length rest ≡ length bundle - at → n ≡ piece_len false rest → 0 < n
    seen [] e h = let no : ⊥ = omega (arith, some, e) in absurd no
    seen (b ∷ bs) e h = omega (arith, h)

-- ---- lines that begin with `@`

-- no line begins with `@`, whether the first byte begins a line or not
abbrev HasNone : Bool → List ℕ → Type 0
HasNone begins [] = Unit {0}
HasNone begins (b ∷ bs) = ((begins && (b == 64)) ≡ false) × HasNone (b == 10) bs

-- whether a line begins behind a text
abbrev begins_behind : Bool → List ℕ → Bool
begins_behind begins [] = begins
begins_behind begins (b ∷ bs) = begins_behind (b == 10) bs

-- if a text goes on, a line begins with `@`
abbrev GoesOn : Bool → List ℕ → Type 0
GoesOn begins [] = Unit {0}
GoesOn begins (b ∷ bs) = (begins && (b == 64)) ≡ true

abbrev IsCut : Bool → List ℕ → Type 0
IsCut begins text = HasNone begins (take (piece_len begins text) text)
    × GoesOn (begins_behind begins (take (piece_len begins text) text)) (drop (piece_len begins text) text)

is_cut_step : (begins : Bool) (b : ℕ) (bs : List ℕ) (here : Bool) → (begins && (b == 64)) ≡ here → IsCut (b == 10) bs
    → IsCut begins (b ∷ bs)
is_cut_step begins b bs here e h = search rules

is_cut : (begins : Bool) (text : List ℕ) → IsCut begins text
is_cut begins [] = search rules
is_cut begins (b ∷ bs) = is_cut_step begins b bs (begins && (b == 64)) refl (is_cut (b == 10) bs)

none_later : (begins : Bool) (text : List ℕ) → HasNone begins text → (front rest : List ℕ)
    → text ≢ front ++ 10 ∷ 64 ∷ rest
none_later begins [] h [] rest e = cc
none_later begins [] h (c ∷ front) rest e = cc
none_later begins (b ∷ bs) h [] rest e = search rules
none_later begins (b ∷ bs) h (c ∷ front) rest e =
    none_later (b == 10) bs h.1 front rest (let behind : bs ≡ front ++ 10 ∷ 64 ∷ rest = cc in behind)

none_from : (begins : Bool) (text : List ℕ) → (begins ≡ true → (rest : List ℕ) → text ≢ 64 ∷ rest)
    → ((front rest : List ℕ) → text ≢ front ++ 10 ∷ 64 ∷ rest) → HasNone begins text
none_from begins [] first later = tt
none_from begins (b ∷ bs) first later =
    let no_hit : (begins && (b == 64)) ≡ false = false_from_ne_true (begins && (b == 64)) (λ hit.
    let both = and_parts begins (b == 64) hit in
    first both.0 bs (ap (λ (c : ℕ). c ∷ bs) (eqb-true b 64 both.1))) in (
      no_hit,
      none_from (b == 10) bs
          (λ at rest same. later [] rest (ap (λ (c : ℕ). c ∷ bs) (eqb-true b 10 at)
          ∙ ap (λ (xs : List ℕ). 10 ∷ xs) same))
          (λ front rest same. later (b ∷ front) rest (ap (λ (xs : List ℕ). b ∷ xs) same)),
    )

ends_lf : (begins : Bool) (text : List ℕ) → begins_behind begins text ≡ true
    → ((text ≡ []) × (begins ≡ true)) ⊎ ((front : List ℕ) × (text ≡ front ++ 10 ∷ []))
ends_lf begins [] e = inl (refl, e)
ends_lf begins (b ∷ bs) e =
    elim (ends_lf (b == 10) bs e) [
      | inl k ↦ inr ([], ap (λ (xs : List ℕ). b ∷ xs) k.0 ∙ ap (λ (c : ℕ). c ∷ []) (eqb-true b 10 k.1))
      | inr k ↦ inr (b ∷ k.0, ap (λ (xs : List ℕ). b ∷ xs) k.1)
    ]

begins_after_lf : (begins : Bool) (front : List ℕ) → begins_behind begins (front ++ 10 ∷ []) ≡ true
begins_after_lf begins [] = refl
begins_after_lf begins (b ∷ front) = begins_after_lf (b == 10) front

ends_line : (piece behind : List ℕ) → GoesOn (begins_behind false piece) behind → EndsLine piece behind
ends_line piece [] h = tt
ends_line piece (b ∷ behind) h = search (rules, behind, ends_lf, and_parts)

goes_on : (piece : List ℕ) (b : ℕ) (behind : List ℕ) → b ≡ 64 → EndsLine piece (b ∷ behind)
    → GoesOn (begins_behind false piece) (b ∷ behind)
goes_on piece b behind is h = search (rules, behind, begins_after_lf)

-- ---- one piece

pub record IsFirst (bundle piece : List ℕ) (pieces : List (List ℕ)) : Type 0 where
  pub behind : List ℕ
  pub parts : bundle ≡ piece ++ behind
  pub alone : (front rest : List ℕ) → piece ≢ front ++ 10 ∷ 64 ∷ rest
  pub ends : EndsLine piece behind
  pub others : pieces_of behind ≡ pieces

pub piece_sound : (bundle piece : List ℕ) (pieces : List (List ℕ)) → pieces_of bundle ≡ piece ∷ pieces
    → IsFirst bundle piece pieces
unfolding pieces_of
piece_sound [] piece pieces e = absurd cc
piece_sound (b ∷ bs) piece pieces e =
    let text = b ∷ bs in
    let n = piece_len false text in
    let same : take n text ∷ pieces_of (drop n text) ≡ piece ∷ pieces = sym (first_piece b bs) ∙ e in
    let first : take n text ≡ piece = cc in
    let rest : pieces_of (drop n text) ≡ pieces = cc in
    let k = is_cut false text in
    rw (← first, ← rest) (record {
      behind = drop n text;
      parts = sym (take-append-drop n text);
      alone = none_later false (take n text) k.0;
      ends = ends_line (take n text) (drop n text) k.1;
      others = refl;
    })

pub none_is_empty : (bundle : List ℕ) → pieces_of bundle ≡ [] → bundle ≡ []
none_is_empty [] e = refl
none_is_empty (b ∷ bs) e = absurd (let no : take (piece_len false (b ∷ bs)) (b ∷ bs)
    ∷ pieces_of (drop (piece_len false (b ∷ bs)) (b ∷ bs)) ≡ [] = sym (first_piece b bs) ∙ e in cc)

cut_piece : (begins : Bool) (piece behind : List ℕ) → HasNone begins piece → GoesOn (begins_behind begins piece) behind
    → pieces_from begins (piece ++ behind) ≡ (piece, pieces_of behind)
unfolding pieces_of
cut_piece begins [] [] h g = refl
cut_piece begins [] (b ∷ behind) h g = search rules
cut_piece begins (b ∷ piece) behind h g = rw (h.0, cut_piece (b == 10) piece behind h.1 g) refl

in_front : (rest behind : List ℕ) → HasNone false (64 ∷ rest) → GoesOn (begins_behind false (64 ∷ rest)) behind
    → pieces_of (64 ∷ rest ++ behind) ≡ (64 ∷ rest) ∷ pieces_of behind
in_front rest behind h g = first_by 64 (rest ++ behind) true refl ∙ rw (cut_piece false rest behind h.1 g) refl

-- if another piece stands behind, it begins with `@`
abbrev pub BeginsAt : List ℕ → Type 0
BeginsAt [] = Unit {0}
BeginsAt (b ∷ bs) = b ≡ 64

going_on : (piece behind : List ℕ) → BeginsAt behind → EndsLine piece behind → GoesOn (begins_behind false piece) behind
going_on piece [] at h = tt
going_on piece (b ∷ behind) at h = goes_on piece b behind at h

pub piece_complete : (rest behind : List ℕ) → ((front others : List ℕ) → 64 ∷ rest ≢ front ++ 10 ∷ 64 ∷ others)
    → BeginsAt behind → EndsLine (64 ∷ rest) behind
    → pieces_of (64 ∷ rest ++ behind) ≡ (64 ∷ rest) ∷ pieces_of behind
piece_complete rest behind alone at ends =
    in_front rest behind (none_from false (64 ∷ rest) (λ no others same. let never : false ≡ true = no in cc) alone)
    (going_on (64 ∷ rest) behind at ends)
