-- The first line of a text, and the lines after it.
use Rattle.std.proofs.Common.{rules, ◌≡◌, ℕ, ◌-◌, ◌<◌, ◌≤◌, ◌==◌, Bool, ◌&&◌, true, false, cond, List, [], ◌∷◌, Option}
use Rattle.std.proofs.Common.{Some, None, take, drop, get_or, slice_index, length, refl, sym, ap, subst, ◌∙◌, arith}
use Rattle.std.proofs.{Common.one-add, Math.Seq.take-length, lemmas.Bool.or_parts}
use Rattle.std.specs.{List.{slice_split, position_or_len}, Str.Lines.strip_carriage_return}
use Rattle.yaml_bytes.specs.Lines.{is_lf, ends_line, line_with, cut_line, parts_from, lines_between, lines_of}
use Rattle.yaml_bytes.specs.Lines.{lines_after}

-- ---- where a text is cut

parts_step : (b : ℕ) (bs : List ℕ) (n : Bool) → is_lf b ≡ n
    → slice_split is_lf bs ≡ parts_from (take (position_or_len is_lf bs) bs) (drop (position_or_len is_lf bs) bs)
    → slice_split is_lf (b ∷ bs) ≡ parts_from (take (position_or_len is_lf (b ∷ bs)) (b ∷ bs))
    (drop (position_or_len is_lf (b ∷ bs)) (b ∷ bs))
parts_step b bs x3 e h = search rules

-- the parts between the LFs of a text are the first, and those after it
pub parts_at : (text : List ℕ) → slice_split is_lf text
    ≡ parts_from (take (position_or_len is_lf text) text) (drop (position_or_len is_lf text) text)
parts_at [] = refl
parts_at (b ∷ bs) = parts_step b bs (is_lf b) refl (parts_at bs)

more_step : (part : List ℕ) (b : ℕ) (bs : List ℕ) (n : Bool) → is_lf b ≡ n
    → lines_between (part ∷ slice_split is_lf (b ∷ bs))
    ≡ strip_carriage_return part ∷ lines_between (slice_split is_lf (b ∷ bs))
more_step part b bs x4 e = search rules

-- a part that another follows ends with LF or CR LF
more_lines : (part after : List ℕ) → lines_between (part ∷ slice_split is_lf after)
    ≡ strip_carriage_return part ∷ lines_between (slice_split is_lf after)
more_lines part [] = refl
more_lines part (b ∷ bs) = more_step part b bs (is_lf b) refl

pub none_at : (xs : List ℕ) → length xs < 1 → xs ≡ []
none_at [] h = refl
none_at (x ∷ xs) h = absurd (omega arith)

-- the first byte of a text, and what comes after it
pub after_first : (xs : List ℕ) → 1 ≤ length xs → xs ≡ get_or xs 0 0 ∷ take (length xs - 1) (drop 1 xs)
after_first [] h = absurd (omega arith)
after_first (x ∷ xs) h =
    let e : length xs ≡ length (x ∷ xs) - 1 = omega arith in
    ap (λ (ys : List ℕ). x ∷ ys) (sym (subst (λ n. take n xs ≡ xs) e (take-length xs)))

lines_with : (front rest : List ℕ) → lines_between (parts_from front rest)
    ≡ (line_with front rest).0 ∷ lines_after (line_with front rest).1
lines_with front x2 = search (rules, more_lines)

-- the lines of a text are the first, and those of what comes after it
pub lines_at : (text : List ℕ) → lines_of text ≡ (cut_line text).0 ∷ lines_after (cut_line text).1
lines_at text = ap lines_between (parts_at text)
    ∙ lines_with (take (position_or_len is_lf text) text) (drop (position_or_len is_lf text) text)

-- ---- the same, for a text that was cut

module _ (text front rest : List ℕ) (n : ℕ) (first_lf : n ≡ position_or_len is_lf text) (is_front : front ≡ take n text)
    (is_rest : rest ≡ drop n text) where
  cut_here : cut_line text ≡ line_with front rest
  cut_here = rw (is_front, is_rest, first_lf) refl

  lines_here : (r : List ℕ × Option (List ℕ)) → line_with front rest ≡ r → lines_of text ≡ r.0 ∷ lines_after r.1
  lines_here r e = subst (λ (x : List ℕ × Option (List ℕ)). lines_of text ≡ x.0 ∷ lines_after x.1) (cut_here ∙ e)
      (lines_at text)

  pub last_line : length rest < 1 → lines_of text ≡ front ∷ []
  last_line none = lines_here (front, None) (ap (line_with front) (none_at rest none))

  pub next_line : 1 ≤ length rest → lines_of text
      ≡ strip_carriage_return front ∷ lines_of (take (length rest - 1) (drop 1 rest))
  next_line some = lines_here (strip_carriage_return front, Some (take (length rest - 1) (drop 1 rest)))
      (ap (line_with front) (after_first rest some))

-- ---- the first line, from the first byte on

-- a byte in front of a first line
abbrev pub onto_line : ℕ → List ℕ × Option (List ℕ) → List ℕ × Option (List ℕ)
onto_line b r = (b ∷ r.0, r.1)

-- without the CR at a place, if that is the last
abbrev strip_at : ℕ → List ℕ → List ℕ
strip_at n line = cond (slice_index line n == 13) (take n line) line

with_more : (b c : ℕ) (front rest : List ℕ) → line_with (b ∷ c ∷ front) rest ≡ onto_line b (line_with (c ∷ front) rest)
with_more b c front x4 = search rules

and_true_left : (x : Bool) → (x && true) ≡ false → x ≡ false
and_true_left x1 e = search rules

other_step : (b c : ℕ) (cs : List ℕ) (lf : Bool) → is_lf c ≡ lf → is_lf b ≡ false → ((b == 13) && lf) ≡ false
    → cut_line (b ∷ c ∷ cs) ≡ onto_line b (cut_line (c ∷ cs))
other_step b c cs true e f g = rw (f, e) (rw (and_true_left (b == 13) g) refl)
other_step b c cs false e f g = rw (f, e) (simp one-add
    (with_more b c (take (position_or_len is_lf cs) cs) (drop (position_or_len is_lf cs) cs)))

-- a byte at which no line ends is in front of the first line of what follows it
pub cut_other : (b : ℕ) (bs : List ℕ) → ends_line b bs ≡ false → cut_line (b ∷ bs) ≡ onto_line b (cut_line bs)
cut_other b x2 e = search (rules, or_parts, other_step)
