-- The first line of what has been read, and what is left after it.
use Rattle.std.proofs.Common.{rules, ◌≡◌, ℕ, ◌+◌, ◌<◌, ◌≤◌, Bool, true, false, Option, Some, None, List, [], ◌∷◌, ◌++◌}
use Rattle.std.proofs.Common.{length, take, drop, refl, ap, ap₂, sym, ◌∙◌, subst, arith, append-nil, length-append}
use Rattle.std.proofs.{Common.length-drop, lemmas.{Grind.common_steps, List.{take-append-le, drop-append-le}}}
use Rattle.std.specs.{List.position_or_len, Str.Lines.{lines, strip_carriage_return}}
use Rattle.yaml_bytes.specs.Lines.{is_lf, line_with, cut_line}
use Rattle.pinball_shell.proofs.TextLines.{lines-found}

-- the first LF stays where it is, whatever comes after the text
more-at : (text more : List ℕ) → position_or_len is_lf text < length text
    → position_or_len is_lf (text ++ more) ≡ position_or_len is_lf text
more-at [] more h = absurd (omega arith)
more-at (b ∷ text) more h = here b text more (is_lf b) refl h (more-at text more)
  where
    here : (b : ℕ) (text more : List ℕ) (n : Bool) → is_lf b ≡ n → position_or_len is_lf (b ∷ text) < length (b ∷ text)
        → (position_or_len is_lf text < length text → position_or_len is_lf (text ++ more) ≡ position_or_len is_lf text)
        → position_or_len is_lf (b ∷ (text ++ more)) ≡ position_or_len is_lf (b ∷ text)
    here b text more n is h rest = grind (arith, common_steps)

-- where there is an LF, the text that comes after it is longer by what comes after
with-more : (front rest more after : List ℕ) → (line_with front rest).1 ≡ Some after
    → line_with front (rest ++ more) ≡ ((line_with front rest).0, Some (after ++ more))
with-more front [] more after is = cc
with-more front (lf ∷ rest) more after is = let same : rest ≡ after = cc
    in ap (λ (l : List ℕ). (strip_carriage_return front, Some (l ++ more))) same

some-rest : (front rest after : List ℕ) → (line_with front rest).1 ≡ Some after → 0 < length rest
some-rest front [] after is = cc
some-rest front (lf ∷ rest) after is = omega arith

cut-more : (text more after : List ℕ) → (cut_line text).1 ≡ Some after
    → cut_line (text ++ more) ≡ ((cut_line text).0, Some (after ++ more))
cut-more text more after is =
    let n = position_or_len is_lf text in
    let some = some-rest (take n text) (drop n text) after is in
    let within : n < length text = omega (arith, some, length-drop n text) in
    let at = more-at text more within in
    ap (λ (k : ℕ). line_with (take k (text ++ more)) (drop k (text ++ more))) at
    ∙ ap₂ line_with (take-append-le n text more (omega arith)) (drop-append-le n text more (omega arith))
    ∙ with-more (take n text) (drop n text) more after is

-- a line with its end was read
pub line-read : (text more line after : List ℕ) → line ≡ (cut_line text).0 → Some after ≡ (cut_line text).1
    → lines (text ++ more) ≡ line ∷ lines (after ++ more)
line-read text more line after first rest =
    let cut = cut-more text more after (sym rest) in
    lines-found (text ++ more) line (after ++ more) (Some (after ++ more)) (some (text ++ more) cut)
    (first ∙ sym (ap (λ x. x.0) cut)) (sym (ap (λ x. x.1) cut)) refl
  where
    some : (all : List ℕ) → cut_line all ≡ ((cut_line text).0, Some (after ++ more)) → 0 < length all
    some [] is = let none : ◌≡◌ {A = Option (List ℕ)} None (Some (after ++ more)) = ap (λ x. x.1) is in cc
    some (b ∷ all) is = omega arith

-- the last line was read, which lacks its end
pub last-read : (text line : List ℕ) → 0 < length text → line ≡ (cut_line text).0 → None ≡ (cut_line text).1
    → lines text ≡ line ∷ lines []
last-read text line some first rest = lines-found text line [] None some first rest refl
