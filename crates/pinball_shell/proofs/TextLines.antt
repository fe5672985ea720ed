-- The first line of a text, and the lines after it.
use Rattle.std.proofs.Common.{rules, ◌≡◌, ℕ, ◌<◌, ◌≤◌, Bool, false, Option, unwrap_or, List, [], ◌∷◌, length, arith}
use Rattle.std.{proofs.Common.take-append-drop, specs.{List.{position_or_len, All}, Str.Lines.lines}}
use Rattle.std.proofs.lemmas.{List.{Splits.length-slice_split, Sums.fails_before_first}, Bool.{cond-false, ne_eqb}}
use Rattle.yaml_bytes.{specs.Lines.cut_line, proofs.TextLines.parts_at}

-- the lines that std finds in a text that is not empty are the first, and those of what comes after it
lines-cut : (text : List ℕ) → 0 < length text → lines text ≡ (cut_line text).0 ∷ lines (unwrap_or (cut_line text).1 [])
lines-cut text some = search (rules, take-append-drop, parts_at, cond-false, ne_eqb, length-slice_split)

-- the same, for a text that was cut
pub lines-found : (text line after : List ℕ) (found : Option (List ℕ)) → 0 < length text → line ≡ (cut_line text).0
    → found ≡ (cut_line text).1 → after ≡ unwrap_or found [] → lines text ≡ line ∷ lines after
lines-found text line after found some first rest is = rw (is, first, rest) (lines-cut text some)

-- if no element passes up to the end, none does
pub none_passes : {X : Type 0} (p : X → Bool) (xs : List X) → length xs ≤ position_or_len p xs
    → All (λ x. p x ≡ false) xs
none_passes p xs h = λ i d l. fails_before_first p xs i d (omega arith)
