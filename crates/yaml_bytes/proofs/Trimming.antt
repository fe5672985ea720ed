-- Blanks at the end of a text.
use Rattle.std.proofs.Common.{◌≡◌, ℕ, suc, ◌-◌, ◌≤◌, ◌<◌, true, false, List, [], ◌∷◌, ◌++◌, length, take, get_or, refl}
use Rattle.std.proofs.{Common.{sym, ap, subst, ◌∙◌, arith}, Math.Seq.{take-suc, take-length}}
use Rattle.yaml_bytes.specs.{Bytes.is_blank, Scanning.{onto_trimmed, trim_blanks}}

-- a list is what stands before its last element, and that
pub last_split : (xs : List ℕ) → 1 ≤ length xs → take (length xs - 1) xs ++ get_or xs (length xs - 1) 0 ∷ [] ≡ xs
last_split xs h =
    let e : suc (length xs - 1) ≡ length xs = omega arith in
    let lt : length xs - 1 < length xs = omega arith in
    sym (take-suc xs (length xs - 1) 0 lt) ∙ subst (λ n. take n xs ≡ xs) (sym e) (take-length xs)

pub trimmed-blank : (xs : List ℕ) (b : ℕ) → is_blank b ≡ true → trim_blanks (xs ++ b ∷ []) ≡ trim_blanks xs
trimmed-blank [] b h = rw h refl
trimmed-blank (x ∷ xs) b h = ap (onto_trimmed x) (trimmed-blank xs b h)

onto_trimmed-push : (x : ℕ) (xs : List ℕ) (b : ℕ) → onto_trimmed x (xs ++ b ∷ []) ≡ x ∷ xs ++ b ∷ []
onto_trimmed-push x [] b = refl
onto_trimmed-push x (y ∷ ys) b = refl

pub trimmed-other : (xs : List ℕ) (b : ℕ) → is_blank b ≡ false → trim_blanks (xs ++ b ∷ []) ≡ xs ++ b ∷ []
trimmed-other [] b h = rw h refl
trimmed-other (x ∷ xs) b h = ap (onto_trimmed x) (trimmed-other xs b h) ∙ onto_trimmed-push x xs b

pub trimmed_less : (xs : List ℕ) → 1 ≤ length xs → is_blank (get_or xs (length xs - 1) 0) ≡ true
    → trim_blanks (take (length xs - 1) xs) ≡ trim_blanks xs
trimmed_less xs h e = sym (trimmed-blank (take (length xs - 1) xs) (get_or xs (length xs - 1) 0) e)
    ∙ ap trim_blanks (last_split xs h)

pub trimmed_all : (xs : List ℕ) → 1 ≤ length xs → is_blank (get_or xs (length xs - 1) 0) ≡ false → trim_blanks xs ≡ xs
trimmed_all xs h e = subst (λ ys. trim_blanks ys ≡ ys) (last_split xs h)
    (trimmed-other (take (length xs - 1) xs) (get_or xs (length xs - 1) 0) e)
