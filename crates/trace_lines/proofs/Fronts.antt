-- What a front begins with, and counts in a row.
use Rattle.std.proofs.Common.{◌≡◌, ℕ, List, [], ◌∷◌, ◌+◌, ◌-◌, ◌++◌, length, take, drop, codes, ap, sym, ◌∙◌}
use Rattle.std.proofs.{Common.{append_assoc, arith, take-take}, Math.Seq.take-append-add}

-- Of digits that end at place 20, and what follows them, so many bytes after the digits.
pub front-part : (room digits after : List ℕ) (start more : ℕ) → drop start room ≡ digits ++ after
    → start + length digits ≡ 20
    → take (20 + more - start) (drop start room) ≡ digits ++ take more after
front-part room digits after start more is at =
    let count : 20 + more - start ≡ length digits + more = omega (arith, at) in
    ap (take (20 + more - start)) is ∙ ap (λ (n : ℕ). take n (digits ++ after)) count
    ∙ take-append-add digits after more

-- of digits and ` machine`, up to the blank
pub front-to-blank : (digits text : List ℕ) → take (length digits + 8) text ≡ digits ++ codes " machine"
    → take (length digits + 1) text ≡ digits ++ codes " "
front-to-blank digits text is =
    sym (take-take (length digits + 1) (length digits + 8) text (omega arith)) ∙ ap (take (length digits + 1)) is
    ∙ take-append-add digits (codes " machine") 1

-- counts, each but the last before a blank, and LF
pub four-counts : (a b c d : List ℕ) → (((a ++ codes " ") ++ (b ++ codes " ")) ++ (c ++ codes " ")) ++ (d ++ 10 ∷ [])
    ≡ a ++ codes " " ++ b ++ codes " " ++ c ++ codes " " ++ d ++ 10 ∷ []
four-counts a b c d =
    let last = d ++ 10 ∷ [] in
    ap (λ (x : List ℕ). x ++ (c ++ codes " ") ++ last) (sym (append_assoc (a ++ codes " ") b (codes " ")))
    ∙ ap (λ (x : List ℕ). x ++ last) (sym (append_assoc (a ++ codes " " ++ b ++ codes " ") c (codes " ")))
    ∙ sym (append_assoc (a ++ codes " " ++ b ++ codes " " ++ c ++ codes " ") d (10 ∷ []))
