-- What a line of the usual form says: digits, a blank, a name, a blank, and the digit of a level.
use Rattle.std.proofs.Common.{rules, ◌≡◌, ℕ, ◌+◌, ◌-◌, ◌<◌, ◌≤◌, ◌==◌, Bool, true, false, if◌then◌else◌, nat_lt, nat_le}
use Rattle.std.proofs.Common.{Some, List, [], ◌∷◌, ◌++◌, length, take, get_or, refl, sym, ap, ◌∙◌, arith, append_assoc}
use Rattle.std.proofs.{Common.{length-append, take-append-drop}, Math.Seq.get_or-append_right}
use Rattle.std.specs.{List.{list_all, All}, Char.is_ascii_digit}
use Rattle.std.proofs.lemmas.List.{drop_more, drop_all, Splits.slice_split_at, Sums.AllPass-from_list_all}
use Rattle.std.proofs.lemmas.Bool.{and_parts, or_from, cases_eq, cond-false, ltb-true, leb-true, ne_eqb}
use Rattle.yaml_bytes.specs.Bytes.{is_blank}
use Rattle.pinball_shell.specs.LogText.{Nothing, Unreadable, Change, words, level_in, moment_in, meaning, said_in}
use Rattle.pinball_shell.specs.{LogText.{says_nothing, has_outer_blank, change}, LogView.IsFront}
use Rattle.pinball_shell.proofs.{LineWords.{filter-word, is_filled}, ShortNumbers.moment-few}

-- a word that a blank follows
words-at : (word : List ℕ) (blank : ℕ) (rest : List ℕ) → 0 < length word → All (λ b. is_blank b ≡ false) word
    → is_blank blank ≡ true → words (word ++ blank ∷ rest) ≡ word ∷ words rest
words-at word blank rest some none is = search (rules, is_filled, slice_split_at, filter-word)

no-blank : (b : ℕ) → 32 < b → is_blank b ≡ false
no-blank b h = or_from (b == 32) (b == 9) (ne_eqb b 32 (λ e. omega arith)) (ne_eqb b 9 (λ e. omega arith))

no-blank-plain : (text : List ℕ) → list_all (λ b. nat_lt 32 b) text ≡ true → All (λ b. is_blank b ≡ false) text
no-blank-plain text h = λ k d l. no-blank (get_or text k d)
    (ltb-true 32 (get_or text k d) (AllPass-from_list_all (λ b. nat_lt 32 b) text h k d l))

digit-from : (b : ℕ) → is_ascii_digit b ≡ true → 48 ≤ b
digit-from b h = leb-true 48 b (and_parts (nat_le 48 b) (nat_le b 57) h).0

no-blank-digits : (text : List ℕ) → list_all is_ascii_digit text ≡ true → All (λ b. is_blank b ≡ false) text
no-blank-digits text h = λ k d l. no-blank (get_or text k d)
    (omega (arith, digit-from (get_or text k d) (AllPass-from_list_all is_ascii_digit text h k d l)))

-- the digit of a level
words-level : (digit : ℕ) (level : Bool) → level_in (digit ∷ []) ≡ Some level
    → (words (digit ∷ []) ≡ (digit ∷ []) ∷ []) × (is_blank digit ≡ false)
words-level digit level h = search (rules, cases_eq, cond-false, ne_eqb)

-- the words of a usual line
usual-words : (front name : List ℕ) (moment blank digit : ℕ) (level : Bool) (is : IsFront front moment name)
    → is_blank blank ≡ true → level_in (digit ∷ []) ≡ Some level → 0 < length name
    → list_all (λ b. nat_lt 32 b) name ≡ true
    → words (front ++ blank ∷ digit ∷ []) ≡ is.digits ∷ name ∷ (digit ∷ []) ∷ []
usual-words front name moment blank digit level is parted says some plain =
    search (rules, words-at, no-blank-digits, no-blank-plain, append_assoc, words-level)

-- it begins with a digit
starts : (digits rest : List ℕ) → 0 < length digits → list_all is_ascii_digit digits ≡ true
    → (says_nothing (digits ++ rest) ≡ false) × (is_blank (get_or (digits ++ rest) 0 0) ≡ false)
starts [] rest some are = absurd (omega arith)
starts (d ∷ ds) rest some are = search (rules, digit-from, and_parts, or_from, ne_eqb, no-blank)

-- and ends with the level
ends : (front : List ℕ) (blank digit : ℕ) → get_or (front ++ blank ∷ digit ∷ [])
    (length (front ++ blank ∷ digit ∷ []) - 1) 0 ≡ digit
ends front blank digit = search (rules, length-append, get_or-append_right, get_or)

-- a line without its last two bytes, and these
line-cut : (line : List ℕ) (n m : ℕ) → m ≡ n + 1 → length line ≡ m + 1
    → line ≡ take n line ++ get_or line n 0 ∷ get_or line m 0 ∷ []
line-cut line n m next last = search (rules, drop_all, get_or, drop_more, take-append-drop)

-- what a usual line says
said-usual : (front name : List ℕ) (moment blank digit : ℕ) (level : Bool) (is : IsFront front moment name)
    → is_blank blank ≡ true → level_in (digit ∷ []) ≡ Some level → 0 < length name
    → list_all (λ b. nat_lt 32 b) name ≡ true
    → meaning (front ++ blank ∷ digit ∷ []) ≡ Change moment name level
said-usual front name moment blank digit level is parted says some plain =
    let tail = blank ∷ digit ∷ [] in
    let line = front ++ tail in
    let parts : line ≡ is.digits ++ (is.blank ∷ (name ++ tail)) = ap (λ (f : List ℕ). f ++ tail) is.parts
    ∙ append_assoc is.digits (is.blank ∷ name) tail in
    let start = starts is.digits (is.blank ∷ (name ++ tail)) is.some is.are_digits in
    let something : says_nothing line ≡ false = ap says_nothing parts ∙ start.0 in
    let first : is_blank (get_or line 0 0) ≡ false = ap (λ (l : List ℕ). is_blank (get_or l 0 0)) parts ∙ start.1 in
    let last : is_blank (get_or line (length line - 1) 0) ≡ false = ap is_blank (ends front blank digit)
    ∙ (words-level digit level says).1 in
    let inner : has_outer_blank line ≡ false =
    or_from (is_blank (get_or line 0 0)) (is_blank (get_or line (length line - 1) 0)) first last in
    let change_is : change (moment_in is.digits) name (level_in (digit ∷ [])) ≡ Change moment name level =
    rw (moment-few is.digits moment is.some is.few is.are_digits is.value, says) refl in
    cond-false (says_nothing line) Nothing (if has_outer_blank line then Unreadable else said_in (words line)) something
    ∙ cond-false (has_outer_blank line) Unreadable (said_in (words line)) inner
    ∙ ap said_in (usual-words front name moment blank digit level is parted says some plain)
    ∙ change_is

-- the same, for a line that was cut
pub usual-said : (line name : List ℕ) (n m moment : ℕ) (level : Bool) → m ≡ n + 1 → length line ≡ m + 1
    → IsFront (take n line) moment name → is_blank (get_or line n 0) ≡ true
    → level_in (get_or line m 0 ∷ []) ≡ Some level → 0 < length name
    → list_all (λ b. nat_lt 32 b) name ≡ true → Change moment name level ≡ meaning line
usual-said line name n m moment level next last is parted says some plain =
    sym (ap meaning (line-cut line n m next last)
    ∙ said-usual (take n line) name moment (get_or line n 0) (get_or line m 0) level is parted says some plain)
