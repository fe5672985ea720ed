-- Faults of one text, by line and number, print lines that differ if their names do.
use Rattle.std.proofs.Common.{rules, ◌≡◌, ℕ, ◌<◌, ◌≤◌, ◌+◌, ◌^◌, suc, zero, Bool, true, false, not, ◌||◌, ◌&&◌, nat_lt}
use Rattle.std.proofs.Common.{nat_le, List, [], ◌∷◌, ◌++◌, codes, drop, get_or, append_assoc, refl, sym, ap, ◌∙◌}
use Rattle.std.proofs.{Common.{true≢false, arith}, lemmas.List.{append_cancel_left, append_cancel_right}}
use Rattle.std.specs.{Char.digit_value, Fmt.{decimal, digits}, Str.{bytes_eq, Parse.AllDigits}}
use Rattle.std.proofs.lemmas.Bool.{and_parts, false_from_ne_true, ltb-true, leb-true, not-true}
use Rattle.std.proofs.lemmas.{Fmt.{decimal_is_IsNumeral, decimal_injective}, Slice.Eq.bytes_eq-Decides}
use Rattle.yaml_subset.specs.Keys.{is_among}
use Rattle.mpf_config.specs.{Escaped.escape_bytes, FaultLine.with_blank}
use Rattle.row_faults.specs.declared.fault.RowFaultKind.{RowFaultKind, TheVariants.{TimerAtEnd, BallRoute}}
use Rattle.row_faults.specs.{FaultView.RowFaultView, RowFaults.listed_once, FaultsOf.title_text}
use Rattle.row_faults.specs.declared.fault.RowFaultKind.TheVariants.{Name, PulseLimit, PowerLimit, HoldNotAllowed}
use Rattle.row_faults.specs.FaultText.{row_fault_number, row_fault_name, row_title, row_place, row_fault_line}
use Rattle.row_faults.specs.Apart.{HaveLines, is_in_order, is_before, is_apart, are_apart}

-- the byte of a title that is its number
pub number_at : (k : RowFaultKind) (rest : List ℕ) → get_or (row_title k ++ rest) 6 0 ≡ 48 + row_fault_number k
unfolding digits
number_at Name rest = refl
number_at _ rest = refl

-- a title with the space behind it
pub title-is : (k : RowFaultKind) → title_text k ≡ row_title k ++ 32 ∷ []
unfolding digits
title-is Name = refl
title-is PulseLimit = refl
title-is PowerLimit = refl
title-is HoldNotAllowed = refl
title-is TimerAtEnd = refl
title-is BallRoute = refl

-- a title as a function of its number
abbrev name_by : ℕ → List ℕ
name_by zero = []
name_by (suc zero) = row_fault_name Name
name_by (suc (suc zero)) = row_fault_name PulseLimit
name_by (suc (suc (suc zero))) = row_fault_name PowerLimit
name_by (suc (suc (suc (suc zero)))) = row_fault_name HoldNotAllowed
name_by (suc (suc (suc (suc (suc zero))))) = row_fault_name TimerAtEnd
name_by (suc (suc (suc (suc (suc (suc n)))))) = row_fault_name BallRoute

abbrev title_by : ℕ → List ℕ
title_by n = codes "fault " ++ decimal n ++ with_blank (name_by n)

title_is : (k : RowFaultKind) → row_title k ≡ title_by (row_fault_number k)
title_is x1 = search rules

-- texts that begin with titles, and are one, begin with the same number and title
same_number : (k m : RowFaultKind) (a b : List ℕ) → row_title k ++ a ≡ row_title m ++ b
    → row_fault_number k ≡ row_fault_number m
same_number k m a b e =
    let numbers : 48 + row_fault_number k ≡ 48 + row_fault_number m = sym (number_at k a)
    ∙ ap (λ (xs : List ℕ). get_or xs 6 0) e ∙ number_at m b in
    omega (arith, numbers)

same_title : (k m : RowFaultKind) (a b : List ℕ) → row_title k ++ a ≡ row_title m ++ b → row_title k ≡ row_title m
same_title k m a b e = title_is k ∙ ap title_by (same_number k m a b e) ∙ sym (title_is m)

-- no digit is a space
digit_apart : (d : ℕ) → digit_value d < 10 → d ≡ 32 → ⊥
digit_apart d low same = by (ap digit_value same)
  where
    by : digit_value d ≡ 36 → ⊥
    by is = omega (arith, low, is)

-- what stands before the first space
same_digits : (ds es a b : List ℕ) → AllDigits 10 ds → AllDigits 10 es → ds ++ 32 ∷ a ≡ es ++ 32 ∷ b → ds ≡ es
same_digits [] [] a b p q e = refl
same_digits [] (y ∷ es) a b p q e = absurd (digit_apart y q.0 (sym (ap (λ (xs : List ℕ). get_or xs 0 0) e)))
same_digits (x ∷ ds) [] a b p q e = absurd (digit_apart x p.0 (ap (λ (xs : List ℕ). get_or xs 0 0) e))
same_digits (x ∷ ds) (y ∷ es) a b p q e =
    let heads : x ≡ y = ap (λ (xs : List ℕ). get_or xs 0 0) e in
    let tails : ds ++ 32 ∷ a ≡ es ++ 32 ∷ b = ap (drop 1) e in
    let rest : ds ≡ es = same_digits ds es a b p.1 q.1 tails in
    λ i. heads i ∷ rest i

-- the place, part by part
pub place_is : (text name : List ℕ) (line : ℕ)
    → row_place text line name ≡ with_blank (escape_bytes text)
    ++ (with_blank (decimal line) ++ (with_blank name ++ 10 ∷ []))
place_is text name line = search (rules, append_assoc)

-- faults of one text that print the same line are on one line
pub same_line : (f g : RowFaultView) → f.text ≡ g.text → f.line < 2 ^ 64 → g.line < 2 ^ 64
    → row_fault_line f ≡ row_fault_line g → f.line ≡ g.line
same_line f g texts f_low g_low e =
    let titles : row_title f.kind ≡ row_title g.kind =
    same_title f.kind g.kind (row_place f.text f.line f.name) (row_place g.text g.line g.name) e in
    let places : row_place f.text f.line f.name ≡ row_place g.text g.line g.name =
    append_cancel_left (row_title g.kind) (row_place f.text f.line f.name) (row_place g.text g.line g.name)
    (ap (λ (title : List ℕ). title ++ row_place f.text f.line f.name) (sym titles) ∙ e) in
    let lines : with_blank (decimal f.line) ++ (with_blank f.name ++ 10 ∷ [])
    ≡ with_blank (decimal g.line) ++ (with_blank g.name ++ 10 ∷ []) =
    append_cancel_left (with_blank (escape_bytes g.text))
    (with_blank (decimal f.line) ++ (with_blank f.name ++ 10 ∷ []))
    (with_blank (decimal g.line) ++ (with_blank g.name ++ 10 ∷ []))
    (ap (λ (text : List ℕ). with_blank (escape_bytes text)
    ++ (with_blank (decimal f.line) ++ (with_blank f.name ++ 10 ∷ []))) (sym texts)
    ∙ sym (place_is f.text f.name f.line) ∙ places ∙ place_is g.text g.name g.line) in
    let digits : decimal f.line ++ 32 ∷ (f.name ++ 10 ∷ []) ≡ decimal g.line ++ 32 ∷ (g.name ++ 10 ∷ []) =
    ap (drop 1) lines in
    decimal_injective f.line g.line f_low g_low
    (same_digits (decimal f.line) (decimal g.line) (f.name ++ 10 ∷ []) (g.name ++ 10 ∷ [])
    (decimal_is_IsNumeral f.line f_low).0.1 (decimal_is_IsNumeral g.line g_low).0.1 digits)

-- and have one name, if they have one number too
same_name : (f g : RowFaultView) → f.text ≡ g.text → f.line ≡ g.line → row_title f.kind ≡ row_title g.kind
    → row_fault_line f ≡ row_fault_line g → f.name ≡ g.name
same_name f g texts lines titles e =
    let places : row_place f.text f.line f.name ≡ row_place g.text g.line g.name =
    append_cancel_left (row_title g.kind) (row_place f.text f.line f.name) (row_place g.text g.line g.name)
    (ap (λ (title : List ℕ). title ++ row_place f.text f.line f.name) (sym titles) ∙ e) in
    let behind : with_blank (decimal f.line) ++ (with_blank f.name ++ 10 ∷ [])
    ≡ with_blank (decimal g.line) ++ (with_blank g.name ++ 10 ∷ []) =
    append_cancel_left (with_blank (escape_bytes g.text))
    (with_blank (decimal f.line) ++ (with_blank f.name ++ 10 ∷ []))
    (with_blank (decimal g.line) ++ (with_blank g.name ++ 10 ∷ []))
    (ap (λ (text : List ℕ). with_blank (escape_bytes text)
    ++ (with_blank (decimal f.line) ++ (with_blank f.name ++ 10 ∷ []))) (sym texts)
    ∙ sym (place_is f.text f.name f.line) ∙ places ∙ place_is g.text g.name g.line) in
    let ends : with_blank f.name ++ 10 ∷ [] ≡ with_blank g.name ++ 10 ∷ [] =
    append_cancel_left (with_blank (decimal g.line)) (with_blank f.name ++ 10 ∷ []) (with_blank g.name ++ 10 ∷ [])
    (ap (λ (line : ℕ). with_blank (decimal line) ++ (with_blank f.name ++ 10 ∷ [])) (sym lines) ∙ behind) in
    append_cancel_right f.name g.name (10 ∷ []) (ap (drop 1) ends)

-- ---- in order

-- a fault is of the text of another, and not behind it
abbrev IsUpTo : RowFaultView → RowFaultView → Type 0
IsUpTo f g = (f.text ≡ g.text) × (f.line ≤ g.line)
    × (g.line ≤ f.line → row_fault_number f.kind ≤ row_fault_number g.kind) × (g.line < 2 ^ 64)

abbrev AreBehind : RowFaultView → List RowFaultView → Type 0
AreBehind f [] = Unit {0}
AreBehind f (g ∷ gs) = IsUpTo f g × AreBehind f gs

up-to : (f g : RowFaultView) (gs : List RowFaultView) → g.line < 2 ^ 64 → is_in_order f (g ∷ gs) ≡ true → IsUpTo f g
up-to f g gs low e =
    let one = and_parts (nat_le f.line g.line) _ e in
    let two = and_parts (nat_lt f.line g.line || nat_le (row_fault_number f.kind) (row_fault_number g.kind))
    (bytes_eq f.text g.text) one.1 in
    ((bytes_eq-Decides f.text g.text).0 two.1, leb-true f.line g.line one.0, by (nat_lt f.line g.line) refl two.0, low)
  where
    by : (b : Bool) → nat_lt f.line g.line ≡ b
        → (b || nat_le (row_fault_number f.kind) (row_fault_number g.kind)) ≡ true → g.line ≤ f.line
        → row_fault_number f.kind ≤ row_fault_number g.kind
    by true less e back = absurd (never (ltb-true f.line g.line less))
      where
        never : f.line < g.line → ⊥
        never l = omega (arith, l, back)
    by false less e back = leb-true (row_fault_number f.kind) (row_fault_number g.kind) e

up-to-all : (f g : RowFaultView) (gs : List RowFaultView) → IsUpTo f g → AreBehind g gs → AreBehind f gs
up-to-all f g [] first more = tt
up-to-all f g (h ∷ hs) first more =
    ((first.0 ∙ more.0.0, omega (arith, first.1, more.0.1), numbers, more.0.3), up-to-all f g hs first more.1)
  where
    numbers : h.line ≤ f.line → row_fault_number f.kind ≤ row_fault_number h.kind
    numbers back =
        let early = first.2 (omega (arith, back, more.0.1)) in
        let late = more.0.2 (omega (arith, back, first.1)) in
        omega (arith, early, late)

behind : (f : RowFaultView) (fs : List RowFaultView) → HaveLines fs → are_apart (f ∷ fs) ≡ true → AreBehind f fs
behind f [] low e = tt
behind f (g ∷ gs) low e =
    let parts = and_parts (is_in_order f (g ∷ gs)) _ e in
    let first = up-to f g gs low.0 parts.0 in
    (first, up-to-all f g gs first (behind g gs low.1 (and_parts (is_apart f (g ∷ gs)) (are_apart (g ∷ gs)) parts.1).1))

-- ---- apart

-- the line of a fault is none of theirs
abbrev IsNone : RowFaultView → List RowFaultView → Type 0
IsNone f [] = Unit {0}
IsNone f (g ∷ gs) = (bytes_eq (row_fault_line f) (row_fault_line g) ≡ false) × IsNone f gs

lines-differ : (f g : RowFaultView) → f.line < 2 ^ 64 → IsUpTo f g
    → (f.line ≡ g.line → row_fault_number f.kind ≡ row_fault_number g.kind → f.name ≡ g.name → ⊥)
    → bytes_eq (row_fault_line f) (row_fault_line g) ≡ false
lines-differ f g low up differ = false_from_ne_true (bytes_eq (row_fault_line f) (row_fault_line g))
    (λ holds. by ((bytes_eq-Decides (row_fault_line f) (row_fault_line g)).0 holds))
  where
    by : row_fault_line f ≡ row_fault_line g → ⊥
    by e =
        let titles = same_title f.kind g.kind (row_place f.text f.line f.name) (row_place g.text g.line g.name) e in
        let numbers = same_number f.kind g.kind (row_place f.text f.line f.name) (row_place g.text g.line g.name) e in
        let lines = same_line f g up.0 low up.3 e in
        differ lines numbers (same_name f g up.0 lines titles e)

-- a fault is before those behind one that it is before
none-before : (f g : RowFaultView) (gs : List RowFaultView) → f.line < 2 ^ 64 → is_before f g ≡ true → IsUpTo f g
    → AreBehind g gs → IsNone f gs
none-before f g [] low less up more = tt
none-before f g (h ∷ hs) low less up more = (
  lines-differ f h low (up-to-all f g (h ∷ []) up (more.0, tt)).0 (by (nat_lt f.line g.line) refl less),
  none-before f g hs low less up more.1,
)
  where
    by : (b : Bool) → nat_lt f.line g.line ≡ b
        → (b || nat_lt (row_fault_number f.kind) (row_fault_number g.kind)) ≡ true → f.line ≡ h.line
        → row_fault_number f.kind ≡ row_fault_number h.kind → f.name ≡ h.name → ⊥
    by true earlier e lines numbers names =
        let first : f.line < g.line = ltb-true f.line g.line earlier in
        omega (arith, first, lines, more.0.1)
    by false earlier e lines numbers names =
        let lower : row_fault_number f.kind < row_fault_number g.kind =
        ltb-true (row_fault_number f.kind) (row_fault_number g.kind) e in
        let late = more.0.2 (omega (arith, lines, up.1)) in
        omega (arith, lower, late, numbers)

none : (f : RowFaultView) (fs : List RowFaultView) → f.line < 2 ^ 64 → HaveLines fs → is_apart f fs ≡ true
    → AreBehind f fs → are_apart fs ≡ true → IsNone f fs
none f [] low lows e up rest = tt
none f (g ∷ gs) low lows e up rest = by (is_before f g) refl e (λ more. none f gs low lows.1 more up.1 after)
  where
    after : are_apart gs ≡ true
    after = (and_parts (is_apart g gs) (are_apart gs) (and_parts (is_in_order g gs) _ rest).1).1

    by : (b : Bool) → is_before f g ≡ b → (b || (not (bytes_eq f.name g.name) && is_apart f gs)) ≡ true
        → (is_apart f gs ≡ true → IsNone f gs) → IsNone f (g ∷ gs)
    by true less e others =
        (lines-differ f g low up.0 (first less), none-before f g gs low less up.0 (behind g gs lows.1 rest))
      where
        first : is_before f g ≡ true → f.line ≡ g.line → row_fault_number f.kind ≡ row_fault_number g.kind
            → f.name ≡ g.name → ⊥
        first e lines numbers names = one (nat_lt f.line g.line) refl e
          where
            one : (b : Bool) → nat_lt f.line g.line ≡ b
                → (b || nat_lt (row_fault_number f.kind) (row_fault_number g.kind)) ≡ true → ⊥
            one true earlier e = let l : f.line < g.line = ltb-true f.line g.line earlier in omega (arith, l, lines)
            one false earlier e = let l : row_fault_number f.kind < row_fault_number g.kind =
                ltb-true (row_fault_number f.kind) (row_fault_number g.kind) e in omega (arith, l, numbers)
    by false less e others =
        let parts = and_parts (not (bytes_eq f.name g.name)) (is_apart f gs) e in
        (lines-differ f g low up.0 (λ lines numbers names. other parts.0 names), others parts.1)
      where
        other : not (bytes_eq f.name g.name) ≡ true → f.name ≡ g.name → ⊥
        other e names = true≢false (sym ((bytes_eq-Decides f.name g.name).1 names)
            ∙ not-true (bytes_eq f.name g.name) e)

-- ---- once each

-- none of these prints a line that is among the lines
abbrev AreNew : List (List ℕ) → List RowFaultView → Type 0
AreNew lines [] = Unit {0}
AreNew lines (f ∷ fs) = (is_among lines (row_fault_line f) ≡ false) × AreNew lines fs

still-new : (lines : List (List ℕ)) (f : RowFaultView) (fs : List RowFaultView) → AreNew lines fs → IsNone f fs
    → AreNew (row_fault_line f ∷ lines) fs
still-new lines f [] new apart = tt
still-new lines f (g ∷ gs) new apart = (rw (apart.0, new.0) refl, still-new lines f gs new.1 apart.1)

once_from : (lines : List (List ℕ)) (fs : List RowFaultView) → AreNew lines fs → HaveLines fs → are_apart fs ≡ true
    → listed_once lines fs ≡ fs
once_from lines [] new low e = refl
once_from lines (f ∷ fs) new low e =
    let apart = (and_parts (is_in_order f fs) _ e).1 in
    let rest : are_apart fs ≡ true = (and_parts (is_apart f fs) (are_apart fs) apart).1 in
    let differs : IsNone f fs = none f fs low.0 low.1 (and_parts (is_apart f fs) (are_apart fs) apart).0
    (behind f fs low.1 e) rest in
    rw new.0 (ap (λ (faults : List RowFaultView). f ∷ faults)
    (once_from (row_fault_line f ∷ lines) fs (still-new lines f fs new.1 differs) low.1 rest))

none-at-first : (fs : List RowFaultView) → AreNew [] fs
none-at-first [] = tt
none-at-first (f ∷ fs) = (refl, none-at-first fs)

-- faults that are apart are each listed
pub once-apart : (fs : List RowFaultView) → HaveLines fs → are_apart fs ≡ true → listed_once [] fs ≡ fs
once-apart fs low e = once_from [] fs (none-at-first fs) low e
