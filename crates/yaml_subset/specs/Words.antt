-- Words: the keys and scalars of a line, plain or in quotes, in blocks and in flow.
use Rattle.std.specs.Prelude.{◌≡◌, ℕ, Bool, true, false, ◌&&◌, ◌||◌, List, [], ◌∷◌, length, Result, Ok, if◌then◌else◌}
use Rattle.std.specs.Prelude.{◌==◌, ◌⊎◌}
use Rattle.yaml_subset.specs.declared.fault.TextFaultKind.{TextFaultKind, TheVariants.{Quote, Flow, NotInSubset}}
use Rattle.yaml_subset.specs.{declared.place.PlacedFault.PlacedFault, Placed.fault_at}
use Rattle.yaml_bytes.specs.Bytes.{begins_blank, begins_gap, is_flow_indicator, begins_flow_indicator}
use Rattle.yaml_bytes.specs.Bytes.{begins_bare_colon, is_mark, begins_word}
use Rattle.yaml_bytes.specs.{Results.◌>>=◌, Plain.{IsBehindBlanks, IsPlainWord}}
use Rattle.yaml_bytes.specs.Scanning.{trim_blanks, behind_blanks, word_front, word_rest}
use Rattle.yaml_subset.specs.Quoted.{IsSingle, IsDouble, single_at, double_at}

-- ---- what a word is

-- whether in flow a `:` comes first, and directly after it one of `, [ ] { }`
abbrev pub breaks_flow : Bool → List ℕ → Bool
breaks_flow flow text = flow && begins_bare_colon text

-- Whether a text in quotes may come before this, after a blank or not: nothing, `#` after a blank, `:` before a gap, or
-- in flow `,` `]` `}`.
abbrev pub may_follow : Bool → Bool → List ℕ → Bool
may_follow flow blank [] = true
may_follow flow blank (b ∷ after) = (flow && ((b == 44) || (b == 93) || (b == 125)))
    || (((b == 35) && blank) || ((b == 58) && begins_gap after))

-- a plain word, and what comes after it and the blanks that follow it
pub record IsPlainAt (flow : Bool) (text value rest : List ℕ) : Type 0 where
  pub blanks : List ℕ
  pub is_plain : IsPlainWord flow text value blanks rest
  pub unbroken : breaks_flow flow rest ≡ false

-- a text in quotes, and what comes after it and the blanks that follow it
pub record IsQuotedAt (quote : ℕ) (IsInside : List ℕ → List ℕ → List ℕ → Type 0) (flow : Bool)
    (text value rest : List ℕ) : Type 0 where
  pub inside : List ℕ
  pub opens : text ≡ quote ∷ inside
  pub after : List ℕ
  pub is_inside : IsInside inside value after
  pub behind : IsBehindBlanks after rest
  pub follows : may_follow flow (begins_blank after) rest ≡ true

-- A text begins with a word of this value, and this rest comes after it and the blanks that follow it.
abbrev pub IsWordAt : Bool → List ℕ → List ℕ → List ℕ → Type 0
IsWordAt flow text value rest = IsPlainAt flow text value rest
    ⊎ (IsQuotedAt 39 IsSingle flow text value rest ⊎ IsQuotedAt 34 IsDouble flow text value rest)

-- ---- reading a word

-- why no word begins so
abbrev pub misfit : Bool → List ℕ → TextFaultKind
misfit flow [] = if flow then Flow else NotInSubset
misfit flow (b ∷ after) = if flow && (is_flow_indicator b || (is_mark b && begins_flow_indicator after)) then Flow else
    NotInSubset

unfoldable pub plain_word_at : ℕ → Bool → List ℕ → Result (List ℕ × List ℕ) PlacedFault
plain_word_at n flow text =
    if begins_word flow text
    then (if breaks_flow flow (word_rest flow text) then fault_at Flow n (length (word_rest flow text)) else Ok
    (trim_blanks (word_front flow text), word_rest flow text))
    else fault_at (misfit flow text) n (length text)

-- what comes after a closing quote and the blanks that follow it
unfoldable pub behind_quote : ℕ → Bool → List ℕ → Result (List ℕ) PlacedFault
behind_quote n flow after =
    if may_follow flow (begins_blank after) (behind_blanks after)
    then Ok (behind_blanks after)
    else fault_at (if breaks_flow flow (behind_blanks after) then Flow else Quote) n (length (behind_blanks after))

-- a text in quotes, read up to its closing quote
abbrev pub quoted_at : ℕ → Bool → Result (List ℕ × List ℕ) PlacedFault → Result (List ℕ × List ℕ) PlacedFault
quoted_at n flow inside = inside >>= λ r. behind_quote n flow r.1 >>= λ rest. Ok (r.0, rest)

-- The word at the front of a text, and what comes after it and the blanks that follow it.
unfoldable pub word_at : ℕ → Bool → List ℕ → Result (List ℕ × List ℕ) PlacedFault
word_at n flow [] = plain_word_at n flow []
word_at n flow (b ∷ bs) = if b == 39 then quoted_at n flow (single_at n bs) else
    (if b == 34 then quoted_at n flow (double_at n bs) else plain_word_at n flow (b ∷ bs))
