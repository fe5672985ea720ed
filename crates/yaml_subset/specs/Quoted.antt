-- Texts in quotes, as they are on a line after the opening quote.
use Rattle.std.specs.Prelude.{◌≡◌, ◌≢◌, ℕ, Bool, false, not, ◌||◌, List, [], ◌∷◌, ◌++◌, length, Option, Some, None}
use Rattle.std.specs.Prelude.{Result, Ok, Err, if◌then◌else◌, ◌==◌, ◌⊎◌}
use Rattle.yaml_subset.specs.declared.{fault.TextFaultKind.TheVariants.Quote, place.PlacedFault.PlacedFault}
use Rattle.yaml_subset.specs.Placed.{fault_at}

-- ---- what is in quotes

-- how a byte is written between single quotes: a quote twice, any other as it is
abbrev pub IsSingleByte : ℕ → List ℕ → Type 0
IsSingleByte b text = ((b ≡ 39) × (text ≡ 39 ∷ 39 ∷ [])) ⊎ ((b ≢ 39) × (text ≡ b ∷ []))

-- what comes after the backslash for a byte: `\` and `"` for themselves, `n` for LF and `t` for the tab
abbrev pub unescape : ℕ → Option ℕ
unescape e = if e == 92 then Some 92 else (if e == 34 then Some 34 else
    (if e == 110 then Some 10 else (if e == 116 then Some 9 else None)))

-- how a byte is written between double quotes: as it is, but for the quote and the backslash; or after a backslash
abbrev pub IsDoubleByte : ℕ → List ℕ → Type 0
IsDoubleByte b text = ((b ≢ 34) × (b ≢ 92) × (text ≡ b ∷ [])) ⊎ ((e : ℕ) × (unescape e ≡ Some b) × (text ≡ 92 ∷ e ∷ []))

-- whether a byte between quotes is written as itself, and does not end the value
abbrev pub is_itself_in_single : ℕ → Bool
is_itself_in_single b = not (b == 39)

abbrev pub is_itself_in_double : ℕ → Bool
is_itself_in_double b = not ((b == 34) || (b == 92))

-- how a value is written: its bytes, one after the other
abbrev pub IsWrittenBy : (ℕ → List ℕ → Type 0) → List ℕ → List ℕ → Type 0
IsWrittenBy IsByte [] text = text ≡ []
IsWrittenBy IsByte (b ∷ bs) text = (front : List ℕ) × (rest : List ℕ) × (text ≡ front ++ rest) × IsByte b front
    × IsWrittenBy IsByte bs rest

-- whether a single quote comes first
abbrev pub begins_single : List ℕ → Bool
begins_single [] = false
begins_single (b ∷ bs) = b == 39

-- A value, and the quote that ends it: no other follows that one.
pub record IsSingle (text value after : List ℕ) : Type 0 where
  pub spelling : List ℕ
  pub is_written : IsWrittenBy IsSingleByte value spelling
  pub parts : text ≡ spelling ++ 39 ∷ after
  pub ends : begins_single after ≡ false

-- a value, and the quote that ends it
pub record IsDouble (text value after : List ℕ) : Type 0 where
  pub spelling : List ℕ
  pub is_written : IsWrittenBy IsDoubleByte value spelling
  pub parts : text ≡ spelling ++ 34 ∷ after

-- ---- reading it from the first byte to the last: the value, and what follows the quote that ends it

-- a byte in front of the value
abbrev pub onto_value : ℕ → Result (List ℕ × List ℕ) PlacedFault → Result (List ℕ × List ℕ) PlacedFault
onto_value b (Ok r) = Ok (b ∷ r.0, r.1)
onto_value b (Err f) = Err f

unfoldable pub single_at : ℕ → List ℕ → Result (List ℕ × List ℕ) PlacedFault
single_at n [] = fault_at Quote n 0
single_at n (b ∷ []) = if b == 39 then Ok ([], []) else fault_at Quote n 0
single_at n (b ∷ c ∷ cs) = if b == 39 then (if c == 39 then onto_value 39 (single_at n cs) else Ok ([], c ∷ cs)) else
    onto_value b (single_at n (c ∷ cs))

-- a byte after a backslash, in front of a text that was read; `bytes_left` counts from the backslash on
abbrev pub escape_at : ℕ → Option ℕ → ℕ → Result (List ℕ × List ℕ) PlacedFault → Result (List ℕ × List ℕ) PlacedFault
escape_at n (Some b) bytes_left r = onto_value b r
escape_at n None bytes_left r = fault_at Quote n bytes_left

unfoldable pub double_at : ℕ → List ℕ → Result (List ℕ × List ℕ) PlacedFault
double_at n [] = fault_at Quote n 0
double_at n (b ∷ []) = if b == 34 then Ok ([], []) else (if b == 92 then fault_at Quote n 1 else fault_at Quote n 0)
double_at n (b ∷ c ∷ cs) =
    if b == 34
    then Ok ([], c ∷ cs)
    else (if b == 92 then escape_at n (unescape c) (length (b ∷ c ∷ cs)) (double_at n cs) else onto_value b
    (double_at n (c ∷ cs)))

-- the byte at the front, which an escape may write, and what follows it
abbrev pub byte_behind_backslash : ℕ → Option ℕ → ℕ → List ℕ → Result (ℕ × List ℕ) PlacedFault
byte_behind_backslash n (Some b) bytes_left after = Ok (b, after)
byte_behind_backslash n None bytes_left after = fault_at Quote n bytes_left

unfoldable pub double_byte_at : ℕ → List ℕ → Result (ℕ × List ℕ) PlacedFault
double_byte_at n [] = fault_at Quote n 0
double_byte_at n (b ∷ []) = if b == 92 then fault_at Quote n 1 else Ok (b, [])
double_byte_at n (b ∷ c ∷ cs) = if b == 92 then byte_behind_backslash n (unescape c) (length (b ∷ c ∷ cs)) cs else Ok
    (b, c ∷ cs)
