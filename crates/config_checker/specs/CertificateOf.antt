-- The certificate that a text is.
use Rattle.std.specs.Prelude.{◌≡◌, ◌≢◌, ℕ, ◌+◌, ◌<◌, ◌^◌, nat_lt, ◌==◌, Bool, true, false, ◌&&◌, ◌||◌, not}
use Rattle.std.specs.Prelude.{if◌then◌else◌, Option, Some, None, IfSome, option_map, option_and_then, Result, Ok, Err}
use Rattle.std.specs.Prelude.{List, [], ◌∷◌, length, slice_index, codes}
use Rattle.std.specs.{List.{All, list_all, slice_split}, Str.bytes_eq}
use Rattle.yaml_bytes.specs.{Bytes.is_blank, Numbers.number_at}
use Rattle.config_checker.specs.CertificateText.{NumberedName, Certificate, text_of}

-- ---- what it is

-- neither a blank nor the end of a line
abbrev pub is_in_word : ℕ → Bool
is_in_word b = not (is_blank b || b == 10)

-- what may stand for a name
pub record IsWord (word : List ℕ) : Type 0 where
  pub some : word ≢ []
  pub letters : All (λ b. is_in_word b ≡ true) word

-- each is a word with a number below 2^32
pub record AreWritable (all : NumberedName) : Type 0 where
  pub names : All (λ s. IsWord s.0) all
  pub numbers : All (λ s. s.1 < 2 ^ 32) all

-- its bound is below 2^32, and its events, and its switches if it states any, can be written
pub record IsWritable (c : Certificate) : Type 0 where
  pub bound : c.bound < 2 ^ 32
  pub switches : IfSome c.switches AreWritable
  pub events : AreWritable c.events

-- the text is that of the certificate
abbrev pub IsTextOf : Certificate → List ℕ → Type 0
IsTextOf c text = IsWritable c × (text ≡ text_of c)

-- ---- how it is computed

-- no 0 is before another digit
abbrev pub is_plain : List ℕ → Bool
is_plain word = length word == 1 || not (slice_index word 0 == 48)

-- a number, if it is below 2^32
abbrev pub within_32_bits : ℕ → Option ℕ
within_32_bits n = if nat_lt n (2 ^ 32) then Some n else None

-- the number that a word of digits says, if it is below 2^32
abbrev pub number_in : List ℕ → Option ℕ
number_in word = if is_plain word then option_and_then within_32_bits (number_at word) else None

-- a text, cut at each of these bytes
abbrev pub parts : ℕ → List ℕ → List (List ℕ)
parts end text = slice_split (λ b. b == end) text

-- what is before each line end of a text, and what is after the last one
abbrev pub lines : List ℕ → List (List ℕ)
lines text = parts 10 text

-- the words of a line, each parted from the next by one blank
abbrev pub certificate_words : List ℕ → List (List ℕ)
certificate_words line = parts 32 line

-- whether a certificate with this first line states switches; none if no certificate begins so
abbrev pub has_switches : List ℕ → Option Bool
has_switches line =
    if bytes_eq line (codes "pinball-certificate 1")
    then Some false
    else (if bytes_eq line (codes "pinball-certificate 2") then Some true else None)

-- `bound N`
abbrev pub bound_by : List (List ℕ) → Option ℕ
bound_by (word ∷ number ∷ []) = if bytes_eq word (codes "bound") then number_in number else None
bound_by other = None

abbrev pub bound_in : List ℕ → Option ℕ
bound_in line = bound_by (certificate_words line)

-- `WORD NAME NUMBER`
abbrev pub named_number : List ℕ → Option ℕ → Option (List ℕ × ℕ)
named_number name number = if nat_lt 0 (length name)
    && list_all is_in_word name then option_map (λ n. (name, n)) number else None

abbrev pub numbered_by : List ℕ → List (List ℕ) → Option (List ℕ × ℕ)
numbered_by word (first ∷ name ∷ number ∷ []) =
    if bytes_eq first word then named_number name (number_in number) else None
numbered_by word other = None

abbrev pub numbered_in : List ℕ → List ℕ → Option (List ℕ × ℕ)
numbered_in word line = numbered_by word (certificate_words line)

-- The lines `WORD NAME NUMBER` with this word at the front, and all that comes after them. What is after the last line
-- end is never one of them.
abbrev pub with_line : Option (List ℕ × ℕ) → List (List ℕ) → NumberedName × List (List ℕ) → NumberedName × List (List ℕ)
with_line None lines rest = ([], lines)
with_line (Some s) lines rest = (s ∷ rest.0, rest.1)

abbrev pub front : List ℕ → List (List ℕ) → NumberedName × List (List ℕ)
front word [] = ([], [])
front word (last ∷ []) = ([], last ∷ [])
front word (line ∷ next ∷ more) = with_line (numbered_in word line) (line ∷ next ∷ more) (front word (next ∷ more))

-- what is after the last line end is a bad line, unless it is empty
abbrev pub is_end : List (List ℕ) → Bool
is_end (last ∷ []) = length last == 0
is_end other = false

-- events begin at line 3, or after the switches
abbrev pub first_event : Option NumberedName → ℕ
first_event None = 3
first_event (Some switches) = 3 + length switches

-- Each function below gives the number of the first bad line, if there is one.

-- the certificate, if nothing comes after the events
abbrev pub end_of_lines : ℕ → Option NumberedName → NumberedName × List (List ℕ) → Result Certificate ℕ
end_of_lines bound switches x =
    if is_end x.1 then Ok (record { bound = bound; switches = switches; events = x.0 }) else Err
    (first_event switches + length x.0)

-- the events come after the switches
abbrev pub after_switches : ℕ → NumberedName × List (List ℕ) → Result Certificate ℕ
after_switches bound x = end_of_lines bound (Some x.0) (front (codes "event") x.1)

-- all from line 3 on
abbrev pub body_at : (lists_switches : Bool) → ℕ → List (List ℕ) → Result Certificate ℕ
body_at false bound lines = end_of_lines bound None (front (codes "event") lines)
body_at true bound lines = after_switches bound (front (codes "switch") lines)

abbrev pub with_bound : (lists_switches : Bool) → Option ℕ → List (List ℕ) → Result Certificate ℕ
with_bound lists_switches None rest = Err 2
with_bound lists_switches (Some bound) rest = body_at lists_switches bound rest

-- all from line 2 on
abbrev pub bound_at : (lists_switches : Bool) → List (List ℕ) → Result Certificate ℕ
bound_at lists_switches (line ∷ next ∷ more) = with_bound lists_switches (bound_in line) (next ∷ more)
bound_at lists_switches other = Err 2

abbrev pub with_heading : Option Bool → List (List ℕ) → Result Certificate ℕ
with_heading None rest = Err 1
with_heading (Some lists_switches) rest = bound_at lists_switches rest

abbrev pub heading_at : List (List ℕ) → Result Certificate ℕ
heading_at (line ∷ next ∷ more) = with_heading (has_switches line) (next ∷ more)
heading_at other = Err 1

-- the certificate that a text is, or the number of the first bad line
unfoldable pub certificate_at : List ℕ → Result Certificate ℕ
certificate_at text = heading_at (lines text)
