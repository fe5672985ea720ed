-- Reading a value from its first byte to its last.
use Rattle.std.specs.Prelude.{ℕ, suc, ◌+◌, ◌-◌, ◌*◌, ◌/◌, ◌%◌, ◌^◌, Bool, true, false, not, ◌&&◌, ◌||◌, ◌==◌, nat_lt}
use Rattle.std.specs.Prelude.{nat_le, if◌then◌else◌, List, [], ◌∷◌, length, take, drop, map, Option, Some, None, ℤ, pos}
use Rattle.std.specs.{Prelude.{neg_ℤ, codes}, List.{prefix_len, list_all}, Char.is_ascii_digit, Str.bytes_eq}
use Rattle.yaml_bytes.specs.{Scanning.behind_blanks, Numbers.number_at}
use Rattle.yaml_subset.specs.{Node.Node, View.{line_of, text_in, items_in}}
use Rattle.mpf_values.specs.{declared.decimals.Decimal.Decimal, Bytes.{is_name_byte, is_operator_byte, is_word_byte}}
use Rattle.mpf_values.specs.declared.handled.Comparison.{Comparison, TheVariants.GreaterOrEqual}
use Rattle.mpf_values.specs.declared.handled.Comparison.TheVariants.{Equal, NotEqual, Less, LessOrEqual, Greater}
use Rattle.mpf_values.specs.{Booleans.{capital, with_capital}, ListText.{open_after, ends_item}}
use Rattle.mpf_values.specs.{Events.{EventCondition, Event}, Lists.{Item, item_at, has_text}}

infixl 10 ◌>>=◌
abbrev pub ◌>>=◌ : {A B : Type 0} → Option A → (A → Option B) → Option B
(Some x) >>= f = f x
None >>= f = None

-- the bytes at the front that pass the test p, and what comes after them
abbrev pub front : (ℕ → Bool) → List ℕ → List ℕ
front p text = take (prefix_len p text) text

abbrev pub behind : (ℕ → Bool) → List ℕ → List ℕ
behind p text = drop (prefix_len p text) text

-- ---- numbers

-- a number that fits 64 bits
abbrev pub within_64_bits : ℕ → Option ℕ
within_64_bits n = if nat_lt n (2 ^ 64) then Some n else None

-- how many thousandths the last of so many decimals is worth
abbrev pub worth_of : ℕ → Option ℕ
worth_of places = if places == 1 then Some 100 else
    (if places == 2 then Some 10 else (if places == 3 then Some 1 else None))

-- the thousandths that decimals are
unfoldable pub fraction_at : List ℕ → Option ℕ
fraction_at decimals = worth_of (length decimals) >>= λ worth. number_at decimals >>= λ n. within_64_bits (n * worth)

-- a number of so many thousandths with the decimals after its point, if it has one
abbrev pub decimal_from : ℕ → List ℕ → Option (Decimal × List ℕ)
decimal_from whole [] = Some (record { thousandths = whole; places = 0 }, [])
decimal_from whole (b ∷ bs) =
    if b == 46
    then (fraction_at (front is_ascii_digit bs) >>= λ fraction. within_64_bits (whole + fraction)
    >>= λ n. Some (record { thousandths = n; places = length (front is_ascii_digit bs) }, behind is_ascii_digit bs))
    else Some (record { thousandths = whole; places = 0 }, b ∷ bs)

-- the number at the front, and what comes after it
unfoldable pub decimal_at : List ℕ → Option (Decimal × List ℕ)
decimal_at text = number_at (front is_ascii_digit text) >>= λ n. within_64_bits (n * 1000) >>= λ whole. decimal_from
    whole (behind is_ascii_digit text)

-- ---- booleans

abbrev pub spells : List ℕ → List ℕ → Bool
spells word text = bytes_eq text word || (bytes_eq text (with_capital word) || bytes_eq text (map capital word))

unfoldable pub boolean_at : List ℕ → Option Bool
boolean_at text =
    if spells (codes "yes") text || (spells (codes "true") text || spells (codes "on") text) then Some true
    else (if spells (codes "no") text || (spells (codes "false") text || spells (codes "off") text) then Some false else
    None)

-- ---- integers

-- the number that digits write, up to the greatest integer
unfoldable pub magnitude_at : List ℕ → Option ℕ
magnitude_at digits = number_at digits >>= λ n. (if nat_lt 1000000000 n then None else Some n)

unfoldable pub integer_at : List ℕ → Option ℤ
integer_at [] = magnitude_at [] >>= λ n. Some (pos n)
integer_at (b ∷ bs) = if b == 45 then (magnitude_at bs >>= λ n. Some (neg_ℤ (pos n))) else
    (magnitude_at (b ∷ bs) >>= λ n. Some (pos n))

-- ---- times

unfoldable pub unit_at : List ℕ → Option ℕ
unit_at text =
    if bytes_eq text [] then Some 1
    else (if bytes_eq text (codes "ms") then Some 1
    else (if bytes_eq text (codes "s") then Some 1000
    else (if bytes_eq text (codes "m") then Some 60000
    else (if bytes_eq text (codes "h") then Some 3600000
    else (if bytes_eq text (codes "d") then Some 86400000 else None)))))

-- whole milliseconds, of thousandths of them
abbrev pub whole_at : ℕ → Option ℕ
whole_at product = if not (product % 1000 == 0)
    || nat_lt (2 ^ 32 - 1) (product / 1000) then None else Some (product / 1000)

unfoldable pub time_at : List ℕ → Option ℕ
time_at text = decimal_at text >>= λ d. unit_at (behind_blanks d.1) >>= λ unit. within_64_bits (d.0.thousandths * unit)
    >>= λ product. whole_at product

-- ---- powers

-- the thousandths of full power that a number is, with what comes after it
unfoldable pub share_at : Decimal → List ℕ → Option ℕ
share_at number rest =
    if bytes_eq rest [] then Some number.thousandths
    else (if bytes_eq rest (codes "%") && nat_le number.places 1 then Some (number.thousandths / 100) else None)

unfoldable pub power_at : List ℕ → Option ℕ
power_at text = decimal_at text >>= λ d. share_at d.0 d.1 >>= λ power. (if nat_lt 1000 power then None else Some power)

-- ---- names

abbrev pub is_name : List ℕ → Bool
is_name text = (not (length text == 0) && nat_le (length text) 64) && list_all is_name_byte text

unfoldable pub name_at : List ℕ → Option (List ℕ)
name_at text = if is_name text then Some text else None

-- ---- handled events

-- what comes after a word that a text begins with
abbrev pub behind_word : List ℕ → List ℕ → Option (List ℕ)
behind_word word text = if bytes_eq (take (length word) text) word then Some (drop (length word) text) else None

-- the variable of a condition, and what comes after it and the blanks that follow it
unfoldable pub variable_at : List ℕ → Option (List ℕ × List ℕ)
variable_at text =
    behind_word (codes "{") text >>= λ inside. behind_word (codes "current_player.") (behind_blanks inside)
    >>= λ at_name. name_at (front is_name_byte at_name) >>= λ variable. Some
    (variable, behind_blanks (behind is_name_byte at_name))

unfoldable pub operator_at : List ℕ → Option Comparison
operator_at text =
    if bytes_eq text (codes "==") then Some Equal
    else (if bytes_eq text (codes "!=") then Some NotEqual
    else (if bytes_eq text (codes "<") then Some Less
    else (if bytes_eq text (codes "<=") then Some LessOrEqual
    else (if bytes_eq text (codes ">") then Some Greater
    else (if bytes_eq text (codes ">=") then Some GreaterOrEqual else None)))))

-- the comparison at the front, and what comes after it and the blanks that follow it
unfoldable pub comparison_at : List ℕ → Option (Comparison × List ℕ)
comparison_at text = operator_at (front is_operator_byte text) >>= λ comparison. Some
    (comparison, behind_blanks (behind is_operator_byte text))

-- the integer of a condition, with nothing after it but blanks and the closing brace
unfoldable pub last_integer_at : List ℕ → Option ℤ
last_integer_at text = integer_at (front is_word_byte text) >>= λ n.
    (if bytes_eq (behind_blanks (behind is_word_byte text)) (codes "}") then Some n else None)

-- the condition in braces that a text is
unfoldable pub condition_at : List ℕ → Option EventCondition
condition_at text =
    variable_at text >>= λ v. comparison_at v.1 >>= λ c. last_integer_at c.1
    >>= λ n. Some (record { variable = v.0; comparison = c.0; number = n })

-- an event with what comes after its name
unfoldable pub event_at : List ℕ → Option Event
event_at text =
    name_at (front is_name_byte text)
    >>= λ name. (if length (behind is_name_byte text) == 0 then Some (record { name = name; condition = None })
    else (condition_at (behind is_name_byte text) >>= λ c. Some (record { name = name; condition = Some c })))

-- ---- lists

-- an item in front of others; an empty one is dropped
abbrev pub onto_items : List ℕ → List (List ℕ) → List (List ℕ)
onto_items [] items = items
onto_items (b ∷ item) items = (b ∷ item) ∷ items

-- a byte in front of an item and those after it, or at the end of an empty one
abbrev pub onto_item : Bool → ℕ → List ℕ × List (List ℕ) → List ℕ × List (List ℕ)
onto_item true b pieces = ([], onto_items pieces.0 pieces.1)
onto_item false b pieces = (b ∷ pieces.0, pieces.1)

-- the item that a text begins with, inside so many braces, and the items after it
abbrev pub items_from : ℕ → List ℕ → List ℕ × List (List ℕ)
items_from open_braces [] = ([], [])
items_from open_braces (b ∷ bs) = onto_item (ends_item open_braces b) b (items_from (open_after open_braces b) bs)

-- the items of a list text
unfoldable pub items_of : List ℕ → List (List ℕ)
items_of text = onto_items (items_from 0 text).0 (items_from 0 text).1

-- how many bytes the item has that a text begins with
abbrev pub item_len : ℕ → List ℕ → ℕ
item_len open_braces [] = 0
item_len open_braces (b ∷ bs) = if ends_item open_braces b then 0 else suc (item_len (open_after open_braces b) bs)

-- the item that a scalar is
abbrev pub scalar_at : Node → Option Item
scalar_at node = text_in node >>= λ text. Some (item_at (line_of node) text)

-- an item in front of others, if it has text
abbrev pub onto_list : Item → List Item → List Item
onto_list item items = if has_text item then item ∷ items else items

-- the items of a YAML list of scalars
unfoldable pub scalars_at : List Node → Option (List Item)
scalars_at [] = Some []
scalars_at (node ∷ nodes) = scalar_at node >>= λ item. scalars_at nodes >>= λ items. Some (onto_list item items)

abbrev pub list_from : ℕ → Option (List ℕ) → Option (List Node) → Option (List Item)
list_from line (Some text) nodes = Some (map (item_at line) (items_of text))
list_from line None (Some nodes) = scalars_at nodes
list_from line None None = None

-- the items of a list
unfoldable pub list_at : Node → Option (List Item)
list_at node = list_from (line_of node) (text_in node) (items_in node)
