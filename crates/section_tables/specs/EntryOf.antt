-- What the row of an entry is, by the table of its section, however it is read.
use Rattle.std.specs.{Prelude.{◌≡◌, ℕ, List, [], ◌∷◌, Option, Some, None}, List.{AllZip, flat_map}}
use Rattle.yaml_subset.specs.Node.{Node, Pair}
use Rattle.mpf_values.specs.Names.{IsName}
use Rattle.setting_values.specs.Values.{WrittenName, Value, written_at}
use Rattle.section_tables.specs.{Rows.{Entry, PlayerEntry}, Shapes.{Setting, PlayerKinds}, Keys.is_ignored}
use Rattle.setting_values.specs.{Kinds.at_least, Below.pairs_below, KeyRules.found_in}
use Rattle.section_tables.specs.Tables.{setting_key, setting_default, setting_lacks}
use Rattle.setting_values.specs.ValueOf.{IsOneOf, IsScalar, AreListed, IsWritten, IsRow, IsValue}

-- ---- settings

abbrev pub IsSetting : ℕ → Setting → Node → Value → Type 0
IsSetting longest s node v = IsValue longest s.kind node v

-- ---- entries

-- the place in a table that is found, if one is
abbrev pub place_found : {T : Type 0} → Option (ℕ × T) → List ℕ
place_found None = []
place_found (Some found) = found.0 ∷ []

-- the settings that pairs write, by their places in the table, in the order of the pairs
abbrev pub places_written : List Setting → List Pair → List ℕ
places_written table pairs = flat_map (λ p. place_found (found_in setting_key p.key table)) pairs

-- An entry of a section with this table: a name, the row of its mapping, and the places of the settings that are
-- written, in the order in which they are written.
pub record IsEntry (longest : ℕ) (table : List Setting) (p : Pair) (e : Entry) : Type 0 where
  pub is_name : IsName p.key
  pub name : e.name ≡ written_at p.line p.key
  pub row : IsRow setting_key (IsSetting longest) is_ignored setting_default setting_lacks table p.value e.values
  pub order : e.order ≡ places_written table row.pairs

-- the same, under another name than these
pub record IsOtherEntry (longest : ℕ) (barred_names : List (List ℕ)) (table : List Setting) (p : Pair) (e : Entry) :
    Type 0 where
  pub other : IsOneOf barred_names p.key → ⊥
  pub entry : IsEntry longest table p e

-- the entries of a section with this table, none of which has one of these names
abbrev pub AreEntries : ℕ → List (List ℕ) → List Setting → Pair → List Entry → Type 0
AreEntries longest barred_names table p es =
    (pairs : List Pair) × (pairs_below p.value ≡ Some pairs) × AllZip (IsOtherEntry longest barred_names table) pairs es

-- An entry of a player: what its key says, and its value.
pub record IsPlayer (longest : ℕ) (kinds : PlayerKinds) (p : Pair) (row : PlayerEntry) : Type 0 where
  pub key : IsScalar kinds.key p.line p.key row.event
  pub value : IsValue longest kinds.value p.value row.value

-- the entries of a player
abbrev pub ArePlayers : ℕ → PlayerKinds → Pair → List PlayerEntry → Type 0
ArePlayers longest kinds p rows = (pairs : List Pair) × (pairs_below p.value ≡ Some pairs)
    × AllZip (IsPlayer longest kinds) pairs rows

-- ---- lists of names

-- the names that a section lists
abbrev pub AreNamesListed : ℕ → Pair → List WrittenName → Type 0
AreNamesListed longest p ws = AreListed IsWritten (at_least 0) longest p.value ws
