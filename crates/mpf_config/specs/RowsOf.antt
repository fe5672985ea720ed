-- The rows of a bundle: what they are, however a bundle is read.
use Rattle.std.specs.Prelude.{◌≡◌, ◌≢◌, ℕ, ◌<◌, ◌^◌, true, false, List, [], ◌∷◌, ◌++◌, length, map, Some, ◌⊎◌}
use Rattle.std.specs.List.{Contains, All, AllZip}
use Rattle.yaml_bytes.specs.{Bytes.begins_blank, Plain.{AreBlank, EndsInNoBlank}, Lines.ends_line}
use Rattle.yaml_subset.specs.{Node.{Node, Pair}, View.pairs_in, TreeOf.{IsTreeOf, IsTextAbove}}
use Rattle.mpf_tables.specs.declared.tables.TextKind.{TextKind, TheVariants.{Machine, Mode}}
use Rattle.section_tables.specs.Shapes.{Setting, PlayerKinds, by_entries, by_players, by_entry, by_names}
use Rattle.mpf_tables.specs.SectionTables.{mode_name, shape_of}
use Rattle.section_tables.specs.EntryOf.{IsEntry, AreEntries, ArePlayers, AreNamesListed}
use Rattle.mpf_sections.specs.Rows.{WrittenName, Content, entries, players, entry, name_list, SectionRows, ModeSettings}
use Rattle.mpf_config.specs.{Rows.Rows, ModeReads.{ModeRead, rows_notes}, Apart.AreNamesApart}
use Rattle.mpf_config.specs.BundleText.{NamedText, machine_name, machine_owner, version_line}
use Rattle.mpf_sections.specs.Typed.{mode_settings_of, ball_ending, listed_modes}
use Rattle.mpf_config.specs.Unread.{read_of, mode_text_of, present_of, mode_notes}

-- ---- the bundle and its texts

-- the end of a line: LF, or CR and LF, or nothing if nothing comes after it
abbrev pub IsLineEnd : List ℕ → List ℕ → Type 0
IsLineEnd end behind = (end ≡ 10 ∷ []) ⊎ ((end ≡ 13 ∷ 10 ∷ []) ⊎ ((end ≡ []) × (behind ≡ [])))

-- The first line of a text is this one, and this stands behind it: no line ends before.
pub record IsFirstLine (line text behind : List ℕ) : Type 0 where
  pub end : List ℕ
  pub is_end : IsLineEnd end behind
  pub parts : text ≡ line ++ (end ++ behind)
  pub first : (front rest : List ℕ) (b : ℕ) → line ≡ front ++ b ∷ rest → ends_line b (rest ++ (end ++ behind)) ≡ false

-- the same, blanks at the end of the line apart
pub record BeginsWith (line text behind : List ℕ) : Type 0 where
  pub blanks : List ℕ
  pub are_blank : AreBlank blanks
  pub whole : IsFirstLine (line ++ blanks) text behind

-- neither the first byte is a blank nor the last
pub record IsBare (name : List ℕ) : Type 0 where
  pub first : begins_blank name ≡ false
  pub last : EndsInNoBlank name

-- A line `@ NAME`, and a text behind it: no other line begins with `@`.
pub record IsPiece (piece : List ℕ) (t : NamedText) : Type 0 where
  pub blank : ℕ
  pub blanks : List ℕ
  pub are_blank : AreBlank (blank ∷ blanks)
  pub bare : IsBare t.name
  pub begins : BeginsWith (64 ∷ blank ∷ (blanks ++ t.name)) piece t.text
  pub alone : (front rest : List ℕ) → piece ≢ front ++ 10 ∷ 64 ∷ rest

-- another piece begins where a line begins
abbrev pub EndsLine : List ℕ → List ℕ → Type 0
EndsLine piece [] = Unit {0}
EndsLine piece (b ∷ behind) = (front : List ℕ) × (piece ≡ front ++ 10 ∷ [])

-- The texts of a bundle, one behind the other.
abbrev pub AreTexts : List ℕ → List NamedText → Type 0
AreTexts bundle [] = bundle ≡ []
AreTexts bundle (t ∷ ts) =
    (piece : List ℕ) × (behind : List ℕ) × (bundle ≡ piece ++ behind) × IsPiece piece t × EndsLine piece behind
    × AreTexts behind ts

-- each name is new: not in the first list, and not that of an earlier one
abbrev pub AreNew : List (List ℕ) → List (List ℕ) → Type 0
AreNew names [] = Unit {0}
AreNew names (n ∷ ns) = (Contains names n → ⊥) × AreNew (n ∷ names) ns

-- there is a text of this name
abbrev pub IsText : List NamedText → List ℕ → List ℕ → Type 0
IsText texts name text = Contains texts (record { name = name; text = text })

-- ---- sizes

-- how large rows may be
pub record Sizes : Type 0 where
  -- sequences and mappings one inside the other
  pub levels : ℕ
  -- those in brackets and braces, one inside the other
  pub depth : ℕ
  -- items in a list
  pub longest : ℕ
  -- modes
  pub modes : ℕ

-- the sizes that are read
abbrev pub within_limits : Sizes
within_limits = record { levels = 32; depth = 8; longest = 1024; modes = 64 }

-- ---- sections

-- The modes that a section lists: none is named `machine`, and none twice.
pub record AreModesListed (sizes : Sizes) (p : Pair) (ws : List WrittenName) : Type 0 where
  pub is_list : AreNamesListed sizes.modes p ws
  pub others : All (λ w. w.text ≢ machine_owner) ws
  pub apart : AreNew [] (map (λ w. w.text) ws)

-- what stands in a section, by how it is written in a text of this kind
abbrev pub IsContent : Sizes → TextKind → Pair → Content → Type 0
IsContent sizes kind p (entries es) =
    (barred_names : List (List ℕ)) × (table : List Setting)
    × (shape_of kind p.key ≡ Some (by_entries barred_names table))
    × AreEntries sizes.longest barred_names table p es
IsContent sizes kind p (players ps) = (kinds : PlayerKinds) × (shape_of kind p.key ≡ Some (by_players kinds))
    × ArePlayers sizes.longest kinds p ps
IsContent sizes kind p (entry e) = (table : List Setting) × (shape_of kind p.key ≡ Some (by_entry table))
    × IsEntry sizes.longest table p e
IsContent sizes kind p (name_list ws) = (shape_of kind p.key ≡ Some by_names) × AreModesListed sizes p ws

-- a mode that has start events, all of which are `ball_ending`, with or without a condition
pub record StartsAtBallEnd (s : ModeSettings) : Type 0 where
  pub some : s.starts ≢ []
  pub all : All (λ h. h.event.name ≡ ball_ending) s.starts

-- A mode that may hold the end of the ball starts at `ball_ending` alone. Other sections have no such rule.
abbrev pub KeepsToBallEnd : List ℕ → Content → Type 0
KeepsToBallEnd section (entry e) = section ≡ mode_name → (mode_settings_of e.values).holds_ball_end ≡ true
    → StartsAtBallEnd (mode_settings_of e.values)
KeepsToBallEnd section _ = Unit {0}

-- a section by its name, and what stands in it
pub record IsSection (sizes : Sizes) (kind : TextKind) (p : Pair) (s : SectionRows) : Type 0 where
  pub name : s.name ≡ p.key
  pub content : IsContent sizes kind p s.content
  pub keeps : KeepsToBallEnd p.key s.content

-- A text of this kind has these sections. The rows are those of the sections that are read.
pub record AreRowsOf (sizes : Sizes) (kind : TextKind) (text : List ℕ) (sections : List Pair)
    (rows : List SectionRows) : Type 0 where
  pub behind : List ℕ
  pub version : BeginsWith version_line text behind
  pub tree : Node
  pub is_tree : IsTreeOf sizes.levels sizes.depth text tree
  pub has : pairs_in tree ≡ Some sections
  pub each : AllZip (IsSection sizes kind) (read_of sections) rows

-- ---- modes

-- A listed mode with the rows of its text, and the notes on it.
pub record IsModeRead (sizes : Sizes) (texts : List NamedText) (w : WrittenName) (m : ModeRead) : Type 0 where
  pub name : m.mode.name ≡ w.text
  pub text : List ℕ
  pub is_there : IsText texts (mode_text_of w) text
  pub sections : List Pair
  pub rows : AreRowsOf sizes Mode text sections m.mode.sections
  pub notes : m.notes ≡ mode_notes (mode_text_of w) sections

-- ---- the rows

-- the rows of a bundle that are no larger than these sizes
pub record IsRowsOf (sizes : Sizes) (bundle : List ℕ) (rows : Rows) : Type 0 where
  pub texts : List NamedText
  pub are_texts : AreTexts bundle texts
  pub all_new : AreNew [] (map (λ t. t.name) texts)
  pub text : List ℕ
  pub is_there : IsText texts machine_name text
  pub sections : List Pair
  pub machine : AreRowsOf sizes Machine text sections rows.machine
  pub modes : List ModeRead
  pub each_mode : AllZip (IsModeRead sizes texts) (present_of texts (listed_modes rows.machine)) modes
  pub mode_rows : rows.modes ≡ map (λ m. m.mode) modes
  pub apart : AreNamesApart rows.machine rows.modes
  pub notes : rows.notes ≡ rows_notes texts (listed_modes rows.machine) sections modes

-- the names of the modes that a machine text lists
pub record AreModesOf (sizes : Sizes) (text : List ℕ) (names : List (List ℕ)) : Type 0 where
  pub sections : List Pair
  pub machine : List SectionRows
  pub rows : AreRowsOf sizes Machine text sections machine
  pub are : names ≡ map (λ w. w.text) (listed_modes machine)

-- ---- limits

-- these sizes allow more than 1,024 items in a list, or more than 64 modes
abbrev pub AreManyItems : Sizes → Type 0
AreManyItems sizes = (1024 < sizes.longest) ⊎ (64 < sizes.modes)

-- so they do, or the text is above the limits of the YAML reader
abbrev pub IsTextOver : Sizes → List ℕ → Type 0
IsTextOver sizes text = IsTextAbove sizes.levels sizes.depth text ⊎ AreManyItems sizes

-- a text of the bundle that is read for these rows: the machine text, or that of a listed mode
abbrev pub IsTextRead : List ℕ → Rows → List ℕ → Type 0
IsTextRead bundle rows text =
    (texts : List NamedText) × AreTexts bundle texts
    × (IsText texts machine_name text ⊎ ((w : WrittenName) × Contains (listed_modes rows.machine) w
    × IsText texts (mode_text_of w) text))

-- above the limits: the bundle has more than 8 MiB, or a text that is read is above its limits
abbrev pub IsAbove : Sizes → List ℕ → Rows → Type 0
IsAbove sizes bundle rows = (2 ^ 23 < length bundle)
    ⊎ ((text : List ℕ) × IsTextRead bundle rows text × IsTextOver sizes text)
