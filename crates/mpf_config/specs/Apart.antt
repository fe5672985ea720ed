-- The entries of a text by their sections and names, of which no two in a bundle are the same.
use Rattle.std.specs.{Prelude.{◌≡◌, ◌≢◌, ℕ, List, [], ◌∷◌, map}, List.{Contains, flat_map}}
use Rattle.mpf_sections.specs.{Rows.{WrittenName, Entry, SectionRows}, Typed.entries_in}
use Rattle.mpf_config.specs.Rows.{ModeRows}

-- an entry by the name of its section, and by its own
pub record EntryName : Type 0 where
  pub section : List ℕ
  pub name : WrittenName

abbrev pub named_entry : List ℕ → Entry → EntryName
named_entry section e = record { section = section; name = e.name }

-- the entries of a section; those of players are not among them, for their keys are events
abbrev pub entries_named : SectionRows → List EntryName
entries_named s = map (named_entry s.name) (entries_in s.content)

abbrev pub entry_names : List SectionRows → List EntryName
entry_names sections = flat_map entries_named sections

-- ---- texts apart

-- they are of two sections, or have two names
abbrev pub Differ : EntryName → EntryName → Type 0
Differ e f = e.section ≡ f.section → e.name.text ≢ f.name.text

-- no two of these are the same
abbrev pub AreDistinct : List EntryName → Type 0
AreDistinct [] = Unit {0}
AreDistinct (e ∷ es) = ((f : EntryName) → Contains es f → Differ e f) × AreDistinct es

-- an entry of the first text is none of the second
abbrev pub AreApart : List SectionRows → List SectionRows → Type 0
AreApart sections others = (e f : EntryName) → Contains (entry_names sections) e → Contains (entry_names others) f
    → Differ e f

-- No two entries of one section have the same name: neither in one text, nor in two.
pub record AreNamesApart (machine : List SectionRows) (modes : List ModeRows) : Type 0 where
  pub in_machine : AreDistinct (entry_names machine)
  pub in_mode : (m : ModeRows) → Contains modes m → AreDistinct (entry_names m.sections)
  pub with_machine : (m : ModeRows) → Contains modes m → AreApart machine m.sections
  pub of_modes : (m n : ModeRows) → Contains modes m → Contains modes n → m.name ≢ n.name
      → AreApart m.sections n.sections

-- ---- keys

-- The name of a section and that of an entry as one list of bytes. Each byte of the section stands behind a 1, and the
-- name behind a 0; so no two entries have one key.
abbrev pub join_texts : List ℕ → List ℕ → List ℕ
join_texts [] name = 0 ∷ name
join_texts (b ∷ section) name = 1 ∷ b ∷ join_texts section name

abbrev pub entry_key : EntryName → List ℕ
entry_key e = join_texts e.section e.name.text

abbrev pub entry_keys : List SectionRows → List (List ℕ)
entry_keys sections = map entry_key (entry_names sections)
