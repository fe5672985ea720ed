-- What contracts of the functions inside this crate see.
use Rattle.std.specs.Prelude.{ℕ, List, [], ◌∷◌, Option, Some, None, option_map, map, slice_get}
use Rattle.std.specs.{Borrow.Bor, Global.Vec}
pub use Rattle.yaml_subset.specs.Keys.{copies_view}
use Rattle.mpf_sections.specs.{declared.section.Section.Section, Rows.SectionRows, SectionView.section_view}
use Rattle.mpf_config.specs.declared.config.Note as notes
use Rattle.mpf_config.specs.declared.texts.NamedText as texts
use Rattle.mpf_config.specs.declared.bundle.MachineRead as bundles
use Rattle.mpf_config.specs.declared.modes.ModeRead as modes
use Rattle.mpf_config.specs.{Rows.Note, BundleText.NamedText, Apart.entry_keys}
use Rattle.mpf_config.specs.declared.listed_mode.ListedMode.{ListedMode}
use Rattle.mpf_config.specs.{ModeReads.{MachineRead, ModeRead}, View.{name_view, mode_view, note_view}}
use Rattle.setting_values.specs.Values.{WrittenName}

abbrev pub bytes_view : Bor (List ℕ) → List ℕ
bytes_view bytes = bytes.now

abbrev pub text_view : texts.NamedText → NamedText
text_view t = record { name = t.name.now; text = t.text.now }

abbrev pub texts_view : List texts.NamedText → List NamedText
texts_view = map text_view

abbrev pub notes_view : Vec notes.Note → List Note
notes_view notes = map note_view notes.items

abbrev pub names_only_view : Vec (Vec ℕ) → List (List ℕ)
names_only_view names = map (λ name. name.items) names.items

abbrev pub sections_view : Vec Section → List SectionRows
sections_view sections = map section_view sections.items

-- a listed mode, where it is listed
abbrev pub listed_view : ListedMode → WrittenName
listed_view m = name_view m.name.now

abbrev pub modes_view : List ListedMode → List WrittenName
modes_view = map listed_view

-- what was read of the machine and of modes
abbrev pub machine_read_view : bundles.MachineRead → MachineRead
machine_read_view m = record { rows = sections_view m.sections; notes = notes_view m.notes }

abbrev pub mode_read_view : modes.ModeRead → ModeRead
mode_read_view m = record { mode = mode_view m.mode; notes = notes_view m.notes }

abbrev pub found_modes_view : List (Option modes.ModeRead) → List (Option ModeRead)
found_modes_view = map (option_map mode_read_view)

-- the keys that are taken: those of the machine's entries, until others are taken with them
abbrev pub or_machine : List (List ℕ) → List (List ℕ) → List (List ℕ)
or_machine machine [] = machine
or_machine machine (k ∷ keys) = k ∷ keys

-- the keys of the entries of the mode at a place, if there is one
abbrev pub mode_keys : Option (Option ModeRead) → List (List ℕ)
mode_keys (Some (Some m)) = entry_keys m.mode.sections
mode_keys _ = []

abbrev pub placed_keys : List (Option ModeRead) → Option (ℕ × WrittenName) → List (List ℕ)
placed_keys entry_read None = []
placed_keys entry_read (Some p) = mode_keys (slice_get entry_read p.0)
