-- What is read, as the code has it, and what its lists and sets gain. Unless memory ran out, an answer is what reading
-- gives: a value, or the first fault.
use Rattle.std.specs.Prelude.{◌≡◌, ◌||◌, ℕ, Bool, not, List, [], ◌++◌, map, Option, Result}
use Rattle.std.specs.{List.flat_map, declared.borrow.CowSlice.CowSlice, Borrow.Bor}
use Rattle.std.specs.{HashSet.HashSet, Global.{Vec, Global}}
use Rattle.yaml_subset.specs.{declared.tree.{Key.Key, Tree.Tree}, Keys.{is_among, copies_view}}
use Rattle.yaml_subset.specs.{Node.{Node, Pair}, View.{node_view, pair_view}}
use Rattle.mpf_tables.specs.declared.tables.TextKind.{TextKind}
use Rattle.setting_values.specs.{declared.{values.Name.Name, nodes.MapPairs.MapPairs}, KeyRules.found_in}
use Rattle.config_faults.specs.{declared.fault.ConfigFault.ConfigFault, Faults.spot_view}
use Rattle.config_faults.specs.declared.spot.Spot as spots
use Rattle.section_tables.specs.declared.table.Shape as shapes
use Rattle.section_tables.specs.TableView.{shape_view}
use Rattle.setting_values.specs.View.{names_view, pairs_view, pairs_in_view, found_view}
use Rattle.mpf_sections.specs.declared.section.Content as contents
use Rattle.mpf_sections.specs.{declared.section.Section.Section, View.{content_view, section_view}}
use Rattle.mpf_sections.specs.Rows.{WrittenName, Content, SectionRows}
use Rattle.mpf_config.specs.declared.config.Note as notes
use Rattle.mpf_config.specs.declared.{config.{ModeText.ModeText, Config.Config}, listed_mode.ListedMode.ListedMode}
use Rattle.mpf_config.specs.declared.texts.NamedText as texts
use Rattle.mpf_config.specs.declared.bundle.MachineRead as machines
use Rattle.mpf_config.specs.declared.modes.ModeRead as modes
use Rattle.mpf_config.specs.{Rows.{Note, Rows, RowsFault}, ModeReads.{MachineRead, ModeRead}}
use Rattle.mpf_config.specs.{BundleText.NamedText, Unread.{mode_notes, unlisted_notes}, CodeViews.placed_keys}
use Rattle.mpf_config.specs.Unread.{absent_of, mode_text_of, skipped_note, absent_note, unlisted_note, machine_notes}
use Rattle.mpf_config.specs.Apart.{EntryName, AreDistinct, entries_named, entry_names, entry_keys}
use Rattle.mpf_config.specs.Reading.{modes_new_at, modes_at, content_at, section_at, sections_in, sections_at}
use Rattle.mpf_config.specs.Reading.{machine_at, machine_read_at, mode_read_at, entries_new_at, new_mode_at, placed_at}
use Rattle.mpf_config.specs.Reading.{found_of, modes_from, none_found, modes_in_texts}
use Rattle.mpf_config.specs.View.{name_view, mode_view, note_view, rows_view, GivesRows}
use Rattle.mpf_config.specs.CodeViews.{bytes_view, text_view, texts_view, notes_view, names_only_view, sections_view}
use Rattle.mpf_config.specs.CodeViews.{modes_view, machine_read_view, mode_read_view, found_modes_view, or_machine}

-- ---- sections

-- it passes, if reading does, and has no more to say
abbrev pub Passes : Result (Unit {0}) ConfigFault → Result (Unit {0}) RowsFault → Type 0
Passes result read = GivesRows (λ u. u) result read

-- it gives the tree that reading gives
abbrev pub GivesTree : Result Tree ConfigFault → Result Node RowsFault → Type 0
GivesTree result read = GivesRows node_view result read

-- it gives these pairs of a tree
abbrev pub GivesPairs : Result MapPairs ConfigFault → Result (List Pair) RowsFault → Type 0
GivesPairs result read = GivesRows pairs_in_view result read

-- it gives these names
abbrev pub GivesNames : Result (Vec Name) ConfigFault → Result (List WrittenName) RowsFault → Type 0
GivesNames result read = GivesRows names_view result read

-- it gives this, which stands in a section
abbrev pub GivesContent : Result contents.Content ConfigFault → Result Content RowsFault → Type 0
GivesContent result read = GivesRows content_view result read

-- it gives this section
abbrev pub GivesSection : Result Section ConfigFault → Result SectionRows RowsFault → Type 0
GivesSection result read = GivesRows section_view result read

-- it gives these sections
abbrev pub GivesSections : Result (Vec Section) ConfigFault → Result (List SectionRows) RowsFault → Type 0
GivesSections result read = GivesRows sections_view result read

-- the pairs that a tree has
abbrev pub pairs_of_tree : List ℕ → Tree → Result (List Pair) RowsFault
pairs_of_tree text tree = sections_in text (node_view tree)

-- none of these modes is named `machine`, and none as an earlier one
abbrev pub modes_all_new : spots.Spot → List Name → Result (Unit {0}) RowsFault
modes_all_new spot names = modes_new_at (spot_view spot) [] (map name_view names)

-- the modes that an entry of a text lists
abbrev pub modes_of_entry : List ℕ → (Key × Tree) → Result (List WrittenName) RowsFault
modes_of_entry text entry = modes_at text (pair_view entry)

-- what stands in an entry of a text, as a section of this shape
abbrev pub content_of_entry : List ℕ → (Key × Tree) → shapes.Shape → Result Content RowsFault
content_of_entry text entry shape = content_at text (pair_view entry) (shape_view shape)

-- the section that an entry of a text is
abbrev pub section_of_entry : TextKind → List ℕ → (Key × Tree) → Result SectionRows RowsFault
section_of_entry kind text entry = section_at kind text (pair_view entry)

-- the sections of these entries of a text, without those that are skipped
abbrev pub sections_of_entries : TextKind → List ℕ → List (Key × Tree) → Result (List SectionRows) RowsFault
sections_of_entries kind text entries = sections_at kind text (pairs_view entries)

-- ---- entries that are taken

-- the entries of a section, by its name and their own
abbrev pub entries_of_section : Section → List EntryName
entries_of_section section = entries_named (section_view section)

-- the entries of these sections
abbrev pub entries_of_sections : List Section → List EntryName
entries_of_sections sections = entry_names (map section_view sections)

-- the keys of the entries of sections
abbrev pub keys_of_sections : List Section → List (List ℕ)
keys_of_sections sections = entry_keys (map section_view sections)

-- whether a key is not among those of a set
abbrev pub is_new_key : {S : Type 0} → HashSet (CowSlice ℕ Global) S → List ℕ → Bool
is_new_key known_keys key = not (is_among (copies_view known_keys) key)

-- a key is in the set that is one of these, or that was in it
abbrev pub TakesKeys : {S : Type 0} → (old new : HashSet (CowSlice ℕ Global) S) → (is_one : List ℕ → Bool) → Type 0
TakesKeys old new is_one = (q : List ℕ) → is_among (copies_view new) q ≡ (is_one q || is_among (copies_view old) q)

-- none of these entries is taken, and none is the same as an earlier one
abbrev pub entries_all_new : {S : Type 0} → List ℕ → HashSet (CowSlice ℕ Global) S → List EntryName
    → Result (Unit {0}) RowsFault
entries_all_new text known_keys entries = entries_new_at text (copies_view known_keys) entries

-- no two entries of these sections are the same
abbrev pub AreEntriesDistinct : List Section → Type 0
AreEntriesDistinct sections = AreDistinct (entries_of_sections sections)

-- the keys that are taken beside a machine text of these sections
abbrev pub keys_taken : {S : Type 0} → List Section → HashSet (CowSlice ℕ Global) S → List (List ℕ)
keys_taken machine known_keys = or_machine (keys_of_sections machine) (copies_view known_keys)

-- a set has these keys, in any order
abbrev pub AreTaken : {S : Type 0} → HashSet (CowSlice ℕ Global) S → List (List ℕ) → Type 0
AreTaken known_keys keys = (q : List ℕ) → is_among (copies_view known_keys) q ≡ is_among keys q

-- a key is taken that is one of these, or that was taken
abbrev pub GainsKeys : {S : Type 0} → List Section → (old new : HashSet (CowSlice ℕ Global) S)
    → (is_one : List ℕ → Bool) → Type 0
GainsKeys machine old new is_one = (q : List ℕ)
    → is_among (keys_taken machine new) q ≡ (is_one q || is_among (keys_taken machine old) q)

-- none of the entries of these sections is taken beside the machine text, and none is the same as an earlier one
abbrev pub entries_new_beside : {S : Type 0} → List ℕ → List Section → HashSet (CowSlice ℕ Global) S → List Section
    → Result (Unit {0}) RowsFault
entries_new_beside text machine known_keys sections =
    entries_new_at text (keys_taken machine known_keys) (entries_of_sections sections)

-- ---- modes

-- the modes of these names, with the names of their texts
abbrev pub AreListed : List Name → List ListedMode → Type 0
AreListed names modes = modes_view modes ≡ map name_view names

-- the mode whose text has this name, with its place, if there is one
abbrev pub IsModeOfText : List ListedMode → List ℕ → Option (ℕ × Bor Name) → Type 0
IsModeOfText modes text mode_text = found_view name_view mode_text ≡ found_in mode_text_of text (modes_view modes)

-- it gives this mode, with the notes on its text
abbrev pub GivesMode : Result modes.ModeRead ConfigFault → Result ModeRead RowsFault → Type 0
GivesMode result read = GivesRows mode_read_view result read

-- it gives for each listed mode that, or none
abbrev pub GivesModes : Result (Vec (Option modes.ModeRead)) ConfigFault → Result (List (Option ModeRead)) RowsFault
    → Type 0
GivesModes result read = GivesRows (λ mode_text. found_modes_view mode_text.items) result read

-- it leaves that here, at the places of the listed modes
abbrev pub LeavesModes : List (Option modes.ModeRead) → Result (Unit {0}) ConfigFault
    → Result (List (Option ModeRead)) RowsFault → Type 0
LeavesModes mode_text result read = GivesRows (λ _. found_modes_view mode_text) result read

-- the mode of this name by its text
abbrev pub mode_of_text : Name → texts.NamedText → Result ModeRead RowsFault
mode_of_text name text = mode_read_at (name_view name) (text_view text)

-- the mode of this name by its text, if none of its entries is taken
abbrev pub new_mode_of_text : {S : Type 0} → List Section → HashSet (CowSlice ℕ Global) S → Name → texts.NamedText
    → Result ModeRead RowsFault
new_mode_of_text machine known_keys name text =
    new_mode_at (keys_taken machine known_keys) (name_view name) (text_view text)

-- the keys of the entries of a mode
abbrev pub keys_of_mode : modes.ModeRead → List (List ℕ)
keys_of_mode read = entry_keys (mode_read_view read).mode.sections

-- what is found, with the mode of this text at its place
abbrev pub with_mode_of_text : {S : Type 0} → List Section → HashSet (CowSlice ℕ Global) S → List ListedMode
    → List (Option modes.ModeRead) → texts.NamedText → Result (List (Option ModeRead)) RowsFault
with_mode_of_text machine known_keys modes mode_text text =
    placed_at (text_view text) (keys_taken machine known_keys) (found_modes_view mode_text)
    (found_in mode_text_of text.name.now (modes_view modes))

-- the keys of the entries of the mode that is found at the place of this text
abbrev pub keys_at_text : List ListedMode → List (Option modes.ModeRead) → texts.NamedText → List (List ℕ)
keys_at_text modes mode_text text = placed_keys (found_modes_view mode_text)
    (found_in mode_text_of text.name.now (modes_view modes))

-- none is found of these modes
abbrev pub IsNoneFound : List ListedMode → List (Option modes.ModeRead) → Type 0
IsNoneFound modes mode_text = found_modes_view mode_text ≡ none_found (modes_view modes)

-- what is found, with the modes of these texts at their places
abbrev pub with_modes_of_texts : {S : Type 0} → List Section → HashSet (CowSlice ℕ Global) S → List ListedMode
    → List (Option modes.ModeRead) → List texts.NamedText → Result (List (Option ModeRead)) RowsFault
with_modes_of_texts machine known_keys modes mode_text texts =
    modes_from (keys_taken machine known_keys) (modes_view modes) [] (found_modes_view mode_text) (texts_view texts)

-- the modes of these texts at their places
abbrev pub modes_of_texts : {S : Type 0} → List Section → HashSet (CowSlice ℕ Global) S → List ListedMode
    → List texts.NamedText → Result (List (Option ModeRead)) RowsFault
modes_of_texts machine known_keys modes texts =
    modes_from (keys_taken machine known_keys) (modes_view modes) [] (none_found (modes_view modes)) (texts_view texts)

-- the modes that were found
abbrev pub AreModesFound : List (Option modes.ModeRead) → List ModeText → Type 0
AreModesFound mode_text modes = map mode_view modes ≡ map (λ m. m.mode) (found_of (found_modes_view mode_text))

-- the notes on the texts of the modes that were found
abbrev pub notes_found : List (Option modes.ModeRead) → List Note
notes_found mode_text = flat_map (λ m. m.notes) (found_of (found_modes_view mode_text))

-- ---- notes

-- a list of notes has grown by these
abbrev pub GainsNotes : (old new : Vec notes.Note) → List Note → Type 0
GainsNotes old new more = notes_view new ≡ notes_view old ++ more

-- the note on a skipped section of this text
abbrev pub IsSkippedNote : List ℕ → (Key × Tree) → notes.Note → Type 0
IsSkippedNote text entry note = note_view note ≡ skipped_note text (pair_view entry)

-- the note on a listed mode without a text
abbrev pub IsAbsentNote : Name → notes.Note → Type 0
IsAbsentNote mode note = note_view note ≡ absent_note (name_view mode)

-- the note on an unlisted text
abbrev pub IsUnlistedNote : texts.NamedText → notes.Note → Type 0
IsUnlistedNote text note = note_view note ≡ unlisted_note (text_view text)

-- the notes on the listed modes that have no text
abbrev pub notes_on_absent : List texts.NamedText → List ListedMode → List Note
notes_on_absent texts modes = map absent_note (absent_of (texts_view texts) (modes_view modes))

-- the notes on the unlisted texts
abbrev pub notes_on_unlisted : List texts.NamedText → List ListedMode → List Note
notes_on_unlisted texts modes = unlisted_notes (modes_view modes) (texts_view texts)

-- the notes on the sections of the machine text
abbrev pub AreMachineNotes : List texts.NamedText → List ListedMode → List (Key × Tree) → Vec notes.Note → Type 0
AreMachineNotes texts modes sections notes =
    notes_view notes ≡ machine_notes (texts_view texts) (modes_view modes) (pairs_view sections)

-- the notes on the sections of the text of a mode
abbrev pub AreModeNotes : List ℕ → List (Key × Tree) → Vec notes.Note → Type 0
AreModeNotes text sections notes = notes_view notes ≡ mode_notes text (pairs_view sections)

-- ---- the bundle

-- it gives this machine text, with the notes on it
abbrev pub GivesMachine : Result machines.MachineRead ConfigFault → Result MachineRead RowsFault → Type 0
GivesMachine result read = GivesRows machine_read_view result read

-- it gives these rows of a bundle
abbrev pub GivesConfig : Result Config ConfigFault → Result Rows RowsFault → Type 0
GivesConfig result read = GivesRows rows_view result read

-- it gives these names of modes
abbrev pub GivesModeNames : Result (Vec (Vec ℕ)) ConfigFault → Result (List (List ℕ)) RowsFault → Type 0
GivesModeNames result read = GivesRows names_only_view result read

-- what the texts of a bundle say of the machine
abbrev pub machine_in_texts : List texts.NamedText → Result MachineRead RowsFault
machine_in_texts texts = machine_read_at (texts_view texts)

-- the modes that a machine text of these sections lists, by the texts of the bundle
abbrev pub modes_of_machine : List Section → List ListedMode → List texts.NamedText
    → Result (List (Option ModeRead)) RowsFault
modes_of_machine sections modes_listed texts =
    modes_in_texts (map section_view sections) (modes_view modes_listed) (texts_view texts)

-- the names as they are written
abbrev pub AreTextsOf : List Name → Vec (Vec ℕ) → Type 0
AreTextsOf names texts = names_only_view texts ≡ map (λ w. w.text) (map name_view names)

-- ---- texts and their names

-- it gives this text of a bundle
abbrev pub GivesText : Result texts.NamedText ConfigFault → Result NamedText RowsFault → Type 0
GivesText result read = GivesRows text_view result read

-- it gives these texts of a bundle
abbrev pub GivesTexts : Result (Vec texts.NamedText) ConfigFault → Result (List NamedText) RowsFault → Type 0
GivesTexts result read = GivesRows (λ texts. texts_view texts.items) result read

-- it gives these bytes
abbrev pub GivesBytes : Result (Bor (List ℕ)) ConfigFault → Result (List ℕ) RowsFault → Type 0
GivesBytes result read = GivesRows bytes_view result read

-- the machine text among these texts
abbrev pub machine_text_in : List texts.NamedText → Result (List ℕ) RowsFault
machine_text_in texts = machine_at (texts_view texts)
