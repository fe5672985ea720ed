-- Reading a bundle: the machine text, and then the others in order, up to the first fault.
use Rattle.std.specs.Prelude.{ℕ, ◌^◌, nat_lt, Bool, true, not, ◌||◌, if◌then◌else◌, List, [], ◌∷◌, ◌++◌, length, map}
use Rattle.std.specs.{Prelude.{set, Option, Some, None, unwrap_or, Result, Ok, Err, codes}, List.flat_map, Str.bytes_eq}
pub use Rattle.yaml_bytes.specs.Results.{◌>>=◌}
use Rattle.yaml_subset.specs.declared.fault.TextFault as yaml
use Rattle.yaml_subset.specs.{Node.{Node, Pair}, Reading.read_at, Keys.is_among, View.{line_of, pairs_in}}
use Rattle.config_faults.specs.declared.fault.BundleFaultKind.TheVariants.{Bundle, Version, Yaml, UnknownSection}
use Rattle.config_faults.specs.declared.fault.BundleFaultKind.TheVariants.{BadValue, Duplicate, Limit}
use Rattle.mpf_tables.specs.declared.tables.TextKind.{TextKind, TheVariants.{Machine, Mode}}
use Rattle.section_tables.specs.Shapes.{Shape, by_entries, by_players, by_entry, by_names}
use Rattle.setting_values.specs.{KeyRules.found_in, Reading.{key_spot, expect, each_read}}
use Rattle.mpf_tables.specs.SectionTables.{mode_name, shape_of}
use Rattle.section_tables.specs.Reading.{entry_at, entries_at, players_at, names_at}
use Rattle.config_faults.specs.Faults.{Spot, refuse}
use Rattle.mpf_sections.specs.Rows.{WrittenName, Content, entries, players, entry, name_list, SectionRows, ModeSettings}
use Rattle.mpf_config.specs.{Rows.{Rows, RowsFault}, FaultLine.yaml_kind_name, ModeReads.{MachineRead, ModeRead}}
use Rattle.mpf_config.specs.BundleText.{NamedText, machine_name, machine_owner, first_line, behind_first_line, name_in}
use Rattle.mpf_config.specs.BundleText.{pieces_of, number_lines, has_version}
use Rattle.mpf_sections.specs.Typed.{mode_settings_of, starts_at_ball_end, listed_modes}
use Rattle.mpf_config.specs.Unread.{read_of, mode_text_of, machine_notes, mode_notes, unlisted_notes}
use Rattle.mpf_config.specs.Apart.{EntryName, entry_names, entry_key, entry_keys}

-- a line of a bundle, or of a text as a whole
abbrev pub line_spot : List ℕ → ℕ → Spot
line_spot text line = record { text = text; line = line; key = codes "-" }

-- ---- sections

-- No mode is named `machine`, and each name is new: not among these, and not that of an earlier mode.
abbrev pub modes_new_at : Spot → List (List ℕ) → List WrittenName → Result (Unit {0}) RowsFault
modes_new_at spot names [] = Ok tt
modes_new_at spot names (w ∷ ws) =
    if bytes_eq w.text machine_owner then refuse BadValue spot
    else (if is_among names w.text then refuse Duplicate (record { text = spot.text; line = w.line; key = w.text }) else
    modes_new_at spot (w.text ∷ names) ws)

-- the modes that a section lists, which are 64 at most
unfoldable pub modes_at : List ℕ → Pair → Result (List WrittenName) RowsFault
modes_at text p = names_at 64 text p >>= λ ws. modes_new_at (key_spot text p) [] ws >>= λ all_new. Ok ws

-- what stands in a section, by how it is written
abbrev pub content_at : List ℕ → Pair → Shape → Result Content RowsFault
content_at text p (by_entries barred_names table) = entries_at text barred_names table p >>= λ es. Ok (entries es)
content_at text p (by_players kinds) = players_at text kinds p >>= λ ps. Ok (players ps)
content_at text p (by_entry table) = entry_at text table p >>= λ e. Ok (entry e)
content_at text p by_names = modes_at text p >>= λ ws. Ok (name_list ws)

-- whether a mode that may hold the end of the ball has `ball_ending` as its only start event
abbrev pub has_right_starts : ModeSettings → Bool
has_right_starts s = not s.holds_ball_end || starts_at_ball_end s

-- whether a section keeps to this rule; only `mode` can break it
unfoldable pub keeps_to_ball_end : List ℕ → Content → Bool
keeps_to_ball_end section (entry e) = not (bytes_eq section mode_name) || has_right_starts (mode_settings_of e.values)
keeps_to_ball_end section _ = true

-- the line of the first pair with this key; `otherwise` if there is none
abbrev pub line_of_key : List ℕ → ℕ → List Pair → ℕ
line_of_key key otherwise [] = otherwise
line_of_key key otherwise (p ∷ ps) = if bytes_eq p.key key then p.line else line_of_key key otherwise ps

-- where the fault is: at `start_events`, or at the section's own line if that is not written
abbrev pub starts_spot : List ℕ → Pair → Spot
starts_spot text p = record {
  text = text;
  line = line_of_key (codes "start_events") p.line (unwrap_or (pairs_in p.value) []);
  key = codes "start_events";
}

-- a section with what stands in it
abbrev pub section_with : List ℕ → Pair → Content → Result SectionRows RowsFault
section_with text p content =
    if keeps_to_ball_end p.key content then Ok (record { name = p.key; content = content }) else refuse BadValue
    (starts_spot text p)

-- a section by its name
abbrev pub section_from : List ℕ → Pair → Option Shape → Result SectionRows RowsFault
section_from text p (Some shape) = content_at text p shape >>= λ content. section_with text p content
section_from text p None = refuse UnknownSection (key_spot text p)

unfoldable pub section_at : TextKind → List ℕ → Pair → Result SectionRows RowsFault
section_at kind text p = section_from text p (shape_of kind p.key)

-- the sections that a tree has
unfoldable pub sections_in : List ℕ → Node → Result (List Pair) RowsFault
sections_in text tree = expect (line_spot text (line_of tree)) (pairs_in tree)

-- the rows of those that are read
unfoldable pub sections_at : TextKind → List ℕ → List Pair → Result (List SectionRows) RowsFault
sections_at kind text sections = each_read (section_at kind text) (read_of sections)

-- ---- the bundle

-- the text in a piece, by the name in its first line; the number of that line is for the fault
abbrev pub text_from : ℕ → List ℕ → Option (List ℕ) → Result NamedText RowsFault
text_from line piece (Some name) = Ok (record { name = name; text = behind_first_line piece })
text_from line piece None = refuse Bundle (line_spot (codes "-") line)

unfoldable pub text_at : (ℕ × List ℕ) → Result NamedText RowsFault
text_at p = text_from p.0 p.1 (name_in (first_line p.1))

-- the texts of a bundle
unfoldable pub texts_at : List ℕ → Result (List NamedText) RowsFault
texts_at bundle = each_read text_at (number_lines 1 (pieces_of bundle))

-- the machine text
abbrev pub machine_at : List NamedText → Result (List ℕ) RowsFault
machine_at [] = refuse Bundle (line_spot (codes "-") 1)
machine_at (t ∷ ts) = if bytes_eq t.name machine_name then Ok t.text else machine_at ts

-- the tree of a text, as the YAML reader has it
abbrev pub tree_from : List ℕ → Result Node yaml.TextFault → Result Node RowsFault
tree_from text (Ok tree) = Ok tree
tree_from text (Err f) = Err (record { kind = Yaml f.kind; text = text; line = f.line; key = yaml_kind_name f.kind })

unfoldable pub text_tree_at : List ℕ → List ℕ → Result Node RowsFault
text_tree_at name text = if has_version text then tree_from name (read_at text) else refuse Version (line_spot name 1)

-- the sections of a text, and the rows of those that are read
pub record TextRows : Type 0 where
  pub sections : List Pair
  pub rows : List SectionRows

unfoldable pub text_rows_at : TextKind → List ℕ → List ℕ → Result TextRows RowsFault
text_rows_at kind name text =
    text_tree_at name text >>= λ tree. sections_in name tree >>= λ sections. sections_at kind name sections >>= λ rows.
    Ok (record { sections = sections; rows = rows })

-- ---- the machine and its modes

-- the machine text, with the notes on it
unfoldable pub machine_read_at : List NamedText → Result MachineRead RowsFault
machine_read_at texts =
    machine_at texts >>= λ text. text_rows_at Machine machine_name text
    >>= λ r. Ok (record { rows = r.rows; notes = machine_notes texts (listed_modes r.rows) r.sections })

-- a mode by its text
unfoldable pub mode_read_at : WrittenName → NamedText → Result ModeRead RowsFault
mode_read_at w t =
    text_rows_at Mode t.name t.text >>= λ r. Ok
    (record { mode = record { name = w.text; sections = r.rows }; notes = mode_notes t.name r.sections })

-- Each entry is new: its key is not among these, and not that of an earlier one.
abbrev pub entries_new_at : List ℕ → List (List ℕ) → List EntryName → Result (Unit {0}) RowsFault
entries_new_at text keys [] = Ok tt
entries_new_at text keys (e ∷ es) =
    if is_among keys (entry_key e) then refuse Duplicate (record { text = text; line = e.name.line; key = e.name.text })
    else entries_new_at text (entry_key e ∷ keys) es

-- a mode by its text, once it is read, has no entry that is taken
unfoldable pub new_mode_at : List (List ℕ) → WrittenName → NamedText → Result ModeRead RowsFault
new_mode_at known_keys w t = mode_read_at w t >>= λ m. entries_new_at t.name known_keys (entry_names m.mode.sections)
    >>= λ all_new. Ok m

-- What is found so far, with the mode of this text at its place; unchanged if the text is that of no listed mode.
abbrev pub placed_at : NamedText → List (List ℕ) → List (Option ModeRead) → Option (ℕ × WrittenName)
    → Result (List (Option ModeRead)) RowsFault
placed_at t known_keys mode_reads None = Ok mode_reads
placed_at t known_keys mode_reads (Some p) = new_mode_at known_keys p.1 t >>= λ m. Ok (set mode_reads p.0 (Some m))

-- those that were found
abbrev pub found_of : List (Option ModeRead) → List ModeRead
found_of [] = []
found_of (None ∷ os) = found_of os
found_of (Some m ∷ os) = m ∷ found_of os

-- the keys of entries that are taken: those of the machine, and of the modes that were found
abbrev pub taken_by : List (List ℕ) → List ModeRead → List (List ℕ)
taken_by machine modes = machine ++ flat_map (λ m. entry_keys m.mode.sections) modes

-- The modes that are found in texts, each at its place in the list of modes. Texts are read one after the other, and a
-- name that came before is a fault, of a text and of an entry. These are the keys of the machine's entries.
abbrev pub modes_from : List (List ℕ) → List WrittenName → List (List ℕ) → List (Option ModeRead) → List NamedText
    → Result (List (Option ModeRead)) RowsFault
modes_from machine ws names mode_reads [] = Ok mode_reads
modes_from machine ws names mode_reads (t ∷ ts) =
    if is_among names t.name then refuse Duplicate (line_spot t.name 1)
    else (placed_at t (taken_by machine (found_of mode_reads)) mode_reads (found_in mode_text_of t.name ws) >>= λ next.
    modes_from machine ws (t.name ∷ names) next ts)

-- none is found before the first text
abbrev pub none_found : List WrittenName → List (Option ModeRead)
none_found ws = map (λ w. None) ws

-- ---- the rows

abbrev pub rows_from : List NamedText → MachineRead → List ModeRead → Rows
rows_from texts machine modes = record {
  machine = machine.rows;
  modes = map (λ m. m.mode) modes;
  notes = (machine.notes ++ flat_map (λ m. m.notes) modes) ++ unlisted_notes (listed_modes machine.rows) texts;
}

-- the modes of a machine text with these sections, which lists these modes; its own entries are taken first
unfoldable pub modes_in_texts : List SectionRows → List WrittenName → List NamedText
    → Result (List (Option ModeRead)) RowsFault
modes_in_texts machine ws texts = entries_new_at machine_name [] (entry_names machine) >>= λ all_new. modes_from
    (entry_keys machine) ws [] (none_found ws) texts

-- The rows of a bundle: its machine text is read first, and then the texts of the modes that it lists.
unfoldable pub rows_at : List ℕ → Result Rows RowsFault
rows_at bundle =
    if nat_lt (2 ^ 23) (length bundle) then refuse Limit (line_spot (codes "-") 1)
    else (texts_at bundle >>= λ texts. machine_read_at texts >>= λ machine. modes_in_texts machine.rows
    (listed_modes machine.rows) texts
    >>= λ mode_reads. Ok (rows_from texts machine (found_of mode_reads)))

-- the names of the modes that a machine text lists
unfoldable pub mode_names_at : List ℕ → Result (List (List ℕ)) RowsFault
mode_names_at text = text_rows_at Machine machine_name text >>= λ machine. Ok
    (map (λ w. w.text) (listed_modes machine.rows))
