-- What is not read of a bundle, and the notes on it.
use Rattle.std.specs.Prelude.{ℕ, Bool, not, ◌&&◌, if◌then◌else◌, List, [], ◌∷◌, map, filter, codes}
use Rattle.std.specs.{List.{list_any, flat_map}, Str.bytes_eq}
use Rattle.yaml_subset.specs.{Node.Pair, Keys.is_among}
use Rattle.mpf_tables.specs.SectionTables.{modes_name}
use Rattle.mpf_config.specs.declared.config.NoteKind.TheVariants.{Skipped, Absent, Unlisted}
use Rattle.mpf_config.specs.{Rows.{WrittenName, Note}, BundleText.{NamedText, machine_name, mode_text_name}}

-- the sections that are carried out nowhere
abbrev pub skipped_names : List (List ℕ)
skipped_names =
    codes "lights" ∷ codes "light_player" ∷ codes "light_settings" ∷ codes "shows" ∷ codes "show_player"
    ∷ codes "sounds"
    ∷ codes "sound_player" ∷ codes "sound_pools" ∷ codes "sound_system" ∷ codes "slides" ∷ codes "slide_player"
    ∷ codes "widgets"
    ∷ codes "widget_player" ∷ codes "widget_styles" ∷ codes "window" ∷ codes "displays" ∷ codes "playlists"
    ∷ codes "playlist_player"
    ∷ codes "segment_displays" ∷ codes "segment_display_player" ∷ codes "text_strings" ∷ codes "images" ∷ codes "videos"
    ∷ codes "assets"
    ∷ codes "hardware" ∷ codes "keyboard" ∷ codes "bcp" ∷ codes "mpf" ∷ codes "mpf-mc" ∷ codes "logging"
    ∷ codes "playfields"
    ∷ codes "virtual_platform_start_active_switches" ∷ []

unfoldable pub is_skipped : List ℕ → Bool
is_skipped name = list_any (λ other. bytes_eq other name) skipped_names

-- the sections of a text that are read
abbrev pub read_of : List Pair → List Pair
read_of = filter (λ p. not (is_skipped p.key))

-- whether there is a text of this name
abbrev pub has_text : List NamedText → List ℕ → Bool
has_text texts name = list_any (λ t. bytes_eq t.name name) texts

-- the name of the text of a listed mode
abbrev pub mode_text_of : WrittenName → List ℕ
mode_text_of w = mode_text_name w.text

abbrev pub text_names : List WrittenName → List (List ℕ)
text_names modes_listed = map mode_text_of modes_listed

-- whether a listed mode has a text
abbrev pub is_present : List NamedText → WrittenName → Bool
is_present texts w = has_text texts (mode_text_of w)

-- the listed modes that have one, and the others
abbrev pub present_of : List NamedText → List WrittenName → List WrittenName
present_of texts = filter (is_present texts)

abbrev pub absent_of : List NamedText → List WrittenName → List WrittenName
absent_of texts = filter (λ w. not (is_present texts w))

-- the texts that are not read: neither the machine text nor that of a listed mode
abbrev pub is_unlisted : List WrittenName → NamedText → Bool
is_unlisted modes_listed t = not (bytes_eq t.name machine_name) && not (is_among (text_names modes_listed) t.name)

-- ---- notes

abbrev pub skipped_note : List ℕ → Pair → Note
skipped_note text p = record { kind = Skipped; text = text; line = p.line; name = p.key }

abbrev pub absent_note : WrittenName → Note
absent_note w = record { kind = Absent; text = machine_name; line = w.line; name = w.text }

abbrev pub unlisted_note : NamedText → Note
unlisted_note t = record { kind = Unlisted; text = t.name; line = 0; name = t.name }

-- The notes at a section: its own if it is skipped; at `modes`, those on listed modes without a text.
abbrev pub section_notes : List ℕ → List Note → Pair → List Note
section_notes text absent p = if is_skipped p.key then skipped_note text p
    ∷ [] else (if bytes_eq p.key modes_name then absent else [])

-- those on the sections of a text, as they are written
abbrev pub text_notes : List ℕ → List Note → List Pair → List Note
text_notes text absent sections = flat_map (section_notes text absent) sections

abbrev pub machine_notes : List NamedText → List WrittenName → List Pair → List Note
machine_notes texts modes_listed sections =
    text_notes machine_name (map absent_note (absent_of texts modes_listed)) sections

abbrev pub mode_notes : List ℕ → List Pair → List Note
mode_notes text sections = text_notes text [] sections

abbrev pub unlisted_notes : List WrittenName → List NamedText → List Note
unlisted_notes modes_listed texts = map unlisted_note (filter (is_unlisted modes_listed) texts)
