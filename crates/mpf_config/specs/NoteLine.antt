-- The line that a note is printed as.
use Rattle.std.specs.{Prelude.{ℕ, List, [], ◌∷◌, ◌++◌, codes}, Fmt.decimal}
use Rattle.mpf_config.specs.declared.config.NoteKind.{NoteKind, TheVariants.{Skipped, Absent, Unlisted}}
use Rattle.mpf_config.specs.{Escaped.escape_bytes, FaultLine.with_blank, Rows.Note}

-- the word of a kind
abbrev pub note_word : NoteKind → List ℕ
note_word Skipped = codes "skipped"
note_word Absent = codes "absent"
note_word Unlisted = codes "unlisted"

-- `note TEXT LINE WORD NAME`, and LF; no text or name makes a line of its own
abbrev pub note_line : Note → List ℕ
note_line n = codes "note" ++ with_blank (escape_bytes n.text) ++ with_blank (decimal n.line)
    ++ with_blank (note_word n.kind) ++ with_blank (escape_bytes n.name) ++ 10 ∷ []
