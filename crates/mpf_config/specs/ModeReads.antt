-- What is read of the machine and of modes, each with the notes on its text.
use Rattle.std.specs.{Prelude.{List, ◌++◌}, List.flat_map}
use Rattle.yaml_subset.specs.Node.{Pair}
use Rattle.mpf_sections.specs.Rows.{WrittenName, SectionRows}
use Rattle.mpf_config.specs.{Rows.{ModeRows, Note}, BundleText.NamedText, Unread.{machine_notes, unlisted_notes}}

-- the sections of the machine text, with the notes on it
pub record MachineRead : Type 0 where
  pub rows : List SectionRows
  pub notes : List Note

-- a mode that has a text, with the notes on that text
pub record ModeRead : Type 0 where
  pub mode : ModeRows
  pub notes : List Note

-- the notes on a bundle: on the machine text, on the texts of modes as these are listed, and on the texts that are not
-- read
abbrev pub rows_notes : List NamedText → List WrittenName → List Pair → List ModeRead → List Note
rows_notes texts modes_listed sections modes =
    (machine_notes texts modes_listed sections ++ flat_map (λ m. m.notes) modes) ++ unlisted_notes modes_listed texts
