-- The rows of a bundle, apart from where they lie in memory.
use Rattle.std.specs.Prelude.{ℕ, List}
use Rattle.mpf_sections.specs.Rows.{SectionRows}
use Rattle.mpf_config.specs.declared.config.NoteKind.{NoteKind}
pub use Rattle.setting_values.specs.Values.{WrittenName}
pub use Rattle.config_faults.specs.Faults.{RowsFault}

-- a part of the bundle that is not read, and is no fault: in which text, at which line, and of which name
pub record Note : Type 0 where
  pub kind : NoteKind
  pub text : List ℕ
  pub line : ℕ
  pub name : List ℕ

-- a mode by its name, with the sections of its text as written
pub record ModeRows : Type 0 where
  pub name : List ℕ
  pub sections : List SectionRows

-- the rows of a bundle: the sections of its machine text as written, the modes that it lists and that have a text, in
-- the order of the list, and what is not read
pub record Rows : Type 0 where
  pub machine : List SectionRows
  pub modes : List ModeRows
  pub notes : List Note
