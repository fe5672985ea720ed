-- What it means that every name in the rows of a mode is well formed.
use Rattle.std.specs.List.{All}
use Rattle.mpf_values.specs.Names.{IsName}
use Rattle.mpf_sections.specs.Named.{IsNamed}
use Rattle.mpf_config.specs.Rows.{ModeRows}

-- the name of a mode is one, and so is each in its sections
pub record IsNamedMode (m : ModeRows) : Type 0 where
  pub name : IsName m.name
  pub sections : All IsNamed m.sections
