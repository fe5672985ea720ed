-- What contracts see of the rows of a mode.
use Rattle.std.specs.Prelude.{map}
use Rattle.mpf_sections.specs.SectionView.{section_view}
use Rattle.mpf_config.specs.{declared.config.ModeText.ModeText, Rows.ModeRows}

abbrev pub mode_view : ModeText → ModeRows
mode_view m = record { name = m.name.items; sections = map section_view m.sections.items }
