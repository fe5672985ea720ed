-- What contracts see of the rows, and of an answer.
use Rattle.std.specs.Prelude.{map}
use Rattle.mpf_sections.specs.SectionView.{section_view}
use Rattle.mpf_config.specs.declared.config.Note as notes
use Rattle.mpf_config.specs.{declared.config.Config.Config, Rows.{Note, Rows}}
pub use Rattle.mpf_config.specs.ModeView.{mode_view}
pub use Rattle.setting_values.specs.View.{name_view}
pub use Rattle.config_faults.specs.Faults.{rows_fault_view, FailsRows, GivesRows}

abbrev pub note_view : notes.Note → Note
note_view n = record { kind = n.kind; text = n.text.items; line = n.line; name = n.name.items }

abbrev pub rows_view : Config → Rows
rows_view c =
    record {
      machine = map section_view c.machine.sections.items;
      modes = map mode_view c.modes.items;
      notes = map note_view c.notes.items;
    }
