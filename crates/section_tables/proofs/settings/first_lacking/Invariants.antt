use Rattle.std.proofs.Common.{◌≡◌, drop, map}
use Rattle.section_tables.specs.{Tables.{setting_key, setting_lacks}, View.row_values, TableView.setting_view}
use Rattle.setting_values.specs.{View.values_view, Reading.lacking}
use Rattle.section_tables.proofs.settings.first_lacking.Given as goal

abbrev pub invariant-loop-at : goal.invariant-loop-at
invariant-loop-at l =
    lacking setting_key setting_lacks (map setting_view (drop l.at l.table))
    (drop l.at (values_view (row_values l.row)))
    ≡ lacking setting_key setting_lacks (map setting_view l.table) (values_view (row_values l.row))
