use Rattle.std.proofs.Common.{◌≡◌, take, map}
use Rattle.section_tables.specs.{Tables.setting_default, TableView.setting_view}
use Rattle.setting_values.specs.View.{values_view}
use Rattle.section_tables.proofs.settings.bare_row.Given as goal

abbrev pub invariant-loop-setting : goal.invariant-loop-setting
invariant-loop-setting l = values_view l.row.items
    ≡ map setting_default (map setting_view (take l.setting-index l.table))
