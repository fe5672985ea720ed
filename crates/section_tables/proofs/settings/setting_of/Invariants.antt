use Rattle.std.proofs.Common.{◌≡◌, drop, map}
use Rattle.setting_values.specs.KeyRules.{found_in, shift}
use Rattle.section_tables.specs.{Tables.setting_key, TableView.setting_view}
use Rattle.section_tables.proofs.settings.setting_of.Given as goal

abbrev pub invariant-loop-at : goal.invariant-loop-at
invariant-loop-at l = shift l.at (found_in setting_key l.key (map setting_view (drop l.at l.table)))
    ≡ found_in setting_key l.key (map setting_view l.table)
