use Rattle.std.proofs.Common.{◌≡◌, drop, map}
use Rattle.setting_values.specs.{KeyRules.{found_in, field_key, shift}, KindView.field_view}
use Rattle.setting_values.proofs.fields.field_of.Given as goal

abbrev pub invariant-loop-at : goal.invariant-loop-at
invariant-loop-at l = shift l.at (found_in field_key l.key (map field_view (drop l.at l.table)))
    ≡ found_in field_key l.key (map field_view l.table)
