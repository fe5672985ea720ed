use Rattle.std.proofs.Common.{◌≡◌, drop, map}
use Rattle.setting_values.specs.{KeyRules.{field_key, field_lacks}, KindView.field_view}
use Rattle.setting_values.specs.{Reading.lacking, View.plains_view}
use Rattle.setting_values.proofs.fields.first_lacking.Given as goal

abbrev pub invariant-loop-at : goal.invariant-loop-at
invariant-loop-at l =
    lacking field_key field_lacks (map field_view (drop l.at l.table)) (plains_view (drop l.at l.row))
    ≡ lacking field_key field_lacks (map field_view l.table) (plains_view l.row)
