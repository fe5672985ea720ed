use Rattle.std.proofs.Common.{◌≡◌, take, map}
use Rattle.setting_values.specs.{KeyRules.field_default, KindView.field_view, View.plains_view}
use Rattle.setting_values.proofs.fields.bare_row.Given as goal

abbrev pub invariant-loop-field : goal.invariant-loop-field
invariant-loop-field l = plains_view l.row.items ≡ map field_default (map field_view (take l.field-index l.table))
