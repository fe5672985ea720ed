use Rattle.std.proofs.Common.{◌≡◌, drop, length, map}
use Rattle.setting_values.specs.{ValueOf.pass, KeyRules.field_key, View.{pairs_view, plains_view}}
use Rattle.setting_values.specs.{Reading.{field_at, overwritten_at}, KindView.{others_view, field_view}}
use Rattle.setting_values.proofs.fields.overwrite.Given as goal

abbrev pub invariant-loop-pair : goal.invariant-loop-pair
invariant-loop-pair l =
    (length l.row ≡ length l.table)
    × (overwritten_at field_key field_at (pass (others_view l.others)) l.text (map field_view l.table)
    (pairs_view (drop l.pair-index l.pairs)) (plains_view l.row)
    ≡ overwritten_at field_key field_at (pass (others_view l.others)) l.text (map field_view l.table)
    (pairs_view l.pairs) (plains_view l.fn.row))
