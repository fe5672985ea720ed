use Rattle.std.proofs.Common.{◌≡◌, List, ◌++◌, drop, length, map}
use Rattle.setting_values.specs.{declared.values.Value.Value, Reading.overwritten_at, View.{pairs_view, values_view}}
use Rattle.section_tables.specs.{Reading.setting_at, Keys.is_ignored, Tables.setting_key, View.with_written}
use Rattle.section_tables.specs.{EntryOf.places_written, TableView.setting_view}
use Rattle.section_tables.proofs.settings.overwrite.Given as goal

abbrev pub invariant-loop-pair : goal.invariant-loop-pair
invariant-loop-pair l =
    (length l.order.items ≡ length l.written_values.items)
    × ((row : List Value) → overwritten_at setting_key setting_at is_ignored l.text (map setting_view l.table)
    (pairs_view (drop l.pair-index l.pairs)) (values_view (with_written row l.order.items l.written_values.items))
    ≡ overwritten_at setting_key setting_at is_ignored l.text (map setting_view l.table) (pairs_view l.pairs)
    (values_view (with_written row l.fn.order.items l.fn.written_values.items)))
    × (l.order.items ++ places_written (map setting_view l.table) (pairs_view (drop l.pair-index l.pairs))
    ≡ l.fn.order.items ++ places_written (map setting_view l.table) (pairs_view l.pairs))
