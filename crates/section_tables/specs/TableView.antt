-- What contracts see of the code's tables.
use Rattle.std.specs.Prelude.{ℕ, List, [], ◌∷◌, None, map}
use Rattle.section_tables.specs.declared.table.Without as withouts
use Rattle.section_tables.specs.declared.table.Without.TheVariants as without
use Rattle.section_tables.specs.declared.table.Setting as settings
use Rattle.section_tables.specs.declared.table.PlayerKinds as players
use Rattle.section_tables.specs.declared.table.BarredNames as barreds
use Rattle.section_tables.specs.declared.table.Shape as shapes
use Rattle.section_tables.specs.declared.table.Shape.TheVariants as shape
use Rattle.setting_values.specs.Values.{Plain, Value, one, names, posts, events, maps, written_at, handled_at}
use Rattle.setting_values.specs.{Kinds.{Absent, mandatory, default}, KindView.{scalar_view, absent_view, kind_view}}
use Rattle.section_tables.specs.Shapes.{Setting, PlayerKinds, Shape, by_entries, by_players, by_entry, by_names}

abbrev pub as_value : Absent Plain → Absent Value
as_value mandatory = mandatory
as_value (default x) = default (one x)

abbrev pub without_view : withouts.Without → Absent Value
without_view (without.One a) = as_value (absent_view a)
without_view without.NoNames = default (names [])
without_view (without.Name n) = default (names (written_at 0 n.now ∷ []))
without_view without.NoPosts = default (posts [])
without_view without.NoEvents = default (events [])
without_view (without.Event n) = default (events (handled_at 0 (record { name = n.now; condition = None }) ∷ []))
without_view without.NoMaps = default (maps [])

abbrev pub setting_view : settings.Setting → Setting
setting_view s = record { key = s.key.now; kind = kind_view s.kind; absent = without_view s.without }

abbrev pub table_view : List settings.Setting → List Setting
table_view = map setting_view

abbrev pub player_kinds_view : players.PlayerKinds → PlayerKinds
player_kinds_view k = record { key = scalar_view k.key; value = kind_view k.value }

abbrev pub barred_view : barreds.BarredNames → List (List ℕ)
barred_view b = map (λ n. n.now) b.names.now

abbrev pub shape_view : shapes.Shape → Shape
shape_view (shape.Entries barred_names table) = by_entries (barred_view barred_names) (table_view table.now)
shape_view (shape.Players k) = by_players (player_kinds_view k)
shape_view (shape.Entry table) = by_entry (table_view table.now)
shape_view shape.Names = by_names
