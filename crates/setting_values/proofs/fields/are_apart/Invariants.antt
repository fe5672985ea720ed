use Rattle.std.proofs.Common.{◌≡◌, drop, map}
use Rattle.setting_values.specs.{ValueOf.own_name, Reading.are_apart, View.fields_view}
use Rattle.setting_values.proofs.fields.are_apart.Given as goal

abbrev pub invariant-loop-at : goal.invariant-loop-at
invariant-loop-at l = are_apart (map own_name (map fields_view (drop l.at l.maps)))
    ≡ are_apart (map own_name (map fields_view l.maps))
