-- What a table says of its settings.
use Rattle.std.specs.Prelude.{ℕ, Bool, true, false, List, Option, Some, None}
use Rattle.setting_values.specs.{Values.{nothing, Value, one}, Kinds.{Absent, mandatory, default}}
use Rattle.section_tables.specs.Shapes.{Setting}

abbrev pub setting_key : Setting → List ℕ
setting_key s = s.key

-- what holds if nothing is written; nothing if something has to be
abbrev pub value_default : Absent Value → Value
value_default mandatory = one nothing
value_default (default v) = v

abbrev pub setting_default : Setting → Value
setting_default s = value_default s.absent

-- whether nothing is written that has to be
abbrev pub value_lacks : Absent Value → Value → Bool
value_lacks mandatory (one nothing) = true
value_lacks _ _ = false

-- the same, when there may be no value
abbrev pub lacks_if : Absent Value → Option Value → Bool
lacks_if absent (Some v) = value_lacks absent v
lacks_if absent None = false

abbrev pub setting_lacks : Setting → Value → Bool
setting_lacks s = value_lacks s.absent
