-- When a value has reached or passed its end.
use Rattle.std.specs.Prelude.{ℤ, int_le, Bool, false, Option, None, Some}
use Rattle.machine_settings.specs.declared.words.Direction.{Direction, TheVariants.{Up, Down}}

-- whether a value has reached or passed its end, if it has one
abbrev pub is_at_end : Direction → Option ℤ → ℤ → Bool
is_at_end direction None value = false
is_at_end Up (Some end) value = int_le end value
is_at_end Down (Some end) value = int_le value end
