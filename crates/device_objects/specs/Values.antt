-- The values of counters, timers and variables: how far from 0 they may be, and how they move.
use Rattle.std.specs.Prelude.{ℕ, ℤ, pos, neg_ℤ, ◌+ℤ◌, ◌-ℤ◌, int_le, if◌then◌else◌}
use Rattle.machine_settings.specs.declared.words.Direction.{Direction, TheVariants.{Up, Down}}

-- no value is further from 0
abbrev pub greatest : ℕ
greatest = 999999999999999

-- the nearest value that there is
unfoldable pub clamp_value : ℤ → ℤ
clamp_value n = if int_le n (neg_ℤ (pos greatest)) then neg_ℤ (pos greatest) else
    (if int_le (pos greatest) n then pos greatest else n)

-- a value that moves by so much
abbrev pub move_value : Direction → ℤ → ℤ → ℤ
move_value Up by value = clamp_value (value +ℤ by)
move_value Down by value = clamp_value (value -ℤ by)
