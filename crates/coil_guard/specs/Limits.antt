-- What a coil may be sent.
use Rattle.std.specs.Prelude.{◌≡◌, ◌≤◌, ℕ, Bool, true, false, ◌&&◌, List, nat_le, slice_index_or}
use Rattle.plan_tables.specs.declared.entries.{CoilId.CoilId, CoilLimits.CoilLimits}
use Rattle.coil_guard.specs.declared.command.Command.{Command, TheVariants.{Pulse, Enable, Disable}}

-- in place of the limits if there is no coil: no pulse and no hold is within them
abbrev pub no_limits : CoilLimits
no_limits = record { max_pulse_ms = 0; max_pulse_power = 0; max_hold_power = 0; may_hold = false }

-- the limits of a coil
abbrev pub limits_at : List CoilLimits → CoilId → CoilLimits
limits_at limits coil = slice_index_or limits coil.0 no_limits

-- whether a pulse of so many milliseconds, with this power, is within the limits
abbrev pub is_pulse_within : CoilLimits → ℕ → ℕ → Bool
is_pulse_within limits ms power = nat_le 1 ms && (nat_le ms limits.max_pulse_ms && nat_le power limits.max_pulse_power)

-- whether the coil may be held with this power
abbrev pub is_hold_within : CoilLimits → ℕ → Bool
is_hold_within limits power = limits.may_hold && nat_le power limits.max_hold_power

-- The command is within the limits of its coil. A disable always is.
abbrev pub IsWithin : List CoilLimits → Command → Type 0
IsWithin limits (Pulse coil ms power) =
    (1 ≤ ms) × (ms ≤ (limits_at limits coil).max_pulse_ms) × (power ≤ (limits_at limits coil).max_pulse_power)
IsWithin limits (Enable coil power) =
    ((limits_at limits coil).may_hold ≡ true) × (power ≤ (limits_at limits coil).max_hold_power)
IsWithin limits (Disable coil) = Unit {0}
