-- A coil, and what is done with it.
use Rattle.std.specs.Prelude.{ℕ, ◌+◌, ◌*◌, Bool, not, ◌&&◌, ◌||◌, None, Some, is_some, nat_le, nat_lt}
use Rattle.plan_tables.specs.declared.entries.{Owner.Owner, CoilLimits.CoilLimits}
use Rattle.coil_guard.specs.{declared.state.CoilState.CoilState, Owners.is_holder}
use Rattle.coil_guard.specs.Limits.{is_pulse_within, is_hold_within}

-- a coil to which nothing has been sent
abbrev pub off : CoilLimits → CoilState
off limits = record { limits = limits; pulse_end = 0; ready = 0; holder = None }

-- whether the coil is on at a moment: a pulse goes on, or it is held
abbrev pub is_on_at : ℕ → CoilState → Bool
is_on_at moment c = nat_lt moment c.pulse_end || is_some c.holder

-- whether this owner holds the coil
abbrev pub is_held_by : Owner → CoilState → Bool
is_held_by owner c = is_holder owner c.holder

-- ---- pulse

-- A pulse is sent if the coil is not held, is ready, and the pulse is within the limits.
abbrev pub takes_pulse : ℕ → ℕ → ℕ → CoilState → Bool
takes_pulse ms power now c = not (is_some c.holder) && (nat_le c.ready now && is_pulse_within c.limits ms power)

-- It goes on for its length, and the coil is ready again after twice that.
abbrev pub pulse_coil : ℕ → ℕ → CoilState → CoilState
pulse_coil ms now c = record { limits = c.limits; pulse_end = now + ms; ready = now + 2 * ms; holder = c.holder }

-- ---- enable

-- An enable is sent if the coil is not held yet, and may be held with this power.
abbrev pub takes_enable : ℕ → CoilState → Bool
takes_enable power c = not (is_some c.holder) && is_hold_within c.limits power

-- The owner holds the coil then.
abbrev pub enabled : Owner → CoilState → CoilState
enabled owner c = record { limits = c.limits; pulse_end = c.pulse_end; ready = c.ready; holder = Some owner }

-- ---- disable

-- A disable ends a pulse and a hold, and leaves the moment from which the coil is ready.
abbrev pub disable_coil : CoilState → CoilState
disable_coil c = record { limits = c.limits; pulse_end = 0; ready = c.ready; holder = None }
