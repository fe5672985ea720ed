-- All coils, by number, and what each call does with them.
use Rattle.std.specs.Prelude.{ℕ, if◌then◌else◌, Option, None, Some, option_map, List, length, map, slice_index_or}
use Rattle.std.specs.Prelude.{slice_set}
use Rattle.plan_tables.specs.declared.entries.{Owner.Owner, CoilId.CoilId, CoilLimits.CoilLimits}
use Rattle.coil_guard.specs.declared.command.{Command.Command, Answer.{Answer, TheVariants.{Sent, Skipped}}}
use Rattle.coil_guard.specs.declared.command.Command.TheVariants as commands
use Rattle.coil_guard.specs.{declared.state.CoilState.CoilState, Limits.no_limits, Lowest.lowest, CoilStep.disable_coil}
use Rattle.coil_guard.specs.CoilStep.{off, is_on_at, is_held_by, takes_pulse, pulse_coil, takes_enable, enabled}

-- the coil of this number; if there is none, one to which nothing is ever sent
abbrev pub coil_at : List CoilState → CoilId → CoilState
coil_at s coil = slice_index_or s coil.0 (off no_limits)

abbrev pub set_coil : CoilId → CoilState → List CoilState → List CoilState
set_coil coil x s = slice_set s coil.0 x

-- ---- new

-- At the beginning nothing has been sent to any coil.
abbrev pub all_off : List CoilLimits → List CoilState
all_off limits = map off limits

-- ---- pulse

abbrev pub after_pulse : CoilId → ℕ → ℕ → ℕ → List CoilState → List CoilState
after_pulse coil ms power now s =
    if takes_pulse ms power now (coil_at s coil) then set_coil coil (pulse_coil ms now (coil_at s coil)) s else s

abbrev pub answer_pulse : CoilId → ℕ → ℕ → ℕ → List CoilState → Answer
answer_pulse coil ms power now s =
    if takes_pulse ms power now (coil_at s coil) then Sent (commands.Pulse coil ms power) else Skipped

-- ---- enable

abbrev pub after_enable : CoilId → ℕ → Owner → ℕ → List CoilState → List CoilState
after_enable coil power owner now s =
    if takes_enable power (coil_at s coil) then set_coil coil (enabled owner (coil_at s coil)) s else s

abbrev pub answer_enable : CoilId → ℕ → Owner → ℕ → List CoilState → Answer
answer_enable coil power owner now s =
    if takes_enable power (coil_at s coil) then Sent (commands.Enable coil power) else Skipped

-- ---- disable

-- It is sent if the coil is on.
abbrev pub after_disable : CoilId → ℕ → List CoilState → List CoilState
after_disable coil now s = if is_on_at now (coil_at s coil) then set_coil coil (disable_coil (coil_at s coil)) s else s

abbrev pub answer_disable : CoilId → ℕ → List CoilState → Answer
answer_disable coil now s = if is_on_at now (coil_at s coil) then Sent (commands.Disable coil) else Skipped

-- ---- release

-- the lowest coil that the owner holds
abbrev pub next_held : Owner → List CoilState → Option CoilId
next_held owner s = lowest (λ coil. is_held_by owner (coil_at s coil)) (length s)

-- the coil, if it is one, is turned off
abbrev pub put_off : Option CoilId → List CoilState → List CoilState
put_off None s = s
put_off (Some coil) s = set_coil coil (disable_coil (coil_at s coil)) s

abbrev pub after_release : Owner → ℕ → List CoilState → List CoilState
after_release owner now s = put_off (next_held owner s) s

abbrev pub answer_release : Owner → ℕ → List CoilState → Option Command
answer_release owner now s = option_map commands.Disable (next_held owner s)

-- ---- next_on

-- the lowest coil that is on
abbrev pub next_on : ℕ → List CoilState → Option CoilId
next_on now s = lowest (λ coil. is_on_at now (coil_at s coil)) (length s)
