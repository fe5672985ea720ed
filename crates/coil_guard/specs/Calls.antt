-- Lists of calls, and what they send.
use Rattle.std.specs.Prelude.{ℕ, ◌≤◌, Bool, not, ◌&&◌, if◌then◌else◌, Option, None, Some, List, [], ◌∷◌, ◌++◌, length}
use Rattle.plan_tables.specs.declared.entries.{Owner.Owner, CoilId.CoilId, CoilLimits.CoilLimits}
use Rattle.coil_guard.specs.declared.command.{Command.Command, Answer.{Answer, TheVariants.{Sent, Skipped}}}
use Rattle.coil_guard.specs.declared.command.Command.TheVariants as commands
use Rattle.coil_guard.specs.{declared.state.CoilState.CoilState, Lowest.lowest}
use Rattle.coil_guard.specs.Limits.{limits_at, is_pulse_within, is_hold_within}
use Rattle.coil_guard.specs.Coils.{after_pulse, answer_pulse, after_enable, answer_enable, after_disable}
use Rattle.coil_guard.specs.Coils.{answer_disable, after_release, answer_release}
use Rattle.coil_guard.specs.SentCommands.{Sending, is_on, is_held, is_held_for, is_resting}

-- a call, with its moment
pub data CoilCall : Type 0 where
  Pulse : (coil : CoilId) (ms : ℕ) (power : ℕ) (now : ℕ) → CoilCall
  Enable : (coil : CoilId) (power : ℕ) (owner : Owner) (now : ℕ) → CoilCall
  Disable : (coil : CoilId) (now : ℕ) → CoilCall
  Release : (owner : Owner) (now : ℕ) → CoilCall

abbrev pub moment_of : CoilCall → ℕ
moment_of (Pulse coil ms power now) = now
moment_of (Enable coil power owner now) = now
moment_of (Disable coil now) = now
moment_of (Release owner now) = now

abbrev pub after_call : CoilCall → List CoilState → List CoilState
after_call (Pulse coil ms power now) s = after_pulse coil ms power now s
after_call (Enable coil power owner now) s = after_enable coil power owner now s
after_call (Disable coil now) s = after_disable coil now s
after_call (Release owner now) s = after_release owner now s

-- ---- what a call sends, by its answer

abbrev pub sent_as : Answer → Option Owner → ℕ → List Sending
sent_as (Sent command) owner now = record { at = now; command = command; owner = owner } ∷ []
sent_as Skipped owner now = []

abbrev pub released_as : Option Command → ℕ → List Sending
released_as None now = []
released_as (Some command) now = record { at = now; command = command; owner = None } ∷ []

-- one sending, or none
abbrev pub sent_by : CoilCall → List CoilState → List Sending
sent_by (Pulse coil ms power now) s = sent_as (answer_pulse coil ms power now s) None now
sent_by (Enable coil power owner now) s = sent_as (answer_enable coil power owner now s) (Some owner) now
sent_by (Disable coil now) s = sent_as (answer_disable coil now s) None now
sent_by (Release owner now) s = released_as (answer_release owner now s) now

-- ---- calls, one after the other

abbrev pub after_calls : List CoilCall → List CoilState → List CoilState
after_calls [] s = s
after_calls (call ∷ calls) s = after_calls calls (after_call call s)

abbrev pub sent_by_calls : List CoilCall → List CoilState → List Sending
sent_by_calls [] s = []
sent_by_calls (call ∷ calls) s = sent_by call s ++ sent_by_calls calls (after_call call s)

-- the moment of the last call, or without one this moment
abbrev pub last_moment : ℕ → List CoilCall → ℕ
last_moment moment [] = moment
last_moment moment (call ∷ calls) = last_moment (moment_of call) calls

-- The moments of the calls do not go back, from this one on.
abbrev pub AreInOrder : ℕ → List CoilCall → Type 0
AreInOrder moment [] = Unit {0}
AreInOrder moment (call ∷ calls) = (moment ≤ moment_of call) × AreInOrder (moment_of call) calls

-- ---- what a call sends, by the limits and by what was sent before

abbrev pub pulse_sent : CoilId → ℕ → ℕ → ℕ → Sending
pulse_sent coil ms power now = record { at = now; command = commands.Pulse coil ms power; owner = None }

abbrev pub enable_sent : CoilId → ℕ → Owner → ℕ → Sending
enable_sent coil power owner now = record { at = now; command = commands.Enable coil power; owner = Some owner }

abbrev pub disable_sent : CoilId → ℕ → Sending
disable_sent coil now = record { at = now; command = commands.Disable coil; owner = None }

abbrev pub sent_if : Bool → Sending → List Sending
sent_if taken s = if taken then s ∷ [] else []

abbrev pub disables_sent : Option CoilId → ℕ → List Sending
disables_sent None now = []
disables_sent (Some coil) now = disable_sent coil now ∷ []

-- whether a pulse is to be sent: the coil is neither held nor resting, and the pulse is within the limits
abbrev pub is_pulse_due : List CoilLimits → List Sending → CoilId → ℕ → ℕ → ℕ → Bool
is_pulse_due limits sent_commands coil ms power now =
    not (is_held sent_commands coil) && (not (is_resting sent_commands coil now)
    && is_pulse_within (limits_at limits coil) ms power)

-- whether an enable is to be sent: the coil is not held, and may be held with this power
abbrev pub is_enable_due : List CoilLimits → List Sending → CoilId → ℕ → Bool
is_enable_due limits sent_commands coil power =
    not (is_held sent_commands coil) && is_hold_within (limits_at limits coil) power

-- A disable is to be sent if the coil is on, and a release to the lowest coil that is held for the owner.
abbrev pub due_by : List CoilLimits → List Sending → CoilCall → List Sending
due_by limits sent_commands (Pulse coil ms power now) =
    sent_if (is_pulse_due limits sent_commands coil ms power now) (pulse_sent coil ms power now)
due_by limits sent_commands (Enable coil power owner now) =
    sent_if (is_enable_due limits sent_commands coil power) (enable_sent coil power owner now)
due_by limits sent_commands (Disable coil now) = sent_if (is_on sent_commands coil now) (disable_sent coil now)
due_by limits sent_commands (Release owner now) =
    disables_sent (lowest (λ coil. is_held_for sent_commands owner coil) (length limits)) now
