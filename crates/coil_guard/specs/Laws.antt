-- What holds after every list of calls from `new` on whose moments do not go back.
use Rattle.std.specs.Prelude.{◌≡◌, ℕ, ◌≤◌, false, List, length, All}
use Rattle.plan_tables.specs.declared.entries.{Owner.Owner, CoilId.CoilId, CoilLimits.CoilLimits}
use Rattle.coil_guard.specs.{declared.state.CoilState.CoilState, CoilStep.{is_on_at, is_held_by}}
use Rattle.coil_guard.specs.{Limits.{limits_at, IsWithin}, Lowest.IsLowest, Calls.due_by}
use Rattle.coil_guard.specs.Coils.{coil_at, all_off, next_held, next_on}
use Rattle.coil_guard.specs.SentCommands.{Sending, is_on, is_held_for, IsOnThroughout}
use Rattle.coil_guard.specs.Calls.{CoilCall, moment_of, sent_by, after_calls, sent_by_calls, last_moment, AreInOrder}

-- what calls on a new guard send, and what they lead to
abbrev pub sent_from_new : List CoilLimits → List CoilCall → List Sending
sent_from_new limits calls = sent_by_calls calls (all_off limits)

abbrev pub state_from_new : List CoilLimits → List CoilCall → List CoilState
state_from_new limits calls = after_calls calls (all_off limits)

-- Each command that is sent is within the limits of its coil.
abbrev pub CommandsAreWithinLimits : Type 0
CommandsAreWithinLimits =
    (limits : List CoilLimits) (calls : List CoilCall) → AreInOrder 0 calls
    → All (λ s. IsWithin limits s.command) (sent_from_new limits calls)

-- A coil that may not be held is on at no more moments in a row than its greatest pulse has milliseconds.
abbrev pub StretchesAreWithinLimits : Type 0
StretchesAreWithinLimits =
    (limits : List CoilLimits) (calls : List CoilCall) → AreInOrder 0 calls
    → (coil : CoilId) → (limits_at limits coil).may_hold ≡ false
    → (first count : ℕ) → IsOnThroughout (sent_from_new limits calls) coil first count
    → count ≤ (limits_at limits coil).max_pulse_ms

-- What the next call sends follows from the limits and from the commands that were sent before it.
abbrev pub AnswersAreByCommands : Type 0
AnswersAreByCommands =
    (limits : List CoilLimits) (calls : List CoilCall) (call : CoilCall) → AreInOrder 0 calls
    → last_moment 0 calls ≤ moment_of call
    → sent_by call (state_from_new limits calls) ≡ due_by limits (sent_from_new limits calls) call

-- From the last call on, the state says of each coil whether it is on, as the commands do.
abbrev pub StatesSayWhatIsOn : Type 0
StatesSayWhatIsOn =
    (limits : List CoilLimits) (calls : List CoilCall) → AreInOrder 0 calls → (coil : CoilId)
    → (moment : ℕ) → last_moment 0 calls ≤ moment
    → is_on_at moment (coil_at (state_from_new limits calls) coil) ≡ is_on (sent_from_new limits calls) coil moment

-- The state says of each coil for whom it is held, as the commands do.
abbrev pub StatesSayWhoHolds : Type 0
StatesSayWhoHolds =
    (limits : List CoilLimits) (calls : List CoilCall) → AreInOrder 0 calls → (coil : CoilId) (owner : Owner)
    → is_held_by owner (coil_at (state_from_new limits calls) coil)
    ≡ is_held_for (sent_from_new limits calls) owner coil

-- From the last call on, `next_on` gives the lowest coil that is on.
abbrev pub LowestIsOn : Type 0
LowestIsOn =
    (limits : List CoilLimits) (calls : List CoilCall) → AreInOrder 0 calls → (now : ℕ) → last_moment 0 calls ≤ now
    → IsLowest (λ coil. is_on (sent_from_new limits calls) coil now) (length limits)
    (next_on now (state_from_new limits calls))

-- `release` turns off the lowest coil that is held for the owner.
abbrev pub LowestIsReleased : Type 0
LowestIsReleased =
    (limits : List CoilLimits) (calls : List CoilCall) → AreInOrder 0 calls → (owner : Owner)
    → IsLowest (λ coil. is_held_for (sent_from_new limits calls) owner coil) (length limits)
    (next_held owner (state_from_new limits calls))
