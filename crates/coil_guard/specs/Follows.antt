-- The state of a guard follows from the commands that it has sent. Code that calls a guard can carry this from call to
-- call. It then has the laws without a list of calls.
use Rattle.std.specs.Prelude.{◌≡◌, ℕ, ◌+◌, ◌<◌, ◌≤◌, true, false, is_some, List, [], ◌++◌, length, nat_lt, All}
use Rattle.plan_tables.specs.declared.entries.{Owner.Owner, CoilId.CoilId, CoilLimits.CoilLimits}
use Rattle.coil_guard.specs.{declared.state.CoilState.CoilState, Owners.is_holder, CoilStep.is_on_at}
use Rattle.coil_guard.specs.{Limits.{limits_at, IsWithin}, Coils.{coil_at, all_off}}
use Rattle.coil_guard.specs.SentCommands.{Sending, is_on, is_held, is_held_for, is_resting, IsOnThroughout}
use Rattle.coil_guard.specs.Calls.{CoilCall, moment_of, after_call, sent_by, due_by}

-- what is known of a coil that may not be held: it is off at the moment before it is ready and from then on, and is
-- never on for longer than its greatest pulse
pub record IsApart (coil : CoilId) (limits : CoilLimits) (sent_commands : List Sending) (ready : ℕ) : Type 0 where
  pub before : (t : ℕ) → is_on sent_commands coil t ≡ true → t + 1 < ready
  pub runs : (first count : ℕ) → IsOnThroughout sent_commands coil first count → count ≤ limits.max_pulse_ms

-- From a moment on, the state of a coil says what the sent commands say of it.
pub record IsFollowed (coil : CoilId) (limits : CoilLimits) (sent_commands : List Sending) (c : CoilState) (at : ℕ) :
    Type 0 where
  pub limits_are : c.limits ≡ limits
  pub on : (later : ℕ) → at ≤ later → is_on sent_commands coil later ≡ is_on_at later c
  pub holding : is_held sent_commands coil ≡ is_some c.holder
  pub held_for : (owner : Owner) → is_held_for sent_commands owner coil ≡ is_holder owner c.holder
  pub resting : (t : ℕ) → is_resting sent_commands coil t ≡ nat_lt t c.ready
  pub ends : c.pulse_end ≤ c.ready
  pub apart : limits.may_hold ≡ false → IsApart coil limits sent_commands c.ready

-- The sent commands are within the limits, and the state of each coil says what they say of it.
pub record Follows (limits : List CoilLimits) (sent_commands : List Sending) (s : List CoilState) (moment : ℕ) : Type
    0 where
  pub count : length s ≡ length limits
  pub within : All (λ q. IsWithin limits q.command) sent_commands
  pub each : (coil : CoilId) → IsFollowed coil (limits_at limits coil) sent_commands (coil_at s coil) moment

-- ---- what keeps it

-- A new guard has sent nothing.
abbrev pub NewFollows : Type 0
NewFollows = (limits : List CoilLimits) → Follows limits [] (all_off limits) 0

-- After a call, what it sends has been sent too.
abbrev pub CallsFollow : Type 0
CallsFollow =
    (limits : List CoilLimits) (sent_commands : List Sending) (s : List CoilState) (moment : ℕ) (call : CoilCall)
    → moment ≤ moment_of call → Follows limits sent_commands s moment
    → Follows limits (sent_commands ++ sent_by call s) (after_call call s) (moment_of call)

-- Time may pass.
abbrev pub LaterFollows : Type 0
LaterFollows =
    (limits : List CoilLimits) (sent_commands : List Sending) (s : List CoilState) (moment now : ℕ)
    → moment ≤ now → Follows limits sent_commands s moment → Follows limits sent_commands s now

-- What a call sends then follows from the limits and the sent commands.
abbrev pub FollowersSendWhatIsDue : Type 0
FollowersSendWhatIsDue =
    (limits : List CoilLimits) (sent_commands : List Sending) (s : List CoilState) (moment : ℕ) (call : CoilCall)
    → moment ≤ moment_of call → Follows limits sent_commands s moment
    → sent_by call s ≡ due_by limits sent_commands call
