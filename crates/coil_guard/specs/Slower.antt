-- Commands that are carried out late: no two nearer to each other than they were sent.
use Rattle.std.specs.Prelude.{◌≡◌, ◌≤◌, ◌+◌, ◌-◌, ℕ, false, List, [], ◌∷◌}
use Rattle.plan_tables.specs.declared.entries.{CoilId.CoilId, CoilLimits.CoilLimits}
use Rattle.coil_guard.specs.SentCommands.{Sending, IsOnThroughout}
use Rattle.coil_guard.specs.{Calls.{CoilCall, AreInOrder}, Limits.limits_at, Laws.sent_from_new}

-- The same command, whenever it comes.
pub record IsSameCommand (sent_commands delays : Sending) : Type 0 where
  pub command : delays.command ≡ sent_commands.command
  pub owner : delays.owner ≡ sent_commands.owner

-- All these commands are carried out, in order. Each is at least as far from the one before it as it was when they were
-- sent. The one before the first was sent at `at`, and carried out at `late`.
abbrev pub KeepTheirDistance : (at late : ℕ) → (sent_commands delays : List Sending) → Type 0
KeepTheirDistance at late [] [] = Unit {0}
KeepTheirDistance at late [] (c ∷ delays) = ⊥
KeepTheirDistance at late (s ∷ sent_commands) [] = ⊥
KeepTheirDistance at late (s ∷ sent_commands) (c ∷ delays) =
    IsSameCommand s c × (late + (s.at - at) ≤ c.at) × KeepTheirDistance s.at c.at sent_commands delays

-- The commands are carried out at any moments with distances at least those of the moments at which they were sent.
abbrev pub AreOnSlowerClock : (sent_commands delays : List Sending) → Type 0
AreOnSlowerClock [] delays = delays ≡ []
AreOnSlowerClock (s ∷ sent_commands) [] = ⊥
AreOnSlowerClock (s ∷ sent_commands) (c ∷ delays) = IsSameCommand s c × KeepTheirDistance s.at c.at sent_commands delays

-- If a board ends each pulse by itself, a coil that may not be held is on at no more moments in a row than its greatest
-- pulse has milliseconds, by the moments at which the commands are carried out too.
abbrev pub LimitsHoldOnSlowerClock : Type 0
LimitsHoldOnSlowerClock =
    (limits : List CoilLimits) (calls : List CoilCall) → AreInOrder 0 calls
    → (delays : List Sending) → AreOnSlowerClock (sent_from_new limits calls) delays
    → (coil : CoilId) → (limits_at limits coil).may_hold ≡ false
    → (first count : ℕ) → IsOnThroughout delays coil first count
    → count ≤ (limits_at limits coil).max_pulse_ms
