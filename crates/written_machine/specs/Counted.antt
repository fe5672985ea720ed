-- What a trace says of balls: what the ledger has booked, and which ball switches count as holding one.
use Rattle.std.specs.Prelude.{◌≡◌, ℕ, ◌+◌, ◌==◌, Bool, false, if◌then◌else◌, nat_le, nat_lt, Option, None, Some, List}
use Rattle.std.specs.{Prelude.{[], ◌∷◌, ◌++◌, length, filter}, List.{flat_map, list_all, list_any, last_or}}
use Rattle.plan_tables.specs.PlanView.{PlanView, listeners_of, switch_at}
use Rattle.plan_tables.specs.declared.{devices.{BallSettings.BallSettings, RowId.RowId}, entries.SwitchId.SwitchId}
use Rattle.cascade_rank.specs.Cost.{switches_of}
use Rattle.ball_devices.specs.declared.booking.{Booking.{Booking, TheVariants.Entered}, Origin.Origin}
use Rattle.ball_devices.specs.{Ledger.Ledger, Bookings.{HasBooked, origin_after}}
use Rattle.device_objects.specs.BallDevice.{delay}
use Rattle.written_machine.specs.declared.line.{BallCounts.BallCounts, Line.Line, Happening.Happening}
use Rattle.written_machine.specs.declared.line.Happening.TheVariants as lines
use Rattle.written_machine.specs.{Machine.counts_of, SwitchLines.{LevelChange, changes_of}}

-- ---- bookings

abbrev pub booked_at : Happening → List Booking
booked_at (lines.Balls booking counts) = booking ∷ []
booked_at _ = []

-- all that the ledger has booked, in order
abbrev pub bookings : List Line → List Booking
bookings trace = flat_map (λ l. booked_at l.happening) trace

-- Wherever a ball has entered a device in a trace, it came from where the bookings before it say.
abbrev pub AreOriginsRight : List Line → Type 0
AreOriginsRight trace =
    (before : List Line) (line : Line) (after : List Line) (r : RowId) (origin : Origin) (counts : BallCounts)
    → trace ≡ before ++ line ∷ after → line.happening ≡ lines.Balls (Entered r origin) counts
    → origin ≡ origin_after (bookings before) r

-- a ledger of the plan that has booked just this
pub record IsLedgerOf (plan : PlanView) (bs : List Booking) (l : Ledger) : Type 0 where
  pub rows : length l.counted ≡ length plan.rows
  pub targets : length l.to_devices ≡ length plan.rows
  pub history : HasBooked bs l

-- Wherever a line tells of a booking, its counts are those of a ledger that has booked just what the trace has up to
-- it, this booking with it.
abbrev pub AreCountsRight : PlanView → List Line → Type 0
AreCountsRight plan trace =
    (before : List Line) (line : Line) (after : List Line) (booking : Booking) (counts : BallCounts)
    → trace ≡ before ++ line ∷ after → line.happening ≡ lines.Balls booking counts
    → (l : Ledger) × IsLedgerOf plan (bookings before ++ booking ∷ []) l × (counts ≡ counts_of l)

-- ---- ball switches

-- when a change of a ball switch counts, if the switch stays as it is
abbrev pub counts_from : BallSettings → LevelChange → ℕ
counts_from d c = c.at + delay d c.active

-- whether a later change comes too late to undo one that counts from this moment on: at that very moment a quick switch
-- is late, since devices come before changes, and another is in time, since its own alarm comes before those of devices
abbrev pub is_late : Bool → ℕ → LevelChange → Bool
is_late quick moment later = if quick then nat_le moment later.at else nat_lt moment later.at

-- of changes in their order those that no later one undoes before they count
abbrev pub not_undone : BallSettings → Bool → List LevelChange → List LevelChange
not_undone d quick [] = []
not_undone d quick (c ∷ later) = if list_all (is_late quick (counts_from d c)) later then c
    ∷ not_undone d quick later else not_undone d quick later

abbrev pub level_after : Option LevelChange → Bool
level_after None = false
level_after (Some c) = c.active

-- Whether a ball counts at a ball switch at a moment: what the last of its changes says that are not undone and count
-- by then. If there is none, no ball counts.
abbrev pub counted_level : BallSettings → Bool → ℕ → List LevelChange → Bool
counted_level d quick moment changes =
    level_after (last_or None (filter (λ c. nat_le (counts_from d c) moment) (not_undone d quick changes)))

-- the ball switches of a device
abbrev pub ball_switches : PlanView → RowId → List SwitchId
ball_switches plan r = filter (λ n. list_any (λ l. l.row.0 == r.0) (listeners_of plan n)) (switches_of plan)

-- whether a ball counts at one of them
abbrev pub is_counted : PlanView → BallSettings → ℕ → List Line → SwitchId → Bool
is_counted plan d moment trace n = counted_level d (switch_at plan n).kind.quick moment (changes_of n trace)
