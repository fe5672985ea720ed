-- What the ledger has booked, and what follows from that alone.
use Rattle.std.specs.Prelude.{◌≡◌, ℕ, ◌+◌, ◌==◌, ◌<◌, ◌^◌, nat_lt, Bool, true, false, ◌&&◌, cond, if◌then◌else◌, List}
use Rattle.std.specs.{Prelude.{[], ◌∷◌, length}, List.count_by}
use Rattle.plan_tables.specs.declared.devices.{RowId.RowId, BallTarget.{BallTarget, TheVariants.{Playfield, Device}}}
use Rattle.plan_tables.specs.{PlanView.is_target, Valid.IsTargetThere}
use Rattle.ball_devices.specs.declared.booking.Origin.{Origin, TheVariants.{Awaited, Found, New}}
use Rattle.ball_devices.specs.declared.booking.Booking.{Booking, TheVariants.{Entered, Left, Lost, Arrived}}
use Rattle.ball_devices.specs.Ledger.{Ledger, counted_in, transit_to, origin_of, after_entry, left, lost, arrived}

-- ---- the calls of a ledger

-- what is told to the ledger
pub data LedgerCall : Type 0 where
  Enter : (d : RowId) → LedgerCall
  Leave : (d : RowId) (target : BallTarget) → LedgerCall
  Lose : (d : RowId) → LedgerCall
  Arrive : (target : BallTarget) → LedgerCall

abbrev pub after_call : LedgerCall → Ledger → Ledger
after_call (Enter d) l = after_entry d l
after_call (Leave d target) l = left d target l
after_call (Lose d) l = lost d l
after_call (Arrive target) l = arrived target l

-- what it books then
abbrev pub booking_of : LedgerCall → Ledger → Booking
booking_of (Enter d) l = Entered d (origin_of d l)
booking_of (Leave d target) l = Left d target
booking_of (Lose d) l = Lost d
booking_of (Arrive target) l = Arrived target

-- the call may come: its device and target are there, and a ball that leaves or arrives is there to do so. A ball may
-- enter if fewer than 2^32 balls are known.
abbrev pub MayBook : LedgerCall → Ledger → Type 0
MayBook (Enter d) l = (d.0 < length l.counted) × (l.known < 2 ^ 32)
MayBook (Leave d target) l = (d.0 < length l.counted) × IsTargetThere (length l.counted) target × (0 < counted_in l d)
MayBook (Lose d) l = (d.0 < length l.counted) × (0 < counted_in l d)
MayBook (Arrive target) l = IsTargetThere (length l.counted) target × (0 < transit_to l target)

-- the same, computed
abbrev pub is_target_there : ℕ → BallTarget → Bool
is_target_there rows Playfield = true
is_target_there rows (Device d) = nat_lt d.0 rows

abbrev pub can_book : LedgerCall → Ledger → Bool
can_book (Enter d) l = nat_lt d.0 (length l.counted) && nat_lt l.known (2 ^ 32)
can_book (Leave d target) l =
    nat_lt d.0 (length l.counted) && (is_target_there (length l.counted) target && nat_lt 0 (counted_in l d))
can_book (Lose d) l = nat_lt d.0 (length l.counted) && nat_lt 0 (counted_in l d)
can_book (Arrive target) l = is_target_there (length l.counted) target && nat_lt 0 (transit_to l target)

abbrev pub after_calls : List LedgerCall → Ledger → Ledger
after_calls [] l = l
after_calls (c ∷ cs) l = after_calls cs (after_call c l)

abbrev pub booked_by : List LedgerCall → Ledger → List Booking
booked_by [] l = []
booked_by (c ∷ cs) l = booking_of c l ∷ booked_by cs (after_call c l)

-- each call may come when it does
abbrev pub MayBookAll : List LedgerCall → Ledger → Type 0
MayBookAll [] l = Unit {0}
MayBookAll (c ∷ cs) l = MayBook c l × MayBookAll cs (after_call c l)

-- ---- what follows from bookings

abbrev pub is_new : Origin → Bool
is_new Awaited = false
is_new Found = false
is_new New = true

abbrev pub is_found : Origin → Bool
is_found Awaited = false
is_found Found = true
is_found New = false

abbrev pub is_awaited : Origin → Bool
is_awaited Awaited = true
is_awaited Found = false
is_awaited New = false

-- kinds of bookings
abbrev pub is_new_entry : Booking → Bool
is_new_entry (Entered d origin) = is_new origin
is_new_entry _ = false

abbrev pub is_found_entry : Booking → Bool
is_found_entry (Entered d origin) = is_found origin
is_found_entry _ = false

abbrev pub is_entry_into : RowId → Booking → Bool
is_entry_into d (Entered e origin) = d.0 == e.0
is_entry_into d _ = false

-- a ball has left the device, ejected or not
abbrev pub is_exit_from : RowId → Booking → Bool
is_exit_from d (Left e target) = d.0 == e.0
is_exit_from d (Lost e) = d.0 == e.0
is_exit_from d _ = false

abbrev pub is_start_for : BallTarget → Booking → Bool
is_start_for target (Left d other) = is_target target other
is_start_for target _ = false

-- a ball is on its way to the target no more: it has entered it, or is on the playfield
abbrev pub is_end_for : BallTarget → Booking → Bool
is_end_for target (Entered d origin) = is_awaited origin && is_target target (Device d)
is_end_for target (Arrived other) = is_target target other
is_end_for target _ = false

-- a ball has come onto the playfield
abbrev pub is_loose : Booking → Bool
is_loose (Lost d) = true
is_loose (Arrived target) = true
is_loose _ = false

-- What the bookings make of the ledger: each number is a count of bookings, less another one where balls go away again.
pub record HasBooked (bookings : List Booking) (l : Ledger) : Type 0 where
  pub known : l.known ≡ count_by is_new_entry bookings
  pub counted : (d : RowId) → d.0 < length l.counted
      → count_by (is_entry_into d) bookings ≡ counted_in l d + count_by (is_exit_from d) bookings
  pub transit : (target : BallTarget) → IsTargetThere (length l.counted) target
      → count_by (is_start_for target) bookings ≡ transit_to l target + count_by (is_end_for target) bookings
  pub playfield : count_by is_loose bookings ≡ l.playfield + count_by is_found_entry bookings

-- the origin of a ball that enters a device after these bookings
abbrev pub origin_after : List Booking → RowId → Origin
origin_after bookings d =
    if nat_lt (count_by (is_end_for (Device d)) bookings) (count_by (is_start_for (Device d)) bookings) then Awaited
    else (if nat_lt (count_by is_found_entry bookings) (count_by is_loose bookings) then Found else New)

-- what an origin says of how many are on their way to the device, and on the playfield
abbrev pub Says : Origin → ℕ → ℕ → Type 0
Says Awaited to_devices playfield = 0 < to_devices
Says Found to_devices playfield = (to_devices ≡ 0) × (0 < playfield)
Says New to_devices playfield = (to_devices ≡ 0) × (playfield ≡ 0)

-- 1 if this holds, 0 if not
abbrev pub one : Bool → ℕ
one b = cond b 1 0
