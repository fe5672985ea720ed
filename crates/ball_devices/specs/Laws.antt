-- What holds of a ledger after every list of calls from `new` on.
use Rattle.std.specs.Prelude.{◌≡◌, List, ◌<◌, length}
use Rattle.plan_tables.specs.{declared.devices.RowId.RowId, PlanView.PlanView}
use Rattle.ball_devices.specs.Ledger.{IsBalanced, no_balls, origin_of}
use Rattle.ball_devices.specs.Bookings.{LedgerCall, HasBooked, MayBookAll, after_calls, booked_by, origin_after}

-- Each known ball is in a device, on its way, or on the playfield.
abbrev pub BallsAreSomewhere : Type 0
BallsAreSomewhere =
    (plan : PlanView) (calls : List LedgerCall) → MayBookAll calls (no_balls plan)
    → IsBalanced (after_calls calls (no_balls plan))

-- Each number of the ledger follows from what it has booked.
abbrev pub LedgersFollowBookings : Type 0
LedgersFollowBookings =
    (plan : PlanView) (calls : List LedgerCall) → MayBookAll calls (no_balls plan)
    → HasBooked (booked_by calls (no_balls plan)) (after_calls calls (no_balls plan))

-- So does the origin of the next ball that enters a device.
abbrev pub OriginsFollowBookings : Type 0
OriginsFollowBookings =
    (plan : PlanView) (calls : List LedgerCall) (d : RowId) → MayBookAll calls (no_balls plan) → d.0 < length plan.rows
    → origin_of d (after_calls calls (no_balls plan)) ≡ origin_after (booked_by calls (no_balls plan)) d
