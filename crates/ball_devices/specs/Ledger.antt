-- The ledger of balls: where each known ball is, and what each booking does.
use Rattle.std.specs.Prelude.{◌≡◌, ℕ, ◌+◌, ◌-◌, ◌≤◌, ◌^◌, nat_lt, if◌then◌else◌, List, length, replicate}
use Rattle.std.specs.{Prelude.{slice_index_or, slice_set}, List.sum_by}
use Rattle.plan_tables.specs.declared.devices.{RowId.RowId, BallTarget.{BallTarget, TheVariants.{Playfield, Device}}}
use Rattle.plan_tables.specs.PlanView.{PlanView}
use Rattle.ball_devices.specs.declared.booking.Origin.{Origin, TheVariants.{Awaited, Found, New}}

-- how many balls are known; how many of them lie in the device of each row, are on their way to it, are on their way to
-- the playfield, and are on the playfield
pub record Ledger : Type 0 where
  pub known : ℕ
  pub counted : List ℕ
  pub to_devices : List ℕ
  pub to_playfield : ℕ
  pub playfield : ℕ

-- a ledger with these numbers
abbrev pub ledger_of : ℕ → List ℕ → List ℕ → ℕ → ℕ → Ledger
ledger_of known counted to_devices to_playfield playfield = record {
  known = known;
  counted = counted;
  to_devices = to_devices;
  to_playfield = to_playfield;
  playfield = playfield;
}

-- at first no ball is known
abbrev pub no_balls : PlanView → Ledger
no_balls plan = record {
  known = 0;
  counted = replicate (length plan.rows) 0;
  to_devices = replicate (length plan.rows) 0;
  to_playfield = 0;
  playfield = 0;
}

-- how many balls lie in a device
abbrev pub counted_in : Ledger → RowId → ℕ
counted_in l d = slice_index_or l.counted d.0 0

-- how many are on their way to a target
abbrev pub transit_to : Ledger → BallTarget → ℕ
transit_to l Playfield = l.to_playfield
transit_to l (Device d) = slice_index_or l.to_devices d.0 0

abbrev pub total : List ℕ → ℕ
total numbers = sum_by (λ n. n) numbers

-- how many lie in devices, and how many are on their way, in all
abbrev pub all_counted : Ledger → ℕ
all_counted l = total l.counted

abbrev pub all_in_transit : Ledger → ℕ
all_in_transit l = total l.to_devices + l.to_playfield

-- ---- one change each

abbrev pub set_counted : RowId → ℕ → Ledger → Ledger
set_counted d n l = record l { counted = slice_set l.counted d.0 n }

abbrev pub set_transit : BallTarget → ℕ → Ledger → Ledger
set_transit Playfield n l = record l { to_playfield = n }
set_transit (Device d) n l = record l { to_devices = slice_set l.to_devices d.0 n }

-- ---- bookings

-- Where a ball that enters a device comes from: one on its way to it, else one on the playfield, else a new one.
abbrev pub origin_of : RowId → Ledger → Origin
origin_of d l = if nat_lt 0 (transit_to l (Device d)) then Awaited else (if nat_lt 0 l.playfield then Found else New)

-- The ball is taken from where it was; a new one becomes known.
abbrev pub take_ball : RowId → Origin → Ledger → Ledger
take_ball d Awaited l = set_transit (Device d) (transit_to l (Device d) - 1) l
take_ball d Found l = record l { playfield = l.playfield - 1 }
take_ball d New l = record l { known = l.known + 1 }

-- a ball enters a device
abbrev pub after_entry : RowId → Ledger → Ledger
after_entry d l = set_counted d (counted_in l d + 1) (take_ball d (origin_of d l) l)

-- a ball leaves a device for a target
abbrev pub left : RowId → BallTarget → Ledger → Ledger
left d target l = set_transit target (transit_to l target + 1) (set_counted d (counted_in l d - 1) l)

-- a ball leaves a device unasked
abbrev pub lost : RowId → Ledger → Ledger
lost d l = set_counted d (counted_in l d - 1) (record l { playfield = l.playfield + 1 })

-- a ball on its way to a target is on the playfield
abbrev pub arrived : BallTarget → Ledger → Ledger
arrived target l = set_transit target (transit_to l target - 1) (record l { playfield = l.playfield + 1 })

-- ---- what holds of every ledger

-- Each known ball is in a device, on its way, or on the playfield.
abbrev pub IsBalanced : Ledger → Type 0
IsBalanced l = l.known ≡ all_counted l + all_in_transit l + l.playfield

pub record IsLedger (l : Ledger) : Type 0 where
  pub balance : IsBalanced l
  pub few : l.known ≤ 2 ^ 32
  pub rows : length l.to_devices ≡ length l.counted
