-- Which alarm comes next, computed.
use Rattle.std.specs.Prelude.{ℕ, ◌+◌, ◌-◌, ◌*◌, nat_le, Bool, false, Option, None, Some, if◌then◌else◌, option_map}
use Rattle.std.specs.{Prelude.{length, map}, Option.option_map_or}
use Rattle.plan_tables.specs.PlanView.{PlanView}
use Rattle.switch_core.specs.Switches.{next_due}
use Rattle.device_objects.specs.DeviceStep as devices
use Rattle.event_queue.specs.Alarms.{least_of}
use Rattle.written_machine.specs.{Machine.Machine, Run.{Source, switch, device}}

-- the next alarm of a switch, and of a device: its moment, and its source
abbrev pub next_of_switches : Machine → Option (ℕ × Source)
next_of_switches s = option_map (λ d. (d.0, switch d.1)) (next_due s.switches)

abbrev pub next_of_devices : Machine → Option (ℕ × Source)
next_of_devices s = option_map (λ d. (d.0, device d.1)) (least_of (map devices.due_of s.devices))

-- of an alarm of a switch and one of a device the one that comes first: the switch's, if they are due at one moment
abbrev pub first_of : Option (ℕ × Source) → Option (ℕ × Source) → Option (ℕ × Source)
first_of None b = b
first_of (Some a) None = Some a
first_of (Some a) (Some b) = if nat_le a.0 b.0 then Some a else Some b

-- the alarm of the least moment, and of those the first source's, with its moment
abbrev pub next_alarm : Machine → Option (ℕ × Source)
next_alarm s = first_of (next_of_switches s) (next_of_devices s)

-- whether an alarm is due at or before the moment
abbrev pub is_due_by : ℕ → Machine → Bool
is_due_by at s = option_map_or (λ a. nat_le a.0 at) (next_alarm s) false

-- how many sources of alarms a plan has
abbrev pub source_count : PlanView → ℕ
source_count plan = length plan.switches + length plan.rows

-- how many parts they have at most: no source has more than 17
abbrev pub part_count : PlanView → ℕ
part_count plan = 17 * source_count plan

-- No more alarms can come up to the moment: what comes at a moment arms nothing for that moment, so that each part of a
-- source comes at most once at each.
abbrev pub most_alarms : PlanView → ℕ → Machine → ℕ
most_alarms plan until s = (until + 1 - s.moment) * (part_count plan + 1)
