-- A row of a plan has few effect lists.
use Rattle.std.proofs.Common.{rules, ◌≤◌}
use Rattle.plan_tables.specs.{declared.devices.Settings.Settings, Devices.{IsWithinLimits, list_count}}

pub few_lists : (s : Settings) → IsWithinLimits s → list_count s ≤ 288
few_lists s limits = search rules
