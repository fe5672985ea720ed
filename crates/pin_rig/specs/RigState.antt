-- What a rig holds.
use Rattle.std.specs.Prelude.{◌≡◌, ℕ, ◌<◌, ◌≤◌, ◌^◌, None, List, length}
use Rattle.written_machine.specs.{Accepted.IsAccepted, CheckedView.CheckedView, Run.IsReached, declared.line.Line.Line}
use Rattle.coil_driver.specs.Driver.{DriverView}
use Rattle.machine_core.specs.Core.{CoreView, IsWhole}

-- What was accepted is kept, and its machine, with room for the bound, in a state to which a run leads. So many of its
-- lines are shown. As long as the board takes all commands, those are all, and the guard of what was sent is the
-- machine's.
pub record IsHeld (checked : CheckedView) (core : CoreView) (driver : DriverView) (visible_count : ℕ) : Type 0 where
  pub acceptance : IsAccepted checked
  pub plan_is : core.plan ≡ checked.plan
  pub core_is : IsWhole core
  pub early : core.machine.moment < 2 ^ 40
  pub room : checked.bound ≤ core.room
  pub reach : (trace : List Line) × IsReached checked.plan trace core.machine
  pub coils : length driver.guard ≡ length checked.plan.coils
  pub shown_within : visible_count ≤ length core.machine.lines
  pub all_shown : driver.faulted_coil ≡ None → visible_count ≡ length core.machine.lines
  pub all_sent : driver.faulted_coil ≡ None → driver.guard ≡ core.machine.coils
