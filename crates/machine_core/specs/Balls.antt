-- What the ledger of balls is told, what another device may be told, and what is done when a ball drains.
use Rattle.std.specs.Prelude.{ℕ, ◌<◌}
use Rattle.plan_tables.specs.{PlanView.PlanView, Valid.IsTargetThere}
use Rattle.plan_tables.specs.declared.devices.Telling.{Telling, TheVariants.{Arrived, Wanted}}
use Rattle.ball_devices.specs.Bookings.{LedgerCall, Enter, Leave, Lose, Arrive}
use Rattle.written_machine.specs.Machine.{Machine, drain_ball, first_active_save}
use Rattle.machine_core.specs.declared.balls.BallCall.{BallCall}
use Rattle.machine_core.specs.declared.balls.BallCall.TheVariants as told

-- what the ledger is told
abbrev pub ledger_call : BallCall → LedgerCall
ledger_call (told.Enter r) = Enter r
ledger_call (told.Leave r target) = Leave r target
ledger_call (told.Lose r) = Lose r
ledger_call (told.Arrive target) = Arrive target

-- its device and its target are among so many rows
abbrev pub IsThere : ℕ → LedgerCall → Type 0
IsThere rows (Enter r) = r.0 < rows
IsThere rows (Leave r target) = (r.0 < rows) × IsTargetThere rows target
IsThere rows (Lose r) = r.0 < rows
IsThere rows (Arrive target) = IsTargetThere rows target

-- what is told is of a target among so many rows, if it is of one
abbrev pub IsTellingThere : ℕ → Telling → Type 0
IsTellingThere rows (Arrived target) = IsTargetThere rows target
IsTellingThere rows (Wanted n) = Unit {0}

-- a ball has drained: the first ball save that is active saves it, if there is one
abbrev pub drain_now : PlanView → Machine → Machine
drain_now plan s = drain_ball plan (first_active_save plan s) s
