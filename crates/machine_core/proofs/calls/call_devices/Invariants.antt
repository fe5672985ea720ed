use Rattle.std.proofs.Common.{◌≡◌, drop}
use Rattle.plan_tables.specs.PlanView.{rows_of}
use Rattle.plan_tables.specs.declared.entries.Owner.TheVariants as owners
use Rattle.written_machine.specs.Machine.{all_do, call_device, call_devices}
use Rattle.machine_core.specs.Core.{CanCall, after}
use Rattle.machine_core.proofs.calls.call_devices.Given as goal

-- the calls that are left, made now, are all, made at the start
abbrev pub invariant-loop-row : goal.invariant-loop-row
invariant-loop-row g l =
    (after (all_do (call_device l.core.plan l.call) (drop l.row-index (rows_of l.fn.core.plan (owners.Mode l.fn.mode))))
    l.core ≡ after (call_devices l.fn.core.plan l.call l.fn.mode) l.fn.core)
    × CanCall l.core
