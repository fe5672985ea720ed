use Rattle.std.proofs.Common.{◌≡◌}
use Rattle.plan_tables.specs.{PlanView.multiball_rows, declared.devices.Act.TheVariants.End}
use Rattle.device_objects.specs.declared.device.Call.TheVariants as calls
use Rattle.written_machine.specs.Machine.{all_do, call_device}
use Rattle.machine_core.{specs.Core.{CanCall, after}, proofs.Draining.multiballs_from}
use Rattle.machine_core.proofs.drains.end_each.Given as goal

-- the calls that are left, made now, are all, made at the start
abbrev pub invariant-loop-number : goal.invariant-loop-number
invariant-loop-number g l =
    (after (all_do (call_device l.core.plan (calls.Act End)) (multiballs_from l.fn.core.plan l.number)) l.core
    ≡ after (all_do (call_device l.fn.core.plan (calls.Act End)) (multiball_rows l.fn.core.plan)) l.fn.core)
    × CanCall l.core
