-- Ball saves that are active, and multiballs that are running: what the machine's work does with those that are not.
use Rattle.std.proofs.{Common.{rules, ◌≡◌, ℕ, Bool, true, false}, lemmas.List.set-get_or}
use Rattle.plan_tables.specs.PlanView.{PlanView, is_multiball, row_at}
use Rattle.plan_tables.specs.declared.devices.{RowId.RowId, Settings.Settings}
use Rattle.plan_tables.specs.declared.devices.Act.TheVariants as acts
use Rattle.device_objects.specs.declared.device.Call.TheVariants as calls
use Rattle.device_objects.specs.declared.state.{DeviceState.DeviceState, World.World}
use Rattle.device_objects.specs.declared.state.DeviceState.TheVariants as states
use Rattle.device_objects.specs.{DeviceStep.{device_step, IsInactive}, Laws.HasShape}
use Rattle.written_machine.specs.Machine.{Machine, device_at, call_device, is_active_save}

-- whether it is an active ball save, or a running multiball
abbrev pub is_on : DeviceState → Bool
is_on (states.BallSave s) = s.active
is_on (states.Multiball s) = s.running
is_on _ = false

pub active-on : (state : DeviceState) → is_active_save state ≡ true → is_on state ≡ true
active-on state is = search rules

inactive-off : (state : DeviceState) → IsInactive state → is_on state ≡ false
inactive-off state h = search rules

stopped-inactive : (settings : Settings) (now : ℕ) (world : World) (state : DeviceState) → HasShape settings state
    → IsInactive (device_step settings calls.ModeStop now world state).0
stopped-inactive settings now world state shape = search rules

pub stopped-off : (settings : Settings) (now : ℕ) (world : World) (state : DeviceState) → HasShape settings state
    → is_on (device_step settings calls.ModeStop now world state).0 ≡ false
stopped-off settings now world state shape =
    inactive-off (device_step settings calls.ModeStop now world state).0
    (stopped-inactive settings now world state shape)

-- ---- a multiball that is not running does not end

-- so nothing happens when it is told to
pub end-still : (plan : PlanView) (r : RowId) (s : Machine) → is_multiball (row_at plan r).settings ≡ true
    → is_on (device_at s r) ≡ false
    → call_device plan (calls.Act acts.End) r s ≡ s
end-still plan r s is off = search (rules, set-get_or)
