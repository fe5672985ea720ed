-- The kinds of devices.
use Rattle.plan_tables.specs.declared.devices.Settings.{Settings}
use Rattle.plan_tables.specs.declared.devices.Settings.TheVariants as kinds
use Rattle.device_objects.specs.{declared.state.DeviceState.DeviceState, Sequence.sequences, Autofire.autofires}
use Rattle.device_objects.specs.declared.state.DeviceState.TheVariants as states
use Rattle.device_objects.specs.{KindModel.{Kind, Moments, never}, Counter.counters, Flipper.flippers}
use Rattle.device_objects.specs.{Accrual.accruals, Bank.banks, Multiball.multiballs}
use Rattle.device_objects.specs.Timer as timer
use Rattle.device_objects.specs.BallDevice as balls
use Rattle.device_objects.specs.BallSave as save

-- the kind of a device
abbrev pub kind_of : Settings → Kind DeviceState
kind_of (kinds.Counter c) = counters c
kind_of (kinds.Accrual a) = accruals a
kind_of (kinds.Sequence q) = sequences q
kind_of (kinds.Timer t) = timer.timers t
kind_of (kinds.Bank b) = banks b
kind_of kinds.Flipper = flippers
kind_of kinds.Autofire = autofires
kind_of (kinds.BallDevice d) = balls.ball_devices d
kind_of (kinds.BallSave b) = save.ball_saves b
kind_of (kinds.Multiball m) = multiballs

-- when a device in this state is due; nothing of other kinds ever is
abbrev pub moments_of : DeviceState → Moments
moments_of (states.Timer s) = timer.moments s
moments_of (states.BallDevice s) = balls.moments s
moments_of (states.BallSave s) = save.moments s
moments_of _ = never
