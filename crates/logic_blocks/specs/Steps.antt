-- What the kinds of blocks prove: each call of a device with these settings is a step of its slots.
use Rattle.std.{specs.Prelude.◌≡◌, proofs.Common.{refl, subst, sym}}
use Rattle.machine_settings.specs.declared.settings.{CounterSettings.CounterSettings, StepSettings.StepSettings}
use Rattle.plan_tables.specs.declared.devices.Settings.{Settings}
use Rattle.plan_tables.specs.declared.devices.Settings.TheVariants as kinds
use Rattle.device_objects.specs.declared.state.DeviceState.TheVariants as states
use Rattle.slotted_devices.specs.Slotted.{StepsAreOfSlots}
use Rattle.device_objects.specs.Counter as counter
use Rattle.device_objects.specs.Accrual as accrual
use Rattle.device_objects.specs.Sequence as sequence

pub counter_steps : (s : Settings) (c : CounterSettings) → s ≡ kinds.Counter c
    → StepsAreOfSlots s states.Counter (counter.slots c)
counter_steps s c is =
    subst (λ t. StepsAreOfSlots t states.Counter (counter.slots c)) (sym is)
    (record { first = refl; never_due = λ slots. refl; step = λ call now world slots. refl })

pub accrual_steps : (s : Settings) (a : StepSettings) → s ≡ kinds.Accrual a
    → StepsAreOfSlots s states.Accrual (accrual.slots a)
accrual_steps s a is =
    subst (λ t. StepsAreOfSlots t states.Accrual (accrual.slots a)) (sym is)
    (record { first = refl; never_due = λ slots. refl; step = λ call now world slots. refl })

pub sequence_steps : (s : Settings) (q : StepSettings) → s ≡ kinds.Sequence q
    → StepsAreOfSlots s states.Sequence (sequence.slots q)
sequence_steps s q is =
    subst (λ t. StepsAreOfSlots t states.Sequence (sequence.slots q)) (sym is)
    (record { first = refl; never_due = λ slots. refl; step = λ call now world slots. refl })
