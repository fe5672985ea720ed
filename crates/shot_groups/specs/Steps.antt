-- What the kinds of banks prove: each call of a device with these settings is a step of its slots.
use Rattle.std.{specs.Prelude.◌≡◌, proofs.Common.{refl, subst, sym}}
use Rattle.plan_tables.specs.declared.devices.{BankSettings.BankSettings, Settings.Settings}
use Rattle.plan_tables.specs.declared.devices.Settings.TheVariants as kinds
use Rattle.device_objects.specs.declared.state.DeviceState.TheVariants as states
use Rattle.device_objects.specs.Bank.{slots}
use Rattle.slotted_devices.specs.Slotted.{StepsAreOfSlots}

pub bank_steps : (s : Settings) (b : BankSettings) → s ≡ kinds.Bank b → StepsAreOfSlots s states.Bank (slots b)
bank_steps s b is =
    subst (λ t. StepsAreOfSlots t states.Bank (slots b)) (sym is)
    (record { first = refl; never_due = λ slots. refl; step = λ call now world slots. refl })
