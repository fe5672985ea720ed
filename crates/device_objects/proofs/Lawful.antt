-- Every kind is lawful, and so are devices.
use Rattle.std.{proofs.Common.{rules, ℕ, ◌<◌}, specs.List.All}
use Rattle.plan_tables.specs.{declared.devices.Settings.Settings, Devices.{IsWithinLimits, list_count}}
use Rattle.plan_tables.specs.declared.devices.Settings.TheVariants as kinds
use Rattle.device_objects.specs.declared.{device.Call.Call, state.{DeviceState.DeviceState, World.World}}
use Rattle.device_objects.specs.{Kinds.{kind_of, moments_of}, DeviceStep.device_step}
use Rattle.device_objects.specs.Laws.{AnswersAreOutcomes, ArmsLaterMoments, DevicesAreDueWithTheirParts, FirstPartsFire}
use Rattle.device_objects.specs.Laws.{IsLawful, NothingIsDue, OutcomesAreOfTheRow, OutcomesComeAbout}
use Rattle.device_objects.specs.Laws.{StatesKeepTheirShape, StopsAreSilent}
use Rattle.device_objects.proofs.{Counters.counters-lawful, Flippers.flippers-lawful}
use Rattle.device_objects.proofs.{Accruals.accruals-lawful, Saves.ball_saves-lawful}
use Rattle.device_objects.proofs.{Sequences.sequences-lawful, Multiballs.multiballs-lawful}
use Rattle.device_objects.proofs.{Timers.timers-lawful, Banks.banks-lawful, BallMoments.ball_moments-lawful}
use Rattle.device_objects.proofs.{Autofires.autofires-lawful, Balls.ball_devices-lawful}
use Rattle.device_objects.proofs.Parts.{IsDueWithItsParts, never-lawful, one_part-lawful}
use Rattle.device_objects.specs.declared.state.DeviceState.TheVariants as states

pub kinds_are_lawful : (settings : Settings)
    → IsLawful (kind_of settings) moments_of (IsWithinLimits settings) (list_count settings)
kinds_are_lawful (kinds.Counter c) = counters-lawful c
kinds_are_lawful (kinds.Accrual a) = accruals-lawful a
kinds_are_lawful (kinds.Sequence q) = sequences-lawful q
kinds_are_lawful (kinds.Timer t) = timers-lawful t
kinds_are_lawful (kinds.Bank b) = banks-lawful b
kinds_are_lawful kinds.Flipper = flippers-lawful
kinds_are_lawful kinds.Autofire = autofires-lawful
kinds_are_lawful (kinds.BallDevice d) = ball_devices-lawful d
kinds_are_lawful (kinds.BallSave b) = ball_saves-lawful b
kinds_are_lawful (kinds.Multiball m) = multiballs-lawful m

-- ---- what follows for devices

pub states_keep_their_shape : StatesKeepTheirShape
states_keep_their_shape = record { first = λ s. (kinds_are_lawful s).first; step = λ s. (kinds_are_lawful s).step }

pub answers_are_outcomes : AnswersAreOutcomes
answers_are_outcomes = λ s. (kinds_are_lawful s).answers

pub outcomes_come_about : OutcomesComeAbout
outcomes_come_about = λ s call within. (kinds_are_lawful s).comes within call

pub outcomes_of_row : OutcomesAreOfTheRow
outcomes_of_row = λ s. (kinds_are_lawful s).of_row

pub lists_are_of_the_row : (settings : Settings) (call : Call) (now : ℕ) (world : World) (state : DeviceState)
    → All (λ k. k < list_count settings) (device_step settings call now world state).1
lists_are_of_the_row settings = (kinds_are_lawful settings).answers_of_row

pub stops_are_silent : StopsAreSilent
stops_are_silent = λ s. (kinds_are_lawful s).silent_stop

pub arms_later_moments : ArmsLaterMoments
arms_later_moments = record {
  step = λ s call now world state within. (kinds_are_lawful s).arms within call now world state;
  fire = λ s now world state within. (kinds_are_lawful s).later_part within now world state;
}

pub first_parts_fire : FirstPartsFire
first_parts_fire = λ s. (kinds_are_lawful s).fires

pub nothing_is_due : NothingIsDue
nothing_is_due = record { first = λ s. (kinds_are_lawful s).quiet; stop = λ s. (kinds_are_lawful s).stop }

-- ---- moments

-- the device is due with its parts, whatever its state
moments_are_lawful : (state : DeviceState) → IsDueWithItsParts (moments_of state)
moments_are_lawful (states.BallDevice s) = ball_moments-lawful s
moments_are_lawful state = search (rules, one_part-lawful, never-lawful)

pub devices_are_due_with_their_parts : DevicesAreDueWithTheirParts
devices_are_due_with_their_parts = record {
  none = λ state. (moments_are_lawful state).none;
  one = λ state. (moments_are_lawful state).one;
  first = λ state. (moments_are_lawful state).first;
  few = λ s. (kinds_are_lawful s).few;
}
