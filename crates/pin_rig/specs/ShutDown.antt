-- Which coils are turned off when a rig ends.
use Rattle.std.specs.Prelude.{◌||◌, Bool, List, filter}
use Rattle.plan_tables.specs.{PlanView.coil_numbers, declared.entries.CoilId.CoilId}
use Rattle.coil_guard.specs.{CoilStep.is_on_at, Coils.coil_at}
use Rattle.coil_driver.specs.ShutDown.{is_faulted}
use Rattle.pin_rig.specs.Rig.{RigView}

-- A coil is to be turned off if it is on at the moment of the latest stimulus, by the commands that the board has
-- taken, or if the board has not taken its last command.
abbrev pub is_to_put_off : RigView → CoilId → Bool
is_to_put_off rig coil = is_on_at rig.machine.moment (coil_at rig.sent coil) || is_faulted rig.faulted_coil coil

-- these coils, in the order of their numbers
abbrev pub coils_to_put_off : RigView → List CoilId
coils_to_put_off rig = filter (is_to_put_off rig) (coil_numbers rig.checked.plan)
