-- What stays as it is while actions run, whether they tell another device or nobody.
use Rattle.std.specs.Prelude.{◌≡◌, length}
use Rattle.plan_tables.specs.{PlanView.PlanView, declared.devices.Telling.Telling}
use Rattle.written_machine.specs.{Devices.HasDevices, Machine.Machine, Moves.Grows}

-- The second machine has grown from the first. Its modes and its moment are the same, and its devices can be called and
-- its coils asked as before.
pub record Goes (plan : PlanView) (s t : Machine) : Type 0 where
  pub grows : Grows s t
  pub modes : t.modes ≡ s.modes
  pub moment : t.moment ≡ s.moment
  pub coils : length t.coils ≡ length s.coils
  pub devices : HasDevices plan s.devices → HasDevices plan t.devices

-- how another device is told
abbrev pub Tell : Type 0
Tell = PlanView → Telling → Machine → Machine

-- in every state
abbrev pub AlwaysGoes : Tell → Type 0
AlwaysGoes tell = (plan : PlanView) (telling : Telling) (s : Machine) → Goes plan s (tell plan telling s)
