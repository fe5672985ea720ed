use Rattle.std.proofs.Common.{ℕ, ◌<◌, map}
use Rattle.machine_core.specs.Fit.{IsRight}
use Rattle.machine_core.proofs.fit.first_wrong.Given as goal

-- the devices before are right
abbrev pub invariant-loop-number : goal.invariant-loop-number
invariant-loop-number g l = (other : ℕ) → other < l.number
    → IsRight l.plan (map g.D.Device.row_of l.devices) (map g.D.Device.state_of l.devices) other
