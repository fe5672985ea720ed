use Rattle.machine_core.proofs.Stopping.{HaveStopped}
use Rattle.machine_core.proofs.core_state.stop_all.Given as goal

-- the devices before have stopped
abbrev pub invariant-loop-device : goal.invariant-loop-device
invariant-loop-device g l = HaveStopped g.D.Device.row_of g.D.Device.state_of l.moment l.world l.fn.devices
    l.device-items l.device-index
