use Rattle.std.proofs.Common.{rules, get_or}
use Rattle.machine_core.proofs.Stopping.{none-stopped, one-stopped, rows-stay, states-stopped}
use Rattle.machine_core.proofs.core_state.stop_all.Goals as goal

pub loop-device-init : goal.loop-device-init
loop-device-init g c = none-stopped g.D.Device.row_of g.D.Device.state_of c.args.moment c.args.world c.args.devices.now

pub loop-device-preserved : goal.loop-device-preserved
loop-device-preserved g c = search (rules, one-stopped, get_or)

pub returns : goal.returns
returns g c =
    let devices = c.args.devices.now in
    record {
      rows = rows-stay g.D.Device.row_of g.D.Device.state_of c.args.moment c.args.world devices
          c.loop-device.device-items c.loop-device.device-index c.loop-device-test.false c.loop-device.invariant;
      states = states-stopped g.D.Device.row_of g.D.Device.state_of c.args.moment c.args.world devices
          c.loop-device.device-items c.loop-device.device-index c.loop-device-test.false c.loop-device.invariant;
    }
