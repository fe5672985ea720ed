use Rattle.std.proofs.Common.{map, sym}
use Rattle.slotted_devices.proofs.slotted.SlotDeviceDevice.due.Goals as goal

pub returns : goal.returns
returns g c = sym ((g.met.K.SlotKind.steps c.args.self.now.kind).never_due
    (map g.K.SlotKind.slot_view c.args.self.now.slots))
