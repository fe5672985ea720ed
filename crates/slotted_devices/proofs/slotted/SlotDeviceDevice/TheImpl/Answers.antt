use Rattle.std.proofs.Common.{rules, map}
use Rattle.device_objects.specs.declared.device.Call.TheVariants as calls
use Rattle.slotted_devices.proofs.slotted.SlotDeviceDevice.TheImpl.Goals as goal

pub fire-tells : goal.fire-tells
fire-tells g x c =
    let step = (g.met.K.SlotKind.steps c.args.self.now.kind).step calls.Fire c.args.now c.args.world
    (map g.K.SlotKind.slot_view c.args.self.now.slots) in
    search rules
