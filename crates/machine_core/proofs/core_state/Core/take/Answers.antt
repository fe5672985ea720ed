use Rattle.std.proofs.Common.{refl}
use Rattle.machine_core.proofs.Room.{taken-is}
use Rattle.machine_core.proofs.core_state.Core.take.Goals as goal

pub returns : goal.returns
returns g c = rw (← c.self.view_is) (taken-is c.take.result c.self.inside.queue c.take.new.self _ _ c.take.ensures refl
    refl refl)
