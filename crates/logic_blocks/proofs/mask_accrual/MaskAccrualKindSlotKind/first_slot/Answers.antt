use Rattle.std.proofs.Common.{Bool, List, ap}
use Rattle.device_objects.{specs.declared.state.AccrualSlot.AccrualSlot, proofs.FlagLemmas.flags-none}
use Rattle.logic_blocks.proofs.mask_accrual.MaskAccrualKindSlotKind.first_slot.Goals as goal

pub returns : goal.returns
returns c =
    let with_marks : List Bool → AccrualSlot =
    (λ marks. record { game = c.args.game; enabled = c.args.self.now.settings.block.enabled; done = marks }) in
    ap with_marks flags-none
