use Rattle.std.proofs.Common.{Bool, true, List, sym, ap, ◌∙◌}
use Rattle.device_objects.specs.{declared.state.AccrualSlot.AccrualSlot, Accrual.slot_step}
use Rattle.device_objects.proofs.FlagLemmas.{flags-none}
use Rattle.logic_blocks.specs.Mask.{slot_of}
use Rattle.logic_blocks.proofs.mask_accrual.MaskAccrualKindSlotKind.step.Goals as goal

pub returns-in-Reset-clause-slot : goal.returns-in-Reset-clause-slot
returns-in-Reset-clause-slot c =
    let with_marks : List Bool → AccrualSlot =
    (λ marks. record { game = c.args.slot.now.game; enabled = c.args.slot.now.enabled; done = marks }) in
    ap with_marks flags-none
    ∙ sym (ap (λ act. (slot_step c.args.self.now.settings act (slot_of c.args.slot.now)).0) c.in-Reset.is)

pub returns-in-Restart-clause-slot : goal.returns-in-Restart-clause-slot
returns-in-Restart-clause-slot c =
    let with_marks : List Bool → AccrualSlot =
    (λ marks. record { game = c.args.slot.now.game; enabled = true; done = marks }) in
    ap with_marks flags-none
    ∙ sym (ap (λ act. (slot_step c.args.self.now.settings act (slot_of c.args.slot.now)).0) c.in-Restart.is)
