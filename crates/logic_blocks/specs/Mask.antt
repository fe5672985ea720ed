-- What is seen of an accrual that keeps its steps as bits.
use Rattle.device_objects.specs.{declared.state.AccrualSlot.AccrualSlot, Flags.flags}
use Rattle.logic_blocks.specs.declared.mask_accrual.StepMaskSlot.{StepMaskSlot}

abbrev pub slot_of : StepMaskSlot → AccrualSlot
slot_of slot = record { game = slot.game; enabled = slot.enabled; done = flags slot.done }
