-- What is seen of a bank of shots that keeps as bits which shots are enabled.
use Rattle.device_objects.specs.{declared.state.BankSlot.BankSlot, Flags.flags}
use Rattle.shot_groups.specs.declared.mask_bank.ShotMaskSlot.{ShotMaskSlot}

abbrev pub slot_of : ShotMaskSlot → BankSlot
slot_of slot = record { game = slot.game; enabled = flags slot.enabled; states = slot.states }
