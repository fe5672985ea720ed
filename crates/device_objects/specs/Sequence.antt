-- A sequence: its steps are done in order.
use Rattle.std.specs.Prelude.{ℕ, suc, ◌==◌, nat_lt, Bool, not, ◌&&◌, if◌then◌else◌, Option, None, Some, List, [], ◌∷◌}
use Rattle.plan_tables.specs.declared.devices.Act.{Act}
use Rattle.plan_tables.specs.declared.devices.Act.TheVariants as acts
use Rattle.machine_settings.specs.declared.settings.StepSettings.{StepSettings}
use Rattle.device_objects.specs.declared.state.{SequenceSlot.SequenceSlot, DeviceState.DeviceState}
use Rattle.device_objects.specs.declared.state.DeviceState.TheVariants as states
use Rattle.device_objects.specs.{Slots.{SlotModel, of_slots}, KindModel.{Kind, in_states, never_due}, Outcomes.only_if}
use Rattle.device_objects.specs.Blocks.{update, hit, complete, completing, going_on, block_step, of_block}

-- a new slot, for this game
abbrev pub first_slot : StepSettings → ℕ → SequenceSlot
first_slot q game = record { game = game; enabled = q.block.enabled; next = 0 }

-- a sequence after it has completed: reset and disabled, as its settings say
abbrev pub after_completion : StepSettings → SequenceSlot → SequenceSlot
after_completion q slot = record slot {
  enabled = slot.enabled && not q.block.disable_on_complete;
  next = if q.block.reset_on_complete then 0 else slot.next;
}

abbrev pub enable : Bool → SequenceSlot → SequenceSlot
enable enabled slot = record slot { enabled = enabled }

abbrev pub reset : SequenceSlot → SequenceSlot
reset slot = record slot { next = 0 }

-- a step was done
abbrev pub step_once : StepSettings → SequenceSlot → SequenceSlot × List ℕ
step_once q slot =
    if slot.next == q.steps then (after_completion q slot, update ∷ hit ∷ complete ∷ [])
    else (slot, update ∷ hit ∷ [])

abbrev pub slot_step : StepSettings → Act → SequenceSlot → SequenceSlot × List ℕ
slot_step q (acts.Step i) slot =
    if slot.enabled && (i == slot.next) && nat_lt i q.steps
    then step_once q (record slot { next = suc i })
    else (slot, [])
slot_step q act slot = block_step enable reset act slot

-- only the last step completes a sequence
abbrev pub of_sequence : StepSettings → Act → List (List ℕ)
of_sequence q (acts.Step i) = [] ∷ only_if (nat_lt i q.steps) ((if suc i == q.steps then completing else going_on) ∷ [])
of_sequence q act = of_block q.block act

-- the slots of a sequence
abbrev pub slots : StepSettings → SlotModel SequenceSlot
slots q = record {
  persist = q.block.persist;
  first = first_slot q;
  game_of = λ slot. slot.game;
  IsShaped = λ slot. Unit {0};
  step = λ act now. slot_step q act;
  answers = of_sequence q;
}

-- what a state holds, if it is one of a sequence
abbrev pub sequence_slots : DeviceState → Option (List SequenceSlot)
sequence_slots (states.Sequence slots) = Some slots
sequence_slots _ = None

abbrev pub sequences : StepSettings → Kind DeviceState
sequences q = in_states states.Sequence sequence_slots (never_due (of_slots (slots q)))
