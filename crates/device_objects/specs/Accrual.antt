-- An accrual: its steps are done in any order.
use Rattle.std.specs.Prelude.{◌≡◌, ℕ, nat_lt, Bool, true, false, not, ◌&&◌, if◌then◌else◌, Option, None, Some, List, []}
use Rattle.std.specs.{Prelude.{◌∷◌, ◌++◌, length, replicate, take, slice_get, slice_set}, List.list_all}
use Rattle.plan_tables.specs.declared.devices.Act.{Act}
use Rattle.plan_tables.specs.declared.devices.Act.TheVariants as acts
use Rattle.machine_settings.specs.declared.settings.StepSettings.{StepSettings}
use Rattle.device_objects.specs.declared.state.{AccrualSlot.AccrualSlot, DeviceState.DeviceState}
use Rattle.device_objects.specs.declared.state.DeviceState.TheVariants as states
use Rattle.device_objects.specs.{Slots.{SlotModel, of_slots}, KindModel.{Kind, in_states, never_due}, Outcomes.only_if}
use Rattle.device_objects.specs.Blocks.{update, hit, complete, completing, going_on, block_step, of_block}

-- no step is done
abbrev pub none_done : List Bool
none_done = replicate 16 false

-- a new slot, for this game
abbrev pub first_slot : StepSettings → ℕ → AccrualSlot
first_slot a game = record { game = game; enabled = a.block.enabled; done = none_done }

-- a mark that is there and is not set
abbrev pub is_open : Option Bool → Bool
is_open None = false
is_open (Some done) = not done

-- whether the accrual has this step, and it is not done yet
abbrev pub is_step_open : StepSettings → ℕ → List Bool → Bool
is_step_open a i done = nat_lt i a.steps && is_open (slice_get done i)

-- whether all steps are done
abbrev pub are_all_done : StepSettings → List Bool → Bool
are_all_done a done = list_all (λ d. d) (take a.steps done)

-- an accrual after it has completed: reset and disabled, as its settings say
abbrev pub after_completion : StepSettings → AccrualSlot → AccrualSlot
after_completion a slot = record slot {
  enabled = slot.enabled && not a.block.disable_on_complete;
  done = if a.block.reset_on_complete then none_done else slot.done;
}

abbrev pub enable : Bool → AccrualSlot → AccrualSlot
enable enabled slot = record slot { enabled = enabled }

abbrev pub reset : AccrualSlot → AccrualSlot
reset slot = record slot { done = none_done }

-- a step was done
abbrev pub step_once : StepSettings → AccrualSlot → AccrualSlot × List ℕ
step_once a slot =
    if are_all_done a slot.done then (after_completion a slot, update ∷ hit ∷ complete ∷ [])
    else (slot, update ∷ hit ∷ [])

abbrev pub slot_step : StepSettings → Act → AccrualSlot → AccrualSlot × List ℕ
slot_step a (acts.Step i) slot =
    if slot.enabled && is_step_open a i slot.done
    then step_once a (record slot { done = slice_set slot.done i true })
    else (slot, [])
slot_step a act slot = block_step enable reset act slot

-- An accrual of one step is completed by it. Of several steps, each may be the last to be done.
abbrev pub of_accrual : StepSettings → Act → List (List ℕ)
of_accrual a (acts.Step i) = [] ∷ only_if (nat_lt i a.steps)
    (only_if (nat_lt 1 a.steps) (going_on ∷ []) ++ completing ∷ [])
of_accrual a act = of_block a.block act

-- a slot of an accrual: with 16 marks
abbrev pub HasMarks : AccrualSlot → Type 0
HasMarks slot = length slot.done ≡ 16

-- the slots of an accrual
abbrev pub slots : StepSettings → SlotModel AccrualSlot
slots a = record {
  persist = a.block.persist;
  first = first_slot a;
  game_of = λ slot. slot.game;
  IsShaped = HasMarks;
  step = λ act now. slot_step a act;
  answers = of_accrual a;
}

-- what a state holds, if it is one of an accrual
abbrev pub accrual_slots : DeviceState → Option (List AccrualSlot)
accrual_slots (states.Accrual slots) = Some slots
accrual_slots _ = None

abbrev pub accruals : StepSettings → Kind DeviceState
accruals a = in_states states.Accrual accrual_slots (never_due (of_slots (slots a)))
