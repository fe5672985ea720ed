-- A counter.
use Rattle.std.specs.Prelude.{ℕ, ◌+◌, nat_lt, Bool, false, not, ◌&&◌, is_some, if◌then◌else◌, Option, None, Some, List}
use Rattle.std.specs.Prelude.{[], ◌∷◌}
use Rattle.plan_tables.specs.declared.devices.Act.{Act}
use Rattle.plan_tables.specs.declared.devices.Act.TheVariants as acts
use Rattle.machine_settings.specs.{declared.settings.CounterSettings.CounterSettings, Ends.is_at_end}
use Rattle.device_objects.specs.declared.state.{CounterSlot.CounterSlot, DeviceState.DeviceState}
use Rattle.device_objects.specs.{Values.move_value, Slots.{SlotModel, of_slots}, Outcomes.only_if}
use Rattle.device_objects.specs.declared.state.DeviceState.TheVariants as states
use Rattle.device_objects.specs.KindModel.{Kind, in_states, never_due}
use Rattle.device_objects.specs.Blocks.{update, hit, complete, completing, going_on, block_step, of_block}

-- a new slot, for this game
abbrev pub first_slot : CounterSettings → ℕ → CounterSlot
first_slot c game = record { game = game; enabled = c.block.enabled; value = c.start; last_hit = None }

-- whether a hit comes too early after the last one that counted
abbrev pub is_early : ℕ → Option ℕ → ℕ → Bool
is_early window None now = false
is_early window (Some last) now = nat_lt now (last + window)

-- a counter after it has completed: reset and disabled, as its settings say
abbrev pub after_completion : CounterSettings → CounterSlot → CounterSlot
after_completion c slot = record slot {
  enabled = slot.enabled && not c.block.disable_on_complete;
  value = if c.block.reset_on_complete then c.start else slot.value;
}

abbrev pub enable : Bool → CounterSlot → CounterSlot
enable enabled slot = record slot { enabled = enabled }

-- it keeps the last hit
abbrev pub reset : CounterSettings → CounterSlot → CounterSlot
reset c slot = record slot { value = c.start }

-- a hit was counted
abbrev pub count_hit : CounterSettings → CounterSlot → CounterSlot × List ℕ
count_hit c slot =
    if is_at_end c.direction c.complete slot.value then (after_completion c slot, update ∷ hit ∷ complete ∷ [])
    else (slot, update ∷ hit ∷ [])

abbrev pub slot_step : CounterSettings → Act → ℕ → CounterSlot → CounterSlot × List ℕ
slot_step c acts.Count now slot =
    if slot.enabled && not (is_early c.window slot.last_hit now)
    then count_hit c (record slot { value = move_value c.direction c.interval slot.value; last_hit = Some now })
    else (slot, [])
slot_step c act now slot = block_step enable (reset c) act slot

-- what a counter answers
abbrev pub of_counter : CounterSettings → Act → List (List ℕ)
of_counter c acts.Count = [] ∷ going_on ∷ only_if (is_some c.complete) (completing ∷ [])
of_counter c act = of_block c.block act

-- the slots of a counter
abbrev pub slots : CounterSettings → SlotModel CounterSlot
slots c = record {
  persist = c.block.persist;
  first = first_slot c;
  game_of = λ slot. slot.game;
  IsShaped = λ slot. Unit {0};
  step = slot_step c;
  answers = of_counter c;
}

-- what a state holds, if it is one of a counter
abbrev pub counter_slots : DeviceState → Option (List CounterSlot)
counter_slots (states.Counter slots) = Some slots
counter_slots _ = None

abbrev pub counters : CounterSettings → Kind DeviceState
counters c = in_states states.Counter counter_slots (never_due (of_slots (slots c)))
