-- A bank of shots: a group, or a lone shot. Each player has a slot of their own.
use Rattle.std.specs.Prelude.{◌≡◌, ℕ, ◌≤◌, suc, ◌+◌, ◌-◌, ◌*◌, ◌==◌, nat_lt, nat_le, Bool, true, false, not, ◌&&◌}
use Rattle.std.specs.Prelude.{if◌then◌else◌, Option, None, Some, List, [], ◌∷◌, ◌++◌, length, replicate, take, drop}
use Rattle.std.specs.{Prelude.{slice_get, slice_set}, List.{All, list_all, flat_map, range_with_len}}
use Rattle.plan_tables.specs.{declared.devices.{Act.Act, BankSettings.BankSettings}, Devices.state_count}
use Rattle.plan_tables.specs.declared.devices.Act.TheVariants as acts
use Rattle.device_objects.specs.declared.state.{BankSlot.BankSlot, DeviceState.DeviceState}
use Rattle.device_objects.specs.declared.state.DeviceState.TheVariants as states
use Rattle.device_objects.specs.{Slots.{SlotModel, of_slots}, Outcomes.{only_if, silent}}
use Rattle.device_objects.specs.KindModel.{Kind, in_states, never_due}

-- The lists of a bank: for each shot one in each state, by the shot's number and then the state's; then those of the
-- group when one of its shots is hit in a state; then those of the group when all its shots have come to a state.
abbrev pub shot_hit : BankSettings → ℕ → ℕ → ℕ
shot_hit b i state = i * state_count b + state

abbrev pub group_hit : BankSettings → ℕ → ℕ
group_hit b state = b.shots * state_count b + state

abbrev pub group_complete : BankSettings → ℕ → ℕ
group_complete b state = suc b.shots * state_count b + state

-- a new slot, for this game: all shots are in their first state
abbrev pub first_slot : BankSettings → ℕ → BankSlot
first_slot b game = record { game = game; enabled = b.enabled; states = replicate 16 0 }

-- the next state: after the last comes the first if the profile loops, and else it stays
abbrev pub next_state : BankSettings → ℕ → ℕ
next_state b state = if nat_lt state b.last_state then suc state else (if b.loops then 0 else state)

-- the states after this shot has advanced from this state
abbrev pub gone_on : BankSettings → ℕ → ℕ → List ℕ → List ℕ
gone_on b i state states = slice_set states i (next_state b state)

-- whether all shots are in this state
abbrev pub are_all_in : BankSettings → ℕ → List ℕ → Bool
are_all_in b state states = list_all (λ s. s == state) (take b.shots states)

-- what a hit runs: the list of the shot, and that of the group, for the state before it
abbrev pub hit_lists : BankSettings → ℕ → ℕ → List ℕ
hit_lists b i state = shot_hit b i state ∷ (if b.group then group_hit b state ∷ [] else [])

-- Whether a hit of a shot that was in `state` completes the group, where `states` are those after the hit: it has moved
-- the shot to another state, and all shots are in that state.
abbrev pub is_complete : BankSettings → ℕ → List ℕ → Bool
is_complete b state states =
    b.group && (not (next_state b state == state) && are_all_in b (next_state b state) states)

-- the list that it then runs: that of the group for the new state
abbrev pub complete_lists : BankSettings → ℕ → List ℕ → List ℕ
complete_lists b state states = if is_complete b state states then group_complete b (next_state b state) ∷ [] else []

-- A shot is hit in this state: first its list and the group's, for the state before. If hits advance it, it goes
-- to its next state then, and the group's list for that runs if it completes the group.
abbrev pub hit : BankSettings → ℕ → ℕ → BankSlot → BankSlot × List ℕ
hit b i state slot =
    if b.advance_on_hit then (
      record slot { states = gone_on b i state slot.states },
      hit_lists b i state ++ complete_lists b state (gone_on b i state slot.states),
    )
    else (slot, hit_lists b i state)

-- a shot of this number in this state is hit; if there is no such shot or state, or it is disabled, nothing is done
abbrev pub hit_where : BankSettings → ℕ → Option Bool → Option ℕ → BankSlot → BankSlot × List ℕ
hit_where b i (Some true) (Some state) slot = if nat_le state b.last_state then hit b i state slot else (slot, [])
hit_where b i _ _ slot = (slot, [])

-- a shot goes on, whether it is enabled or not
abbrev pub advance_where : BankSettings → ℕ → Option ℕ → BankSlot → BankSlot
advance_where b i None slot = slot
advance_where b i (Some state) slot = record slot { states = gone_on b i state slot.states }

-- the states of so many shots, rotated by k places towards the first; the others stay
abbrev pub rotate_states : ℕ → ℕ → List ℕ → List ℕ
rotate_states shots k states = drop k (take shots states) ++ take k (take shots states) ++ drop shots states

-- the changed slot if the bank has a shot of this number, else the slot as it was
abbrev pub of_shot : BankSettings → ℕ → BankSlot → BankSlot → BankSlot
of_shot b i new_slot slot = if nat_lt i b.shots then new_slot else slot

abbrev pub slot_step : BankSettings → Act → BankSlot → BankSlot × List ℕ
slot_step b (acts.Hit i) slot =
    if nat_lt i b.shots then hit_where b i (slice_get slot.enabled i) (slice_get slot.states i) slot else (slot, [])
slot_step b (acts.Advance i) slot = (of_shot b i (advance_where b i (slice_get slot.states i) slot) slot, [])
slot_step b (acts.ResetShot i) slot = (of_shot b i (record slot { states = slice_set slot.states i 0 }) slot, [])
slot_step b (acts.EnableShot i) slot = (of_shot b i (record slot { enabled = slice_set slot.enabled i true }) slot, [])
slot_step b (acts.DisableShot i) slot =
    (of_shot b i (record slot { enabled = slice_set slot.enabled i false }) slot, [])
slot_step b acts.Reset slot = (record slot { states = replicate 16 0 }, [])
slot_step b acts.RotateRight slot = (record slot { states = rotate_states b.shots (b.shots - 1) slot.states }, [])
slot_step b acts.RotateLeft slot = (record slot { states = rotate_states b.shots 1 slot.states }, [])
slot_step b _ slot = (slot, [])

-- whether a hit of a shot in this state moves it, and so can complete its group
abbrev pub can_complete : BankSettings → ℕ → Bool
can_complete b state = b.group && (b.advance_on_hit && not (next_state b state == state))

-- a hit that completes the group
abbrev pub hit_completing : BankSettings → ℕ → ℕ → List ℕ
hit_completing b i state = hit_lists b i state ++ group_complete b (next_state b state) ∷ []

-- a shot that is hit in this state; the only shot of a group always completes it when it moves
abbrev pub of_hit_in : BankSettings → ℕ → ℕ → List (List ℕ)
of_hit_in b i state =
    if can_complete b state
    then only_if (nat_lt 1 b.shots) (hit_lists b i state ∷ []) ++ hit_completing b i state ∷ []
    else hit_lists b i state ∷ []

-- a shot of this number that is hit, in whatever state
abbrev pub of_hit : BankSettings → ℕ → List (List ℕ)
of_hit b i = flat_map (of_hit_in b i) (range_with_len 0 (state_count b))

abbrev pub of_bank : BankSettings → Act → List (List ℕ)
of_bank b (acts.Hit i) = [] ∷ only_if (nat_lt i b.shots) (of_hit b i)
of_bank b _ = silent

-- a slot of a bank: with as many flags as its settings have, and 16 states, each one of the profile
abbrev pub HasBankShape : BankSettings → BankSlot → Type 0
HasBankShape b slot =
    (length slot.enabled ≡ length b.enabled) × (length slot.states ≡ 16) × All (λ s. s ≤ b.last_state) slot.states

-- the slots of a bank: each player has one
abbrev pub slots : BankSettings → SlotModel BankSlot
slots b = record {
  persist = true;
  first = first_slot b;
  game_of = λ slot. slot.game;
  IsShaped = HasBankShape b;
  step = λ act now. slot_step b act;
  answers = of_bank b;
}

-- what a state holds, if it is one of a bank
abbrev pub bank_slots : DeviceState → Option (List BankSlot)
bank_slots (states.Bank slots) = Some slots
bank_slots _ = None

abbrev pub banks : BankSettings → Kind DeviceState
banks b = in_states states.Bank bank_slots (never_due (of_slots (slots b)))
