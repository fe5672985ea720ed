-- A kind of device whose state is slots: one for each player, or one for all.
use Rattle.std.specs.Prelude.{◌≡◌, ℕ, ◌-◌, ◌==◌, Bool, not, ◌&&◌, if◌then◌else◌, Option, None, Some, List, [], length}
use Rattle.std.specs.{Prelude.{replicate, slice_get, slice_set}, List.All}
use Rattle.plan_tables.specs.declared.devices.Act.{Act}
use Rattle.device_objects.specs.{declared.{device.Call.Call, state.World.World}, KindModel.{CalmModel, calm_step}}

-- How the slots of a device behave.
pub record SlotModel (S : Type 0) : Type 1 where
  -- whether each player has a slot; if not, all share the first
  pub persist : Bool
  -- a new slot, for this game
  pub first : ℕ → S
  -- the game to which a slot belongs
  pub game_of : S → ℕ
  -- the shape of a slot
  pub IsShaped : S → Type 0
  -- what an act at this moment does to a slot that counts in this world, and the lists that it answers
  pub step : Act → ℕ → S → S × List ℕ
  -- each sequence of lists that an act answers
  pub answers : Act → List (List ℕ)

-- the slot on which the device acts: the current player's, if each player has one (without a current player,
-- none), and else the first
abbrev pub slot_in_use : Bool → World → Option ℕ
slot_in_use persist world = if persist then (if world.player == 0 then None else Some (world.player - 1)) else Some 0

-- whether a player's slot is left over from another game
abbrev pub is_of_other_game : Bool → World → ℕ → Bool
is_of_other_game persist world game = persist && not (game == world.games)

-- a slot as it counts in this world: one of another game counts as a new one
abbrev pub current : {S : Type 0} → SlotModel S → World → S → S
current m world slot = if is_of_other_game m.persist world (m.game_of slot) then m.first world.games else slot

-- what a step gives is put into the slot of this number
abbrev pub put_at : {S : Type 0} → ℕ → List S → S × List ℕ → List S × List ℕ
put_at i slots answer = (slice_set slots i answer.0, answer.1)

-- a step of the slot of this number, if there is one
abbrev pub step_at : {S : Type 0} → (S → S × List ℕ) → ℕ → List S → Option S → List S × List ℕ
step_at step i slots None = (slots, [])
step_at step i slots (Some slot) = put_at i slots (step slot)

-- a step of the slot in use; without one nothing is done
abbrev pub step_in_use : {S : Type 0} → (S → S × List ℕ) → List S → Option ℕ → List S × List ℕ
step_in_use step slots None = (slots, [])
step_in_use step slots (Some i) = step_at step i slots (slice_get slots i)

-- the slots at first, which are of no game
abbrev pub first_slots : {S : Type 0} → SlotModel S → List S
first_slots m = replicate 4 (m.first 0)

-- When the mode starts, slots that the players have for themselves go on, and one that all share begins anew. An act is
-- a step of the slot in use. Nothing is ever due. The state has four slots in any case: if all players share the first,
-- the others stay as they are. An act that does nothing more still makes a slot of another game one of this game.
abbrev pub of_slots : {S : Type 0} → SlotModel S → CalmModel (List S)
of_slots m = record {
  first = first_slots m;
  IsShaped = λ slots. (length slots ≡ 4) × All m.IsShaped slots;
  start = λ slots. if m.persist then slots else slice_set slots 0 (m.first 0);
  stop = λ slots. slots;
  act = λ act now world slots.
      step_in_use (λ slot. m.step act now (current m world slot)) slots (slot_in_use m.persist world);
  answers = m.answers;
}

abbrev pub slots_step : {S : Type 0} → SlotModel S → Call → ℕ → World → List S → List S × List ℕ
slots_step m = calm_step (of_slots m)
