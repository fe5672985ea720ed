-- Counters are lawful.
use Rattle.std.proofs.Common.{rules, ◌≡◌, ℕ, Bool, true, false, not, ◌&&◌, None, Some, List, [], ◌∷◌, is_some, ℤ}
use Rattle.std.{proofs.{Common.{pos, refl}, lemmas.List.Elements.{All-nil, All-cons, All-append}}, specs.List.All}
use Rattle.plan_tables.specs.declared.devices.{Act.Act, Settings.TheVariants.Counter}
use Rattle.plan_tables.specs.Devices.{IsWithinLimits, list_count}
use Rattle.plan_tables.specs.declared.devices.Act.TheVariants as acts
use Rattle.machine_settings.specs.declared.settings.CounterSettings.{CounterSettings}
use Rattle.machine_settings.specs.{Limits.IsEndWithin, Ends.is_at_end}
use Rattle.device_objects.specs.{declared.state.CounterSlot.CounterSlot, Values.move_value, Outcomes.only_if}
use Rattle.device_objects.specs.{Blocks.{completing, going_on}, Kinds.moments_of, Laws.IsLawful}
use Rattle.device_objects.specs.Counter.{enable, reset, slot_step, slots}
use Rattle.device_objects.specs.Counter.{counter_slots, counters, after_completion, count_hit, is_early, of_counter}
use Rattle.device_objects.proofs.Among.{In, here, there, if_holds, either, one, all_if, if_true, if_false}
use Rattle.device_objects.proofs.BlockLaws.{block-in, nobody-in, by_slot, block-comes}
use Rattle.device_objects.proofs.{Ends.{at_end-some, ends_at, goes_on_at}, SlotLaws.{Comes, slotted-lawful}}
use Rattle.device_objects.specs.declared.state.DeviceState.TheVariants as states

module _ (c : CounterSettings) where
  hit-in : (slot : CounterSlot) → In (count_hit c slot).1 (of_counter c acts.Count)
  hit-in slot = either (is_at_end c.direction c.complete slot.value) (after_completion c slot, completing)
      (slot, going_on)
      (λ ends. there (there (if_holds (is_some c.complete) (at_end-some c.direction c.complete slot.value ends) here)))
      (λ goes_on. there here)

  answer-in : (act : Act) (now : ℕ) (slot : CounterSlot) → In (slot_step c act now slot).1 (of_counter c act)
  answer-in acts.Count now slot =
      let moves : CounterSlot = record slot
      { value = move_value c.direction c.interval slot.value; last_hit = Some now } in
      either (slot.enabled && not (is_early c.window slot.last_hit now)) (count_hit c moves) (slot, [])
      (λ counts. hit-in moves) (λ not. here)
  answer-in act now slot = block-in enable (reset c) c.block act slot

  none-in : (act : Act) → c.block.persist ≡ true → In [] (of_counter c act)
  none-in acts.Count is = here
  none-in act is = nobody-in c.block act is

  abbrev slot_with : Bool → ℤ → CounterSlot
  slot_with enabled value = record { game = 0; enabled = enabled; value = value; last_hit = None }

  answered : (act : Act) (lists : List ℕ) (enabled : Bool) (value : ℤ)
      → (slot_step c act 0 (slot_with enabled value)).1 ≡ lists → Comes (slots c) act lists
  answered act lists enabled value answers = by_slot (slots c) act lists (slot_with enabled value) tt answers

  hits : IsEndWithin c.complete → All (Comes (slots c) acts.Count) (of_counter c acts.Count)
  hits within =
      let Answer : List ℕ → Type 0 = Comes (slots c) acts.Count in
      let past : ℤ → CounterSlot = λ value. record (slot_with true (move_value c.direction c.interval value))
      { last_hit = Some 0 } in
      let going : Answer going_on =
      (let from = goes_on_at c.direction c.complete c.interval within in
      answered acts.Count going_on true from.0
      (if_false (is_at_end c.direction c.complete (past from.0).value)
      (after_completion c (past from.0), completing) (past from.0, going_on) from.1)) in
      let done : is_some c.complete ≡ true → Answer completing =
      (λ some. let from = ends_at c.direction c.direction c.complete c.interval within some in
      answered acts.Count completing true from.0
      (if_true (is_at_end c.direction c.complete (past from.0).value) (after_completion c (past from.0), completing)
      (past from.0, going_on) from.1)) in
      All-cons Answer [] (going_on ∷ only_if (is_some c.complete) (completing ∷ []))
      (answered acts.Count [] false (pos 0) refl)
      (All-cons Answer going_on (only_if (is_some c.complete) (completing ∷ [])) going
      (all_if Answer (is_some c.complete) (completing ∷ []) (λ some. one Answer completing (done some))))

  come : IsEndWithin c.complete → (act : Act) → All (Comes (slots c) act) (of_counter c act)
  come within acts.Count = hits within
  come within act = block-comes (slots c) c.block refl enable (reset c) (slot_with true (pos 0)) tt act refl

  pub counters-lawful : IsLawful (counters c) moments_of (IsWithinLimits (Counter c)) (list_count (Counter c))
  counters-lawful =
      slotted-lawful states.Counter counter_slots (slots c) (IsWithinLimits (Counter c)) 3 (λ held. refl)
      (λ state held is. search rules) (λ held. refl) (λ game. tt) (λ act now s shape. tt) answer-in none-in come
      (λ act. search rules) (λ act. search (rules, All-nil, All-cons, All-append))
