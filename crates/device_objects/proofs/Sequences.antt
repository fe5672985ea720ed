-- Sequences are lawful.
use Rattle.std.proofs.Common.{rules, ◌≡◌, ℕ, ◌==◌, suc, nat_lt, Bool, true, false, ◌&&◌, List, [], ◌∷◌}
use Rattle.std.{proofs.Common.{if◌then◌else◌, refl, ◌∙◌}, specs.List.All}
use Rattle.std.proofs.lemmas.{Bool.{and_from, and_parts, eq-eqb}, List.Elements.{All-nil, All-cons, All-append}}
use Rattle.plan_tables.specs.declared.devices.{Act.Act, Settings.TheVariants.Sequence}
use Rattle.plan_tables.specs.Devices.{IsWithinLimits, list_count}
use Rattle.plan_tables.specs.declared.devices.Act.TheVariants as acts
use Rattle.machine_settings.specs.declared.settings.StepSettings.{StepSettings}
use Rattle.device_objects.{specs.declared.state.SequenceSlot.SequenceSlot, proofs.SlotLaws.{Comes, slotted-lawful}}
use Rattle.device_objects.specs.{Blocks.{completing, going_on}, Outcomes.only_if}
use Rattle.device_objects.specs.{Kinds.moments_of, Laws.IsLawful, Sequence.{step_once, slot_step, slots}}
use Rattle.device_objects.specs.Sequence.{after_completion, enable, of_sequence, reset, sequence_slots, sequences}
use Rattle.device_objects.proofs.Among.{In, here, there, if_holds, by, either, second, one, all_if, if_true}
use Rattle.device_objects.proofs.BlockLaws.{block-in, nobody-in, by_slot, block-comes}
use Rattle.device_objects.specs.declared.state.DeviceState.TheVariants as states

module _ (q : StepSettings) where
  answer-in : (act : Act) (now : ℕ) (slot : SequenceSlot) → In (slot_step q act slot).1 (of_sequence q act)
  answer-in (acts.Step i) now slot =
      let next : SequenceSlot = record slot { next = suc i } in
      either (slot.enabled && (i == slot.next) && nat_lt i q.steps) (step_once q next) (slot, [])
      (λ is. let within = and_parts (slot.enabled && (i == slot.next)) (nat_lt i q.steps) is in
      there (if_holds (nat_lt i q.steps) within.1
      (by (second (suc i == q.steps) (after_completion q next, completing) (next, going_on)) here)))
      (λ not. here)
  answer-in act now slot = block-in enable reset q.block act slot

  none-in : (act : Act) → q.block.persist ≡ true → In [] (of_sequence q act)
  none-in (acts.Step i) is = here
  none-in act is = nobody-in q.block act is

  abbrev slot_at : Bool → ℕ → SequenceSlot
  slot_at enabled next = record { game = 0; enabled = enabled; next = next }

  answered : (act : Act) (lists : List ℕ) (enabled : Bool) (next : ℕ)
      → (slot_step q act (slot_at enabled next)).1 ≡ lists
      → Comes (slots q) act lists
  answered act lists enabled next answers = by_slot (slots q) act lists (slot_at enabled next) tt answers

  takes : (i : ℕ) → nat_lt i q.steps ≡ true
      → Comes (slots q) (acts.Step i) (if suc i == q.steps then completing else going_on)
  takes i below =
      let next : SequenceSlot = slot_at true (suc i) in
      answered (acts.Step i) (if suc i == q.steps then completing else going_on) true i
      (if_true ((i == i) && nat_lt i q.steps) (step_once q next) (slot_at true i, [])
      (and_from (i == i) (nat_lt i q.steps) (eq-eqb i i refl) below)
      ∙ second (suc i == q.steps) (after_completion q next, completing) (next, going_on))

  come : (act : Act) → All (Comes (slots q) act) (of_sequence q act)
  come (acts.Step i) =
      let Answer : List ℕ → Type 0 = Comes (slots q) (acts.Step i) in
      All-cons Answer [] (only_if (nat_lt i q.steps) ((if suc i == q.steps then completing else going_on) ∷ []))
      (answered (acts.Step i) [] false 0 refl)
      (all_if Answer (nat_lt i q.steps) ((if suc i == q.steps then completing else going_on) ∷ [])
      (λ below. one Answer (if suc i == q.steps then completing else going_on) (takes i below)))
  come act = block-comes (slots q) q.block refl enable reset (slot_at true 0) tt act refl

  pub sequences-lawful : IsLawful (sequences q) moments_of (IsWithinLimits (Sequence q)) (list_count (Sequence q))
  sequences-lawful =
      slotted-lawful states.Sequence sequence_slots (slots q) (IsWithinLimits (Sequence q)) 3 (λ held. refl)
      (λ state held is. search rules) (λ held. refl) (λ game. tt) (λ act now s shape. tt) answer-in none-in
      (λ within. come)
      (λ act. search rules) (λ act. search (rules, All-nil, All-cons, All-append))
