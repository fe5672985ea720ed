-- Kinds whose state is slots are lawful, where the steps of a slot are.
use Rattle.std.proofs.Common.{rules, ◌≡◌, ℕ, ◌<◌, ◌≤◌, ◌⊎◌, inl, inr, Bool, true, Option, None, Some, List, [], ◌∷◌}
use Rattle.std.proofs.Common.{length, replicate, slice_get, slice_set, if◌then◌else◌, refl, sym, ap, subst, ◌∙◌, arith}
use Rattle.std.{specs.List.All, proofs.lemmas.{Option.{get_or_from_slice_get, slice_get_within}, Bool.eq-eqb}}
use Rattle.std.proofs.lemmas.List.{length-set, Elements.{All-nil, All-replicate, All-set, All-weaker}}
use Rattle.plan_tables.specs.declared.devices.Act.{Act}
use Rattle.device_objects.specs.declared.state.{DeviceState.DeviceState, World.World}
use Rattle.device_objects.specs.{Kinds.moments_of, Laws.IsLawful, Slots.{step_in_use, of_slots}}
use Rattle.device_objects.specs.KindModel.{in_states, never, never_due}
use Rattle.device_objects.specs.Slots.{SlotModel, current, first_slots, is_of_other_game, slot_in_use, step_at}
use Rattle.device_objects.proofs.{Among.{In, of_among}, Calm.{IsActAnswer, calm-lawful}}

-- the lists are what an act answers in some slot
pub record IsSlotAnswer {S : Type 0} (m : SlotModel S) (act : Act) (lists : List ℕ) : Type 0 where
  pub now : ℕ
  pub slot : S
  pub shape : m.IsShaped slot
  pub answer : (m.step act now slot).1 ≡ lists

-- or the device answers nothing, as each player has a slot and there is no player
abbrev pub Comes : {S : Type 0} → SlotModel S → Act → List ℕ → Type 0
Comes m act lists = IsSlotAnswer m act lists ⊎ ((m.persist ≡ true) × (lists ≡ []))

-- ---- steps of slots

pub All-at : {S : Type 0} (P : S → Type 0) (slots : List S) (i : ℕ) (s : S) → slice_get slots i ≡ Some s → All P slots
    → P s
All-at P slots i s is all =
    subst P (get_or_from_slice_get slots i s s is) (all i s (slice_get_within slots i s is))

-- what holds of every slot after a step, and held before, holds of all
step_at-all : {S : Type 0} (P : S → Type 0) (step : S → S × List ℕ) → ((s : S) → P s → P (step s).0) → (i : ℕ)
    (slots : List S) (slot : Option S) → ((s : S) → slot ≡ Some s → P s) → All P slots
    → All P (step_at step i slots slot).0
step_at-all P step keeps i slots slot held all = search rules

step_in_use-all : {S : Type 0} (P : S → Type 0) (step : S → S × List ℕ) → ((s : S) → P s → P (step s).0)
    → (slots : List S) (at : Option ℕ) → All P slots → All P (step_in_use step slots at).0
step_in_use-all P step keeps slots None all = all
step_in_use-all P step keeps slots (Some i) all =
    step_at-all P step keeps i slots (slice_get slots i) (λ s is. All-at P slots i s is all) all

step_in_use-length : {S : Type 0} (step : S → S × List ℕ) (slots : List S) (at : Option ℕ)
    → length (step_in_use step slots at).0 ≡ length slots
step_in_use-length step slots at = search (rules, length-set)

-- what every slot answers, and what no slot answers if each player has one, is what the slots answer
module _ {S : Type 0} (P : List ℕ → Type 0) (step : S → S × List ℕ) (each : (s : S) → P (step s).1) where
  of_player : (is_none : Bool) (slots : List S) (i : ℕ) → P []
      → P (step_in_use step slots (if is_none then None else Some i)).1
  of_player is_none slots i none = search rules

  at_first : (slots : List S) → length slots ≡ 4 → P (step_at step 0 slots (slice_get slots 0)).1
  at_first [] four = absurd (omega (arith, four))
  at_first (s ∷ ss) four = each s

  in_use-answers : (persist : Bool) (world : World) (slots : List S) → length slots ≡ 4 → (persist ≡ true → P [])
      → P (step_in_use step slots (slot_in_use persist world)).1
  in_use-answers persist world slots four none = search (rules, of_player, at_first)

  any-answers : (slots : List S) (at : Option ℕ) → P [] → P (step_in_use step slots at).1
  any-answers slots at none = search rules

-- player 1 in this game, and nobody
abbrev in_game : ℕ → World
in_game game = record { games = game; player = 1; in_play = 0 }

abbrev nobody : World
nobody = record { games = 0; player = 0; in_play = 0 }

in_use : {S : Type 0} (step : S → S × List ℕ) (slot : S) (persist : Bool) (game : ℕ)
    → (step_in_use step (replicate 4 slot) (slot_in_use persist (in_game game))).1 ≡ (step slot).1
in_use step slot persist game = search rules

by_nobody : {S : Type 0} (step : S → S × List ℕ) (slots : List S) (persist : Bool) → persist ≡ true
    → (step_in_use step slots (slot_in_use persist nobody)).1 ≡ []
by_nobody step slots persist is = search rules

same_game : {S : Type 0} (persist : Bool) (game : ℕ) (other slot : S)
    → (if is_of_other_game persist (in_game game) game then other else slot) ≡ slot
same_game persist game other slot = search (rules, eq-eqb)

pub one_of : {S : Type 0} (P : S → Type 0) (test : Bool) (x y : S) → P x → P y → P (if test then x else y)
one_of P test x y first second = search rules

-- ---- the law

-- a kind by its states, and what has to be proved of its slots: also that an act of nobody may answer nothing
module _ {S : Type 0} (state_of : List S → DeviceState) (held : DeviceState → Option (List S)) (m : SlotModel S)
    (IsWithin : Type 0) (lists : ℕ) (back : (slots : List S) → held (state_of slots) ≡ Some slots)
    (same : (state : DeviceState) (slots : List S) → held state ≡ Some slots → state ≡ state_of slots)
    (due : (slots : List S) → moments_of (state_of slots) ≡ never)
    (first : (game : ℕ) → m.IsShaped (m.first game))
    (step : (act : Act) (now : ℕ) (s : S) → m.IsShaped s → m.IsShaped (m.step act now s).0)
    (answer : (act : Act) (now : ℕ) (s : S) → In (m.step act now s).1 (m.answers act))
    (none : (act : Act) → m.persist ≡ true → In [] (m.answers act))
    (comes : IsWithin → (act : Act) → All (Comes m act) (m.answers act))
    (of_row : (act : Act) → All (All (λ list. list < lists)) (m.answers act))
    (short : (act : Act) → All (λ answer. length answer ≤ 4) (m.answers act)) where
  abbrev Shape : List S → Type 0
  Shape slots = (length slots ≡ 4) × All m.IsShaped slots

  abbrev acted : Act → ℕ → World → S → S × List ℕ
  acted act now world slot = m.step act now (current m world slot)

  firsts : Shape (first_slots m)
  firsts = (refl, All-replicate m.IsShaped 4 (m.first 0) (first 0))

  acted-shape : (act : Act) (now : ℕ) (world : World) (s : S) → m.IsShaped s → m.IsShaped (acted act now world s).0
  acted-shape act now world s is =
      step act now (current m world s)
      (one_of m.IsShaped (is_of_other_game m.persist world (m.game_of s)) (m.first world.games) s (first world.games)
      is)

  come : (act : Act) (ls : List ℕ) → Comes m act ls → IsActAnswer (of_slots m) act ls
  come act ls (inl a) =
      let game : ℕ = m.game_of a.slot in
      record {
        now = a.now;
        world = in_game game;
        state = replicate 4 a.slot;
        shape = (refl, All-replicate m.IsShaped 4 a.slot a.shape);
        may_come = tt;
        answer = in_use (acted act a.now (in_game game)) a.slot m.persist game
            ∙ ap (λ slot. (m.step act a.now slot).1) (same_game m.persist game (m.first game) a.slot) ∙ a.answer;
      }
  come act ls (inr found) = record {
    now = 0;
    world = nobody;
    state = first_slots m;
    shape = firsts;
    may_come = tt;
    answer = by_nobody (acted act 0 nobody) (first_slots m) m.persist found.0 ∙ sym found.1;
  }

  pub slotted-lawful : IsLawful (in_states state_of held (never_due (of_slots m))) moments_of IsWithin lists
  slotted-lawful = calm-lawful state_of held (of_slots m) IsWithin lists back same due firsts
      (λ slots shape. one_of Shape m.persist slots (slice_set slots 0 (m.first 0)) shape
      (length-set slots 0 (m.first 0) ∙ shape.0, All-set m.IsShaped slots 0 (m.first 0) (first 0) shape.1))
      (λ slots shape. shape)
      (λ act now world slots shape. (
        step_in_use-length (acted act now world) slots (slot_in_use m.persist world) ∙ shape.0,
        step_in_use-all m.IsShaped (acted act now world) (acted-shape act now world) slots
            (slot_in_use m.persist world) shape.1,
      ))
      (λ act now world slots shape. in_use-answers (λ ls. In ls (m.answers act)) (acted act now world)
      (λ slot. answer act now (current m world slot)) m.persist world slots shape.0 (none act))
      (λ within act. All-weaker (Comes m act) (IsActAnswer (of_slots m) act) (come act) (m.answers act)
      (comes within act))
      (λ act now world slots. any-answers (All (λ list. list < lists)) (acted act now world)
      (λ slot. of_among (All (λ list. list < lists)) (of_row act) (answer act now (current m world slot))) slots
      (slot_in_use m.persist world) (All-nil (λ list. list < lists)))
      of_row short
