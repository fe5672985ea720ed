-- Counters, accruals and sequences: what they answer to the acts that all of them have.
use Rattle.std.proofs.Common.{rules, ◌≡◌, inl, inr, ℕ, Bool, true, List, [], ◌∷◌, refl, ◌∙◌}
use Rattle.std.{specs.List.All, proofs.lemmas.List.Elements.All-append}
use Rattle.plan_tables.specs.declared.devices.Act.{Act}
use Rattle.plan_tables.specs.declared.devices.Act.TheVariants as acts
use Rattle.machine_settings.specs.declared.settings.BlockSettings.{BlockSettings}
use Rattle.device_objects.specs.{Outcomes.{only_if, silent}, Slots.SlotModel}
use Rattle.device_objects.specs.Blocks.{update, resetting, block_step, of_block}
use Rattle.device_objects.proofs.{Among.{In, here, at_last, all_if, one}, SlotLaws.Comes}

reset-in : (b : BlockSettings) → In (update ∷ []) (resetting b)
reset-in b = at_last (only_if b.persist silent)

-- what such an act of a slot answers
pub block-in : {S : Type 0} (enable : Bool → S → S) (reset : S → S) (b : BlockSettings) (act : Act) (slot : S)
    → In (block_step enable reset act slot).1 (of_block b act)
block-in enable reset b acts.Reset slot = reset-in b
block-in enable reset b acts.Restart slot = reset-in b
block-in enable reset b _ slot = here

no_player-in : (b : BlockSettings) → b.persist ≡ true → In [] (resetting b)
no_player-in b is = search (rules, here)

-- and what it answers if nobody has a slot
pub nobody-in : (b : BlockSettings) (act : Act) → b.persist ≡ true → In [] (of_block b act)
nobody-in b acts.Reset is = no_player-in b is
nobody-in b acts.Restart is = no_player-in b is
nobody-in b _ is = here

-- what this slot answers comes about
pub by_slot : {S : Type 0} (m : SlotModel S) (act : Act) (lists : List ℕ) (slot : S) → m.IsShaped slot
    → (m.step act 0 slot).1 ≡ lists → Comes m act lists
by_slot m act lists slot shape is = inl (record { now = 0; slot = slot; shape = shape; answer = is })

-- a block that is reset, or of which nobody has a slot
resets : {S : Type 0} (m : SlotModel S) (b : BlockSettings) → m.persist ≡ b.persist → (act : Act)
    → Comes m act (update ∷ []) → All (Comes m act) (resetting b)
resets m b same act some =
    All-append (Comes m act) (only_if b.persist silent) ((update ∷ []) ∷ [])
    (all_if (Comes m act) b.persist silent (λ is. one (Comes m act) [] (inr (same ∙ is, refl))))
    (one (Comes m act) (update ∷ []) some)

-- each outcome of such an act comes about, by this slot
pub block-comes : {S : Type 0} (m : SlotModel S) (b : BlockSettings) → m.persist ≡ b.persist
    → (enable : Bool → S → S) (reset : S → S) (slot : S) → m.IsShaped slot → (act : Act)
    → (m.step act 0 slot).1 ≡ (block_step enable reset act slot).1 → All (Comes m act) (of_block b act)
block-comes m b same enable reset slot shape acts.Reset is =
    resets m b same acts.Reset (by_slot m acts.Reset (update ∷ []) slot shape is)
block-comes m b same enable reset slot shape acts.Restart is =
    resets m b same acts.Restart (by_slot m acts.Restart (update ∷ []) slot shape is)
block-comes m b same enable reset slot shape act is = one (Comes m act) [] (by_slot m act [] slot shape is)
