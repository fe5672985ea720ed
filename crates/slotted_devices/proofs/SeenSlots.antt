-- Slots that are seen otherwise than they are kept.
use Rattle.std.proofs.Common.{rules, ◌≡◌, ℕ, Option, Some, List, map, option_map, set, slice_get}
use Rattle.std.proofs.lemmas.{List.map-set, Option.slice_get-map}
use Rattle.device_objects.specs.Slots.{step_in_use}

module _ {S V : Type 0} (seen : S → V) (step : V → V × List ℕ) where
  -- the slot in use is stepped, and the others stay
  pub seen-step : (slots : List S) {at : Option ℕ} {i : ℕ} {slot : S} (new : S) (lists : List ℕ) → at ≡ Some i
      → slice_get slots i ≡ Some slot → seen new ≡ (step (seen slot)).0 → lists ≡ (step (seen slot)).1
      → (map seen (set slots i new) ≡ (step_in_use step (map seen slots) at).0)
      × (lists ≡ (step_in_use step (map seen slots) at).1)
  seen-step slots new lists is here becomes answers =
      search (rules, slice_get, slice_get-map, option_map, map-set)
