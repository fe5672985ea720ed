-- Marks of coils: each coil that an action enables is marked.
use Rattle.std.specs.Prelude.{◌≡◌, ◌<◌, ◌||◌, ℕ, Bool, false, List, length, map, slice_index_or}
use Rattle.std.specs.List.{list_any, range_with_len}
use Rattle.plan_tables.specs.PlanView.{is_enable_of}
use Rattle.plan_tables.specs.declared.entries.{CoilId.CoilId, Action.{Action, TheVariants.Enable}}

-- whether a coil is marked
abbrev pub mark_of : List Bool → CoilId → Bool
mark_of marks coil = slice_index_or marks coil.0 false

-- the numbers of so many coils
abbrev pub coil_ids : ℕ → List CoilId
coil_ids count = map (λ n. record { 0 = n }) (range_with_len 0 count)

-- there is a mark for the coil that an action enables
abbrev pub IsCoilMarked : Action → Type 0
IsCoilMarked (Enable coil power) = coil.0 < 256
IsCoilMarked _ = Unit {0}

-- After these actions each coil is marked that was, and each that one of them enables.
pub record AreMarked (old : List Bool) (actions : List Action) (new : List Bool) : Type 0 where
  pub count : length new ≡ length old
  pub marks : (coil : CoilId) → coil.0 < length old
      → mark_of new coil ≡ (mark_of old coil || list_any (is_enable_of coil) actions)
