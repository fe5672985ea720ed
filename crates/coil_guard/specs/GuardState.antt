-- What the guard of all coils and the boards of this crate keep.
use Rattle.std.specs.Prelude.{◌≡◌, ◌<◌, ◌≤◌, ℕ, Bool, false, None, List, length, min}
use Rattle.plan_tables.specs.declared.entries.Owner.{Owner}
use Rattle.coil_guard.specs.declared.{command.Command.Command, state.CoilState.CoilState}
use Rattle.coil_guard.specs.{CoilStep.is_held_by, Lowest.lowest, Coils.coil_at}

-- The owner holds none of so many coils, the first ones.
abbrev pub HoldsNone : Owner → List CoilState → ℕ → Type 0
HoldsNone owner s n = lowest (λ coil. is_held_by owner (coil_at s coil)) n ≡ None

-- There is room for 1,024 commands, and as many are kept as were taken, up to that.
pub record IsMemory (ring : List Command) (room count : ℕ) : Type 0 where
  pub room_is : room ≡ 1024
  pub kept_is : length ring ≡ min count 1024
  pub limit : count ≤ 1025

-- There was no fault before the first one; and no more than one, if only one is to be.
pub record IsFuse (countdown : ℕ) (onwards : Bool) (faults : ℕ) : Type 0 where
  pub none : 0 < countdown → faults ≡ 0
  pub one : onwards ≡ false → faults ≤ 1
