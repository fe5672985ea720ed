-- Alarms: for each row, by number, the moment at which it is due, if it is. An alarm is a moment and a row that is due
-- then.
use Rattle.std.specs.Prelude.{◌≡◌, ℕ, ◌+◌, ◌≤◌, nat_lt, ◌==◌, ◌&&◌, ◌||◌, if◌then◌else◌, Bool, Option, None, Some}
use Rattle.std.specs.Prelude.{option_map, List, [], ◌∷◌, slice_index_or}
use Rattle.plan_tables.specs.declared.devices.RowId.{RowId}

-- the moment at which a row is due, if it is
abbrev pub due_of : List (Option ℕ) → RowId → Option ℕ
due_of dues row = slice_index_or dues row.0 None

-- ---- the least, as it is computed

-- whether an alarm has the lesser moment, or the same moment and the lower row
abbrev pub comes_before : ℕ × RowId → ℕ × RowId → Bool
comes_before a b = nat_lt a.0 b.0 || ((a.0 == b.0) && nat_lt a.1.0 b.1.0)

-- of two alarms the one that comes first
abbrev pub first_of : Option (ℕ × RowId) → Option (ℕ × RowId) → Option (ℕ × RowId)
first_of None b = b
first_of (Some a) None = Some a
first_of (Some a) (Some b) = if comes_before b a then Some b else Some a

-- the alarm of a row that is due at this moment, or none if it is not due
abbrev pub alarm_of : RowId → Option ℕ → Option (ℕ × RowId)
alarm_of row due = option_map (λ moment. (moment, row)) due

-- of rows that are numbered from the number on, the alarm that comes first
abbrev pub least_from : ℕ → List (Option ℕ) → Option (ℕ × RowId)
least_from number [] = None
least_from number (due ∷ dues) = first_of (alarm_of (record { 0 = number }) due) (least_from (number + 1) dues)

-- the least moment, then the lowest row
abbrev pub least_of : List (Option ℕ) → Option (ℕ × RowId)
least_of dues = least_from 0 dues

-- ---- the law

-- The row is due at the moment, no row is due before it, and no lower row is due at it.
pub record IsLeast (dues : List (Option ℕ)) (moment : ℕ) (row : RowId) : Type 0 where
  pub due : due_of dues row ≡ Some moment
  pub earliest : (other : RowId) (at : ℕ) → due_of dues other ≡ Some at → moment ≤ at
  pub lowest : (other : RowId) → due_of dues other ≡ Some moment → row.0 ≤ other.0

-- If there is no least alarm, no row is due. If there is one, it is the least.
pub record AlarmsGiveTheLeast : Type 0 where
  pub none : (dues : List (Option ℕ)) → least_of dues ≡ None → (row : RowId) → due_of dues row ≡ None
  pub least : (dues : List (Option ℕ)) (moment : ℕ) (row : RowId) → least_of dues ≡ Some (moment, row)
      → IsLeast dues moment row
