-- What contracts of the functions inside this crate see of the faults that are collected.
use Rattle.std.specs.Prelude.{◌≡◌, ℕ, Bool, List, ◌++◌, map}
use Rattle.mpf_sections.specs.Rows.{WrittenName}
use Rattle.mpf_config.specs.Rows.{Rows}
use Rattle.row_faults.specs.{FaultView.RowFaultView, RowFaults.name_fault}
use Rattle.row_faults.specs.{Reserved.reserved_among, ShotFaults.{ListedShot, faulty_shots}}

-- The faults that were found in a text so far, and what faults depend on: all rows, the events of modes, and the name
-- of the text.
pub record FaultsView : Type 0 where
  pub rows : Rows
  pub modes : List (List ℕ)
  pub text : List ℕ
  pub found_faults : List RowFaultView

-- these, once so many more faults are found
abbrev pub with_faults : FaultsView → List RowFaultView → FaultsView
with_faults f more = record { rows = f.rows; modes = f.modes; text = f.text; found_faults = f.found_faults ++ more }

-- what was found has grown by these faults, and nothing else has changed
abbrev pub Gains : FaultsView → FaultsView → List RowFaultView → Type 0
Gains old new more = new ≡ with_faults old more

-- the faults of these posts: those of reserved events
abbrev pub post_faults : FaultsView → List WrittenName → List RowFaultView
post_faults f posts = map (name_fault f.text) (reserved_among f.modes posts)

-- The faults of these shots that groups list: those that a group may not list. Here `is_own` says of a name whether the
-- text defines its shot, and `is_taken` whether a group lists it before.
abbrev pub group_faults : FaultsView → (is_own is_taken : List ℕ → Bool) → List ListedShot → List RowFaultView
group_faults f is_own is_taken group_names = map (name_fault f.text) (faulty_shots f.rows is_own is_taken group_names)
