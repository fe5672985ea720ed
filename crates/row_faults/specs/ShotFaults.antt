-- What is wrong with shots, and with the shots that groups list. Here `rows` are those of all texts, and `text` is the
-- name of the text.
use Rattle.std.specs.Prelude.{ℕ, Bool, true, false, not, ◌||◌, List, [], ◌∷◌, map, Option, Some, None, codes}
use Rattle.std.specs.{List.{flat_map, list_any}, Str.bytes_eq}
use Rattle.mpf_tables.specs.SectionTables as tables
use Rattle.mpf_sections.specs.{Rows.{WrittenName, Shot, ShotGroup, SectionRows}, TypedShots.{shots_in, shot_groups_in}}
use Rattle.mpf_config.specs.Rows.{Rows}
use Rattle.machine_definitions.specs.Shots.{shot_called, has_profile}
use Rattle.row_faults.specs.declared.fault.RowFaultKind.TheVariants.{Name}
use Rattle.row_faults.specs.{FaultView.RowFaultView, AsWritten.as_written, CoilFaults.{fault_if, named_switch_faults}}

-- ---- entries of `shots`

abbrev pub profile_faults : Rows → List ℕ → WrittenName → List RowFaultView
profile_faults rows text w = fault_if (not (has_profile rows w.text)) Name text w

-- a switch or a profile that no entry defines, as the settings are written
abbrev pub shot_faults : Rows → List ℕ → Shot → List RowFaultView
shot_faults rows text s =
    as_written tables.shots s.order ((codes "switch", named_switch_faults rows.machine text s.switch)
    ∷ (codes "profile", profile_faults rows text s.profile) ∷ [])

-- ---- the shots that groups list

-- a name that a group lists, with the shot that the group lists first, if this one is defined
pub record ListedShot : Type 0 where
  pub first : Option Shot
  pub shot : WrittenName

abbrev pub first_shot : Rows → List WrittenName → Option Shot
first_shot rows [] = None
first_shot rows (w ∷ ws) = shot_called rows w.text

-- names that a group lists whose first shot is this one
abbrev pub listed_with : Option Shot → List WrittenName → List ListedShot
listed_with first ws = map (λ w. record { first = first; shot = w }) ws

abbrev pub listed_by : Rows → ShotGroup → List ListedShot
listed_by rows g = listed_with (first_shot rows g.shots) g.shots

-- all that the groups of a section list, and those of a text, as written
abbrev pub listed_in : Rows → SectionRows → List ListedShot
listed_in rows s = flat_map (listed_by rows) (shot_groups_in s)

abbrev pub listed_of : Rows → List SectionRows → List ListedShot
listed_of rows sections = flat_map (listed_in rows) sections

-- whether the sections of a text define a shot of this name
abbrev pub is_own_shot : List SectionRows → List ℕ → Bool
is_own_shot own name = list_any (λ s. bytes_eq name s.name.text) (flat_map shots_in own)

-- whether two shots have different profiles; a shot that nothing defines is not compared
abbrev pub are_of_two_profiles : Option Shot → Option Shot → Bool
are_of_two_profiles (Some s) (Some t) = not (bytes_eq s.profile.text t.profile.text)
are_of_two_profiles _ _ = false

-- Whether a group may not list this shot: the group's text does not define it, a group lists it before, or it has
-- another profile than the group's first shot. Here `is_own` says of a name whether the text defines it, and `is_taken`
-- whether a group lists it before.
abbrev pub is_misplaced : Rows → (is_own is_taken : List ℕ → Bool) → ListedShot → Bool
is_misplaced rows is_own is_taken l =
    (not (is_own l.shot.text) || is_taken l.shot.text) || are_of_two_profiles l.first (shot_called rows l.shot.text)

-- the names that are listed before, and this one
abbrev pub taken_with : ListedShot → (List ℕ → Bool) → List ℕ → Bool
taken_with l is_taken name = is_taken name || bytes_eq name l.shot.text

-- the names that are listed before, and all these
abbrev pub taken_after : (List ℕ → Bool) → List ListedShot → List ℕ → Bool
taken_after is_taken [] = is_taken
taken_after is_taken (l ∷ ls) = taken_after (taken_with l is_taken) ls

-- this name before others, if it is misplaced
abbrev pub kept_if : Bool → WrittenName → List WrittenName → List WrittenName
kept_if true w ws = w ∷ ws
kept_if false w ws = ws

-- the names that a group may not list
abbrev pub faulty_shots : Rows → (is_own is_taken : List ℕ → Bool) → List ListedShot → List WrittenName
faulty_shots rows is_own is_taken [] = []
faulty_shots rows is_own is_taken (l ∷ ls) =
    kept_if (is_misplaced rows is_own is_taken l) l.shot (faulty_shots rows is_own (taken_with l is_taken) ls)
