-- If a text has no groups, nothing asks for the shots that it defines.
use Rattle.std.proofs.Common.{rules, ◌≡◌, ◌⊎◌, ℕ, Bool, List, [], ◌∷◌, ◌++◌, map, refl, ap, sym, ◌∙◌}
use Rattle.std.specs.List.{filter, flat_map}
use Rattle.mpf_sections.specs.{Rows.{WrittenName, SectionRows}, TypedShots.{shots_in, shot_groups_in}}
use Rattle.mpf_sections.specs.{Typed.timers_in, TypedBalls.ball_devices_in}
use Rattle.mpf_config.specs.Rows.{Rows}
use Rattle.row_faults.specs.{FaultView.RowFaultView, Reserved.{posts_in, reserved_among}, RowFaults.written_faults}
use Rattle.row_faults.{specs.{BallFaults.ball_device_faults, VariableFaults.variable_faults}, proofs.None.append-none}
use Rattle.row_faults.specs.ShotFaults.{shot_faults, listed_by, listed_in, is_own_shot, faulty_shots, taken_after}
use Rattle.row_faults.specs.RowFaults.{name_fault, coil_faults_in, starts_at_end, timer_fault, section_faults}

module _ (modes : List (List ℕ)) (rows : Rows) (text : List ℕ) where
  -- the faults of a section, if its groups may not list these shots
  abbrev with_misplaced : (is_taken : List ℕ → Bool) → SectionRows → List WrittenName → List RowFaultView
  with_misplaced is_taken s ws =
      map (name_fault text) (reserved_among modes (posts_in s))
      ++ variable_faults modes text s
      ++ coil_faults_in rows.machine text s
      ++ flat_map (ball_device_faults rows.machine text) (ball_devices_in s)
      ++ flat_map (shot_faults rows text) (shots_in s)
      ++ map (name_fault text) ws
      ++ map (timer_fault text) (filter starts_at_end (timers_in s))

  -- its groups list nothing, if it has none
  none_misplaced : (is_own is_taken : List ℕ → Bool) (s : SectionRows) → shot_groups_in s ≡ []
      → faulty_shots rows is_own is_taken (listed_in rows s) ≡ []
  none_misplaced is_own is_taken s none = ap (λ (gs : List _). faulty_shots rows is_own is_taken
      (flat_map (listed_by rows) gs)) none

  unasked : (is_own other : List ℕ → Bool) (sections : List SectionRows) → flat_map shot_groups_in sections ≡ []
      → (is_taken : List ℕ → Bool)
      → written_faults modes rows is_own is_taken text sections ≡ written_faults modes rows other is_taken text sections
  unasked is_own other [] none is_taken = refl
  unasked is_own other (s ∷ ss) none is_taken =
      let both = append-none (shot_groups_in s) (flat_map shot_groups_in ss) none in
      let here : section_faults modes rows is_own is_taken text s ≡ section_faults modes rows other is_taken text s =
      ap (with_misplaced is_taken s) (none_misplaced is_own is_taken s both.0
      ∙ sym (none_misplaced other is_taken s both.0)) in
      let others = unasked is_own other ss both.1 (taken_after is_taken (listed_in rows s)) in
      λ i. here i ++ others i

  -- so either they are found, or nothing asks for them
  pub by_own : (found is_taken : List ℕ → Bool) (sections : List SectionRows)
      → (flat_map shot_groups_in sections ≡ []) ⊎ ((name : List ℕ) → found name ≡ is_own_shot sections name)
      → written_faults modes rows found is_taken text sections
      ≡ written_faults modes rows (is_own_shot sections) is_taken text sections
  by_own found is_taken sections x4 = search (rules, unasked)
