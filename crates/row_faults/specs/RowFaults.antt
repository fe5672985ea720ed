-- The faults of rows, in the order in which a report lists them.
use Rattle.std.specs.{Prelude.{ℕ, Bool, false, if◌then◌else◌, List, [], ◌∷◌, ◌++◌, map, filter}, List.flat_map}
use Rattle.yaml_subset.specs.Keys.{is_among}
use Rattle.machine_settings.specs.Ends.{is_at_end}
use Rattle.mpf_sections.specs.Rows.{WrittenName, TimerEntry, SectionRows}
use Rattle.mpf_sections.specs.{TypedCoils.{coils_in, coil_players_in}, CoilRules.coil_rule_of, TypedShots.shots_in}
use Rattle.mpf_sections.specs.{Typed.{entries_in, timers_in}, TypedBalls.ball_devices_in}
use Rattle.mpf_config.specs.{Rows.{ModeRows, Rows}, BundleText.{machine_name, mode_text_name}}
use Rattle.row_faults.specs.declared.fault.RowFaultKind.TheVariants.{Name, TimerAtEnd}
use Rattle.row_faults.specs.{FaultView.RowFaultView, AsWritten.ordered_by, VariableFaults.variable_faults}
use Rattle.row_faults.specs.FaultText.{row_fault_number, row_fault_line}
use Rattle.row_faults.specs.Reserved.{events_of_modes, mode_names, posts_in, reserved_among}
use Rattle.row_faults.specs.CoilFaults.{fault_at, coil_faults, coil_player_faults, rule_faults}
use Rattle.machine_definitions.specs.Definitions.{ball_devices_of}
use Rattle.row_faults.specs.BallFaults.{ball_device_faults, route_faults}
use Rattle.row_faults.specs.ShotFaults.{shot_faults, listed_in, listed_of, is_own_shot, taken_after, faulty_shots}

-- ---- one section

-- what is wrong with this name
abbrev pub name_fault : List ℕ → WrittenName → RowFaultView
name_fault text w = fault_at Name text w

-- whether a timer is at its end before it runs
abbrev pub starts_at_end : TimerEntry → Bool
starts_at_end t = is_at_end t.settings.direction t.settings.end t.settings.start

abbrev pub timer_fault : List ℕ → TimerEntry → RowFaultView
timer_fault text t = fault_at TimerAtEnd text t.name

-- the faults of what a section says of coils
abbrev pub coil_faults_in : List SectionRows → List ℕ → SectionRows → List RowFaultView
coil_faults_in machine text s =
    flat_map (coil_faults text) (coils_in s)
    ++ flat_map (coil_player_faults machine text) (coil_players_in s)
    ++ flat_map (λ e. rule_faults machine text (coil_rule_of s.name e)) (entries_in s.content)

-- The faults of a section of a text, as written: its posts of reserved events, those of what it says of variables, of
-- coils, of ball devices and of shots, the shots that its groups may not list, and its timers that start at their end.
-- A section is of one kind, so at most one of these lists has any.
abbrev pub section_faults : List (List ℕ) → Rows → (is_own is_taken : List ℕ → Bool) → List ℕ → SectionRows
    → List RowFaultView
section_faults modes rows is_own is_taken text s =
    map (name_fault text) (reserved_among modes (posts_in s))
    ++ variable_faults modes text s
    ++ coil_faults_in rows.machine text s
    ++ flat_map (ball_device_faults rows.machine text) (ball_devices_in s)
    ++ flat_map (shot_faults rows text) (shots_in s)
    ++ map (name_fault text) (faulty_shots rows is_own is_taken (listed_in rows s))
    ++ map (timer_fault text) (filter starts_at_end (timers_in s))

-- the faults of sections of a text, as written
abbrev pub written_faults : List (List ℕ) → Rows → (is_own is_taken : List ℕ → Bool) → List ℕ → List SectionRows
    → List RowFaultView
written_faults modes rows is_own is_taken text [] = []
written_faults modes rows is_own is_taken text (s ∷ ss) =
    section_faults modes rows is_own is_taken text s
    ++ written_faults modes rows is_own (taken_after is_taken (listed_in rows s)) text ss

-- ---- by line

-- the line of a fault, and the number of its kind
abbrev pub fault_line : RowFaultView → ℕ
fault_line f = f.line

abbrev pub fault_number : RowFaultView → ℕ
fault_number f = row_fault_number f.kind

-- all faults of a text: those of its sections, as written, and those of the ways of balls through its ball devices
abbrev pub all_faults : List (List ℕ) → Rows → (is_taken : List ℕ → Bool) → List ℕ → List SectionRows
    → List RowFaultView
all_faults modes rows is_taken text sections =
    written_faults modes rows (is_own_shot sections) is_taken text sections
    ++ route_faults text (ball_devices_of sections)

-- the faults of a text, by line, on one line by number, and those of one line and number as written; groups of texts
-- before it list the shots that are taken
abbrev pub text_faults : List (List ℕ) → Rows → (is_taken : List ℕ → Bool) → List ℕ → List SectionRows
    → List RowFaultView
text_faults modes rows is_taken text sections =
    ordered_by fault_line (ordered_by fault_number (all_faults modes rows is_taken text sections))

-- the faults of the texts of these modes, in their order
abbrev pub mode_faults : List (List ℕ) → Rows → (is_taken : List ℕ → Bool) → List ModeRows → List RowFaultView
mode_faults modes rows is_taken [] = []
mode_faults modes rows is_taken (m ∷ ms) =
    text_faults modes rows is_taken (mode_text_name m.name) m.sections
    ++ mode_faults modes rows (taken_after is_taken (listed_of rows m.sections)) ms

-- no name is listed before the machine text
abbrev pub is_none_taken : List ℕ → Bool
is_none_taken name = false

-- the faults of all texts: the machine text, then the modes' in their order
abbrev pub faults_by : List (List ℕ) → Rows → List RowFaultView
faults_by modes rows =
    text_faults modes rows is_none_taken machine_name rows.machine
    ++ mode_faults modes rows (taken_after is_none_taken (listed_of rows rows.machine)) rows.modes

-- ---- once each

-- each fault whose line in the report is none of these, and not that of a fault before it
abbrev pub listed_once : List (List ℕ) → List RowFaultView → List RowFaultView
listed_once lines [] = []
listed_once lines (fault ∷ faults) =
    if is_among lines (row_fault_line fault) then listed_once lines faults else fault
    ∷ listed_once (row_fault_line fault ∷ lines) faults

-- The faults of rows, in the order in which a report lists them. Faults that print the same line are listed once.
unfoldable pub row_faults : Rows → List RowFaultView
row_faults rows = listed_once [] (faults_by (events_of_modes (mode_names rows)) rows)
