-- The faults of rows, as they are found.
use Rattle.std.proofs.Common.{rules, ◌≡◌, ◌≢◌, ℕ, Bool, true, false, not, ◌||◌, List, [], ◌∷◌, ◌++◌, map, codes}
use Rattle.std.proofs.Common.{append_assoc, refl, sym, ap, ◌∙◌}
use Rattle.std.specs.{List.{list_any, filter, flat_map}, Ordering.nat_cmp, BTreeMap.is_at}
use Rattle.std.specs.{Global.Vec, Str.bytes_eq, Cmp.Lexicographic.slice_cmp}
use Rattle.std.proofs.lemmas.{Bool.{not-true, not-false}, List.{map-append, Folds.list_any-append}}
use Rattle.std.proofs.lemmas.{Slice.Eq.bytes_eq-Decides, Map.Text.is_eq-slice_cmp}
use Rattle.yaml_subset.{specs.Keys.is_among, proofs.KeySets.turned}
use Rattle.row_faults.specs.declared.fault.{RowFault.RowFault, RowFaultKind.TheVariants.Name}
use Rattle.row_faults.specs.{FaultView.RowFaultView, CoilFaults.fault_if, View.{row_fault_view, row_faults_view}}
use Rattle.row_faults.specs.{FaultText.row_fault_line, BallFaults.ball_device_faults}
use Rattle.mpf_sections.specs.{Rows.{SectionRows, VariableItem, VariablePlayer}, Typed.timers_in, TypedShots.shots_in}
use Rattle.mpf_config.specs.Rows.{ModeRows, Rows}
use Rattle.mpf_sections.specs.{TypedGame.variable_players_in, TypedBalls.ball_devices_in}
use Rattle.machine_definitions.specs.{GameEvents.reserved_game_events, Players.{player_event, is_set_by_game}}
use Rattle.row_faults.specs.Reserved.{mode_events, events_of_modes, posts_in}
use Rattle.row_faults.specs.RowFaults.{name_fault, starts_at_end, timer_fault, coil_faults_in, section_faults}
use Rattle.row_faults.specs.RowFaults.{written_faults, text_faults, mode_faults, faults_by, listed_once}
use Rattle.row_faults.specs.ShotFaults.{shot_faults, listed_in, faulty_shots}

-- ---- sets

-- whether a set has an event that begins as those of modes do
pub has_event : (keys : List (Vec ℕ)) (rest : List ℕ)
    → list_any (λ (k : Vec ℕ). is_at (slice_cmp nat_cmp rest) k.items) keys
    ≡ is_among (map (λ (k : Vec ℕ). codes "mode_" ++ k.items) keys) (codes "mode_" ++ rest)
has_event [] rest = refl
has_event (k ∷ keys) rest = rw (is_eq-slice_cmp rest k.items, turned k.items rest, has_event keys rest) refl

-- no other name is in it
pub no_event : (keys : List (Vec ℕ)) (name : List ℕ) → ((rest : List ℕ) → name ≢ codes "mode_" ++ rest)
    → is_among (map (λ (k : Vec ℕ). codes "mode_" ++ k.items) keys) name ≡ false
no_event [] name other = refl
no_event (k ∷ keys) name other = search (rules, bytes_eq-Decides, no_event keys name other)

-- one name more
pub took-name : (name : List ℕ) (keys older new : List (List ℕ)) → ((q : List ℕ) → is_among keys q ≡ is_among older q)
    → ((q : List ℕ) → is_among new q ≡ is_among (name ∷ keys) q)
    → (q : List ℕ) → is_among new q ≡ is_among (name ∷ older) q
took-name name keys older new same took q = took q ∙ ap (λ (b : Bool). bytes_eq name q || b) (same q)

-- ---- once each

-- which lines there were matters, and not in which order
abbrev pub SameLines : List (List ℕ) → List (List ℕ) → Type 0
SameLines lines others = (q : List ℕ) → is_among lines q ≡ is_among others q

same_step : (lines others : List (List ℕ)) (line : List ℕ) → SameLines lines others
    → SameLines (line ∷ lines) (line ∷ others)
same_step lines others line h q = ap (λ (b : Bool). bytes_eq line q || b) (h q)

pub same_lines : (lines others : List (List ℕ)) (faults : List RowFaultView) → SameLines lines others
    → listed_once lines faults ≡ listed_once others faults
same_lines lines others [] h = refl
same_lines lines others (f ∷ fs) h =
    rw (
      h (row_fault_line f),
      same_lines lines others fs h,
      same_lines (row_fault_line f ∷ lines) (row_fault_line f ∷ others) fs
          (same_step lines others (row_fault_line f) h),
    ) refl

module _ (lines known : List (List ℕ)) (fault : RowFaultView) (rest : List RowFaultView) (fresh : Bool)
    (is : fresh ≡ not (is_among lines (row_fault_line fault)))
    (knows : (q : List ℕ) → is_among known q ≡ (bytes_eq (row_fault_line fault) q || is_among lines q)) where
  -- a fault whose line is new
  pub once-new : fresh ≡ true → listed_once lines (fault ∷ rest) ≡ fault ∷ listed_once known rest
  once-new new = search (rules, not-true, same_lines)

  -- a fault whose line was there
  pub once-again : fresh ≡ false → listed_once lines (fault ∷ rest) ≡ listed_once known rest
  once-again old =
      let there : is_among lines (row_fault_line fault) ≡ true =
      not-false (is_among lines (row_fault_line fault)) (sym is ∙ old) in
      rw there (sym (same_lines known lines rest (λ q. knows q ∙ again q there)))
    where
      again : (q : List ℕ) → is_among lines (row_fault_line fault) ≡ true
          → (bytes_eq (row_fault_line fault) q || is_among lines q) ≡ is_among lines q
      again q there = search rules

-- ---- the faults that are listed, and those that are left

module _ (lines known : List (List ℕ)) (fault : RowFault) (old new before : List RowFault) (fresh : Bool)
    (next : old ≡ fault ∷ new) (is : fresh ≡ not (is_among lines (row_fault_line (row_fault_view fault))))
    (knows : (q : List ℕ) → is_among known q
    ≡ (bytes_eq (row_fault_line (row_fault_view fault)) q || is_among lines q)) where
  pub lists-new : (after : List RowFault) → after ≡ before ++ fault ∷ [] → fresh ≡ true
      → row_faults_view after ++ listed_once known (row_faults_view new)
      ≡ row_faults_view before ++ listed_once lines (row_faults_view old)
  lists-new after more holds =
      ap (λ (fs : List RowFault). row_faults_view fs ++ listed_once known (row_faults_view new)) more
      ∙ ap (λ (vs : List RowFaultView). vs ++ listed_once known (row_faults_view new))
      (map-append row_fault_view before (fault ∷ []))
      ∙ append_assoc (row_faults_view before) (row_fault_view fault ∷ []) (listed_once known (row_faults_view new))
      ∙ ap (λ (vs : List RowFaultView). row_faults_view before ++ vs)
      (sym (once-new lines known (row_fault_view fault) (row_faults_view new) fresh is knows holds)
      ∙ ap (λ (fs : List RowFault). listed_once lines (row_faults_view fs)) (sym next))

  pub lists-again : fresh ≡ false → row_faults_view before ++ listed_once known (row_faults_view new)
      ≡ row_faults_view before ++ listed_once lines (row_faults_view old)
  lists-again fails =
      ap (λ (vs : List RowFaultView). row_faults_view before ++ vs)
      (sym (once-again lines known (row_fault_view fault) (row_faults_view new) fresh is knows fails)
      ∙ ap (λ (fs : List RowFault). listed_once lines (row_faults_view fs)) (sym next))

-- ---- the faults of all texts, by a test of names

-- the names of variables that may not be changed
abbrev barred_by : (List ℕ → Bool) → List ℕ → Bool
barred_by test v = is_set_by_game v || (is_among reserved_game_events (player_event v) || test (player_event v))

abbrev variables_by : (List ℕ → Bool) → List ℕ → SectionRows → List RowFaultView
variables_by test text s = flat_map (λ (p : VariablePlayer). flat_map
    (λ (i : VariableItem). fault_if (barred_by test i.variable.text) Name text i.variable) p.items)
    (variable_players_in s)

abbrev section_by : (List ℕ → Bool) → Rows → (is_own is_taken : List ℕ → Bool) → List ℕ → SectionRows
    → List RowFaultView
section_by test rows is_own is_taken text s =
    map (name_fault text) (filter (λ w. is_among reserved_game_events w.text || test w.text) (posts_in s))
    ++ variables_by test text s
    ++ coil_faults_in rows.machine text s
    ++ flat_map (ball_device_faults rows.machine text) (ball_devices_in s)
    ++ flat_map (shot_faults rows text) (shots_in s)
    ++ map (name_fault text) (faulty_shots rows is_own is_taken (listed_in rows s))
    ++ map (timer_fault text) (filter starts_at_end (timers_in s))

-- only what is among the events of modes matters
module _ (modes others : List (List ℕ)) (rows : Rows) (same : (q : List ℕ) → is_among modes q ≡ is_among others q) where
  same_section : (is_own is_taken : List ℕ → Bool) (text : List ℕ) (s : SectionRows)
      → section_faults modes rows is_own is_taken text s ≡ section_faults others rows is_own is_taken text s
  same_section is_own is_taken text s = ap (λ (test : List ℕ → Bool). section_by test rows is_own is_taken text s)
      (λ i q. same q i)

  same_written : (is_own is_taken : List ℕ → Bool) (text : List ℕ) (ss : List SectionRows)
      → written_faults modes rows is_own is_taken text ss ≡ written_faults others rows is_own is_taken text ss
  same_written is_own is_taken text x4 = search (rules, same_section)

  same_text : (is_taken : List ℕ → Bool) (text : List ℕ) (sections : List SectionRows)
      → text_faults modes rows is_taken text sections ≡ text_faults others rows is_taken text sections
  same_text is_taken text sections = search (rules, same_written)

  same_modes : (is_taken : List ℕ → Bool) (ms : List ModeRows)
      → mode_faults modes rows is_taken ms ≡ mode_faults others rows is_taken ms
  same_modes is_taken x2 = search (rules, same_text)

  pub same_faults : faults_by modes rows ≡ faults_by others rows
  same_faults = search (rules, same_text, same_modes)

-- ---- the events of modes, of two lists of names

events-append : (names more : List (List ℕ))
    → events_of_modes (names ++ more) ≡ events_of_modes names ++ events_of_modes more
events-append [] more = refl
events-append (n ∷ names) more = ap (λ (es : List (List ℕ)). mode_events n ++ es) (events-append names more)
    ∙ sym (append_assoc (mode_events n) (events_of_modes names) (events_of_modes more))

pub joined-events : (names more keys : List (List ℕ)) (q : List ℕ)
    → is_among keys q ≡ is_among (events_of_modes names) q
    → is_among (keys ++ events_of_modes more) q ≡ is_among (events_of_modes (names ++ more)) q
joined-events names more keys q same = search (rules, list_any-append, events-append)
