-- Rows without faults are sound.
use Rattle.std.proofs.Common.{rules, ◌≡◌, ℕ, get_or, Bool, true, false, not, ◌||◌, List, [], ◌∷◌, ◌++◌, map, filter}
use Rattle.std.proofs.Common.{Option, Some, None, IfSome, is_some, unwrap_or, codes, refl, arith}
use Rattle.std.specs.{Option.is_none, List.{All, flat_map}}
use Rattle.std.proofs.lemmas.{Bool.{ltb-false, not-false, or_parts}, List.Elements.{All-nil, All-cons, All-weaker}}
use Rattle.mpf_tables.specs.SectionTables as tables
use Rattle.mpf_sections.specs.Rows.{WrittenName, Coil, CoilItem, CoilPlayer, VariablePlayer, Shot, ShotGroup}
use Rattle.mpf_sections.specs.{Rows.{BallDeviceEntry, SectionRows}, TypedShots.{shots_in, shot_groups_in}}
use Rattle.mpf_sections.specs.{Typed.{entries_in, timers_in}, TypedBalls.ball_devices_in}
use Rattle.mpf_sections.specs.TypedCoils.{coils_in, coil_players_in}
use Rattle.mpf_sections.specs.{CoilRules.{CoilRule, coil_rule_of}, TypedGame.variable_players_in}
use Rattle.row_faults.specs.VariableFaults.{is_barred, variable_player_faults, variable_faults}
use Rattle.mpf_sections.specs.Short.{IsCoilInRange, IsItemInRange, IsCoilPlayerInRange}
use Rattle.mpf_sections.proofs.CoilRows.{coils_in_range, coil_players_in_range}
use Rattle.mpf_config.specs.{Rows.{ModeRows, Rows}, BundleText.{machine_name, mode_text_name}}
use Rattle.machine_definitions.specs.Definitions.{coil_called, has_switch, ball_devices_of}
use Rattle.machine_definitions.{specs.Shots.{shot_called, has_profile}, proofs.Called.called-such}
use Rattle.row_faults.specs.{FaultView.RowFaultView, declared.fault.RowFaultKind.TheVariants.Name}
use Rattle.row_faults.specs.CoilFaults.{named_switch_faults, rule_faults}
use Rattle.row_faults.specs.Reserved.{events_of_modes, mode_names, is_reserved_by, posts_in, posts_of, reserved_among}
use Rattle.row_faults.specs.CoilFaults.{fault_if, coil_name_faults, switch_name_faults, coil_faults, item_faults_by}
use Rattle.row_faults.specs.CoilFaults.{item_faults, coil_player_faults, hold_faults_by, hold_faults, coil_rule_faults}
use Rattle.row_faults.specs.RowFaults.{name_fault, starts_at_end, timer_fault, coil_faults_in, section_faults}
use Rattle.row_faults.specs.RowFaults.{written_faults, text_faults, mode_faults, is_none_taken, faults_by, row_faults}
use Rattle.row_faults.specs.BallFaults.{is_place, eject_coil_faults, target_faults, ball_device_faults, route_faults}
use Rattle.row_faults.specs.ShotFaults.{profile_faults, shot_faults, ListedShot, first_shot}
use Rattle.row_faults.specs.ShotFaults.{listed_by, listed_in, listed_of, is_own_shot, are_of_two_profiles, is_misplaced}
use Rattle.row_faults.specs.ShotFaults.{taken_with, taken_after, kept_if, faulty_shots}
use Rattle.row_faults.specs.Sound.{ChangesNothingBarred, IsHoldWithin, IsCoilSound, IsCoilSuch, IsItemSound}
use Rattle.row_faults.specs.Sound.{IsCoilPlayerSound, IsCoilRuleSound, IsShotSound}
use Rattle.row_faults.specs.Sound.{IsShotGroupSound, IsBallDeviceSound, IsSectionSound, IsSound}
use Rattle.row_faults.proofs.None.{fault_if-none, map-none, append-none, flat_map-none, filter-none, ordered-none}
use Rattle.row_faults.proofs.{None.once-none, Routed.route_faults-none}
use Rattle.row_faults.proofs.{AsWritten.{order-none, written-none}, Called.{machine-called, mode-called}}
use Rattle.yaml_bytes.proofs.Each.{or_else, All-flat_map, All-from_flat_map, All-from_map}

-- ---- settings

-- a setting that is none
abbrev no_part : List ℕ × List RowFaultView
no_part = ([], [])

-- ---- switches

switch-sound : (machine : List SectionRows) (text : List ℕ) (w : WrittenName) → switch_name_faults machine text w ≡ []
    → has_switch machine w.text ≡ true
switch-sound machine text w e = not-false (has_switch machine w.text) (fault_if-none _ Name text w e)

named_switch-sound : (machine : List SectionRows) (text : List ℕ) (o : Option WrittenName)
    → named_switch_faults machine text o ≡ [] → IfSome o (λ w. has_switch machine w.text ≡ true)
named_switch-sound machine text x1 e = search (rules, switch-sound)

-- ---- coils

coil-sound : (text : List ℕ) (c : Coil) → IsCoilInRange c → coil_faults text c ≡ [] → IsCoilSound c
coil-sound text c range e = search rules

module _ (machine : List SectionRows) (all : All IsCoilSound (flat_map coils_in machine)) (text : List ℕ) where
  sound : (name : List ℕ) (c : Coil) → coil_called machine name ≡ Some c → IsCoilSound c
  sound name c is = called-such IsCoilSound machine name c all is

  -- ---- names

  named-sound : (w : WrittenName) → coil_name_faults machine text w ≡ [] → IsCoilSuch machine w.text IsCoilSound
  named-sound w e = by (coil_called machine w.text) refl e
    where
      by : (o : Option Coil) → coil_called machine w.text ≡ o → fault_if (is_none o) Name text w ≡ []
          → IsCoilSuch machine w.text IsCoilSound
      by x1 is e = search (rules, sound)

  -- ---- coil players

  item-sound : (i : CoilItem) → IsItemInRange i → item_faults machine text i ≡ [] → IsItemSound machine i
  item-sound i range e = by (coil_called machine i.coil.text) refl e
    where
      by : (o : Option Coil) → coil_called machine i.coil.text ≡ o → item_faults_by text i o ≡ []
          → IsItemSound machine i
      by x1 is e = search (rules, append-none, or_parts, fault_if-none, rules, or_else, not-false, sound, ltb-false)

  player-sound : (p : CoilPlayer) → IsCoilPlayerInRange p → coil_player_faults machine text p ≡ []
      → IsCoilPlayerSound machine p
  player-sound p range e = let none = flat_map-none (item_faults machine text) p.items e
      in λ i d within. item-sound (get_or p.items i d) (range i d within) (none i d within)

  -- ---- coil rules

  hold-sound : (line : ℕ) (o : Option WrittenName) → hold_faults machine text line o ≡ []
      → IfSome o (λ w. IsCoilSuch machine w.text (λ c. IsHoldWithin c c.hold_power))
  hold-sound line None e = tt
  hold-sound line (Some w) e = by (coil_called machine w.text) refl e
    where
      by : (o : Option Coil) → coil_called machine w.text ≡ o → hold_faults_by text line w o ≡ []
          → IsCoilSuch machine w.text (λ c. IsHoldWithin c c.hold_power)
      by x1 is e = search (rules, not-false, fault_if-none, sound)

  coil_rule-sound : (r : CoilRule) → coil_rule_faults machine text r ≡ [] → IsCoilRuleSound machine r
  coil_rule-sound r e =
      let parts = (r.form.coil, coil_name_faults machine text r.coil)
      ∷ (unwrap_or r.form.hold_coil 0, hold_faults machine text r.name.line r.hold_coil)
      ∷ (unwrap_or r.form.switch 0, named_switch_faults machine text r.switch) ∷ [] in
      let none = order-none r.order parts e in
      record {
        coil = named-sound r.coil (none 0 (0, []) (omega arith));
        hold_coil = hold-sound r.name.line r.hold_coil (none 1 (0, []) (omega arith));
        switch = named_switch-sound machine text r.switch (none 2 (0, []) (omega arith));
      }

  rule-sound : (o : Option CoilRule) → rule_faults machine text o ≡ [] → IfSome o (IsCoilRuleSound machine)
  rule-sound None e = tt
  rule-sound (Some r) e = coil_rule-sound r e

  -- ---- ball devices

  eject-sound : (o : Option WrittenName) → eject_coil_faults machine text o ≡ []
      → IfSome o (λ w. IsCoilSuch machine w.text IsCoilSound)
  eject-sound x1 e = search (rules, named-sound)

  ball_device-sound : (d : BallDeviceEntry) → ball_device_faults machine text d ≡ [] → IsBallDeviceSound machine d
  ball_device-sound d e =
      let switches = flat_map (switch_name_faults machine text) d.switches in
      let parts = (codes "ball_switches", switches) ∷ (codes "eject_coil", eject_coil_faults machine text d.eject_coil)
      ∷ (codes "eject_targets", target_faults machine text d.target) ∷ [] in
      let none = written-none tables.ball_devices d.order parts e in
      let each = flat_map-none (switch_name_faults machine text) d.switches (none 0 no_part (omega arith)) in
      record {
        switches = λ i x within. switch-sound machine text (get_or d.switches i x) (each i x within);
        eject_coil = eject-sound d.eject_coil (none 1 no_part (omega arith));
        target = not-false (is_place machine d.target.text)
            (fault_if-none _ Name text d.target (none 2 no_part (omega arith)));
      }

-- ---- shots, and the shots that groups list

shot-sound : (rows : Rows) (text : List ℕ) (s : Shot) → shot_faults rows text s ≡ [] → IsShotSound rows s
shot-sound rows text s e =
    let parts = (codes "switch", named_switch_faults rows.machine text s.switch)
    ∷ (codes "profile", profile_faults rows text s.profile) ∷ [] in
    let none = written-none tables.shots s.order parts e in
    record {
      switch = named_switch-sound rows.machine text s.switch (none 0 no_part (omega arith));
      profile = not-false (has_profile rows s.profile.text)
          (fault_if-none _ Name text s.profile (none 1 no_part (omega arith)));
    }

kept-none : (b : Bool) (w : WrittenName) (ws : List WrittenName) → kept_if b w ws ≡ [] → (b ≡ false) × (ws ≡ [])
kept-none x1 w ws e = search rules

-- groups in which no name is misplaced list shots of their own text
listed-own : (rows : Rows) (is_own is_taken : List ℕ → Bool) (ls : List ListedShot)
    → faulty_shots rows is_own is_taken ls ≡ [] → All (λ l. is_own l.shot.text ≡ true) ls
listed-own rows is_own is_taken [] e = All-nil (λ l. is_own l.shot.text ≡ true)
listed-own rows is_own is_taken (l ∷ ls) e =
    let both = kept-none (is_misplaced rows is_own is_taken l) l.shot
    (faulty_shots rows is_own (taken_with l is_taken) ls) e in
    let front = or_parts (not (is_own l.shot.text) || is_taken l.shot.text)
    (are_of_two_profiles l.first (shot_called rows l.shot.text)) both.0 in
    let other = or_parts (not (is_own l.shot.text)) (is_taken l.shot.text) front.0 in
    All-cons (λ l. is_own l.shot.text ≡ true) l ls (not-false (is_own l.shot.text) other.0)
    (listed-own rows is_own (taken_with l is_taken) ls both.1)

module _ (rows : Rows) (is_own : List ℕ → Bool)
    (called : (name : List ℕ) → is_own name ≡ true → is_some (shot_called rows name) ≡ true) where
  group-sound : (g : ShotGroup) → All (λ l. is_own l.shot.text ≡ true) (listed_by rows g) → IsShotGroupSound rows g
  group-sound g own =
      All-weaker (λ w. is_own w.text ≡ true) (λ w. is_some (shot_called rows w.text) ≡ true) (λ w e. called w.text e)
      g.shots
      (All-from_map (λ l. is_own l.shot.text ≡ true) (λ w. record { first = first_shot rows g.shots; shot = w }) g.shots
      own)

  groups-sound : (s : SectionRows) → All (λ l. is_own l.shot.text ≡ true) (listed_in rows s)
      → All (IsShotGroupSound rows) (shot_groups_in s)
  groups-sound s own =
      All-weaker (λ g. All (λ l. is_own l.shot.text ≡ true) (listed_by rows g)) (IsShotGroupSound rows) group-sound
      (shot_groups_in s)
      (All-from_flat_map (λ l. is_own l.shot.text ≡ true) (listed_by rows) (shot_groups_in s) own)

-- ---- sections

module _ (modes : List (List ℕ)) (rows : Rows) (is_own : List ℕ → Bool) (text : List ℕ) where
  -- of a section without faults the parts are none, and its groups list shots of its own text
  record HasNone (s : SectionRows) : Type 0 where
    pub posts : reserved_among modes (posts_in s) ≡ []
    pub variables : All (λ p. variable_player_faults modes text p ≡ []) (variable_players_in s)
    pub coils : All (λ c. coil_faults text c ≡ []) (coils_in s)
    pub players : All (λ p. coil_player_faults rows.machine text p ≡ []) (coil_players_in s)
    pub rules : All (λ e. rule_faults rows.machine text (coil_rule_of s.name e) ≡ []) (entries_in s.content)
    pub devices : All (λ d. ball_device_faults rows.machine text d ≡ []) (ball_devices_in s)
    pub shots : All (λ t. shot_faults rows text t ≡ []) (shots_in s)
    pub listed : All (λ l. is_own l.shot.text ≡ true) (listed_in rows s)

  section-none : (is_taken : List ℕ → Bool) (s : SectionRows) → section_faults modes rows is_own is_taken text s ≡ []
      → HasNone s
  section-none is_taken s e =
      let machine = rows.machine in
      let posts = map (name_fault text) (reserved_among modes (posts_in s)) in
      let coils = flat_map (coil_faults text) (coils_in s) in
      let players = flat_map (coil_player_faults machine text) (coil_players_in s) in
      let rules = flat_map (λ e. rule_faults machine text (coil_rule_of s.name e)) (entries_in s.content) in
      let variables = variable_faults modes text s in
      let devices = flat_map (ball_device_faults machine text) (ball_devices_in s) in
      let shots = flat_map (shot_faults rows text) (shots_in s) in
      let names = faulty_shots rows is_own is_taken (listed_in rows s) in
      let all = append-none (((((posts ++ variables) ++ coil_faults_in machine text s) ++ devices) ++ shots)
      ++ map (name_fault text) names) (map (timer_fault text) (filter starts_at_end (timers_in s))) e in
      let most = append-none ((((posts ++ variables) ++ coil_faults_in machine text s) ++ devices) ++ shots)
      (map (name_fault text) names) all.0 in
      let more = append-none (((posts ++ variables) ++ coil_faults_in machine text s) ++ devices) shots most.0 in
      let rest = append-none ((posts ++ variables) ++ coil_faults_in machine text s) devices more.0 in
      let front = append-none (posts ++ variables) (coil_faults_in machine text s) rest.0 in
      let events = append-none posts variables front.0 in
      let last = append-none (coils ++ players) rules front.1 in
      let first = append-none coils players last.0 in
      record {
        posts = map-none (name_fault text) (reserved_among modes (posts_in s)) events.0;
        variables = flat_map-none (variable_player_faults modes text) (variable_players_in s) events.1;
        coils = flat_map-none (coil_faults text) (coils_in s) first.0;
        players = flat_map-none (coil_player_faults machine text) (coil_players_in s) first.1;
        rules = flat_map-none (λ e. rule_faults machine text (coil_rule_of s.name e)) (entries_in s.content) last.1;
        devices = flat_map-none (ball_device_faults machine text) (ball_devices_in s) rest.1;
        shots = flat_map-none (shot_faults rows text) (shots_in s) more.1;
        listed = listed-own rows is_own is_taken (listed_in rows s) (map-none (name_fault text) names most.1);
      }

  coils-sound : (s : SectionRows) → HasNone s → All IsCoilSound (coils_in s)
  coils-sound s h = λ i d within. coil-sound text (get_or (coils_in s) i d) (coils_in_range s i d within)
      (h.coils i d within)

  section-sound : All IsCoilSound (flat_map coils_in rows.machine)
      → ((name : List ℕ) → is_own name ≡ true → is_some (shot_called rows name) ≡ true) → (s : SectionRows) → HasNone s
      → IsSectionSound rows s
  section-sound all called s h =
      let machine = rows.machine in
      record {
        coils = coils-sound s h;
        coil_players = λ i d within. player-sound machine all text (get_or (coil_players_in s) i d)
            (coil_players_in_range s i d within) (h.players i d within);
        rules = λ i d within. rule-sound machine all text (coil_rule_of s.name (get_or (entries_in s.content) i d))
            (h.rules i d within);
        shots = λ i d within. shot-sound rows text (get_or (shots_in s) i d) (h.shots i d within);
        groups = groups-sound rows is_own called s h.listed;
        ball_devices = λ i d within. ball_device-sound machine all text (get_or (ball_devices_in s) i d)
            (h.devices i d within);
      }

  player-free : (p : VariablePlayer) → variable_player_faults modes text p ≡ []
      → All (λ item. is_barred modes item.variable.text ≡ false) p.items
  player-free p e = search (rules, All-weaker, fault_if-none, flat_map-none)

  section-free : (s : SectionRows) → HasNone s
      → All (λ p. All (λ item. is_barred modes item.variable.text ≡ false) p.items) (variable_players_in s)
  section-free s h =
      All-weaker (λ p. variable_player_faults modes text p ≡ [])
      (λ p. All (λ item. is_barred modes item.variable.text ≡ false) p.items) player-free (variable_players_in s)
      h.variables

  sections-none : (is_taken : List ℕ → Bool) (ss : List SectionRows)
      → written_faults modes rows is_own is_taken text ss ≡ [] → All HasNone ss
  sections-none is_taken [] e = All-nil HasNone
  sections-none is_taken (s ∷ ss) e =
      let later = taken_after is_taken (listed_in rows s) in
      let both = append-none (section_faults modes rows is_own is_taken text s)
      (written_faults modes rows is_own later text ss) e in
      All-cons HasNone s ss (section-none is_taken s both.0) (sections-none later ss both.1)

  -- no post of the sections is reserved
  text-free : (sections : List SectionRows) → All HasNone sections
      → All (λ w. is_reserved_by modes w.text ≡ false) (posts_of sections)
  text-free sections h =
      All-flat_map (λ w. is_reserved_by modes w.text ≡ false) posts_in sections
      (All-weaker HasNone (λ s. All (λ w. is_reserved_by modes w.text ≡ false) (posts_in s))
      (λ s k. filter-none (λ w. is_reserved_by modes w.text) (posts_in s) k.posts) sections h)

-- ---- all texts

module _ (modes : List (List ℕ)) (rows : Rows) where
  -- no section of a text has faults
  abbrev TextHasNone : List ℕ → List SectionRows → Type 0
  TextHasNone text sections = All (HasNone modes rows (is_own_shot sections) text) sections

  -- of a text without faults neither its sections have any, nor the ways of balls
  all-none : (is_taken : List ℕ → Bool) (text : List ℕ) (sections : List SectionRows)
      → text_faults modes rows is_taken text sections ≡ []
      → (written_faults modes rows (is_own_shot sections) is_taken text sections ≡ [])
      × (route_faults text (ball_devices_of sections) ≡ [])
  all-none is_taken text sections e = search (rules, append-none, ordered-none)

  text-none : (is_taken : List ℕ → Bool) (text : List ℕ) (sections : List SectionRows)
      → text_faults modes rows is_taken text sections ≡ [] → TextHasNone text sections
  text-none is_taken text sections e =
      let both = all-none is_taken text sections e
      in sections-none modes rows (is_own_shot sections) text is_taken sections both.0

  abbrev ModeHasNone : ModeRows → Type 0
  ModeHasNone m = TextHasNone (mode_text_name m.name) m.sections

  modes-none : (is_taken : List ℕ → Bool) (ms : List ModeRows) → mode_faults modes rows is_taken ms ≡ []
      → All ModeHasNone ms
  modes-none is_taken [] e = All-nil ModeHasNone
  modes-none is_taken (m ∷ ms) e =
      let later = taken_after is_taken (listed_of rows m.sections) in
      let both = append-none (text_faults modes rows is_taken (mode_text_name m.name) m.sections)
      (mode_faults modes rows later ms) e in
      All-cons ModeHasNone m ms (text-none is_taken (mode_text_name m.name) m.sections both.0)
      (modes-none later ms both.1)

  text-sound : All IsCoilSound (flat_map coils_in rows.machine) → (text : List ℕ) (sections : List SectionRows)
      → ((name : List ℕ) → is_own_shot sections name ≡ true → is_some (shot_called rows name) ≡ true)
      → TextHasNone text sections
      → All (IsSectionSound rows) sections
  text-sound all text sections called h = search (rules, All-weaker, section-sound)

  text-changes : (text : List ℕ) (sections : List SectionRows) → TextHasNone text sections
      → All (λ s. All (λ p. All (λ item. is_barred modes item.variable.text ≡ false) p.items) (variable_players_in s))
      sections
  text-changes text sections h =
      All-weaker (HasNone modes rows (is_own_shot sections) text)
      (λ s. All (λ p. All (λ item. is_barred modes item.variable.text ≡ false) p.items) (variable_players_in s))
      (section-free modes rows (is_own_shot sections) text) sections h

pub no_faults_sound : (rows : Rows) → row_faults rows ≡ [] → IsSound rows
unfolding row_faults
no_faults_sound rows none =
    let modes = events_of_modes (mode_names rows) in
    let machine = rows.machine in
    let later = taken_after is_none_taken (listed_of rows machine) in
    let parts = append-none (text_faults modes rows is_none_taken machine_name machine)
    (mode_faults modes rows later rows.modes) (once-none (faults_by modes rows) none) in
    let own : TextHasNone modes rows machine_name machine =
    text-none modes rows is_none_taken machine_name machine parts.0 in
    let each : All (ModeHasNone modes rows) rows.modes = modes-none modes rows later rows.modes parts.1 in
    let text_of = λ (m : ModeRows). mode_text_name m.name in
    let all = All-flat_map IsCoilSound coils_in machine
    (All-weaker (HasNone modes rows (is_own_shot machine) machine_name) (λ s. All IsCoilSound (coils_in s))
    (coils-sound modes rows (is_own_shot machine) machine_name) machine own) in
    record {
      posts = record {
        machine = text-free modes rows (is_own_shot machine) machine_name machine own;
        modes = All-weaker (ModeHasNone modes rows)
            (λ m. All (λ w. is_reserved_by modes w.text ≡ false) (posts_of m.sections))
            (λ m h. text-free modes rows (is_own_shot m.sections) (text_of m) m.sections h) rows.modes each;
      };
      changes = text-changes modes rows machine_name machine own;
      mode_changes = All-weaker (ModeHasNone modes rows) (λ m. All (ChangesNothingBarred rows) m.sections)
          (λ m h. text-changes modes rows (text_of m) m.sections h) rows.modes each;
      machine = text-sound modes rows all machine_name machine (λ name. machine-called name rows) own;
      balls = let both = all-none modes rows is_none_taken machine_name machine parts.0
          in route_faults-none machine_name (ball_devices_of machine) both.1;
      modes = λ i d within. text-sound modes rows all (text_of (get_or rows.modes i d)) (get_or rows.modes i d).sections
          (λ name. mode-called name rows i d within) (each i d within);
    }
