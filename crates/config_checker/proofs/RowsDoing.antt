-- What sound rows do: they post nothing reserved, by a variable neither, each deed is within the limits of its coil,
-- each switch to which a device listens or which a shot has is defined, and so is each profile, each shot that a group
-- lists, and each target of a ball device; and no ball device has a ball switch twice.
use Rattle.std.proofs.Common.{rules, ◌≡◌, ◌≢◌, ℕ, suc, Bool, true, false, ◌||◌, if◌then◌else◌, List, [], ◌∷◌, ◌++◌, map}
use Rattle.std.proofs.Common.{fold, get_or, codes, refl, sym, true≢false, arith, length-append}
use Rattle.std.specs.Prelude.{Option, Some, None, IfSome, is_some}
use Rattle.std.proofs.lemmas.{List.{get_or_append_left, Elements.All-from_recursion}, Bool.or_parts}
use Rattle.std.specs.{Str.bytes_eq, List.{All, AllPairs, flat_map, list_any}}
use Rattle.std.proofs.lemmas.List.Elements.{All-nil, All-cons, All-append, All-map, All-weaker, All-from_get_or}
use Rattle.mpf_sections.specs.Rows.{WrittenName, Entry, Switch, CoilPlayer, VariablePlayer, BlockEvents, Shot}
use Rattle.mpf_sections.specs.Rows.{ShotGroup, BallDeviceEntry, SectionRows}
use Rattle.mpf_sections.specs.{TypedGame.variable_players_in, Typed.{accruals_in, sequences_in}}
use Rattle.mpf_sections.specs.{CoilRules.{CoilRule, coil_rule_of}, TypedShots.{shots_in, shot_groups_in}}
use Rattle.mpf_sections.specs.{TypedBalls.ball_devices_in, TypedCoils.coil_players_in}
use Rattle.machine_definitions.specs.{Players.player_event, Shots.Profile}
use Rattle.mpf_config.specs.Rows.{Rows}
use Rattle.mpf_sections.specs.Typed.{counters_name, accruals_name, sequences_name, timers_name, counter_of}
use Rattle.mpf_sections.specs.Typed.{step_block_of, timer_of, entries_in, switches_in, event_players_in, counters_in}
use Rattle.mpf_sections.specs.TypedSaves.{ball_saves_name, multiballs_name, ball_save_of, multiball_of}
use Rattle.machine_settings.specs.declared.settings.StepSettings.{StepSettings}
use Rattle.plan_tables.specs.declared.devices.Settings.{Settings}
use Rattle.plan_tables.specs.declared.devices.Settings.TheVariants as kinds
use Rattle.machine_definitions.specs.Definitions.{has_switch, ball_devices_of, latest_ball_device}
use Rattle.plan_parts.specs.Effects.{Effect, posts, works, changes, enters, leaves, loses, arrives}
use Rattle.plan_parts.specs.DeviceEntries.{texts, Device, counter_device, step_device, step_settings, timer_device}
use Rattle.plan_parts.specs.DeviceEntries.{device_of, block_event, or_own, block_lists, timer_lists}
use Rattle.plan_parts.{specs.CoilEntries.{item_effect, rule_device_of}, proofs.SaveFacts.{all_save, all_multiball}}
use Rattle.plan_parts.specs.{Parts.tag_event, Doing.{IsMachineDoing, AreDoing}}
use Rattle.plan_parts.specs.BallEntries.{drains, ball_event, eject_pulse, ball_lists}
use Rattle.plan_parts.specs.SaveEntries.{save_device, multiball_device, save_device_of}
use Rattle.plan_parts.specs.ShotEntries.{shot_events, group_events, shot_lists, state_lists, group_lists}
use Rattle.plan_rows.specs.Members.{members_of}
use Rattle.plan_parts.specs.Doing.{IsSwitchDoing, IsPlayerDoing, IsEntryDoing, IsCoilPlayerDoing, IsVariablePlayerDoing}
use Rattle.plan_parts.specs.Doing.{IsShotDoing, IsShotGroupDoing, has_target, IsBallDeviceDoing, IsDoing}
use Rattle.row_faults.specs.Reserved.{is_reserved, switch_posts, player_posts, counter_posts, step_posts, posts_in}
use Rattle.row_faults.specs.{Reserved.posts_of, BallFaults.is_place, Routes.switch_names}
use Rattle.row_faults.specs.Sound.{ChangesNothingBarred, IsChangeFree, IsItemSound, IsCoilSound, IsCoilSuch}
use Rattle.row_faults.specs.Sound.{IsCoilPlayerSound, IsCoilRuleSound, IsShotSound, IsShotGroupSound}
use Rattle.row_faults.specs.Sound.{IsBallDeviceSound, IsSectionSound, IsSound}
use Rattle.row_faults.proofs.AsWritten.{switch-posts, counter-posts, step-posts}
use Rattle.config_checker.proofs.FreeNames.{active-free, inactive-free, tag-free, block-free, timer-free, ball-free}
use Rattle.config_checker.proofs.FreeNames.{save-free, multiball-free, shot-free, group_hit-free, group_complete-free}
use Rattle.config_checker.proofs.CoilDeeds.{IsDeedSound, item_deed}
use Rattle.yaml_bytes.proofs.Each.{All-flat_map, All-parts, All-from_flat_map, All-from_map}

-- ---- parts of lists

-- two of the items that are made of one are two of all
first-pairs : {X : Type 0} (R : X → X → Type 0) (xs ys : List X) → AllPairs R (xs ++ ys) → AllPairs R xs
first-pairs R xs ys h i j d less within = search (rules, length-append, get_or, get_or_append_left)

rest-pairs : {X : Type 0} (R : X → X → Type 0) (xs ys : List X) → AllPairs R (xs ++ ys) → AllPairs R ys
rest-pairs R [] ys h = h
rest-pairs R (x ∷ xs) ys h = rest-pairs R xs ys
    (λ i j d less within. h (suc i) (suc j) d (omega (arith, less)) (omega (arith, within)))

pairs-each : {X Y : Type 0} (R : Y → Y → Type 0) (f : X → List Y) (xs : List X) → AllPairs R (flat_map f xs)
    → All (λ x. AllPairs R (f x)) xs
pairs-each R f [] h = All-nil (λ x. AllPairs R (f x))
pairs-each R f (x ∷ xs) h = All-cons (λ y. AllPairs R (f y)) x xs (first-pairs R (f x) (flat_map f xs) h)
    (pairs-each R f xs (rest-pairs R (f x) (flat_map f xs) h))

module _ (rows : Rows) where
  abbrev pub IsUnreserved : List ℕ → Type 0
  IsUnreserved name = is_reserved rows name ≡ false

  -- an effect posts nothing reserved, nor does the change of a variable, and its deed is within the limits of its coil
  abbrev pub IsFine : Effect → Type 0
  IsFine (posts n) = IsUnreserved n
  IsFine (works n deed) = IsDeedSound rows.machine n deed
  IsFine (changes v action n) = IsUnreserved (player_event v)
  IsFine (enters n drain) = IsUnreserved n
  IsFine _ = Unit {0}

  -- a switch to which a device listens is defined
  abbrev pub IsThere : List ℕ → Type 0
  IsThere n = has_switch rows.machine n ≡ true

  abbrev IsFreePost : WrittenName → Type 0
  IsFreePost w = IsUnreserved w.text

  written-free : (ws : List WrittenName) → All IsFreePost ws → All IsUnreserved (texts ws)
  written-free ws h = All-map IsUnreserved (λ (w : WrittenName). w.text) ws h

  -- ---- switches and players

  abbrev nothing_written : WrittenName
  nothing_written = record { line = 0; text = [] }

  tags-free : (tags : List WrittenName) → All IsUnreserved (map tag_event tags)
  tags-free tags = All-map IsUnreserved tag_event tags
      (All-from_get_or (λ t. IsUnreserved (tag_event t)) tags nothing_written
      (λ i inside. tag-free (get_or tags i nothing_written).text rows))

  switch-doing : (s : Switch) → All IsFreePost (switch_posts s) → IsSwitchDoing IsFine IsUnreserved IsThere s
  switch-doing s h =
      let parts = switch-posts IsFreePost s h in (
        All-cons IsUnreserved (s.name.text ++ codes "_active") (map tag_event s.tags ++ texts s.activation_events)
            (active-free s.name.text rows)
            (All-append IsUnreserved (map tag_event s.tags) (texts s.activation_events) (tags-free s.tags)
            (written-free s.activation_events parts.0)),
        All-cons IsUnreserved (s.name.text ++ codes "_inactive") (texts s.deactivation_events)
            (inactive-free s.name.text rows) (written-free s.deactivation_events parts.1),
      )

  coil_player-doing : (p : CoilPlayer) → IsCoilPlayerSound rows.machine p
      → IsCoilPlayerDoing IsFine IsUnreserved IsThere rows p
  coil_player-doing p h = All-weaker (IsItemSound rows.machine) (λ item. IsFine (item_effect rows.machine item))
      (λ item sound. item_deed rows.machine item sound) p.items h

  -- ---- variables

  variable_player-doing : (p : VariablePlayer) → All (IsChangeFree rows) p.items
      → IsVariablePlayerDoing IsFine IsUnreserved IsThere p
  variable_player-doing p h = search (rules, All-weaker, or_parts)

  -- ---- devices

  one : (e : Effect) → IsFine e → All IsFine (e ∷ [])
  one e h = All-cons IsFine e [] h (All-nil IsFine)

  -- what the effect lists of a block post
  block-lists : (name : List ℕ) (b : BlockEvents) → All IsFreePost b.hit × All IsFreePost b.complete
      → All (All IsFine) (block_lists name b)
  block-lists name b parts =
      let updated = posts (block_event name (codes "_updated")) ∷ [] in
      let hit = map posts (or_own b.hit (block_event name (codes "_hit"))) in
      let complete = map posts (or_own b.complete (block_event name (codes "_complete"))) in
      All-cons (All IsFine) updated (hit ∷ complete ∷ [])
      (one (posts (block_event name (codes "_updated"))) (block-free name (codes "_updated") rows))
      (All-cons (All IsFine) hit (complete ∷ [])
      (own_or b.hit (block_event name (codes "_hit")) (block-free name (codes "_hit") rows) parts.0)
      (All-cons (All IsFine) complete [] (own_or b.complete (block_event name (codes "_complete"))
      (block-free name (codes "_complete") rows) parts.1) (All-nil (All IsFine))))
    where
      own_or : (ws : List WrittenName) (own : List ℕ) → IsUnreserved own → All IsFreePost ws
          → All IsFine (map posts (or_own ws own))
      own_or [] own free h = one (posts own) free
      own_or (w ∷ ws) own free h = All-map IsFine posts (texts (w ∷ ws)) (written-free (w ∷ ws) h)

  timer-all : (name : List ℕ) → All (All IsFine) (timer_lists name)
  timer-all name = search (rules, All-map, one, get_or, timer-free)

  where_free : {X : Type 0} (posts_by : X → List WrittenName) (f : Entry → X) (b : Bool) (es : List Entry)
      → All IsFreePost (flat_map posts_by (map f (if b then es else []))) → b ≡ true
      → All (λ e. All IsFreePost (posts_by (f e))) es
  where_free posts_by f true es h is = All-from_map (λ x. All IsFreePost (posts_by x)) f es
      (All-from_flat_map IsFreePost posts_by (map f es) h)
  where_free posts_by f false es h is = absurd (true≢false (sym is))

  abbrev IsEntry : Option Device → Type 0
  IsEntry o = IsEntryDoing IsFine IsUnreserved IsThere o

  -- ball saves and multiballs post just events of their own
  saves-doing : (section : List ℕ) (e : Entry) → IsEntry (save_device_of section e)
  unfolding save_device_of
  saves-doing section e = by (bytes_eq section ball_saves_name) (bytes_eq section multiballs_name)
    where
      by : (b m : Bool) → IsEntry (if b then Some (save_device (ball_save_of e)) else
          (if m then Some (multiball_device (multiball_of e)) else None))
      by true m = search (rules, all_save, save-free, All-nil)
      by false true = search (rules, all_multiball, multiball-free, All-nil)
      by false false = tt

  -- the devices of a section that stand in any text
  entries-doing : (s : SectionRows) → All IsFreePost (flat_map counter_posts (counters_in s))
      → All IsFreePost (flat_map step_posts (accruals_in s)) → All IsFreePost (flat_map step_posts (sequences_in s))
      → All (λ e. IsEntry (device_of s.name e)) (entries_in s.content)
  unfolding counters_in accruals_in sequences_in device_of
  entries-doing s counters accruals sequences =
      by (bytes_eq s.name counters_name) (bytes_eq s.name accruals_name) (bytes_eq s.name sequences_name)
      (bytes_eq s.name timers_name)
      (where_free counter_posts counter_of (bytes_eq s.name counters_name) es counters)
      (where_free step_posts step_block_of (bytes_eq s.name accruals_name) es accruals)
      (where_free step_posts step_block_of (bytes_eq s.name sequences_name) es sequences)
    where
      es : List Entry
      es = entries_in s.content

      steps : (settings : StepSettings → Settings) (e : Entry) → All IsFreePost (step_posts (step_block_of e))
          → IsEntry (Some (step_device (settings (step_settings (step_block_of e))) (step_block_of e)))
      steps settings e h =
          record {
            lists = block-lists (step_block_of e).name.text (step_block_of e).block
                (step-posts IsFreePost (step_block_of e) h);
            listens = All-nil IsThere;
          }

      counter : (e : Entry) → All IsFreePost (counter_posts (counter_of e))
          → IsEntry (Some (counter_device (counter_of e)))
      counter e h =
          record {
            lists = block-lists (counter_of e).name.text (counter_of e).block
                (counter-posts IsFreePost (counter_of e) h);
            listens = All-nil IsThere;
          }

      by : (c a q t : Bool) → (c ≡ true → All (λ e. All IsFreePost (counter_posts (counter_of e))) es)
          → (a ≡ true → All (λ e. All IsFreePost (step_posts (step_block_of e))) es)
          → (q ≡ true → All (λ e. All IsFreePost (step_posts (step_block_of e))) es)
          → All (λ e. IsEntry (if c then Some (counter_device (counter_of e))
          else (if a then Some (step_device (kinds.Accrual (step_settings (step_block_of e))) (step_block_of e))
          else (if q then Some (step_device (kinds.Sequence (step_settings (step_block_of e))) (step_block_of e))
          else (if t then Some (timer_device (timer_of e)) else save_device_of s.name e))))) es
      by true a q t hc ha hq = search (rules, All-weaker, counter, es)
      by false true q t hc ha hq = All-weaker (λ e. All IsFreePost (step_posts (step_block_of e))) _
          (steps kinds.Accrual) es (ha refl)
      by false false true t hc ha hq = All-weaker (λ e. All IsFreePost (step_posts (step_block_of e))) _
          (steps kinds.Sequence) es (hq refl)
      by false false false true hc ha hq =
          λ i d within. record { lists = timer-all (timer_of (get_or es i d)).name.text; listens = All-nil IsThere }
      by false false false false hc ha hq = λ i d within. saves-doing s.name (get_or es i d)

  rules-doing : (o : Option CoilRule) → IfSome o (IsCoilRuleSound rows.machine)
      → IsEntryDoing IsFine IsUnreserved IsThere (rule_device_of rows.machine o)
  rules-doing x1 h = search (rules, All-cons, All-nil, one)

  -- ---- ball devices

  eject-doing : (o : Option WrittenName) → IfSome o (λ w. IsCoilSuch rows.machine w.text IsCoilSound)
      → All IsFine (eject_pulse rows.machine o)
  eject-doing x1 h = search (rules, All-nil, one)

  ball-lists : (d : BallDeviceEntry) → IsBallDeviceSound rows.machine d → All (All IsFine) (ball_lists rows.machine d)
  ball-lists d h =
      let name = d.name.text in
      let enter = ball_event name (codes "_ball_enter") in
      let attempt = ball_event name (codes "_ball_eject_attempt") in
      let ejecting = ball_event name (codes "_ejecting_ball") in
      let success = ball_event name (codes "_ball_eject_success") in
      let failed = ball_event name (codes "_ball_eject_failed") in
      let pulse = eject_pulse rows.machine d.eject_coil in
      All-from_recursion (All IsFine) (ball_lists rows.machine d) (
        one (enters enter (drains rows.machine d)) (ball-free name (codes "_ball_enter") rows),
        (
          All-cons IsFine (posts attempt) (posts ejecting ∷ pulse) (ball-free name (codes "_ball_eject_attempt") rows)
              (All-cons IsFine (posts ejecting) pulse (ball-free name (codes "_ejecting_ball") rows)
              (eject-doing d.eject_coil h.eject_coil)),
          (
            one leaves tt,
            (
              one loses tt,
              (
                one (posts success) (ball-free name (codes "_ball_eject_success") rows),
                (one arrives tt, (one (posts failed) (ball-free name (codes "_ball_eject_failed") rows), tt)),
              ),
            ),
          ),
        ),
      )

  -- no two of its ball switches have one name
  abbrev HasApart : BallDeviceEntry → Type 0
  HasApart d = AllPairs (λ v w. v ≢ w) (switch_names d)

  -- a ball device that is called so is one of them
  called-any : (name : List ℕ) (ds : List BallDeviceEntry) (o : Option BallDeviceEntry)
      → is_some (fold (latest_ball_device name) o ds)
      ≡ (list_any (λ (d : BallDeviceEntry). bytes_eq name d.name.text) ds || is_some o)
  called-any name [] o = refl
  called-any name (d ∷ ds) o = search (rules, called-any name ds (latest_ball_device name o d))

  target-there : (name : List ℕ) → is_place rows.machine name ≡ true → has_target rows.machine name ≡ true
  target-there name is = search (rules, called-any)

  ball_device-doing : (d : BallDeviceEntry) → HasApart d → IsBallDeviceSound rows.machine d
      → IsBallDeviceDoing IsFine IsUnreserved IsThere rows d
  ball_device-doing d apart h = search (rules, ball-lists, All-map, target-there)

  -- ---- shots and groups of them

  -- what the effect lists of a shot, or of a group, post in each state of a profile
  each_state : (p : Profile) (events : List ℕ → List (List ℕ)) → ((state : List ℕ) → All IsUnreserved (events state))
      → All (All IsFine) (map (λ state. map posts (events state)) p.states)
  each_state p events free =
      All-map (All IsFine) (λ state. map posts (events state)) p.states
      (λ i d within. All-map IsFine posts (events (get_or p.states i d)) (free (get_or p.states i d)))

  shot-lists : (p : Profile) (name : List ℕ) → All (All IsFine) (shot_lists p name)
  shot-lists p name = each_state p (shot_events name p.name) (shot-free rows name p.name)

  shot-doing : (s : Shot) → IsShotSound rows s → IsShotDoing IsFine IsUnreserved IsThere rows s
  shot-doing s h = search (rules, shot-lists)

  group-lists : (p : Profile) (name : List ℕ) (shots : List (List ℕ)) → All (All IsFine) (group_lists p name shots)
  group-lists p name shots =
      let hit = state_lists (codes "_hit") p name in
      let complete = state_lists (codes "_complete") p name in
      All-append (All IsFine) (flat_map (shot_lists p) shots ++ hit) complete
      (All-append (All IsFine) (flat_map (shot_lists p) shots) hit
      (All-flat_map (All IsFine) (shot_lists p) shots (λ i d within. shot-lists p (get_or shots i d)))
      (each_state p (group_events (codes "_hit") name) (group_hit-free rows name)))
      (each_state p (group_events (codes "_complete") name) (group_complete-free rows name))

  group-doing : (g : ShotGroup) → IsShotGroupSound rows g → IsShotGroupDoing IsFine IsUnreserved IsThere rows g
  group-doing g h = record { shots = h; lists = group-lists (members_of rows g).profile g.name.text (texts g.shots) }

  -- ---- sections

  module _ (s : SectionRows) (free : All IsFreePost (posts_in s)) (changing : ChangesNothingBarred rows s)
      (sound : IsSectionSound rows s) where
    section-parts : All IsFreePost (flat_map switch_posts (switches_in s))
        × All IsFreePost (flat_map player_posts (event_players_in s))
        × All IsFreePost (flat_map counter_posts (counters_in s))
        × All IsFreePost (flat_map step_posts (accruals_in s)) × All IsFreePost (flat_map step_posts (sequences_in s))
    section-parts =
        let switches = flat_map switch_posts (switches_in s) in
        let players = flat_map player_posts (event_players_in s) in
        let counters = flat_map counter_posts (counters_in s) in
        let accruals = flat_map step_posts (accruals_in s) in
        let last = All-parts IsFreePost (((switches ++ players) ++ counters) ++ accruals)
        (flat_map step_posts (sequences_in s)) free in
        let more = All-parts IsFreePost ((switches ++ players) ++ counters) accruals last.0 in
        let rest = All-parts IsFreePost (switches ++ players) counters more.0 in
        let parts = All-parts IsFreePost switches players rest.0 in
        (parts.0, parts.1, rest.1, more.1, last.1)

    section-doing : IsDoing IsFine IsUnreserved IsThere rows s
    section-doing = record {
      players = All-weaker (λ x. All IsFreePost (player_posts x)) (IsPlayerDoing IsFine IsUnreserved IsThere)
          (λ p k. written-free p.posts k) (event_players_in s)
          (All-from_flat_map IsFreePost player_posts (event_players_in s) section-parts.1);
      variable_players = All-weaker (λ p. All (IsChangeFree rows) p.items)
          (IsVariablePlayerDoing IsFine IsUnreserved IsThere) variable_player-doing (variable_players_in s) changing;
      coil_players = All-weaker (IsCoilPlayerSound rows.machine) (IsCoilPlayerDoing IsFine IsUnreserved IsThere rows)
          coil_player-doing (coil_players_in s) sound.coil_players;
      devices = entries-doing s section-parts.2 section-parts.3 section-parts.4;
      shots = All-weaker (IsShotSound rows) (IsShotDoing IsFine IsUnreserved IsThere rows) shot-doing (shots_in s)
          sound.shots;
      groups = All-weaker (IsShotGroupSound rows) (IsShotGroupDoing IsFine IsUnreserved IsThere rows) group-doing
          (shot_groups_in s) sound.groups;
    }

    machine-doing : All HasApart (ball_devices_in s) → IsMachineDoing IsFine IsUnreserved IsThere rows s
    machine-doing apart = record {
      all = section-doing;
      switches = All-weaker (λ x. All IsFreePost (switch_posts x)) (IsSwitchDoing IsFine IsUnreserved IsThere)
          switch-doing (switches_in s) (All-from_flat_map IsFreePost switch_posts (switches_in s) section-parts.0);
      rules = λ i d within. rules-doing (coil_rule_of s.name (get_or (entries_in s.content) i d))
          (sound.rules i d within);
      ball_devices = λ i d within. ball_device-doing (get_or (ball_devices_in s) i d) (apart i d within)
          (sound.ball_devices i d within);
    }

  -- each section of a list
  each-doing : (E R : SectionRows → Type 0)
      → ((s : SectionRows) → All IsFreePost (posts_in s) → ChangesNothingBarred rows s → IsSectionSound rows s → E s
      → R s)
      → (ss : List SectionRows) → All IsFreePost (posts_of ss) → All (ChangesNothingBarred rows) ss
      → All (IsSectionSound rows) ss → All E ss → All R ss
  each-doing E R make ss free changing sound more =
      let all = All-from_flat_map IsFreePost posts_in ss free in
      λ i d within. make (get_or ss i d) (all i d within) (changing i d within) (sound i d within) (more i d within)

  pub rows_doing : IsSound rows → AreDoing IsFine IsUnreserved IsThere rows
  rows_doing h = record {
    machine = each-doing (λ s. All HasApart (ball_devices_in s)) (IsMachineDoing IsFine IsUnreserved IsThere rows)
        machine-doing rows.machine h.posts.machine h.changes h.machine
        (All-from_flat_map HasApart ball_devices_in rows.machine
        (pairs-each (λ v w. v ≢ w) switch_names (ball_devices_of rows.machine) h.balls.switches));
    modes = λ i d within. each-doing (λ s. Unit {0}) (IsDoing IsFine IsUnreserved IsThere rows)
        (λ s free changing sound none. section-doing s free changing sound) (get_or rows.modes i d).sections
        (h.posts.modes i d within) (h.mode_changes i d within) (h.modes i d within) (λ j e inside. tt);
  }
