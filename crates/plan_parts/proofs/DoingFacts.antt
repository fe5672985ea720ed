-- What holds of each effect of the rows, of each event that their switches post, and of each switch to which their
-- devices listen, holds of those of their parts.
use Rattle.std.proofs.Common.{rules, ◌≡◌, ◌≢◌, ℕ, suc, Bool, true, false, if◌then◌else◌, List, [], ◌∷◌, ◌++◌, map}
use Rattle.std.proofs.{Common.{get_or, codes, arith}, lemmas.List.Sums.list_all-from_AllPass}
use Rattle.std.specs.Prelude.{◌||◌, Option, None, Some, IfSome, is_some}
use Rattle.std.specs.{Str.bytes_eq, List.{All, AllPairs, flat_map, list_any}}
use Rattle.std.proofs.lemmas.List.Elements.{All-nil, All-cons, All-head, All-tail, All-append, All-map, All-weaker}
use Rattle.mpf_values.specs.Events.{Event}
use Rattle.mpf_sections.specs.Rows as sections
use Rattle.mpf_sections.specs.Rows.{WrittenName, Entry, PlayerEntry, Shot, ShotGroup, BallDeviceEntry, ModeSettings}
use Rattle.mpf_sections.specs.{Rows.{Content, entries, players, SectionRows}, CoilRules.{CoilRule, coil_rule_of}}
use Rattle.mpf_sections.specs.Typed.{switches_name, event_player_name, switch_of, event_player_of, mode_settings}
use Rattle.mpf_sections.specs.Typed.{switches_in, event_players_in, counter_of, step_block_of, timer_of}
use Rattle.mpf_sections.specs.TypedCoils.{coils_name, coil_player_name, coil_of, coil_player_of, coil_players_in}
use Rattle.mpf_sections.specs.TypedGame.{variable_player_name, game_name, variable_player_of, game_of}
use Rattle.mpf_sections.specs.{TypedGame.variable_players_in, TypedShots.shot_groups_in}
use Rattle.mpf_sections.specs.TypedBalls.{ball_devices_name, playfield, ball_device_of, ball_devices_in}
use Rattle.mpf_sections.specs.TypedShots.{shots_name, shot_groups_name, shot_of, shot_group_of, shots_in}
use Rattle.mpf_config.specs.Rows.{ModeRows, Rows}
use Rattle.machine_definitions.specs.Shots.{Profile, has_profile, profile_of_name}
use Rattle.plan_tables.specs.declared.{entries.ModeId.ModeId, table.Table.TheVariants.Switches}
use Rattle.mpf_tables.specs.declared.tables.TextKind.{TextKind, TheVariants.{Machine, Mode}}
use Rattle.plan_rows.specs.declared.destination.Destination.{Destination}
use Rattle.plan_rows.specs.{Members.members_of, Rows.{rows_in, rows_from, text_rows}}
use Rattle.plan_rows.specs.declared.destination.Destination.TheVariants as destinations
use Rattle.plan_rows.specs.Seats.{Seat, seat_of, ball_row_of, row_or_unknown, destination_of, rows_after_text}
use Rattle.plan_rows.specs.Rows.{Row, entry, alone, player, shot_row, group_row, ball_device_row, other_row, entry_row}
use Rattle.plan_parts.specs.{Effects.{Effect, posts}, VariableEntries.item_change}
use Rattle.plan_parts.{proofs.SeatFacts.ball_row_some, specs.BallEntries.{is_known, ball_device_from}}
use Rattle.plan_parts.specs.CoilEntries.{item_effect, named_switches, rule_device_of}
use Rattle.plan_parts.specs.DeviceEntries.{texts, Device, events, always, device_of}
use Rattle.plan_parts.specs.SaveEntries.{save_device_of, save_device, multiball_device}
use Rattle.plan_parts.specs.Doing.{IsHeardOnce, IsShotGroupDoing, IsDoing, IsMachineDoing, AreDoing, Does}
use Rattle.plan_parts.specs.Parts.{unknown, row_parts, text_parts, modes_parts, parts_of}
use Rattle.plan_parts.specs.ShotEntries.{shot_lists, shot_acts, lone_device, group_device}
use Rattle.plan_parts.specs.Parts.{Whose, Part, handler, device, mode, mention, run, start, stop, act_on, own, control}
use Rattle.plan_parts.specs.Parts.{of_the_mode, stops_at_ball_end, stops_at_game_end, where_some, where_true}
use Rattle.plan_parts.specs.Parts.{unknown_unless, first_of, mode_parts, machine_device, switch_part, coil_part}
use Rattle.plan_parts.specs.Parts.{game_part, machine_entry_parts, entry_parts, alone_parts, player_parts, with_seat}
use Rattle.plan_parts.specs.Doing.{has_target, IsBallDeviceDoing, IsSwitchDoing, IsPlayerDoing, IsDeviceDoing}
use Rattle.plan_parts.specs.Doing.{IsEntryDoing, IsCoilPlayerDoing, IsVariablePlayerDoing, IsShotDoing}
use Rattle.yaml_bytes.proofs.Each.{All-flat_map, All-from_map}
use Rattle.mpf_sections.specs.Typed.{counters_name, accruals_name, sequences_name, timers_name}
use Rattle.mpf_sections.specs.TypedSaves.{ball_saves_name, multiballs_name, ball_save_of, multiball_of}
use Rattle.plan_parts.specs.DeviceEntries.{counter_device, step_settings, step_device, timer_device}

-- ---- sections

-- if this holds, that does
abbrev Where : Bool → Type 0 → Type 0
Where true A = A
Where false A = Unit {0}

where_so : {A : Type 0} (b : Bool) → b ≡ true → Where b A → A
where_so x1 is h = search rules

-- if a section has a name, what holds of its items as they are seen there
where_named : {X Y : Type 0} (R : Y → Type 0) (f : X → Y) (b : Bool) (xs : List X)
    → All R (map f (if b then xs else [])) → All (λ x. Where b (R (f x))) xs
where_named R f true xs h = All-from_map R f xs h
where_named R f false xs h = λ i d within. tt

-- ---- switches of devices

-- no two of these names are one
record AreApart (ns : List (List ℕ)) : Type 0 where
  apart : AllPairs (λ m n. m ≢ n) ns

none_apart : AreApart []
none_apart = record { apart = λ i j d less within. absurd (omega (arith, less, within)) }

one_apart : (n : List ℕ) → AreApart (n ∷ [])
one_apart n = record { apart = λ i j d less within. absurd (omega (arith, less, within)) }

abbrev ListensApart : Option Device → Type 0
ListensApart None = Unit {0}
ListensApart (Some d) = AreApart d.listens

apart_if : (b : Bool) (o q : Option Device) → ListensApart o → ListensApart q → ListensApart (if b then o else q)
apart_if x1 o q first other = search rules

-- an entry of any text but a ball device listens to one switch at most
save_apart : (section : List ℕ) (e : Entry) → ListensApart (save_device_of section e)
unfolding save_device_of
save_apart section e = search (rules, apart_if, none_apart)

entry_apart : (section : List ℕ) (e : Entry) → ListensApart (device_of section e)
unfolding device_of
entry_apart section e = search (rules, apart_if, none_apart, save_apart)

machine_apart : (machine : List SectionRows) (whose : Whose) (section : List ℕ) (e : Entry)
    → ListensApart (machine_device machine whose section e)
machine_apart machine whose section e = by (coil_rule_of section e) (entry_apart section e)
  where
    rule : (o : Option WrittenName) → AreApart (named_switches o)
    rule x1 = search (rules, one_apart, none_apart)

    by : (o : Option CoilRule) → ListensApart (device_of section e)
        → ListensApart (first_of (rule_device_of machine o) (device_of section e))
    by None is = is
    by (Some r) is = rule r.switch

-- ---- targets

-- what there is is known
targets_known : (n : ℕ) (ss : List SectionRows) (name : List ℕ) → has_target ss name ≡ true
    → is_known (destination_of Machine n ss name) ≡ true
targets_known n ss name is = by (bytes_eq name playfield) (ball_row_of Machine n ss name) (ball_row_some own n ss name)
    is
  where
    by : (b : Bool) (o : Option ℕ) → is_some o ≡ list_any (λ d. bytes_eq name d.name.text) (flat_map ball_devices_in ss)
        → (b || list_any (λ d. bytes_eq name d.name.text) (flat_map ball_devices_in ss)) ≡ true
        → is_known (if b then destinations.Playfield else row_or_unknown o) ≡ true
    by x1 x2 some known = search rules

-- ---- parts

module _ (P : Effect → Type 0) (S L : List ℕ → Type 0) where
  abbrev D : Part → Type 0
  D p = Does P S L p

  one : (p : Part) → D p → All D (p ∷ [])
  one p h = All-cons D p [] h (All-nil D)

  each : {X : Type 0} (make : X → Part) → ((x : X) → D (make x)) → (xs : List X) → All D (map make xs)
  each make is [] = All-nil D
  each make is (x ∷ xs) = All-cons D (make x) (map make xs) (is x) (each make is xs)

  -- what an event runs
  runs : (whose : Whose) (e : Event) (effects : List Effect) → All P effects
      → All D (handler whose e (run effects) ∷ [])
  runs whose e effects h = one (handler whose e (run effects)) h

  in_device : (whose : Whose) (d : Device) → IsDeviceDoing P S L d → AreApart d.listens → All D (device whose d ∷ [])
  in_device whose d h apart = one (device whose d) (h, apart.apart)

  in_where : (whose : Whose) (o : Option Device) → IsEntryDoing P S L o → ListensApart o
      → All D (where_some (device whose) o)
  in_where whose x2 h apart = search (rules, All-nil, in_device)

  in_mode : (m : ModeId) (name : List ℕ) (s : ModeSettings) → All D (mode_parts m name s)
  unfolding mode_parts
  in_mode m name s =
      let starts = map (λ e. handler (control s) e (start m)) (events s.starts) in
      let stops = map (λ e. handler (control s) e (stop m)) (events s.stops) in
      let ball = where_true (stops_at_ball_end s) (handler (control s) (always (codes "ball_ending")) (stop m)) in
      let game = where_true (stops_at_game_end s) (handler (control s) (always (codes "game_ending")) (stop m)) in
      All-append D (mode name s ∷ starts ++ stops ++ ball) game
      (All-append D (mode name s ∷ starts ++ stops) ball
      (All-append D (mode name s ∷ starts) stops
      (All-cons D (mode name s) starts tt (each (λ e. handler (control s) e (start m)) (λ e. tt) (events s.starts)))
      (each (λ e. handler (control s) e (stop m)) (λ e. tt) (events s.stops)))
      (stops_by (stops_at_ball_end s) (codes "ball_ending")))
      (stops_by (stops_at_game_end s) (codes "game_ending"))
    where
      stops_by : (b : Bool) (n : List ℕ) → All D (where_true b (handler (control s) (always n) (stop m)))
      stops_by x1 n = search (rules, one, All-nil)

  -- ---- shots and ball devices

  in_unknown : (known : Bool) → known ≡ true → All D (unknown_unless known)
  in_unknown x1 is = search (rules, All-nil)

  in_shot_switch : (o : Option WrittenName) → IfSome o (λ w. L w.text)
      → All D (where_some (λ w. mention Switches w.text) o)
  in_shot_switch None h = All-nil D
  in_shot_switch (Some w) h = one (mention Switches w.text) h

  module _ (rows : Rows) (whose : Whose) where
    abbrev machine : List SectionRows
    machine = rows.machine

    abbrev GivesDoing : Row → Type 0
    GivesDoing r = All D (row_parts rows.machine whose r)

    in_seated : (p : Profile) (s : Shot) (seat : Option Seat) → All (All P) (shot_lists p s.name.text)
        → All D (with_seat machine whose p s seat)
    in_seated p s None h = in_device whose (lone_device p s) (record { lists = h; listens = All-nil L }) none_apart
    in_seated p s (Some seat) h = each (λ h. handler whose h.0 (act_on (record { 0 = seat.row }) h.1)) (λ h. tt)
        (shot_acts seat.shot s)

    in_shot : (place : TextKind) (seat : List ℕ → Option Seat) (s : Shot) → IsShotDoing P S L rows s
        → GivesDoing (shot_row rows place seat s)
    unfolding row_parts
    in_shot place seat s h =
        let known = unknown_unless (has_profile rows s.profile.text) in
        let own = where_some (λ w. mention Switches w.text) s.switch in
        let p = profile_of_name rows s.profile.text in
        All-append D (known ++ own) (with_seat machine whose p s (seat s.name.text))
        (All-append D known own (in_unknown (has_profile rows s.profile.text) h.profile)
        (in_shot_switch s.switch h.switch))
        (in_seated p s (seat s.name.text) h.lists)

    in_group : (place : TextKind) (seat : List ℕ → Option Seat) (g : ShotGroup) → IsShotGroupDoing P S L rows g
        → GivesDoing (group_row rows place seat g)
    unfolding row_parts
    in_group place seat g h =
        let m = members_of rows g in
        All-append D (unknown_unless m.all_known) (device whose (group_device g m) ∷ [])
        (in_unknown m.all_known (search (rules, list_all-from_AllPass, h.shots)))
        (in_device whose (group_device g m) (record { lists = h.lists; listens = All-nil L }) none_apart)

    -- a ball device that ejects its balls to what there is
    in_ball_device : (to : List ℕ → Destination) (d : BallDeviceEntry) → is_known (to d.target.text) ≡ true
        → IsBallDeviceDoing P S L rows d → GivesDoing (ball_device_row to d)
    unfolding row_parts
    in_ball_device to d known h =
        let own = ball_device_from machine d (to d.target.text) in
        All-append D (unknown_unless (is_known (to d.target.text))) (device whose own ∷ [])
        (in_unknown (is_known (to d.target.text)) known)
        (in_device whose own (record { lists = h.lists; listens = h.listens }) (record { apart = h.apart }))

    -- ---- entries

    in_machine_device : (section : List ℕ) (e : Entry)
        → IsEntryDoing P S L (rule_device_of machine (coil_rule_of section e))
        → IsEntryDoing P S L (device_of section e) → IsEntryDoing P S L (machine_device machine whose section e)
    in_machine_device section e = by (rule_device_of machine (coil_rule_of section e))
      where
        by : (o : Option Device) → IsEntryDoing P S L o → IsEntryDoing P S L (device_of section e)
            → IsEntryDoing P S L (first_of o (device_of section e))
        by None first other = other
        by (Some d) first other = first

    in_machine_entry : (section : List ℕ) (e : Entry)
        → Where (bytes_eq section switches_name) (IsSwitchDoing P S L (switch_of e))
        → IsEntryDoing P S L (machine_device machine whose section e)
        → All D (machine_entry_parts machine whose section e)
    unfolding machine_entry_parts
    in_machine_entry section e = by (bytes_eq section coils_name) (bytes_eq section switches_name)
      where
        by : (c s : Bool) → Where s (IsSwitchDoing P S L (switch_of e))
            → IsEntryDoing P S L (machine_device machine whose section e)
            → All D (if c then coil_part machine whose (coil_of e)
            ∷ [] else (if s then switch_part machine whose (switch_of e)
            ∷ [] else where_some (device whose) (machine_device machine whose section e)))
        by true s hs h = one (coil_part machine whose (coil_of e)) tt
        by false true hs h = one (switch_part machine whose (switch_of e)) hs
        by false false hs h = in_where whose (machine_device machine whose section e) h
            (machine_apart machine whose section e)

    in_player : (place : TextKind) (section : List ℕ) (p : PlayerEntry)
        → Where (bytes_eq section event_player_name) (IsPlayerDoing P S L (event_player_of p))
        → Where (bytes_eq section coil_player_name) (IsCoilPlayerDoing P S L rows (coil_player_of p))
        → Where (bytes_eq section variable_player_name) (IsVariablePlayerDoing P S L (variable_player_of p))
        → GivesDoing (player place section p)
    unfolding row_parts player_parts
    in_player place section p = by (bytes_eq section event_player_name) (bytes_eq section coil_player_name)
        (bytes_eq section variable_player_name)
      where
        posted : List Effect
        posted = map posts (texts (event_player_of p).posts)

        worked : List Effect
        worked = map (item_effect machine) (coil_player_of p).items

        changed : List Effect
        changed = map item_change (variable_player_of p).items

        by : (e c v : Bool) → Where e (IsPlayerDoing P S L (event_player_of p))
            → Where c (IsCoilPlayerDoing P S L rows (coil_player_of p))
            → Where v (IsVariablePlayerDoing P S L (variable_player_of p))
            → All D (if e then handler whose (event_player_of p).event.event (run posted) ∷ []
            else (if c then handler whose (coil_player_of p).event.event (run worked) ∷ []
            else (if v then handler whose (variable_player_of p).event.event (run changed) ∷ [] else [])))
        by true c v he hc hv = runs whose (event_player_of p).event.event posted
            (All-map P posts (texts (event_player_of p).posts) he)
        by false true v he hc hv = runs whose (coil_player_of p).event.event worked
            (All-map P (item_effect machine) (coil_player_of p).items hc)
        by false false true he hc hv = runs whose (variable_player_of p).event.event changed
            (All-map P item_change (variable_player_of p).items hv)
        by false false false he hc hv = All-nil D

    -- the game does nothing of its own
    in_alone : (place : TextKind) (section : List ℕ) (e : Entry) → GivesDoing (alone place section e)
    unfolding row_parts alone_parts
    in_alone Machine section e = by (bytes_eq section game_name)
      where
        by : (b : Bool) → All D (where_true b (game_part machine whose (game_of e)))
        by true = one (game_part machine whose (game_of e)) tt
        by false = All-nil D
    in_alone Mode section e = All-nil D

    -- ---- sections

    in_players : (place : TextKind) (s : SectionRows) (ps : List PlayerEntry)
        → All (IsPlayerDoing P S L) (map event_player_of (if bytes_eq s.name event_player_name then ps else []))
        → All (IsCoilPlayerDoing P S L rows) (map coil_player_of (if bytes_eq s.name coil_player_name then ps else []))
        → All (IsVariablePlayerDoing P S L)
        (map variable_player_of (if bytes_eq s.name variable_player_name then ps else []))
        → All GivesDoing (map (player place s.name) ps)
    in_players place s ps posted coils variables =
        let posting = where_named (IsPlayerDoing P S L) event_player_of (bytes_eq s.name event_player_name) ps posted in
        let working = where_named (IsCoilPlayerDoing P S L rows) coil_player_of (bytes_eq s.name coil_player_name) ps
        coils in
        let changing = where_named (IsVariablePlayerDoing P S L) variable_player_of
        (bytes_eq s.name variable_player_name) ps variables in
        All-map GivesDoing (player place s.name) ps
        (λ i d within. in_player place s.name (get_or ps i d) (posting i d within) (working i d within)
        (changing i d within))

    -- if an entry is a ball device of the machine text, it does so, and ejects its balls to what there is
    abbrev IsBallEntryDoing : (List ℕ → Destination) → TextKind → List ℕ → Entry → Type 0
    IsBallEntryDoing to place section e =
        place ≡ Machine → bytes_eq section ball_devices_name ≡ true
        → IsBallDeviceDoing P S L rows (ball_device_of e) × (is_known (to (ball_device_of e).target.text) ≡ true)

    -- an entry of a section, whether it is a shot, a group, a ball device, or none of these
    in_entry_row : (place : TextKind) (seat : List ℕ → Option Seat) (to : List ℕ → Destination) (section : List ℕ)
        (e : Entry)
        → Where (bytes_eq section shots_name) (IsShotDoing P S L rows (shot_of e))
        → Where (bytes_eq section shot_groups_name) (IsShotGroupDoing P S L rows (shot_group_of e))
        → IsBallEntryDoing to place section e → GivesDoing (entry place section e)
        → GivesDoing (entry_row rows place seat to section e)
    in_entry_row place seat to section e = by (bytes_eq section shots_name) (bytes_eq section shot_groups_name)
      where
        in_machine : (b : Bool)
            → (b ≡ true → IsBallDeviceDoing P S L rows (ball_device_of e)
            × (is_known (to (ball_device_of e).target.text) ≡ true))
            → GivesDoing (entry Machine section e)
            → GivesDoing (if b then ball_device_row to (ball_device_of e) else entry Machine section e)
        in_machine x1 ball h = search (rules, in_ball_device)

        in_other : (place : TextKind) → IsBallEntryDoing to place section e → GivesDoing (entry place section e)
            → GivesDoing (other_row to place section e)
        in_other x1 ball h = search (rules, in_machine)

        by : (s g : Bool) → Where s (IsShotDoing P S L rows (shot_of e))
            → Where g (IsShotGroupDoing P S L rows (shot_group_of e)) → IsBallEntryDoing to place section e
            → GivesDoing (entry place section e)
            → GivesDoing (if s then shot_row rows place seat (shot_of e) else
            (if g then group_row rows place seat (shot_group_of e) else other_row to place section e))
        by true g hs hg ball h = in_shot place seat (shot_of e) hs
        by false true hs hg ball h = in_group place seat (shot_group_of e) hg
        by false false hs hg ball h = in_other place ball h

    in_entries : (place : TextKind) (seat : List ℕ → Option Seat) (to : List ℕ → Destination) (s : SectionRows)
        (es : List Entry)
        → All (IsShotDoing P S L rows) (map shot_of (if bytes_eq s.name shots_name then es else []))
        → All (IsShotGroupDoing P S L rows) (map shot_group_of (if bytes_eq s.name shot_groups_name then es else []))
        → All (IsBallEntryDoing to place s.name) es → All (λ e. GivesDoing (entry place s.name e)) es
        → All GivesDoing (map (entry_row rows place seat to s.name) es)
    in_entries place seat to s es shots groups balls others =
        let own = where_named (IsShotDoing P S L rows) shot_of (bytes_eq s.name shots_name) es shots in
        let grouped = where_named (IsShotGroupDoing P S L rows) shot_group_of (bytes_eq s.name shot_groups_name) es
        groups in
        All-map GivesDoing (entry_row rows place seat to s.name) es
        (λ i d within. in_entry_row place seat to s.name (get_or es i d) (own i d within) (grouped i d within)
        (balls i d within) (others i d within))

    -- what each ball device ejects to is there
    abbrev AreKnown : (List ℕ → Destination) → Type 0
    AreKnown to = (name : List ℕ) → has_target machine name ≡ true → is_known (to name) ≡ true

    -- of a section of a mode
    in_mode_content : (seat : List ℕ → Option Seat) (to : List ℕ → Destination) (s : SectionRows) (content : Content)
        → IsDoing P S L rows (record { name = s.name; content = content })
        → All GivesDoing (rows_from rows Mode seat to s.name content)
    unfolding event_players_in coil_players_in variable_players_in shots_in shot_groups_in row_parts entry_parts
    in_mode_content seat to s (entries es) h =
        in_entries Mode seat to s es h.shots h.groups (λ i d within own named. absurd cc)
        (λ i d within. in_where whose (device_of s.name (get_or es i d)) (h.devices i d within)
        (entry_apart s.name (get_or es i d)))
    in_mode_content seat to s (players ps) h = in_players Mode s ps h.players h.coil_players h.variable_players
    in_mode_content seat to s (sections.entry e) h =
        All-cons GivesDoing (alone Mode s.name e) [] (in_alone Mode s.name e) (All-nil GivesDoing)
    in_mode_content seat to s (sections.name_list ws) h = All-nil GivesDoing

    -- and of one of the machine
    in_machine_content : (seat : List ℕ → Option Seat) (to : List ℕ → Destination) → AreKnown to
        → (s : SectionRows) (content : Content)
        → IsMachineDoing P S L rows (record { name = s.name; content = content })
        → All GivesDoing (rows_from rows Machine seat to s.name content)
    unfolding switches_in event_players_in coil_players_in variable_players_in shots_in shot_groups_in ball_devices_in
        row_parts entry_parts
    in_machine_content seat to known s (entries es) h =
        let switches = where_named (IsSwitchDoing P S L) switch_of (bytes_eq s.name switches_name) es h.switches in
        let all : IsDoing P S L rows (record { name = s.name; content = entries es }) = h.all in
        let balls = where_named (IsBallDeviceDoing P S L rows) ball_device_of (bytes_eq s.name ball_devices_name) es
        h.ball_devices in
        in_entries Machine seat to s es all.shots all.groups
        (λ i d within own named.
        let ball = where_so (bytes_eq s.name ball_devices_name) named (balls i d within) in
        (ball, known (ball_device_of (get_or es i d)).target.text ball.target))
        (λ i d within.
        let e = get_or es i d in
        in_machine_entry s.name e (switches i d within)
        (in_machine_device s.name e (h.rules i d within) (all.devices i d within)))
    in_machine_content seat to known s (players ps) h =
        let all : IsDoing P S L rows (record { name = s.name; content = players ps }) = h.all
        in in_players Machine s ps all.players all.coil_players all.variable_players
    in_machine_content seat to known s (sections.entry e) h =
        All-cons GivesDoing (alone Machine s.name e) [] (in_alone Machine s.name e) (All-nil GivesDoing)
    in_machine_content seat to known s (sections.name_list ws) h = All-nil GivesDoing

    -- ---- texts

    -- of all parts of a text, if each section meets C, and so do its rows
    in_text : (place : TextKind) (n : ℕ) (ss : List SectionRows) (C : SectionRows → Type 0)
        → ((s : SectionRows) → C s → All GivesDoing
        (rows_from rows place (seat_of place n ss) (destination_of place n ss) s.name s.content))
        → All C ss → All D (text_parts rows whose place n ss)
    in_text place n ss C of h =
        let seat = seat_of place n ss in
        let to = destination_of place n ss in
        All-flat_map D (row_parts machine whose) (text_rows rows place n ss)
        (All-flat_map GivesDoing (λ s. rows_from rows place seat to s.name s.content) ss
        (All-weaker C (λ s. All GivesDoing (rows_from rows place seat to s.name s.content)) of ss h))

  -- of all parts of modes, of which this is the first, if so many rows come before
  in_modes : (rows : Rows) (k n : ℕ) (ms : List ModeRows)
      → All (λ (m : ModeRows). All (IsDoing P S L rows) m.sections) ms → All D (modes_parts rows k n ms)
  in_modes rows k n [] h = All-nil D
  in_modes rows k n (m ∷ ms) h =
      let IsModeDoing : ModeRows → Type 0 = λ m. All (IsDoing P S L rows) m.sections in
      let number : ModeId = record { 0 = k } in
      let s = mode_settings m.sections in
      let whose = of_the_mode number s in
      let seat = seat_of Mode n m.sections in
      let to = destination_of Mode n m.sections in
      let first = mode_parts number m.name s in
      let text = text_parts rows whose Mode n m.sections in
      All-append D (first ++ text) (modes_parts rows (suc k) (rows_after_text Mode n m.sections) ms)
      (All-append D first text (in_mode number m.name s)
      (in_text rows whose Mode n m.sections (IsDoing P S L rows) (λ s. in_mode_content rows whose seat to s s.content)
      (All-head IsModeDoing m ms h)))
      (in_modes rows (suc k) (rows_after_text Mode n m.sections) ms (All-tail IsModeDoing m ms h))

  -- what holds of all that rows do holds of all that their parts do
  pub all_do : (rows : Rows) → AreDoing P S L rows → All (Does P S L) (parts_of rows)
  unfolding parts_of
  all_do rows h =
      let seat = seat_of Machine 0 rows.machine in
      let to = destination_of Machine 0 rows.machine in
      let after = rows_after_text Machine 0 rows.machine in
      All-append D (text_parts rows own Machine 0 rows.machine) (modes_parts rows 0 after rows.modes)
      (in_text rows own Machine 0 rows.machine (IsMachineDoing P S L rows)
      (λ s. in_machine_content rows own seat to (targets_known 0 rows.machine) s s.content) h.machine)
      (in_modes rows 0 after rows.modes h.modes)

-- no device listens to one switch twice
pub doing_heard_once : (P : Effect → Type 0) (S L : List ℕ → Type 0) (rows : Rows) → AreDoing P S L rows
    → All IsHeardOnce (parts_of rows)
doing_heard_once P S L rows h = All-weaker (Does P S L) IsHeardOnce once (parts_of rows) (all_do P S L rows h)
  where
    once : (p : Part) → Does P S L p → IsHeardOnce p
    once (device whose d) is = is.1
    once (handler whose e r) is = tt
    once _ is = tt
