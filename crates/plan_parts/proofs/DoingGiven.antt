-- The switches and the coils that parts give are those of the machine text, in order.
use Rattle.std.proofs.Common.{rules, ◌≡◌, ℕ, suc, Bool, true, false, if◌then◌else◌, List, [], ◌∷◌, ◌++◌, map, refl, sym}
use Rattle.std.proofs.Common.{◌∙◌, ap, subst, codes}
use Rattle.std.specs.{Prelude.{Option, None, Some}, Str.bytes_eq, List.flat_map}
use Rattle.std.proofs.lemmas.{Grind.flat_map-append, List.{map-append, append-nil}, Slice.Eq.bytes_eq-Decides}
use Rattle.mpf_values.specs.Events.{Event}
use Rattle.mpf_sections.specs.Rows as sections
use Rattle.mpf_sections.specs.Rows.{WrittenName, Entry, PlayerEntry, Shot, ModeSettings, Content, entries, players}
use Rattle.mpf_sections.specs.{Rows.SectionRows, TypedBalls.ball_device_of}
use Rattle.mpf_sections.specs.Typed.{entries_of, switches_name, event_player_name, switch_of, event_player_of}
use Rattle.mpf_sections.specs.{Typed.{mode_settings, switches_in}, TypedShots.{shot_of, shot_group_of}}
use Rattle.mpf_sections.specs.TypedCoils.{coils_name, coil_player_name, coil_of, coil_player_of, coils_in}
use Rattle.mpf_sections.specs.TypedGame.{variable_player_name, game_name, variable_player_of, game_of}
use Rattle.mpf_config.specs.Rows.{ModeRows, Rows}
use Rattle.machine_definitions.specs.Shots.{Profile, has_profile, profile_of_name}
use Rattle.plan_tables.specs.declared.{entries.ModeId.ModeId, table.Table.{Table, TheVariants.Switches}}
use Rattle.mpf_tables.specs.declared.tables.TextKind.{TextKind, TheVariants.{Machine, Mode}}
use Rattle.plan_rows.specs.{declared.destination.Destination.Destination, Members.members_of}
use Rattle.plan_rows.specs.Seats.{Seat, seat_of, destination_of, rows_after_text}
use Rattle.plan_rows.specs.Rows.{Row, entry, alone, player, entry_row, rows_from, rows_in}
use Rattle.plan_parts.specs.{Effects.posts, VariableEntries.item_change, CoilEntries.{limits_of_coil, item_effect}}
use Rattle.plan_parts.specs.{BallEntries.{is_known, ball_device_from}, PartKinds.{given_switch, given_coil}}
use Rattle.plan_parts.specs.DeviceEntries.{texts, Device, events, always, device_of}
use Rattle.plan_parts.{specs.ShotEntries.{shot_acts, lone_device, group_device}, proofs.WalkFacts.entry_such}
use Rattle.plan_parts.specs.Parts.{Whose, Part, switch, game, handler, device, mode, mention, unknown, Reaction, run}
use Rattle.plan_parts.specs.Parts.{start, stop, act_on, own, control, of_the_mode, stops_at_ball_end, stops_at_game_end}
use Rattle.plan_parts.specs.Parts.{where_some, where_true, unknown_unless, mode_parts, machine_device, switch_part}
use Rattle.plan_parts.specs.Parts.{coil_part, game_part, machine_entry_parts, entry_parts, alone_parts, player_parts}
use Rattle.plan_parts.specs.Parts.{with_seat, row_parts, text_parts, modes_parts, parts_of}
use Rattle.plan_rows.specs.Rows.{shot_row, group_row, ball_device_row, text_rows}

-- only switches and coils tell anything
record IsQuiet {X : Type 0} (tell : Part → List X) : Type 0 where
  modes : (name : List ℕ) (s : ModeSettings) → tell (mode name s) ≡ []
  games : (a b c : ℕ) → tell (game a b c) ≡ []
  handlers : (whose : Whose) (e : Event) (r : Reaction) → tell (handler whose e r) ≡ []
  devices : (whose : Whose) (d : Device) → tell (device whose d) ≡ []
  mentions : (t : Table) (n : List ℕ) → tell (mention t n) ≡ []
  missing : tell unknown ≡ []

module _ {X : Type 0} (tell : Part → List X) (quiet : IsQuiet tell) where
  abbrev told : List Part → List X
  told ps = flat_map tell ps

  abbrev IsSilent : List Part → Type 0
  IsSilent ps = told ps ≡ []

  -- ---- parts

  both : (ps qs : List Part) → IsSilent ps → IsSilent qs → IsSilent (ps ++ qs)
  both ps qs a b = flat_map-append tell ps qs ∙ (λ i. a i ++ b i)

  one : (p : Part) → tell p ≡ [] → IsSilent (p ∷ [])
  one p is = λ i. is i ++ []

  each : {Y : Type 0} (make : Y → Part) → ((y : Y) → tell (make y) ≡ []) → (ys : List Y) → IsSilent (map make ys)
  each make is [] = refl
  each make is (y ∷ ys) = λ i. is y i ++ each make is ys i

  when : (b : Bool) (ps qs : List Part) → IsSilent ps → IsSilent qs → IsSilent (if b then ps else qs)
  when x1 ps qs first other = search rules

  silent_where : (whose : Whose) (o : Option Device) → IsSilent (where_some (device whose) o)
  silent_where whose None = refl
  silent_where whose (Some d) = one (device whose d) (quiet.devices whose d)

  silent_mention : (o : Option WrittenName) → IsSilent (where_some (λ w. mention Switches w.text) o)
  silent_mention None = refl
  silent_mention (Some w) = one (mention Switches w.text) (quiet.mentions Switches w.text)

  silent_unknown : (known : Bool) → IsSilent (unknown_unless known)
  silent_unknown true = refl
  silent_unknown false = one unknown quiet.missing

  silent_mode : (m : ModeId) (name : List ℕ) (s : ModeSettings) → IsSilent (mode_parts m name s)
  unfolding mode_parts
  silent_mode m name s =
      let starts = map (λ e. handler (control s) e (start m)) (events s.starts) in
      let stops = map (λ e. handler (control s) e (stop m)) (events s.stops) in
      let ball = where_true (stops_at_ball_end s) (handler (control s) (always (codes "ball_ending")) (stop m)) in
      let game = where_true (stops_at_game_end s) (handler (control s) (always (codes "game_ending")) (stop m)) in
      both (mode name s ∷ starts ++ stops ++ ball) game
      (both (mode name s ∷ starts ++ stops) ball
      (both (mode name s ∷ starts) stops
      (both (mode name s ∷ []) starts (one (mode name s) (quiet.modes name s))
      (each (λ e. handler (control s) e (start m)) (λ e. quiet.handlers (control s) e (start m)) (events s.starts)))
      (each (λ e. handler (control s) e (stop m)) (λ e. quiet.handlers (control s) e (stop m)) (events s.stops)))
      (ends (stops_at_ball_end s) (codes "ball_ending")))
      (ends (stops_at_game_end s) (codes "game_ending"))
    where
      ends : (b : Bool) (n : List ℕ) → IsSilent (where_true b (handler (control s) (always n) (stop m)))
      ends true n = one (handler (control s) (always n) (stop m)) (quiet.handlers (control s) (always n) (stop m))
      ends false n = refl

  -- ---- rows

  module _ (rows : Rows) (whose : Whose) where
    abbrev machine : List SectionRows
    machine = rows.machine

    abbrev of_row : Row → List Part
    of_row r = row_parts rows.machine whose r

    abbrev IsSilentRow : Row → Type 0
    IsSilentRow r = told (of_row r) ≡ []

    abbrev told_rows : List Row → List X
    told_rows rs = told (flat_map (row_parts rows.machine whose) rs)

    silent_seated : (p : Profile) (s : Shot) (seat : Option Seat) → IsSilent (with_seat machine whose p s seat)
    silent_seated p s None = one (device whose (lone_device p s)) (quiet.devices whose (lone_device p s))
    silent_seated p s (Some seat) =
        each (λ h. handler whose h.0 (act_on (record { 0 = seat.row }) h.1))
        (λ h. quiet.handlers whose h.0 (act_on (record { 0 = seat.row }) h.1)) (shot_acts seat.shot s)

    silent_entry_row : (place : TextKind) (seat : List ℕ → Option Seat) (to : List ℕ → Destination) (section : List ℕ)
        (e : Entry)
        → IsSilentRow (entry place section e) → IsSilentRow (entry_row rows place seat to section e)
    unfolding row_parts
    silent_entry_row place seat to section e other =
        let s = shot_of e in
        let known = unknown_unless (has_profile rows s.profile.text) in
        let named = where_some (λ w. mention Switches w.text) s.switch in
        let p = profile_of_name rows s.profile.text in
        let g = shot_group_of e in
        let grouped = group_device g (members_of rows g) in
        let d = ball_device_of e in
        let ball = ball_device_from machine d (to d.target.text) in
        entry_such IsSilentRow rows place seat to section e
        (λ is. both (known ++ named) (with_seat machine whose p s (seat s.name.text))
        (both known named (silent_unknown (has_profile rows s.profile.text)) (silent_mention s.switch))
        (silent_seated p s (seat s.name.text)))
        (λ is. both (unknown_unless (members_of rows g).all_known) (device whose grouped ∷ [])
        (silent_unknown (members_of rows g).all_known) (one (device whose grouped) (quiet.devices whose grouped)))
        (λ of is. both (unknown_unless (is_known (to d.target.text))) (device whose ball ∷ [])
        (silent_unknown (is_known (to d.target.text))) (one (device whose ball) (quiet.devices whose ball)))
        other

    silent_player : (place : TextKind) (section : List ℕ) (p : PlayerEntry) → IsSilentRow (player place section p)
    unfolding row_parts player_parts
    silent_player place section p =
        let event = event_player_of p in
        let works = coil_player_of p in
        let changes = variable_player_of p in
        let posted = run (map posts (texts event.posts)) in
        let worked = run (map (item_effect machine) works.items) in
        let changed = run (map item_change changes.items) in
        when (bytes_eq section event_player_name) (handler whose event.event.event posted ∷ [])
        (if bytes_eq section coil_player_name then handler whose works.event.event worked
        ∷ [] else (if bytes_eq section variable_player_name then handler whose changes.event.event changed
        ∷ [] else []))
        (one (handler whose event.event.event posted) (quiet.handlers whose event.event.event posted))
        (when (bytes_eq section coil_player_name) (handler whose works.event.event worked ∷ [])
        (if bytes_eq section variable_player_name then handler whose changes.event.event changed ∷ [] else [])
        (one (handler whose works.event.event worked) (quiet.handlers whose works.event.event worked))
        (when (bytes_eq section variable_player_name) (handler whose changes.event.event changed ∷ []) []
        (one (handler whose changes.event.event changed) (quiet.handlers whose changes.event.event changed)) refl))

    silent_alone : (place : TextKind) (section : List ℕ) (e : Entry) → IsSilentRow (alone place section e)
    unfolding row_parts alone_parts
    silent_alone Machine section e = by (bytes_eq section game_name)
      where
        by : (b : Bool) → IsSilent (where_true b (game_part machine whose (game_of e)))
        by true = one (game_part machine whose (game_of e)) (quiet.games _ _ _)
        by false = refl
    silent_alone Mode section e = refl

    told-cons : (r : Row) (rs : List Row) → told_rows (r ∷ rs) ≡ told (of_row r) ++ told_rows rs
    told-cons r rs = flat_map-append tell (of_row r) (flat_map (row_parts rows.machine whose) rs)

    told-append : (rs qs : List Row) → told_rows (rs ++ qs) ≡ told_rows rs ++ told_rows qs
    told-append rs qs = ap told (flat_map-append (row_parts rows.machine whose) rs qs)
        ∙ flat_map-append tell (flat_map (row_parts rows.machine whose) rs) (flat_map (row_parts rows.machine whose) qs)

    silent_rows : {Y : Type 0} (make : Y → Row) → ((y : Y) → IsSilentRow (make y)) → (ys : List Y)
        → told_rows (map make ys) ≡ []
    silent_rows make is [] = refl
    silent_rows make is (y ∷ ys) = told-cons (make y) (map make ys) ∙ (λ i. is y i ++ silent_rows make is ys i)

    -- a text of a mode tells nothing
    silent_content : (seat : List ℕ → Option Seat) (to : List ℕ → Destination) (name : List ℕ) (content : Content)
        → told_rows (rows_from rows Mode seat to name content) ≡ []
    unfolding row_parts entry_parts
    silent_content seat to name (entries es) =
        silent_rows (entry_row rows Mode seat to name) (λ e. silent_entry_row Mode seat to name e (of_mode e)) es
      where
        of_mode : (e : Entry) → IsSilentRow (entry Mode name e)
        of_mode e = silent_where whose (device_of name e)
    silent_content seat to name (players ps) = silent_rows (player Mode name) (silent_player Mode name) ps
    silent_content seat to name (sections.entry e) = silent_rows (alone Mode name) (silent_alone Mode name) (e ∷ [])
    silent_content seat to name (sections.name_list ws) = refl

    silent_sections : (seat : List ℕ → Option Seat) (to : List ℕ → Destination) (ss : List SectionRows)
        → told_rows (rows_in rows Mode seat to ss) ≡ []
    silent_sections seat to [] = refl
    silent_sections seat to (s ∷ ss) = told-append (rows_from rows Mode seat to s.name s.content)
        (rows_in rows Mode seat to ss) ∙ (λ i. silent_content seat to s.name s.content i
        ++ silent_sections seat to ss i)

  silent_modes : (rows : Rows) (k n : ℕ) (ms : List ModeRows) → IsSilent (modes_parts rows k n ms)
  silent_modes rows k n [] = refl
  silent_modes rows k n (m ∷ ms) =
      let number : ModeId = record { 0 = k } in
      let s = mode_settings m.sections in
      let first = mode_parts number m.name s in
      let text = text_parts rows (of_the_mode number s) Mode n m.sections in
      both (first ++ text) (modes_parts rows (suc k) (rows_after_text Mode n m.sections) ms)
      (both first text (silent_mode number m.name s)
      (silent_sections rows (of_the_mode number s) (seat_of Mode n m.sections) (destination_of Mode n m.sections)
      m.sections))
      (silent_modes rows (suc k) (rows_after_text Mode n m.sections) ms)

  -- ---- the machine text

  -- Here an entry of the section of this name tells this, and no other does.
  module _ {Y : Type 0} (rows : Rows) (name : List ℕ) (f : Entry → Y) (g : Y → X)
      (here : (seat : List ℕ → Option Seat) (to : List ℕ → Destination) (e : Entry)
      → told (row_parts rows.machine own (entry_row rows Machine seat to name e)) ≡ g (f e) ∷ [])
      (elsewhere : (section : List ℕ) (e : Entry) → bytes_eq section name ≡ false
      → told (row_parts rows.machine own (entry Machine section e)) ≡ []) where
    module _ (seat : List ℕ → Option Seat) (to : List ℕ → Destination) where
      abbrev told_own : List Row → List X
      told_own rs = told (flat_map (row_parts rows.machine own) rs)

      entries_tell : (es : List Entry) → told_own (map (entry_row rows Machine seat to name) es) ≡ map g (map f es)
      entries_tell [] = refl
      entries_tell (e ∷ es) =
          told-cons rows own (entry_row rows Machine seat to name e) (map (entry_row rows Machine seat to name) es)
          ∙ (λ i. here seat to e i ++ entries_tell es i)

      none_named : (b : Bool) → [] ≡ map g (map f (if b then [] else []))
      none_named x1 = search rules

      content_tells : (section : List ℕ) (content : Content)
          → told_own (rows_from rows Machine seat to section content)
          ≡ map g (map f (entries_of name (record { name = section; content = content })))
      content_tells section (entries es) = by (bytes_eq section name) refl
        where
          by : (b : Bool) → bytes_eq section name ≡ b
              → told_own (map (entry_row rows Machine seat to section) es) ≡ map g (map f (if b then es else []))
          by true is = subst (λ n. told_own (map (entry_row rows Machine seat to n) es) ≡ map g (map f es))
              (sym ((bytes_eq-Decides section name).0 is)) (entries_tell es)
          by false is = silent_rows rows own (entry_row rows Machine seat to section)
              (λ e. silent_entry_row rows own Machine seat to section e (elsewhere section e is)) es
      content_tells section (players ps) =
          silent_rows rows own (player Machine section) (silent_player rows own Machine section) ps
          ∙ none_named (bytes_eq section name)
      content_tells section (sections.entry e) =
          silent_rows rows own (alone Machine section) (silent_alone rows own Machine section) (e ∷ [])
          ∙ none_named (bytes_eq section name)
      content_tells section (sections.name_list ws) = none_named (bytes_eq section name)

      sections_tell : (ss : List SectionRows)
          → told_own (rows_in rows Machine seat to ss) ≡ map g (flat_map (λ s. map f (entries_of name s)) ss)
      sections_tell [] = refl
      sections_tell (s ∷ ss) =
          told-append rows own (rows_from rows Machine seat to s.name s.content) (rows_in rows Machine seat to ss)
          ∙ (λ i. content_tells s.name s.content i ++ sections_tell ss i)
          ∙ sym (map-append g (map f (entries_of name s)) (flat_map (λ s. map f (entries_of name s)) ss))

    all_tell : told (parts_of rows) ≡ map g (flat_map (λ s. map f (entries_of name s)) rows.machine)
    unfolding parts_of
    all_tell =
        let after = rows_after_text Machine 0 rows.machine in
        flat_map-append tell (text_parts rows own Machine 0 rows.machine) (modes_parts rows 0 after rows.modes)
        ∙ (λ i. sections_tell (seat_of Machine 0 rows.machine) (destination_of Machine 0 rows.machine) rows.machine i
        ++ silent_modes rows 0 after rows.modes i)
        ∙ append-nil (map g (flat_map (λ s. map f (entries_of name s)) rows.machine))

-- ---- switches and coils

quiet_switches : IsQuiet given_switch
quiet_switches =
    record {
      modes = λ name s. refl;
      games = λ a b c. refl;
      handlers = λ whose e r. refl;
      devices = λ whose d. refl;
      mentions = λ t n. refl;
      missing = refl;
    }

quiet_coils : IsQuiet given_coil
quiet_coils =
    record {
      modes = λ name s. refl;
      games = λ a b c. refl;
      handlers = λ whose e r. refl;
      devices = λ whose d. refl;
      mentions = λ t n. refl;
      missing = refl;
    }

pub switches_given : (rows : Rows)
    → flat_map given_switch (parts_of rows) ≡ map (λ s. s.name.text) (flat_map switches_in rows.machine)
unfolding switches_in row_parts entry_parts machine_entry_parts
switches_given rows = all_tell given_switch quiet_switches rows switches_name switch_of (λ s. s.name.text) here
    elsewhere
  where
    here : (seat : List ℕ → Option Seat) (to : List ℕ → Destination) (e : Entry)
        → flat_map given_switch (row_parts rows.machine own (entry_row rows Machine seat to switches_name e))
        ≡ (switch_of e).name.text ∷ []
    here seat to e = refl

    elsewhere : (section : List ℕ) (e : Entry) → bytes_eq section switches_name ≡ false
        → flat_map given_switch (row_parts rows.machine own (entry Machine section e)) ≡ []
    elsewhere section e is = by (bytes_eq section coils_name) (bytes_eq section switches_name) is
      where
        by : (c s : Bool) → s ≡ false
            → flat_map given_switch (if c then coil_part rows.machine own (coil_of e)
            ∷ [] else (if s then switch_part rows.machine own (switch_of e)
            ∷ [] else where_some (device own) (machine_device rows.machine own section e))) ≡ []
        by true s is = refl
        by false true is = absurd cc
        by false false is = silent_where given_switch quiet_switches own (machine_device rows.machine own section e)

pub coils_given : (rows : Rows)
    → flat_map given_coil (parts_of rows) ≡ map (λ c. (c.name.text, limits_of_coil c)) (flat_map coils_in rows.machine)
unfolding coils_in row_parts entry_parts machine_entry_parts
coils_given rows = all_tell given_coil quiet_coils rows coils_name coil_of (λ c. (c.name.text, limits_of_coil c)) here
    elsewhere
  where
    here : (seat : List ℕ → Option Seat) (to : List ℕ → Destination) (e : Entry)
        → flat_map given_coil (row_parts rows.machine own (entry_row rows Machine seat to coils_name e))
        ≡ ((coil_of e).name.text, limits_of_coil (coil_of e)) ∷ []
    here seat to e = refl

    elsewhere : (section : List ℕ) (e : Entry) → bytes_eq section coils_name ≡ false
        → flat_map given_coil (row_parts rows.machine own (entry Machine section e)) ≡ []
    elsewhere section e is = by (bytes_eq section coils_name) (bytes_eq section switches_name) is
      where
        by : (c s : Bool) → c ≡ false
            → flat_map given_coil (if c then coil_part rows.machine own (coil_of e)
            ∷ [] else (if s then switch_part rows.machine own (switch_of e)
            ∷ [] else where_some (device own) (machine_device rows.machine own section e))) ≡ []
        by true s is = absurd cc
        by false true is = refl
        by false false is = silent_where given_coil quiet_coils own (machine_device rows.machine own section e)
