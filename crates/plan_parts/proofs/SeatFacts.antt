-- The rows of devices that a text gives, as they are counted before it is read; which of them the seats of its shots
-- are
-- in, and which are those of its ball devices.
use Rattle.std.proofs.Common.{rules, ◌≡◌, ℕ, suc, ◌+◌, ◌-◌, ◌≤◌, Bool, true, false, ◌||◌, not, if◌then◌else◌, List}
use Rattle.std.proofs.Common.{[], ◌∷◌, ◌++◌, length, map, refl, sym, ◌∙◌, ap, subst, arith}
use Rattle.std.specs.Prelude.{Option, None, Some, IfSome, is_some, fold, slice_get}
use Rattle.std.specs.{Str.bytes_eq, List.{All, flat_map, list_any}}
use Rattle.std.proofs.lemmas.{Grind.flat_map-append, List.Folds.list_any-append, Slice.Eq.bytes_eq-Decides}
use Rattle.std.proofs.lemmas.List.Elements.{All-nil, All-cons, All-tail, All-append, All-weaker}
use Rattle.yaml_subset.specs.Keys.{is_among}
use Rattle.mpf_values.specs.Events.{Event}
use Rattle.mpf_sections.specs.Rows.{WrittenName, Entry, PlayerEntry, Shot, Content, entries, players, entry as single}
use Rattle.mpf_sections.specs.{Rows.{name_list, SectionRows}, Typed.timer_of}
use Rattle.mpf_sections.{specs.TypedGame.{variable_player_name, game_name}, proofs.CoilRows.coil_rule_some}
use Rattle.mpf_sections.specs.CoilRules.{CoilRule, coil_rule_of, coil_rule_sections}
use Rattle.mpf_sections.specs.TypedCoils.{coils_name, coil_player_name, coil_of}
use Rattle.mpf_sections.specs.Typed.{entries_of, switches_name, event_player_name, counters_name, accruals_name}
use Rattle.mpf_sections.specs.Typed.{sequences_name, timers_name, entries_in, switch_of, counter_of, step_block_of}
use Rattle.mpf_sections.specs.TypedShots.{shots_name, shot_groups_name, shot_of, shot_group_of, shot_groups_in}
use Rattle.mpf_sections.specs.TypedBalls.{ball_devices_name, ball_device_of, ball_devices_in}
use Rattle.mpf_sections.specs.TypedSaves.{ball_saves_name, multiballs_name, ball_save_of, multiball_of}
use Rattle.mpf_config.specs.Rows.{Rows}
use Rattle.machine_definitions.specs.Shots.{Profile, has_profile, profile_of_name}
use Rattle.plan_tables.specs.declared.{devices.Act.Act, table.Table.TheVariants.Switches}
use Rattle.plan_tables.specs.declared.devices.Settings.TheVariants as kinds
use Rattle.plan_rows.specs.{declared.destination.Destination.Destination, Rows.{entry_row, rows_from, rows_in}}
use Rattle.mpf_tables.specs.declared.tables.TextKind.{TextKind, TheVariants.{Machine, Mode}}
use Rattle.plan_rows.specs.Seats.{section_entries, text_entries, lists_shot, is_grouped, row_sections, has_row}
use Rattle.plan_rows.specs.Seats.{rows_after, rows_after_all, Seat, seats_at, given_from, latest, found_in}
use Rattle.plan_rows.specs.Seats.{entry_seats, seat_of, entry_ball_row, ball_row_of, destination_of, rows_after_text}
use Rattle.plan_rows.specs.Rows.{Row, entry, alone, player, shot_row, group_row, ball_device_row, other_row}
use Rattle.plan_parts.specs.{BallEntries.{is_known, ball_device_from}, ShotEntries.shot_acts, PartKinds.is_ball}
use Rattle.plan_parts.specs.SaveEntries.{save_device, multiball_device, save_device_of}
use Rattle.plan_parts.specs.CoilEntries.{coil_rule_device, rule_device_of}
use Rattle.plan_parts.specs.DeviceEntries.{counter_device, step_settings, step_device, timer_device, device_of}
use Rattle.plan_parts.specs.Parts.{Whose, Device, Part, handler, device, act_on, mention, where_some, first_of}
use Rattle.plan_parts.specs.Parts.{unknown_unless, alone_parts, player_parts, with_seat, row_parts, text_parts}
use Rattle.plan_parts.specs.Parts.{machine_device, switch_part, coil_part, machine_entry_parts, entry_parts}

-- ---- the rows that parts give

-- the row that a part gives, if it gives one: whose it is, and whether it is that of a ball device
abbrev pub mark : Part → List (Whose × Bool)
mark (device whose d) = (whose, is_ball d.settings) ∷ []
mark _ = []

abbrev pub marks : List Part → List (Whose × Bool)
marks ps = flat_map mark ps

-- whether the entries of a section of this name are ball devices
abbrev has_balls : TextKind → List ℕ → Bool
has_balls Machine section = bytes_eq section ball_devices_name
has_balls _ section = false

-- a name is among others in either order of the two
among_same : (keys : List (List ℕ)) (name : List ℕ) → is_among keys name ≡ list_any (bytes_eq name) keys
among_same x1 name = search rules

-- those of groups are among them
groups_among : (place : TextKind) → is_among (row_sections place) shot_groups_name ≡ true
groups_among x1 = search rules

-- what holds of a name holds of what has it
named : (A : List ℕ → Type 0) (section name : List ℕ) → bytes_eq section name ≡ true → A name → A section
named A section name is h = subst A (sym ((bytes_eq-Decides section name).0 is)) h

-- neither shots nor groups are ball devices
shots_no_balls : (place : TextKind) → has_balls place shots_name ≡ false
shots_no_balls x1 = search rules

groups_no_balls : (place : TextKind) → has_balls place shot_groups_name ≡ false
groups_no_balls x1 = search rules

-- Here `whose` is the owner of the text.
module _ (whose : Whose) where
  abbrev Mark : Type 0
  Mark = Whose × Bool

  -- a row, if this holds
  abbrev pub row_if : Bool → Bool → List (Whose × Bool)
  row_if b ball = if b then (whose, ball) ∷ [] else []

  -- the rows of entries
  abbrev pub rows_of_entries : TextKind → (List ℕ → Bool) → List (List ℕ × Entry) → List (Whose × Bool)
  rows_of_entries place is_in_group es = flat_map (λ e. row_if (has_row place is_in_group e) (has_balls place e.0)) es

  abbrev pub rows_of_text : TextKind → List SectionRows → List (Whose × Bool)
  rows_of_text place ss = rows_of_entries place (is_grouped ss) (text_entries ss)

  -- what the device of an entry gives, if it is one
  abbrev marked : Option Device → List (Whose × Bool)
  marked o = marks (where_some (device whose) o)

  module _ (machine : List SectionRows) where
    -- an entry has a row if it is a ball save or a multiball
    save_row : (section : List ℕ) (e : Entry) → bytes_eq section shot_groups_name ≡ false
        → marked (save_device_of section e)
        ≡ row_if (bytes_eq section ball_saves_name
        || (bytes_eq section multiballs_name || (bytes_eq section shot_groups_name || false))) false
    unfolding save_device_of
    save_row section e =
        by (bytes_eq section ball_saves_name) (bytes_eq section multiballs_name) (bytes_eq section shot_groups_name)
      where
        by : (s m g : Bool) → g ≡ false
            → marked (if s then Some (save_device (ball_save_of e)) else
            (if m then Some (multiball_device (multiball_of e)) else None))
            ≡ row_if (s || (m || (g || false))) false
        by x1 x2 g other = search rules

    -- an entry that is neither a shot nor a group has a row if it is a device
    shared_row : (section : List ℕ) (e : Entry) → bytes_eq section shot_groups_name ≡ false
        → marked (device_of section e) ≡ row_if (list_any (bytes_eq section) (row_sections Mode)) false
    unfolding device_of
    shared_row section e other =
        by (bytes_eq section counters_name) (bytes_eq section accruals_name) (bytes_eq section sequences_name)
        (bytes_eq section timers_name)
      where
        saves : Bool
        saves =
            bytes_eq section ball_saves_name ||
            (bytes_eq section multiballs_name || (bytes_eq section shot_groups_name || false))

        by : (c a s t : Bool)
            → marked (if c then Some (counter_device (counter_of e)) else
            (if a then Some (step_device (kinds.Accrual (step_settings (step_block_of e))) (step_block_of e))
            else
            (if s then Some (step_device (kinds.Sequence (step_settings (step_block_of e))) (step_block_of e)) else
            (if t then Some (timer_device (timer_of e)) else save_device_of section e))))
            ≡ row_if (c || (a || (s || (t || saves)))) false
        by x1 x2 x3 x4 = search (rules, save_row)

    -- the machine text has coil rules, too, and ball devices
    machine_device_row : (section : List ℕ) (e : Entry) → bytes_eq section shot_groups_name ≡ false
        → bytes_eq section ball_devices_name ≡ false
        → marked (machine_device machine whose section e)
        ≡ row_if (list_any (bytes_eq section) (row_sections Machine)) false
    machine_device_row section e other no_ball =
        by (coil_rule_of section e) (bytes_eq section ball_devices_name) (shared_row section e other) no_ball
        ∙ ap (λ b. row_if b false)
        (ap (λ b. b || list_any (bytes_eq section) (ball_devices_name ∷ row_sections Mode)) (coil_rule_some section e)
        ∙ sym (list_any-append (bytes_eq section) coil_rule_sections (ball_devices_name ∷ row_sections Mode)))
      where
        others : Bool
        others = list_any (bytes_eq section) (row_sections Mode)

        rule : (r : CoilRule) → marked (Some (coil_rule_device machine r)) ≡ row_if true false
        rule r = search rules

        by : (o : Option CoilRule) (b : Bool) → marked (device_of section e) ≡ row_if others false → b ≡ false
            → marked (first_of (rule_device_of machine o) (device_of section e))
            ≡ row_if (is_some o || (b || others)) false
        by None b h is = search rules
        by (Some r) b h is = rule r

    -- its coils and switches have none
    machine_row : (section : List ℕ) (e : Entry) → bytes_eq section shot_groups_name ≡ false
        → bytes_eq section ball_devices_name ≡ false
        → marks (machine_entry_parts machine whose section e) ≡ row_if (is_among (row_sections Machine) section) false
    unfolding machine_entry_parts
    machine_row section e other no_ball = by (bytes_eq section coils_name) (bytes_eq section switches_name) refl refl
      where
        without : (name : List ℕ) → bytes_eq section name ≡ true → is_among (row_sections Machine) name ≡ false
            → [] ≡ row_if (is_among (row_sections Machine) section) false
        without name is out =
            named (λ s. [] ≡ row_if (is_among (row_sections Machine) s) false) section name is
            (ap (λ b. row_if b false) (sym out))

        by : (c s : Bool) → bytes_eq section coils_name ≡ c → bytes_eq section switches_name ≡ s
            → marks (if c then coil_part machine whose (coil_of e)
            ∷ [] else (if s then switch_part machine whose (switch_of e)
            ∷ [] else where_some (device whose) (machine_device machine whose section e)))
            ≡ row_if (is_among (row_sections Machine) section) false
        by true s is _ = without coils_name is refl
        by false true _ is = without switches_name is refl
        by false false _ _ =
            machine_device_row section e other no_ball ∙ ap (λ b. row_if b false)
            (sym (among_same (row_sections Machine) section))

    -- a ball device of the machine text has one
    other_entry_row : (to : List ℕ → Destination) (place : TextKind) (section : List ℕ) (e : Entry)
        → bytes_eq section shot_groups_name ≡ false
        → marks (row_parts machine whose (other_row to place section e))
        ≡ row_if (is_among (row_sections place) section) (has_balls place section)
    unfolding row_parts entry_parts
    other_entry_row to Machine section e other = by (bytes_eq section ball_devices_name) refl
      where
        ball : (known : Bool) (d : Device) → is_ball d.settings ≡ true
            → marks (unknown_unless known ++ device whose d ∷ []) ≡ (whose, true) ∷ []
        ball x1 d is = search rules

        by : (b : Bool) → bytes_eq section ball_devices_name ≡ b
            → marks (row_parts machine whose
            (if b then ball_device_row to (ball_device_of e) else entry Machine section e))
            ≡ row_if (is_among (row_sections Machine) section) b
        by true is =
            ball (is_known (to (ball_device_of e).target.text))
            (ball_device_from machine (ball_device_of e) (to (ball_device_of e).target.text)) refl
            ∙ named
            (λ s. (whose, true) ∷ [] ≡ row_if (is_among (row_sections Machine) s) true) section ball_devices_name is
            refl
        by false is = machine_row section e other is
    other_entry_row to Mode section e other =
        shared_row section e other ∙ ap (λ b. row_if b false) (sym (among_same (row_sections Mode) section))

  -- ---- those that are counted

  -- if those shots have seats that groups list
  module _ (rows : Rows) (place : TextKind) (is_in_group : List ℕ → Bool) (seat : List ℕ → Option Seat)
      (to : List ℕ → Destination) (same : (name : List ℕ) → is_some (seat name) ≡ is_in_group name) where
    abbrev given : Row → List (Whose × Bool)
    given r = marks (row_parts rows.machine whose r)

    abbrev all_given : List Row → List (Whose × Bool)
    all_given rs = marks (flat_map (row_parts rows.machine whose) rs)

    all_given-append : (rs qs : List Row) → all_given (rs ++ qs) ≡ all_given rs ++ all_given qs
    all_given-append rs qs =
        ap marks (flat_map-append (row_parts rows.machine whose) rs qs) ∙ flat_map-append mark
        (flat_map (row_parts rows.machine whose) rs) (flat_map (row_parts rows.machine whose) qs)

    all_given-cons : (r : Row) (rs : List Row) → all_given (r ∷ rs) ≡ given r ++ all_given rs
    all_given-cons r rs =
        flat_map-append mark (row_parts rows.machine whose r) (flat_map (row_parts rows.machine whose) rs)

    -- what comes before a shot's own, and before a group's
    none_before : (known : Bool) (o : Option WrittenName)
        → marks (unknown_unless known ++ where_some (λ w. mention Switches w.text) o) ≡ []
    none_before x1 x2 = search rules

    group_given : (known : Bool) (d : Device) → is_ball d.settings ≡ false
        → marks (unknown_unless known ++ device whose d ∷ []) ≡ (whose, false) ∷ []
    group_given x1 d is = search rules

    acts_give : (row : ℕ) (hs : List (Event × Act))
        → marks (map (λ h. handler whose h.0 (act_on (record { 0 = row }) h.1)) hs) ≡ []
    acts_give row [] = refl
    acts_give row (h ∷ hs) = acts_give row hs

    -- a shot has a row if it has no seat
    seated_row : (s : Shot) (p : Profile) (o : Option Seat)
        → marks (with_seat rows.machine whose p s o) ≡ row_if (not (is_some o)) false
    seated_row s p None = refl
    seated_row s p (Some seat) = acts_give seat.row (shot_acts seat.shot s)

    shot_row_is : (e : Entry)
        → given (shot_row rows place seat (shot_of e)) ≡ row_if (not (is_in_group e.name.text)) false
    unfolding row_parts shot_of
    shot_row_is e =
        let s = shot_of e in
        let p = profile_of_name rows s.profile.text in
        let before = unknown_unless (has_profile rows s.profile.text) ++ where_some
        (λ w. mention Switches w.text) s.switch in
        flat_map-append mark before (with_seat rows.machine whose p s (seat e.name.text))
        ∙ ap (λ l. l ++ marks (with_seat rows.machine whose p s (seat e.name.text)))
        (none_before (has_profile rows s.profile.text) s.switch)
        ∙ seated_row s p (seat e.name.text)
        ∙ ap (λ b. row_if (not b) false) (same e.name.text)

    group_row_is : (e : Entry) → given (group_row rows place seat (shot_group_of e)) ≡ (whose, false) ∷ []
    unfolding row_parts
    group_row_is e = group_given _ _ refl

    entry_row_is : (section : List ℕ) (e : Entry)
        → given (entry_row rows place seat to section e)
        ≡ row_if (has_row place is_in_group (section, e)) (has_balls place section)
    entry_row_is section e = by (bytes_eq section shots_name) (bytes_eq section shot_groups_name) refl refl
      where
        by : (s g : Bool) → bytes_eq section shots_name ≡ s → bytes_eq section shot_groups_name ≡ g
            → given (if s then shot_row rows place seat (shot_of e) else
            (if g then group_row rows place seat (shot_group_of e) else other_row to place section e))
            ≡ row_if (if s then not (is_in_group e.name.text) else is_among (row_sections place) section)
            (has_balls place section)
        by true g is _ =
            shot_row_is e
            ∙ named
            (λ x. row_if (not (is_in_group e.name.text)) false
            ≡ row_if (not (is_in_group e.name.text)) (has_balls place x))
            section shots_name is
            (ap (row_if (not (is_in_group e.name.text))) (sym (shots_no_balls place)))
        by false true _ is =
            group_row_is e
            ∙ named
            (λ x. (whose, false) ∷ [] ≡ row_if (is_among (row_sections place) x) (has_balls place x)) section
            shot_groups_name is
            (λ i. row_if (sym (groups_among place) i) (sym (groups_no_balls place) i))
        by false false _ other = other_entry_row rows.machine to place section e other

    abbrev counted : List (List ℕ × Entry) → List (Whose × Bool)
    counted es = rows_of_entries place is_in_group es

    entries_are : (section : List ℕ) (es : List Entry)
        → all_given (map (entry_row rows place seat to section) es) ≡ counted (map (λ e. (section, e)) es)
    entries_are section [] = refl
    entries_are section (e ∷ es) =
        let r = entry_row rows place seat to section in
        all_given-cons (r e) (map r es) ∙ (λ i. entry_row_is section e i ++ entries_are section es i)

    none_if : (b : Bool) (ps qs : List Part) → marks ps ≡ [] → marks qs ≡ [] → marks (if b then ps else qs) ≡ []
    none_if x1 ps qs first other = search rules

    player_gives : (section : List ℕ) (p : PlayerEntry) → given (player place section p) ≡ []
    unfolding row_parts player_parts
    player_gives section p =
        none_if (bytes_eq section event_player_name) _ _ refl
        (none_if (bytes_eq section coil_player_name) _ _ refl
        (none_if (bytes_eq section variable_player_name) _ _ refl refl))

    players_give : (name : List ℕ) (ps : List PlayerEntry) → all_given (map (player place name) ps) ≡ []
    players_give name [] = refl
    players_give name (p ∷ ps) =
        all_given-cons (player place name p) (map (player place name) ps) ∙
        (λ i. player_gives name p i ++ players_give name ps i)

    alone_gives : (own : TextKind) (section : List ℕ) (e : Entry) → given (alone own section e) ≡ []
    unfolding row_parts alone_parts
    alone_gives Machine section e = none_if (bytes_eq section game_name) _ _ refl refl
    alone_gives _ section e = refl

    content_is : (name : List ℕ) (content : Content)
        → all_given (rows_from rows place seat to name content)
        ≡ counted (section_entries (record { name = name; content = content }))
    content_is name (entries es) = entries_are name es
    content_is name (players ps) = players_give name ps
    content_is name (single e) = all_given-cons (alone place name e) [] ∙ (λ i. alone_gives place name e i ++ [])
    content_is name (name_list ws) = refl

    sections_are : (ss : List SectionRows) → all_given (rows_in rows place seat to ss) ≡ counted (text_entries ss)
    sections_are [] = refl
    sections_are (s ∷ ss) =
        let here = rows_from rows place seat to s.name s.content in
        let rest = rows_in rows place seat to ss in
        all_given-append here rest
        ∙ (λ i. content_is s.name s.content i ++ sections_are ss i)
        ∙ sym
        (flat_map-append (λ e. row_if (has_row place is_in_group e) (has_balls place e.0)) (section_entries s)
        (text_entries ss))

  -- they are as many
  module _ (place : TextKind) (is_in_group : List ℕ → Bool) where
    one_more : (n m : ℕ) (b ball : Bool) (rest : List (Whose × Bool)) → (if b then suc n else n) + length rest ≡ m
        → n + length (row_if b ball ++ rest) ≡ m
    one_more n m x3 ball rest is = search rules

    entries_counted : (n : ℕ) (es : List (List ℕ × Entry))
        → n + length (rows_of_entries place is_in_group es) ≡ rows_after_all place is_in_group n es
    entries_counted n [] = omega arith
    entries_counted n (e ∷ es) = search (rules, one_more, entries_counted (rows_after place is_in_group n e) es)

-- ---- what is given under names

-- it is of such a row of these, if so many rows come before them
abbrev pub IsRowAt : ℕ → List (Whose × Bool) → Whose × Bool → ℕ → Type 0
IsRowAt n rows x r = (n ≤ r) × (slice_get rows (r - n) ≡ Some x)

module _ {X : Type 0} (whose : Whose) (row : X → ℕ) (give : ℕ → List ℕ × Entry → List (List ℕ × X)) (place : TextKind)
    (is_in_group : List ℕ → Bool) (ball : Bool) where
  -- it is of the row of its entry
  abbrev IsOwn : ℕ → List ℕ × Entry → List ℕ × X → Type 0
  IsOwn n e x = (row x.1 ≡ n) × (has_row place is_in_group e ≡ true) × (has_balls place e.0 ≡ ball)

  abbrev IsAt : ℕ → List (List ℕ × Entry) → List ℕ × X → Type 0
  IsAt n es x = IsRowAt n (rows_of_entries whose place is_in_group es) (whose, ball) (row x.1)

  given_here : (n : ℕ) (e : List ℕ × Entry) (es : List (List ℕ × Entry)) (x : List ℕ × X) → IsOwn n e x
      → IsAt n (e ∷ es) x
  given_here n e es x is =
      let rest = rows_of_entries whose place is_in_group es in
      let first : row x.1 - n ≡ 0 = omega (arith, is.0) in (
        omega (arith, is.0),
        ap (λ b. slice_get (row_if whose b (has_balls place e.0) ++ rest) (row x.1 - n)) is.1
            ∙ ap (slice_get ((whose, has_balls place e.0) ∷ rest)) first
            ∙ ap (λ b. Some (whose, b)) is.2,
      )

  given_later : (n r : ℕ) (b own : Bool) (rest : List (Whose × Bool))
      → IsRowAt (if b then suc n else n) rest (whose, ball) r → IsRowAt n (row_if whose b own ++ rest) (whose, ball) r
  given_later n r x3 own rest is = search rules

  given_at : ((n : ℕ) (e : List ℕ × Entry) → All (IsOwn n e) (give n e)) → (es : List (List ℕ × Entry)) (n : ℕ)
      → All (IsAt n es) (given_from give place is_in_group n es)
  given_at own [] n = All-nil (IsAt n [])
  given_at own (e ∷ es) n =
      let next = rows_after place is_in_group n e in
      All-append (IsAt n (e ∷ es)) (give n e) (given_from give place is_in_group next es)
      (All-weaker (IsOwn n e) (IsAt n (e ∷ es)) (given_here n e es) (give n e) (own n e))
      (All-weaker (IsAt next es) (IsAt n (e ∷ es))
      (λ x. given_later n (row x.1) (has_row place is_in_group e) (has_balls place e.0)
      (rows_of_entries whose place is_in_group es)) (given_from give place is_in_group next es) (given_at own es next))

module _ {X : Type 0} (name : List ℕ) where
  -- what holds of all that is given holds of what is found
  latest_such : (P : X → Type 0) (xs : List (List ℕ × X)) (found : Option X) → IfSome found P → All (λ x. P x.1) xs
      → IfSome (fold (latest name) found xs) P
  latest_such P [] found h all = h
  latest_such P (x ∷ xs) found h all =
      latest_such P xs (latest name found x) (by (bytes_eq name x.0)) (All-tail (λ (y : List ℕ × X). P y.1) x xs all)
    where
      by : (b : Bool) → IfSome (if b then Some x.1 else found) P
      by x1 = search rules

  abbrev has_it : List ℕ × X → Bool
  has_it x = bytes_eq name x.0

  -- something is found if it is given under the name
  latest_some : (xs : List (List ℕ × X)) (found : Option X)
      → is_some (fold (latest name) found xs) ≡ (is_some found || list_any has_it xs)
  latest_some [] found = by (is_some found)
    where
      by : (b : Bool) → b ≡ (b || false)
      by x1 = search rules
  latest_some (x ∷ xs) found = search (rules, latest_some xs (latest name found x))

  -- that is where an entry of some sections has it
  module _ {Y : Type 0} (give : ℕ → List ℕ × Entry → List (List ℕ × X)) (own : List ℕ) (f : Entry → Y)
      (p : Y → Bool) where
    abbrev gives_it : List ℕ × Entry → Bool
    gives_it e = if bytes_eq e.0 own then p (f e.1) else false

    module _ (each : (n : ℕ) (e : List ℕ × Entry) → list_any has_it (give n e) ≡ gives_it e) where
      at_entries : (place : TextKind) (is_in_group : List ℕ → Bool) (es : List (List ℕ × Entry)) (n : ℕ)
          → list_any has_it (given_from give place is_in_group n es) ≡ list_any gives_it es
      at_entries place is_in_group [] n = refl
      at_entries place is_in_group (e ∷ es) n =
          let next = rows_after place is_in_group n e in
          list_any-append has_it (give n e) (given_from give place is_in_group next es) ∙
          (λ i. each n e i || at_entries place is_in_group es next i)

      in_section : (section : List ℕ) (b : Bool) → bytes_eq section own ≡ b → (es : List Entry)
          → list_any gives_it (map (λ e. (section, e)) es) ≡ list_any p (map f (if b then es else []))
      in_section section true is [] = refl
      in_section section false is [] = refl
      in_section section true is (e ∷ es) = λ i. (if is i then p (f e) else false) || in_section section true is es i
      in_section section false is (e ∷ es) =
          λ i. (if is i then p (f e) else false) || in_section section false is es i

      in_sections : (ss : List SectionRows)
          → list_any gives_it (text_entries ss) ≡ list_any p (flat_map (λ s. map f (entries_of own s)) ss)
      in_sections [] = refl
      in_sections (s ∷ ss) =
          list_any-append gives_it (section_entries s) (text_entries ss)
          ∙ (λ i. in_section s.name (bytes_eq s.name own) refl (entries_in s.content) i || in_sections ss i)
          ∙ sym (list_any-append p (map f (entries_of own s)) (flat_map (λ s. map f (entries_of own s)) ss))

      found_some : (place : TextKind) (n : ℕ) (ss : List SectionRows)
          → is_some (found_in give place n ss name) ≡ list_any p (flat_map (λ s. map f (entries_of own s)) ss)
      found_some place n ss = search (rules, latest_some, at_entries, in_sections)

-- ---- seats and ball devices

at_group : (name : List ℕ) (row i : ℕ) (ws : List WrittenName)
    → list_any (has_it name) (seats_at row i ws) ≡ list_any (λ w. bytes_eq name w.text) ws
at_group name row i [] = refl
at_group name row i (w ∷ ws) = ap (λ b. bytes_eq name w.text || b) (at_group name row (suc i) ws)

seats_each : (name : List ℕ) (n : ℕ) (e : List ℕ × Entry)
    → list_any (has_it name) (entry_seats n e)
    ≡ (if bytes_eq e.0 shot_groups_name then lists_shot name (shot_group_of e.1) else false)
seats_each name n e = by (bytes_eq e.0 shot_groups_name)
  where
    by : (b : Bool)
        → list_any (has_it name) (if b then seats_at n 0 (shot_group_of e.1).shots else [])
        ≡ (if b then lists_shot name (shot_group_of e.1) else false)
    by x1 = search (rules, at_group)

balls_each : (name : List ℕ) (n : ℕ) (e : List ℕ × Entry)
    → list_any (has_it name) (entry_ball_row n e)
    ≡ (if bytes_eq e.0 ball_devices_name then bytes_eq name (ball_device_of e.1).name.text else false)
balls_each name n e = by (bytes_eq e.0 ball_devices_name)
  where
    either : (b : Bool) → (b || false) ≡ b
    either x1 = search rules

    by : (b : Bool)
        → list_any (has_it name) (if b then ((ball_device_of e.1).name.text, n) ∷ [] else [])
        ≡ (if b then bytes_eq name (ball_device_of e.1).name.text else false)
    by x1 = search rules

abbrev seat_row : Seat → ℕ
seat_row s = s.row

seats_own : (whose : Whose) (place : TextKind) (is_in_group : List ℕ → Bool) (n : ℕ) (e : List ℕ × Entry)
    → All (IsOwn whose seat_row entry_seats place is_in_group false n e) (entry_seats n e)
seats_own whose place is_in_group n e = by (bytes_eq e.0 shot_groups_name) refl
  where
    in_group : (i : ℕ) (ws : List WrittenName) → has_row place is_in_group e ≡ true → has_balls place e.0 ≡ false
        → All (IsOwn whose seat_row entry_seats place is_in_group false n e) (seats_at n i ws)
    in_group i [] row none = All-nil (IsOwn whose seat_row entry_seats place is_in_group false n e)
    in_group i (w ∷ ws) row none =
        All-cons (IsOwn whose seat_row entry_seats place is_in_group false n e) (w.text, record { row = n; shot = i })
        (seats_at n (suc i) ws) (refl, row, none) (in_group (suc i) ws row none)

    by : (b : Bool) → bytes_eq e.0 shot_groups_name ≡ b
        → All (IsOwn whose seat_row entry_seats place is_in_group false n e)
        (if b then seats_at n 0 (shot_group_of e.1).shots else [])
    by x1 is = search (rules, in_group, named, groups_among, groups_no_balls, All-nil)

balls_own : (whose : Whose) (is_in_group : List ℕ → Bool) (n : ℕ) (e : List ℕ × Entry)
    → All (IsOwn whose (λ r. r) entry_ball_row Machine is_in_group true n e) (entry_ball_row n e)
balls_own whose is_in_group n e = by (bytes_eq e.0 ball_devices_name) refl
  where
    by : (b : Bool) → bytes_eq e.0 ball_devices_name ≡ b
        → All (IsOwn whose (λ r. r) entry_ball_row Machine is_in_group true n e)
        (if b then ((ball_device_of e.1).name.text, n) ∷ [] else [])
    by x1 is = search rules

-- ---- a text

module _ (whose : Whose) (place : TextKind) (n : ℕ) (ss : List SectionRows) where
  -- those shots have seats that groups list
  pub seat_some : (name : List ℕ) → is_some (seat_of place n ss name) ≡ is_grouped ss name
  unfolding shot_groups_in
  seat_some name =
      found_some name entry_seats shot_groups_name shot_group_of (lists_shot name) (seats_each name) place n ss

  -- the seats are in its rows, and those are of no ball devices
  pub seat_at : (name : List ℕ)
      → IfSome (seat_of place n ss name) (λ s. IsRowAt n (rows_of_text whose place ss) (whose, false) s.row)
  seat_at name =
      latest_such name (λ (s : Seat). IsRowAt n (rows_of_text whose place ss) (whose, false) s.row)
      (given_from entry_seats place (is_grouped ss) n (text_entries ss)) None tt
      (given_at whose seat_row entry_seats place (is_grouped ss) false (seats_own whose place (is_grouped ss))
      (text_entries ss) n)

  -- its rows are those that are counted
  pub text_marks : (rows : Rows) → marks (text_parts rows whose place n ss) ≡ rows_of_text whose place ss
  text_marks rows =
      sections_are whose rows place (is_grouped ss) (seat_of place n ss) (destination_of place n ss) seat_some ss

  pub rows_counted : n + length (rows_of_text whose place ss) ≡ rows_after_text place n ss
  rows_counted = entries_counted whose place (is_grouped ss) n (text_entries ss)

-- ---- the machine text

module _ (whose : Whose) (n : ℕ) (ss : List SectionRows) where
  -- there is a row if there is a ball device
  pub ball_row_some : (name : List ℕ)
      → is_some (ball_row_of Machine n ss name)
      ≡ list_any (λ d. bytes_eq name d.name.text) (flat_map ball_devices_in ss)
  unfolding ball_devices_in
  ball_row_some name =
      found_some name entry_ball_row ball_devices_name ball_device_of (λ d. bytes_eq name d.name.text)
      (balls_each name) Machine n ss

  -- and it is that of a ball device
  pub ball_row_at : (name : List ℕ)
      → IfSome (ball_row_of Machine n ss name) (IsRowAt n (rows_of_text whose Machine ss) (whose, true))
  ball_row_at name =
      latest_such name (IsRowAt n (rows_of_text whose Machine ss) (whose, true))
      (given_from entry_ball_row Machine (is_grouped ss) n (text_entries ss)) None tt
      (given_at whose (λ r. r) entry_ball_row Machine (is_grouped ss) true (balls_own whose (is_grouped ss))
      (text_entries ss) n)
