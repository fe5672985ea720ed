-- What holds of the parts of each row holds of the parts of a text.
use Rattle.std.proofs.Common.{rules, ◌≡◌, ℕ, Bool, true, if◌then◌else◌, List, [], ◌∷◌, ◌++◌, map, get_or, refl}
use Rattle.std.specs.{Prelude.{Option, None, Some, IfSome}, Str.bytes_eq, List.All}
use Rattle.std.proofs.lemmas.List.Elements.{All-nil, All-cons, All-append, All-map}
use Rattle.mpf_sections.specs.Rows.{WrittenName, Entry, PlayerEntry, Shot, Content, entries, players, entry as single}
use Rattle.mpf_sections.specs.{Rows.{name_list, SectionRows}, TypedBalls.{ball_devices_name, ball_device_of}}
use Rattle.mpf_sections.specs.TypedShots.{shots_name, shot_groups_name, shot_of, shot_group_of}
use Rattle.mpf_sections.specs.Typed.{switches_name, event_player_name, switch_of, event_player_of}
use Rattle.mpf_sections.specs.TypedCoils.{coils_name, coil_player_name, coil_of, coil_player_of}
use Rattle.mpf_sections.specs.TypedGame.{game_name, variable_player_name, game_of, variable_player_of}
use Rattle.machine_definitions.specs.Shots.{Profile, has_profile, profile_of_name}
use Rattle.plan_tables.specs.declared.table.Table.TheVariants.{Switches}
use Rattle.mpf_config.specs.Rows.{Rows}
use Rattle.plan_rows.specs.{declared.destination.Destination.Destination, Rows.{entry_row, rows_from, text_rows}}
use Rattle.mpf_tables.specs.declared.tables.TextKind.{TextKind, TheVariants.Machine}
use Rattle.plan_rows.specs.{Members.members_of, Seats.{Seat, seat_of, destination_of}}
use Rattle.plan_rows.specs.Rows.{Row, entry, alone, player, shot_row, group_row, ball_device_row, other_row}
use Rattle.plan_parts.specs.{Effects.posts, CoilEntries.item_effect, BallEntries.{ball_device_from, is_known}}
use Rattle.plan_parts.specs.{VariableEntries.item_change, Parts.{unknown, text_parts}}
use Rattle.plan_parts.specs.ShotEntries.{shot_acts, lone_device, group_device}
use Rattle.plan_parts.specs.Parts.{Whose, Device, texts, device_of, run, act_on, Part, handler, device, mention}
use Rattle.plan_parts.specs.Parts.{where_some, unknown_unless, machine_device, switch_part, coil_part, game_part}
use Rattle.plan_parts.specs.Parts.{machine_entry_parts, entry_parts, alone_parts, player_parts, with_seat, row_parts}
use Rattle.yaml_bytes.proofs.Each.{All-flat_map}

-- ---- rows

-- what holds of a row of a shot, of a group, of a ball device and of any other entry holds of each entry's row
pub entry_such : (R : Row → Type 0) (rows : Rows) (place : TextKind) (seat : List ℕ → Option Seat)
    (to : List ℕ → Destination) (section : List ℕ) (e : Entry)
    → (bytes_eq section shots_name ≡ true → R (shot_row rows place seat (shot_of e)))
    → (bytes_eq section shot_groups_name ≡ true → R (group_row rows place seat (shot_group_of e)))
    → (place ≡ Machine → bytes_eq section ball_devices_name ≡ true → R (ball_device_row to (ball_device_of e)))
    → R (entry place section e) → R (entry_row rows place seat to section e)
entry_such R rows place seat to section e of_shot of_group of_ball other =
    by (bytes_eq section shots_name) (bytes_eq section shot_groups_name) refl refl
  where
    in_machine : (b : Bool) → (b ≡ true → R (ball_device_row to (ball_device_of e))) → R (entry Machine section e)
        → R (if b then ball_device_row to (ball_device_of e) else entry Machine section e)
    in_machine x1 ball rest = search rules

    in_other : (place : TextKind)
        → (place ≡ Machine → bytes_eq section ball_devices_name ≡ true → R (ball_device_row to (ball_device_of e)))
        → R (entry place section e) → R (other_row to place section e)
    in_other x1 ball rest = search (rules, in_machine)

    by : (s g : Bool) → bytes_eq section shots_name ≡ s → bytes_eq section shot_groups_name ≡ g
        → R (if s then shot_row rows place seat (shot_of e) else
        (if g then group_row rows place seat (shot_group_of e) else other_row to place section e))
    by x1 x2 x3 x4 = search (rules, in_other)

-- E holds of each entry of a section, and L of each entry of a player
abbrev pub IsSuchContent : (List ℕ → Entry → Type 0) → (List ℕ → PlayerEntry → Type 0) → List ℕ → Content → Type 0
IsSuchContent E L section (entries es) = All (E section) es
IsSuchContent E L section (players ps) = All (L section) ps
IsSuchContent E L section (single e) = E section e
IsSuchContent E L section (name_list ws) = Unit {0}

abbrev pub IsSuch : (List ℕ → Entry → Type 0) → (List ℕ → PlayerEntry → Type 0) → SectionRows → Type 0
IsSuch E L s = IsSuchContent E L s.name s.content

-- ---- the parts of a text

module _ (rows : Rows) (whose : Whose) (place : TextKind) (n : ℕ) (ss : List SectionRows) (Q : Part → Type 0)
    (E : List ℕ → Entry → Type 0) (L : List ℕ → PlayerEntry → Type 0) where
  abbrev seat : List ℕ → Option Seat
  seat = seat_of place n ss

  abbrev to : List ℕ → Destination
  to = destination_of place n ss

  abbrev pub OfRow : Row → Type 0
  OfRow r = All Q (row_parts rows.machine whose r)

  -- Q holds of the parts of each row, by what it is
  pub record EachRow : Type 0 where
    pub shot : (section : List ℕ) (e : Entry) → E section e → bytes_eq section shots_name ≡ true
        → OfRow (shot_row rows place seat (shot_of e))
    pub group : (section : List ℕ) (e : Entry) → E section e → bytes_eq section shot_groups_name ≡ true
        → OfRow (group_row rows place seat (shot_group_of e))
    pub ball_device : (section : List ℕ) (e : Entry) → E section e → place ≡ Machine
        → bytes_eq section ball_devices_name ≡ true → OfRow (ball_device_row to (ball_device_of e))
    pub entry : (section : List ℕ) (e : Entry) → E section e → OfRow (entry place section e)
    pub alone : (section : List ℕ) (e : Entry) → E section e → OfRow (alone place section e)
    pub player : (section : List ℕ) (p : PlayerEntry) → L section p → OfRow (player place section p)

  module _ (each : EachRow) where
    of_content : (s : SectionRows) → IsSuch E L s → All OfRow (rows_from rows place seat to s.name s.content)
    of_content s such = by s.content such
      where
        of_entry : (e : Entry) → E s.name e → OfRow (entry_row rows place seat to s.name e)
        of_entry e is =
            entry_such OfRow rows place seat to s.name e (each.shot s.name e is) (each.group s.name e is)
            (each.ball_device s.name e is) (each.entry s.name e is)

        by : (content : Content) → IsSuchContent E L s.name content
            → All OfRow (rows_from rows place seat to s.name content)
        by (entries es) is =
            All-map OfRow (entry_row rows place seat to s.name) es
            (λ i d within. of_entry (get_or es i d) (is i d within))
        by (players ps) is =
            All-map OfRow (player place s.name) ps (λ i d within. each.player s.name (get_or ps i d) (is i d within))
        by (single e) is = All-cons OfRow (alone place s.name e) [] (each.alone s.name e is) (All-nil OfRow)
        by (name_list ws) is = All-nil OfRow

    -- so it holds of all parts of the text
    pub text_each : All (IsSuch E L) ss → All Q (text_parts rows whose place n ss)
    text_each such =
        All-flat_map Q (row_parts rows.machine whose) (text_rows rows place n ss)
        (All-flat_map OfRow (λ s. rows_from rows place seat to s.name s.content) ss
        (λ i d within. of_content (get_or ss i d) (such i d within)))

  -- ---- by the parts that rows give

  abbrev pub IfDevice : Option Device → Type 0
  IfDevice o = IfSome o (λ d. Q (device whose d))

  -- Q holds of each part that a row gives, by the entry that gives it
  pub record EachPart : Type 0 where
    pub unknowns : Q unknown
    pub mentions : (section : List ℕ) (e : Entry) → E section e
        → IfSome (shot_of e).switch (λ w. Q (mention Switches w.text))
    pub lone_shots : (section : List ℕ) (e : Entry) → E section e
        → Q (device whose (lone_device (profile_of_name rows (shot_of e).profile.text) (shot_of e)))
    pub seats : (section : List ℕ) (e : Entry) → E section e → (x : Seat) → seat (shot_of e).name.text ≡ Some x
        → All Q (map (λ h. handler whose h.0 (act_on (record { 0 = x.row }) h.1)) (shot_acts x.shot (shot_of e)))
    pub groups : (section : List ℕ) (e : Entry) → E section e
        → Q (device whose (group_device (shot_group_of e) (members_of rows (shot_group_of e))))
    pub ball_devices : (section : List ℕ) (e : Entry) → E section e → place ≡ Machine
        → bytes_eq section ball_devices_name ≡ true
        → Q (device whose (ball_device_from rows.machine (ball_device_of e) (to (ball_device_of e).target.text)))
    pub switches : (section : List ℕ) (e : Entry) → E section e → Q (switch_part rows.machine whose (switch_of e))
    pub coils : (section : List ℕ) (e : Entry) → E section e → Q (coil_part rows.machine whose (coil_of e))
    pub rules : (section : List ℕ) (e : Entry) → E section e → place ≡ Machine
        → IfDevice (machine_device rows.machine whose section e)
    pub devices : (section : List ℕ) (e : Entry) → E section e → IfDevice (device_of section e)
    pub games : (section : List ℕ) (e : Entry) → E section e → Q (game_part rows.machine whose (game_of e))
    pub event_players : (section : List ℕ) (p : PlayerEntry) → L section p
        → Q (handler whose (event_player_of p).event.event (run (map posts (texts (event_player_of p).posts))))
    pub coil_players : (section : List ℕ) (p : PlayerEntry) → L section p
        → Q (handler whose (coil_player_of p).event.event
        (run (map (item_effect rows.machine) (coil_player_of p).items)))
    pub variable_players : (section : List ℕ) (p : PlayerEntry) → L section p
        → Q (handler whose (variable_player_of p).event.event (run (map item_change (variable_player_of p).items)))

  module _ (each : EachPart) where
    one : (p : Part) → Q p → All Q (p ∷ [])
    one p is = All-cons Q p [] is (All-nil Q)

    either : (b : Bool) (ps qs : List Part) → All Q ps → All Q qs → All Q (if b then ps else qs)
    either x1 ps qs first other = search rules

    in_device : (o : Option Device) → IfDevice o → All Q (where_some (device whose) o)
    in_device None is = All-nil Q
    in_device (Some d) is = one (device whose d) is

    in_mention : (o : Option WrittenName) → IfSome o (λ w. Q (mention Switches w.text))
        → All Q (where_some (λ w. mention Switches w.text) o)
    in_mention None is = All-nil Q
    in_mention (Some w) is = one (mention Switches w.text) is

    in_unknown : (known : Bool) → All Q (unknown_unless known)
    in_unknown known = either known [] (unknown ∷ []) (All-nil Q) (one unknown each.unknowns)

    in_seated : (s : Shot) (p : Profile) → Q (device whose (lone_device p s)) → (o : Option Seat)
        → ((x : Seat) → o ≡ Some x → All Q
        (map (λ h. handler whose h.0 (act_on (record { 0 = x.row }) h.1)) (shot_acts x.shot s)))
        → All Q (with_seat rows.machine whose p s o)
    in_seated s p own None seats = one (device whose (lone_device p s)) own
    in_seated s p own (Some x) seats = seats x refl

    in_entry : (own : TextKind) → place ≡ own → (section : List ℕ) (e : Entry) → E section e
        → All Q (entry_parts rows.machine whose own section e)
    unfolding entry_parts machine_entry_parts
    in_entry Machine same section e is =
        either (bytes_eq section coils_name) _ _ (one _ (each.coils section e is))
        (either (bytes_eq section switches_name) _ _ (one _ (each.switches section e is))
        (in_device (machine_device rows.machine whose section e) (each.rules section e is same)))
    in_entry _ same section e is = in_device (device_of section e) (each.devices section e is)

    in_alone : (own : TextKind) (section : List ℕ) (e : Entry) → E section e
        → All Q (alone_parts rows.machine whose own section e)
    unfolding alone_parts
    in_alone Machine section e is =
        either (bytes_eq section game_name) _ _ (one _ (each.games section e is)) (All-nil Q)
    in_alone _ section e is = All-nil Q

    in_player : (section : List ℕ) (p : PlayerEntry) → L section p → All Q (player_parts rows.machine whose section p)
    unfolding player_parts
    in_player section p is =
        either (bytes_eq section event_player_name) _ _ (one _ (each.event_players section p is))
        (either (bytes_eq section coil_player_name) _ _ (one _ (each.coil_players section p is))
        (either (bytes_eq section variable_player_name) _ _ (one _ (each.variable_players section p is)) (All-nil Q)))

    each_row : EachRow
    unfolding row_parts
    each_row = record {
      shot = λ section e is named.
          let s = shot_of e in
          let p = profile_of_name rows s.profile.text in
          let unknown_one = unknown_unless (has_profile rows s.profile.text) in
          let other_mentions = where_some (λ w. mention Switches w.text) s.switch in
          All-append Q (unknown_one ++ other_mentions) (with_seat rows.machine whose p s (seat s.name.text))
          (All-append Q unknown_one other_mentions (in_unknown (has_profile rows s.profile.text))
          (in_mention s.switch (each.mentions section e is)))
          (in_seated s p (each.lone_shots section e is) (seat s.name.text) (each.seats section e is));
      group = λ section e is named.
          let m = members_of rows (shot_group_of e) in
          let d = group_device (shot_group_of e) m in
          All-append Q (unknown_unless m.all_known) (device whose d ∷ []) (in_unknown m.all_known)
          (one (device whose d) (each.groups section e is));
      ball_device = λ section e is own named.
          let b = ball_device_of e in
          let d = ball_device_from rows.machine b (to b.target.text) in
          All-append Q (unknown_unless (is_known (to b.target.text))) (device whose d ∷ [])
          (in_unknown (is_known (to b.target.text)))
          (one (device whose d) (each.ball_devices section e is own named));
      entry = λ section e is. in_entry place refl section e is;
      alone = λ section e is. in_alone place section e is;
      player = λ section p is. in_player section p is;
    }

    -- so it holds of all parts of the text
    pub text_parts_each : All (IsSuch E L) ss → All Q (text_parts rows whose place n ss)
    text_parts_each such = text_each each_row such
