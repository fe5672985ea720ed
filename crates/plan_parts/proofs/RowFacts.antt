-- What holds of each part of the rows of a configuration: its owner is there, and what it acts on; lists are as many as
-- settings say, and short; and settings, limits and rules are within their limits.
use Rattle.std.proofs.Common.{rules, ◌≡◌, ℕ, ◌<◌, Bool, true, false, if◌then◌else◌, List, [], ◌∷◌, ◌++◌, length}
use Rattle.std.proofs.Common.{map, get_or, ◌||◌, inl, inr, sym, ◌∙◌, ap, subst, true≢false, codes, arith}
use Rattle.std.specs.{Prelude.{Option, None, Some, IfSome}, Str.bytes_eq, List.{All, flat_map, list_any}}
use Rattle.std.proofs.lemmas.{Bool.{or_cases, or_left, or_right, and_parts}, List.{length-map, Folds.list_any-append}}
use Rattle.std.proofs.lemmas.{Grind.flat_map-append, Option.slice_get_within}
use Rattle.std.proofs.lemmas.List.Elements.{All-nil, All-cons, All-append, All-map, All-weaker}
use Rattle.mpf_values.specs.Events.{Event}
use Rattle.mpf_config.specs.{Rows.Rows, Short.{IsShortMode, AreListsShort}, States.HaveStates}
use Rattle.mpf_sections.specs.Rows.{WrittenName, Entry, PlayerEntry, Shot, BallDeviceEntry, ModeSettings, Content}
use Rattle.mpf_sections.specs.Rows.{entries, players, entry as single, name_list, SectionRows}
use Rattle.mpf_sections.specs.{Typed.{event_player_of, mode_settings}, TypedCoils.{coil_of, coil_player_of}}
use Rattle.mpf_sections.specs.TypedGame.{game_name, game_of, min_balls_of, variable_player_of}
use Rattle.mpf_sections.specs.TypedShots.{shot_of, shot_group_of, shot_profiles_in}
use Rattle.mpf_sections.specs.TypedBalls.{playfield, ball_device_of, is_drain}
use Rattle.mpf_sections.specs.Short.{IsShortEntry, IsShortPlayer, IsShortContent, IsShortSection}
use Rattle.mpf_sections.proofs.{ShortRows.event_player_short, CoilRows.{coil_in_range, coil_player_short}}
use Rattle.mpf_sections.proofs.{ShotRows.shot_group_short, BallRows.ball_device_short}
use Rattle.mpf_sections.proofs.GameRows.{variable_player_short, game_in_range, min_balls_few}
use Rattle.machine_definitions.specs.Shots.{standard_profile, profile_of, profile_of_name, all_sections}
use Rattle.machine_definitions.proofs.States.{sections_have_states}
use Rattle.plan_tables.specs.{BallRows.IsNoBallDevice, Valid.IsTargetThere}
use Rattle.plan_tables.specs.declared.{entries.{ModeId.ModeId, Owner.Owner}, devices.Settings.Settings}
use Rattle.plan_tables.specs.declared.entries.Owner.TheVariants as owners
use Rattle.plan_rows.specs.declared.destination.Destination.{Destination}
use Rattle.mpf_tables.specs.declared.tables.TextKind.{TextKind, TheVariants.Machine}
use Rattle.plan_rows.specs.declared.destination.Destination.TheVariants as destinations
use Rattle.plan_rows.specs.{Members.{members_of, first_profile}, Rows.{Row, alone, rows_in, rows_from}}
use Rattle.plan_rows.specs.Seats.{Seat, seat_of, ball_row_of, row_or_unknown, destination_of, rows_after_text}
use Rattle.plan_parts.specs.{Effects.{Effect, posts, leaves, loses, arrives}, CoilEntries.{limits_of_coil, item_effect}}
use Rattle.plan_parts.specs.{VariableEntries.item_change, PartBalls.{IsOfNoBall, DrainsIn}}
use Rattle.plan_parts.specs.ShotEntries.{shot_acts, lone_device, group_device}
use Rattle.plan_parts.specs.BallEntries.{is_entry, is_game, has_game, target_of, ball_lists, ball_device_from}
use Rattle.plan_parts.specs.Parts.{Whose, Device, texts, events, always, device_of, start, stop}
use Rattle.plan_parts.specs.Parts.{act_on, Part, mode, handler, device, where_true, own, control}
use Rattle.plan_parts.specs.Parts.{stops_at_ball_end, stops_at_game_end, mode_parts, machine_device}
use Rattle.plan_parts.specs.Parts.{game_part, alone_parts, row_parts, text_parts, modes_parts, parts_of}
use Rattle.plan_parts.proofs.{WordFacts.HasState, NamedFacts.{one, attempts}}
use Rattle.plan_parts.proofs.{PartFacts.{IsTextOf, parts_each}, RuleFacts.{IsRule, machine_rule}}
use Rattle.plan_parts.specs.PartBounds.{AreLimits, AreRules, IsKindOf, IsTargetAmong, IsPartOf}
use Rattle.plan_parts.specs.PartKinds.{is_game_part, rows_of_parts, IsRowOf}
use Rattle.plan_parts.proofs.ShotFacts.{profile_short, members_short, found_such, first_such}
use Rattle.plan_parts.proofs.DeviceFacts.{any_written, IsPlain, IsSound, IsShared, plain_lone}
use Rattle.plan_parts.proofs.DeviceFacts.{plain_group, anywhere_lone, anywhere_group, sound_lone, sound_group}
use Rattle.plan_parts.proofs.DeviceFacts.{sound_ball_device, device_shared, seven}
use Rattle.plan_parts.proofs.WalkFacts.{EachPart, IsSuchContent, IsSuch, text_parts_each}
use Rattle.plan_parts.proofs.SeatFacts.{rows_of_text, IsRowAt, seat_at, ball_row_at}

-- ---- profiles have states

standard_has : HasState standard_profile
standard_has = omega arith

module _ (rows : Rows) (has : HaveStates rows) where
  found_have : All (λ s. All (λ p. HasState (profile_of p)) (shot_profiles_in s)) (all_sections rows)
  found_have k s within j p inside =
      let q = get_or (shot_profiles_in (get_or (all_sections rows) k s)) j p in
      omega (
        arith,
        sections_have_states rows has k s within j p inside,
        length-map q.states (λ (w : WrittenName). w.text),
      )

  profile_has : (name : List ℕ) → HasState (profile_of_name rows name)
  profile_has name = found_such HasState standard_has rows found_have name

  first_has : (ws : List WrittenName) → HasState (first_profile rows ws)
  first_has ws = first_such HasState standard_has rows found_have ws

-- ---- the game is a part

-- of two lists one has it
or_weaker : (a b c d : Bool) → (a ≡ true → c ≡ true) → (b ≡ true → d ≡ true) → (a || b) ≡ true → (c || d) ≡ true
or_weaker a b c d first second is =
    elim (or_cases a b is) [ inl h ↦ or_left c d (first h) | inr h ↦ or_right c d (second h) ]

module _ (rows : Rows) where
  abbrev of_rows : List Row → List Part
  of_rows rs = flat_map (row_parts rows.machine own) rs

  of_game : (name : List ℕ) (e : Entry) → bytes_eq name game_name ≡ true
      → list_any is_game_part (row_parts rows.machine own (alone Machine name e)) ≡ true
  unfolding row_parts alone_parts
  of_game name e is =
      ap (λ (b : Bool). list_any is_game_part (where_true b (game_part rows.machine own (game_of e)))) is

  module _ (seat : List ℕ → Option Seat) (to : List ℕ → Destination) where
    in_section : (s : SectionRows) → is_game s ≡ true
        → list_any is_game_part (of_rows (rows_from rows Machine seat to s.name s.content)) ≡ true
    in_section s is =
        let found = and_parts (bytes_eq s.name game_name) (is_entry s.content) is in by s.content found.0 found.1
      where
        by : (content : Content) → bytes_eq s.name game_name ≡ true → is_entry content ≡ true
            → list_any is_game_part (of_rows (rows_from rows Machine seat to s.name content)) ≡ true
        by x1 named one = search (rules, list_any-append, or_left, of_game)

    in_sections : (ss : List SectionRows) → has_game ss ≡ true
        → list_any is_game_part (of_rows (rows_in rows Machine seat to ss)) ≡ true
    in_sections [] is = absurd (true≢false (sym is))
    in_sections (s ∷ ss) is =
        let here = rows_from rows Machine seat to s.name s.content in
        let rest = rows_in rows Machine seat to ss in
        ap (list_any is_game_part) (flat_map-append (row_parts rows.machine own) here rest)
        ∙ list_any-append is_game_part (of_rows here) (of_rows rest)
        ∙ or_weaker (is_game s) (has_game ss) (list_any is_game_part (of_rows here))
        (list_any is_game_part (of_rows rest)) (in_section s) (in_sections ss) is

  -- if the machine text has a game, there is a part that is it
  pub game_is_part : has_game rows.machine ≡ true → list_any is_game_part (parts_of rows) ≡ true
  unfolding parts_of
  game_is_part is =
      let text = text_parts rows own Machine 0 rows.machine in
      let rest = modes_parts rows 0 (rows_after_text Machine 0 rows.machine) rows.modes in
      list_any-append is_game_part text rest
      ∙ or_left (list_any is_game_part text) (list_any is_game_part rest)
      (in_sections (seat_of Machine 0 rows.machine) (destination_of Machine 0 rows.machine) rows.machine is)

-- ---- each part

no_target : (rows : ℕ) (s : Settings) → IsNoBallDevice s → IsTargetAmong rows s
no_target rows x2 is = search rules

pub no_drain : (has : Bool) (e : Effect) → IsOfNoBall e → DrainsIn has e
no_drain has x2 is = search rules

machine_kind : (s : Settings) (owner : Owner) → owner ≡ owners.Machine → IsKindOf s owner
machine_kind x1 owner is = search rules

module _ (rows : Rows) where
  abbrev all : List (Whose × Device)
  all = rows_of_parts (parts_of rows)

  abbrev has : Bool
  has = list_any is_game_part (parts_of rows)

  abbrev Are : List Part → Type 0
  Are ps = All (IsPartOf rows) ps

  -- where a ball device ejects its balls to
  ball_target : (whose : Whose) (place : TextKind) (n : ℕ) (ss : List SectionRows) → IsTextOf rows whose place n ss
      → place ≡ Machine → (name : List ℕ) → IsTargetThere (length all) (target_of (destination_of place n ss name))
  ball_target whose Machine n ss at machine name =
      by (bytes_eq name playfield) (ball_row_of Machine n ss name) (ball_row_at whose n ss name)
    where
      by : (b : Bool) (o : Option ℕ) → IfSome o (IsRowAt n (rows_of_text whose Machine ss) (whose, true))
          → IsTargetThere (length all) (target_of (if b then destinations.Playfield else row_or_unknown o))
      by true o h = tt
      by false None h = tt
      by false (Some r) h =
          let there = at.rows_at r true h in
          let within : r < length all = slice_get_within all r (whose, there.device) there.there in
          omega (arith, within)
  ball_target whose _ n ss at machine name = absurd cc

  ball_drains : (d : BallDeviceEntry) → All (All (DrainsIn has)) (ball_lists rows.machine d)
  ball_drains d =
      let D : Effect → Type 0 = DrainsIn has in
      seven (All D) _ _ _ _ _ _ _
      (one D _ (λ is. game_is_part rows (and_parts (is_drain d) (has_game rows.machine) is).1))
      (attempts rows.machine d.name.text D tt tt d.eject_coil (any_written d.eject_coil))
      (one D leaves tt) (one D loses tt) (one D _ tt) (one D arrives tt) (one D _ tt)

  -- ---- a text

  abbrev E : List ℕ → Entry → Type 0
  E section e = AreListsShort rows → IsShortEntry 1024 e

  abbrev L : List ℕ → PlayerEntry → Type 0
  L section p = AreListsShort rows → IsShortPlayer 1024 p

  module _ (whose : Whose) (place : TextKind) (n : ℕ) (ss : List SectionRows)
      (at : IsTextOf rows whose place n ss) where
    plain_drains : (d : Device) → IsPlain d → All (All (DrainsIn has)) d.lists
    plain_drains d is =
        All-weaker (All IsOfNoBall) (All (DrainsIn has))
        (λ es h. All-weaker IsOfNoBall (DrainsIn has) (no_drain has) es h) d.lists is.lists

    -- a device that is no ball device
    device_part : (d : Device) → IsSound (HaveStates rows) (AreListsShort rows) d → IsPlain d
        → (0 < length d.listens → whose.owner ≡ owners.Machine) → IsKindOf d.settings whose.owner
        → IsPartOf rows (device whose d)
    device_part d sound plain listens kind = record {
      owner = at.owner;
      count = sound.count;
      lists = sound.lists;
      limits = sound.limits;
      listens = listens;
      kind = kind;
      target = no_target (length all) d.settings plain.settings;
      drains = plain_drains d plain;
    }

    shared_part : (d : Device) → IsShared (HaveStates rows) (AreListsShort rows) d → IsPartOf rows (device whose d)
    shared_part d is =
        let anywhere = is.anywhere in
        device_part d is.sound is.plain (λ some. absurd (omega (arith, some, ap length anywhere.listens)))
        (anywhere.kind whose.owner)

    rule_part : whose.owner ≡ owners.Machine → (d : Device) → IsRule (HaveStates rows) (AreListsShort rows) d
        → IsPartOf rows (device whose d)
    rule_part machine d is =
        device_part d is.sound is.plain (λ some. machine) (machine_kind d.settings whose.owner machine)

    ball_part : (section : List ℕ) (e : Entry) → E section e → place ≡ Machine
        → IsPartOf rows (device whose (ball_device_from rows.machine (ball_device_of e)
        (destination_of place n ss (ball_device_of e).target.text)))
    ball_part section e short own =
        let b = ball_device_of e in
        let to = destination_of place n ss b.target.text in
        let sound = sound_ball_device (HaveStates rows) (AreListsShort rows) rows.machine b to
        (λ h. ball_device_short e (short h)) in
        record {
          owner = at.owner;
          count = sound.count;
          lists = sound.lists;
          limits = sound.limits;
          listens = λ some. at.machine own;
          kind = at.machine own;
          target = ball_target whose place n ss at own b.target.text;
          drains = ball_drains b;
        }

    -- what holds of the device of an entry, if there is one
    if_device : (R : Device → Type 0) → ((d : Device) → R d → IsPartOf rows (device whose d)) → (o : Option Device)
        → IfSome o R → IfSome o (λ d. IsPartOf rows (device whose d))
    if_device R of None is = tt
    if_device R of (Some d) is = of d is

    coil_within : (e : Entry) → AreLimits (limits_of_coil (coil_of e))
    coil_within e =
        let h = coil_in_range e in
        record {
          some_pulse = h.max_pulse_ms.0;
          pulse = h.max_pulse_ms.1;
          pulse_power = h.max_pulse_power;
          hold_power = h.max_hold_power;
        }

    rules_within : (e : Entry)
        → AreRules (min_balls_of rows.machine) (game_of e).balls_per_game (game_of e).max_players
    rules_within e = search (rules, game_in_range, min_balls_few)

    seat_is : (s : Shot) (x : Seat) → seat_of place n ss s.name.text ≡ Some x → IsRowOf all x.row whose false
    seat_is s x is =
        at.rows_at x.row false
        (subst (λ o. IfSome o (λ y. IsRowAt n (rows_of_text whose place ss) (whose, false) y.row)) is
        (seat_at whose place n ss s.name.text))

    each_part : EachPart rows whose place n ss (IsPartOf rows) E L
    each_part = record {
      unknowns = tt;
      mentions = λ section e short. any_written (shot_of e).switch;
      lone_shots = λ section e short.
          let s = shot_of e in
          let p = profile_of_name rows s.profile.text in
          shared_part (lone_device p s)
          (record {
            sound =
                sound_lone (HaveStates rows) (AreListsShort rows) p s
                (λ states. profile_has rows states s.profile.text) (profile_short rows s.profile.text);
            plain = plain_lone p s;
            anywhere = anywhere_lone p s;
          });
      seats = λ section e short x is.
          All-map (IsPartOf rows) (λ h. handler whose h.0 (act_on (record { 0 = x.row }) h.1))
          (shot_acts x.shot (shot_of e)) (λ i d within. (at.owner, seat_is (shot_of e) x is));
      groups = λ section e short.
          let g = shot_group_of e in
          let m = members_of rows g in
          shared_part (group_device g m)
          (record {
            sound =
                sound_group (HaveStates rows) (AreListsShort rows) g m (λ states. first_has rows states g.shots)
                (λ h. members_short rows g (let few = shot_group_short e (short h) in few.shots));
            plain = plain_group g m;
            anywhere = anywhere_group g m;
          });
      ball_devices = λ section e short own named. ball_part section e short own;
      switches = λ section e short. tt;
      coils = λ section e short. coil_within e;
      rules = λ section e short own.
          if_device (IsRule (HaveStates rows) (AreListsShort rows)) (rule_part (at.machine own))
          (machine_device rows.machine whose section e)
          (machine_rule (HaveStates rows) (AreListsShort rows) e short rows.machine whose section);
      devices =
          λ section e short. if_device (IsShared (HaveStates rows) (AreListsShort rows)) shared_part
          (device_of section e) (device_shared (HaveStates rows) (AreListsShort rows) e short section);
      games = λ section e short. rules_within e;
      event_players = λ section p short. (
        at.owner,
        (
          All-map IsOfNoBall posts (texts (event_player_of p).posts) (λ i d within. tt),
          λ h. omega (
            arith,
            event_player_short p (short h),
            length-map (event_player_of p).posts (λ (w : WrittenName). w.text),
            length-map (texts (event_player_of p).posts) posts,
          ),
        ),
      );
      coil_players = λ section p short. (
        at.owner,
        (
          All-map IsOfNoBall (item_effect rows.machine) (coil_player_of p).items (λ i d within. tt),
          λ h. omega
              (arith, coil_player_short p (short h), length-map (coil_player_of p).items (item_effect rows.machine)),
        ),
      );
      variable_players = λ section p short. (
        at.owner,
        (
          All-map IsOfNoBall item_change (variable_player_of p).items (λ i d within. tt),
          λ h. omega (arith, variable_player_short p (short h), length-map (variable_player_of p).items item_change),
        ),
      );
    }

  -- ---- modes

  module _ (k : ℕ) (below : k < length rows.modes) (s : ModeSettings) where
    abbrev id : ModeId
    id = record { 0 = k }

    in_where : (b : Bool) (e : Event) → Are (where_true b (handler (control s) e (stop id)))
    in_where true e =
        All-cons (IsPartOf rows) (handler (control s) e (stop id)) [] (tt, below) (All-nil (IsPartOf rows))
    in_where false e = All-nil (IsPartOf rows)

    mode_is : (name : List ℕ) → Are (mode_parts id name s)
    unfolding mode_parts
    mode_is name =
        let on = map (λ e. handler (control s) e (start id)) (events s.starts) in
        let off = map (λ e. handler (control s) e (stop id)) (events s.stops) in
        let ball = where_true (stops_at_ball_end s) (handler (control s) (always (codes "ball_ending")) (stop id)) in
        let end = where_true (stops_at_game_end s) (handler (control s) (always (codes "game_ending")) (stop id)) in
        All-cons (IsPartOf rows) (mode name s) (on ++ off ++ ball ++ end) tt
        (All-append (IsPartOf rows) (on ++ off ++ ball) end
        (All-append (IsPartOf rows) (on ++ off) ball
        (All-append (IsPartOf rows) on off
        (All-map (IsPartOf rows) (λ e. handler (control s) e (start id)) (events s.starts) (λ i d within. (tt, below)))
        (All-map (IsPartOf rows) (λ e. handler (control s) e (stop id)) (events s.stops) (λ i d within. (tt, below))))
        (in_where (stops_at_ball_end s) (always (codes "ball_ending"))))
        (in_where (stops_at_game_end s) (always (codes "game_ending"))))

  -- ---- all parts

  such : (s : SectionRows) → (AreListsShort rows → IsShortSection s) → IsSuch E L s
  such s short = by s.content (λ h. short h)
    where
      by : (content : Content) → (AreListsShort rows → IsShortContent content) → IsSuchContent E L s.name content
      by (entries es) short = λ i d within h. (short h).0 i d within
      by (players ps) short = λ i d within h. (short h).1 i d within
      by (single e) short = λ h. (short h).2 0 e (omega arith)
      by (name_list ws) short = tt

  pub parts_are : All (IsPartOf rows) (parts_of rows)
  parts_are =
      parts_each rows (IsPartOf rows) (λ s. AreListsShort rows → IsShortSection s)
      (λ m. AreListsShort rows → IsShortMode m)
      (record {
        text =
            λ whose place n ss at short. text_parts_each rows whose place n ss (IsPartOf rows) E L
            (each_part whose place n ss at) (λ i d within. such (get_or ss i d) (short i d within));
        sections = λ m short i d within h. short h i d within;
        mode = λ k m below short. mode_is k below (mode_settings m.sections) m.name;
      })
      (λ i d within h. h.0 i d within) (λ i d within h. h.1 i d within)
