-- What ball devices are like, and all other devices: each effect list of a ball device does what it is for, it listens
-- to
-- its ball switches, and no event acts on it; no other device has to do with the balls of one.
use Rattle.std.proofs.Common.{rules, ◌≡◌, ℕ, Bool, true, false, if◌then◌else◌, List, [], ◌∷◌, ◌++◌, map, get_or, refl}
use Rattle.std.proofs.{Common.codes, lemmas.List.{length-map, Elements.{All-nil, All-cons, All-append}}}
use Rattle.std.specs.{Prelude.{Option, None, Some, IfSome, slice_index_or}, Str.bytes_eq, List.All}
use Rattle.mpf_sections.specs.Rows as sections
use Rattle.mpf_sections.specs.Rows.{WrittenName, Entry, PlayerEntry, Shot, BallDeviceEntry, ModeSettings, Content}
use Rattle.mpf_sections.specs.Rows.{entries, players, SectionRows}
use Rattle.mpf_sections.specs.{TypedBalls.ball_device_of, TypedShots.{shot_of, shot_group_of}}
use Rattle.mpf_sections.specs.Typed.{switches_name, event_player_name, switch_of, event_player_of, mode_settings}
use Rattle.mpf_sections.specs.TypedCoils.{coils_name, coil_player_name, coil_of, coil_player_of}
use Rattle.mpf_sections.specs.TypedGame.{variable_player_name, game_name, variable_player_of, game_of}
use Rattle.mpf_config.specs.Rows.{Rows}
use Rattle.machine_definitions.specs.Shots.{Profile, has_profile, profile_of_name}
use Rattle.plan_tables.specs.declared.{devices.Settings.Settings, entries.ModeId.ModeId}
use Rattle.plan_tables.specs.{BallRows.IsNoBallDevice, declared.table.Table.TheVariants.Switches}
use Rattle.plan_tables.specs.declared.devices.Settings.TheVariants as kinds
use Rattle.mpf_tables.specs.declared.tables.TextKind.{TextKind, TheVariants.{Machine, Mode}}
use Rattle.plan_rows.specs.declared.destination.Destination.{Destination}
use Rattle.plan_rows.specs.{Members.members_of, Seats.{Seat, seat_of, destination_of}}
use Rattle.plan_rows.specs.Rows.{entry, alone, player, shot_row, group_row, ball_device_row}
use Rattle.plan_parts.specs.{Effects.{posts, works}, VariableEntries.item_change}
use Rattle.plan_parts.specs.CoilEntries.{item_effect, defaults_called, own_pulse}
use Rattle.plan_parts.specs.DeviceEntries.{texts, Device, events, always, device_of}
use Rattle.plan_parts.specs.BallEntries.{drains, ball_event, is_known, ball_device_from, attempt_effects}
use Rattle.plan_parts.specs.ShotEntries.{shot_acts, lone_device, group_device}
use Rattle.plan_parts.specs.Parts.{Whose, Part, handler, device, mode, mention, unknown, run, start, stop, act_on}
use Rattle.plan_parts.specs.Parts.{control, stops_at_ball_end, stops_at_game_end, where_some, where_true}
use Rattle.plan_parts.specs.Parts.{unknown_unless, mode_parts, machine_device, switch_part, coil_part, game_part}
use Rattle.plan_parts.specs.Parts.{machine_entry_parts, entry_parts, alone_parts, player_parts, with_seat, row_parts}
use Rattle.plan_parts.specs.{Parts.{text_parts, parts_of}, PartBalls.{IsBallFree, IsRightDevice, IsRight}}
use Rattle.plan_parts.proofs.{NamedFacts.attempts, RuleFacts.{IsRule, machine_rule}}
use Rattle.plan_parts.proofs.{WalkFacts.{IsSuch, text_each, EachRow}, PartFacts.{parts_each, IsTextOf, EachText}}
use Rattle.plan_parts.proofs.DeviceFacts.{IsPlain, IsShared, plain_lone, plain_group, device_shared}

-- ---- one device

right_plain : (d : Device) → IsPlain d → IsRightDevice d.settings d
right_plain d plain = by d.settings plain.settings
  where
    by : (s : Settings) → IsNoBallDevice s → IsRightDevice s d
    by (kinds.BallDevice b) is = absurd is
    by _ is = plain.lists

right_ball_device : (machine : List SectionRows) (d : BallDeviceEntry) (to : Destination)
    → IsRightDevice (ball_device_from machine d to).settings (ball_device_from machine d to)
right_ball_device machine d to = record {
  lists = record {
    event = ball_event d.name.text (codes "_ball_enter");
    drain = drains machine d;
    entry = refl;
    attempt = attempts machine d.name.text IsBallFree tt tt d.eject_coil (any d.eject_coil);
    exit = refl;
    loss = refl;
    success = free (ball_event d.name.text (codes "_ball_eject_success"));
    arrival = refl;
    failure = free (ball_event d.name.text (codes "_ball_eject_failed"));
  };
  count = refl;
  listens = length-map d.switches (λ (w : WrittenName). w.text);
  event_acts = refl;
}
  where
    free : (n : List ℕ) → All IsBallFree (posts n ∷ [])
    free n = All-cons IsBallFree (posts n) [] tt (All-nil IsBallFree)

    any : (o : Option WrittenName) → IfSome o
        (λ w. IsBallFree (works w.text (own_pulse (defaults_called machine w.text))))
    any x1 = search rules

-- ---- parts

abbrev Are : List Part → Type 0
Are ps = All IsRight ps

one : (p : Part) → IsRight p → Are (p ∷ [])
one p h = All-cons IsRight p [] h (All-nil IsRight)

each : {X : Type 0} (make : X → Part) → ((x : X) → IsRight (make x)) → (xs : List X) → Are (map make xs)
each make is [] = All-nil IsRight
each make is (x ∷ xs) = All-cons IsRight (make x) (map make xs) (is x) (each make is xs)

when : (b : Bool) (ps qs : List Part) → Are ps → Are qs → Are (if b then ps else qs)
when x1 ps qs first other = search rules

in_unknown : (known : Bool) → Are (unknown_unless known)
in_unknown true = All-nil IsRight
in_unknown false = one unknown tt

in_mention : (o : Option WrittenName) → Are (where_some (λ w. mention Switches w.text) o)
in_mention None = All-nil IsRight
in_mention (Some w) = one (mention Switches w.text) tt

-- a device of any text, and one of the machine's
in_shared : (whose : Whose) (o : Option Device) → IfSome o (IsShared (Unit {0}) ⊥) → Are (where_some (device whose) o)
in_shared whose None h = All-nil IsRight
in_shared whose (Some d) h = one (device whose d) (right_plain d h.plain)

in_rule : (whose : Whose) (o : Option Device) → IfSome o (IsRule (Unit {0}) ⊥) → Are (where_some (device whose) o)
in_rule whose None h = All-nil IsRight
in_rule whose (Some d) h = one (device whose d) (right_plain d h.plain)

in_mode : (m : ModeId) (name : List ℕ) (s : ModeSettings) → Are (mode_parts m name s)
unfolding mode_parts
in_mode m name s =
    let starts = map (λ e. handler (control s) e (start m)) (events s.starts) in
    let stops = map (λ e. handler (control s) e (stop m)) (events s.stops) in
    let ball = where_true (stops_at_ball_end s) (handler (control s) (always (codes "ball_ending")) (stop m)) in
    let game = where_true (stops_at_game_end s) (handler (control s) (always (codes "game_ending")) (stop m)) in
    All-append IsRight (mode name s ∷ starts ++ stops ++ ball) game
    (All-append IsRight (mode name s ∷ starts ++ stops) ball
    (All-append IsRight (mode name s ∷ starts) stops
    (All-cons IsRight (mode name s) starts tt (each (λ e. handler (control s) e (start m)) (λ e. tt) (events s.starts)))
    (each (λ e. handler (control s) e (stop m)) (λ e. tt) (events s.stops)))
    (ends (stops_at_ball_end s) (codes "ball_ending")))
    (ends (stops_at_game_end s) (codes "game_ending"))
  where
    ends : (b : Bool) (n : List ℕ) → Are (where_true b (handler (control s) (always n) (stop m)))
    ends true n = one (handler (control s) (always n) (stop m)) tt
    ends false n = All-nil IsRight

module _ (rows : Rows) (whose : Whose) where
  abbrev machine : List SectionRows
  machine = rows.machine

  in_seated : (p : Profile) (s : Shot) (seat : Option Seat) → Are (with_seat machine whose p s seat)
  in_seated p s None = one (device whose (lone_device p s)) (right_plain (lone_device p s) (plain_lone p s))
  in_seated p s (Some seat) = each (λ h. handler whose h.0 (act_on (record { 0 = seat.row }) h.1)) (λ h. tt)
      (shot_acts seat.shot s)

  in_machine_entry : (section : List ℕ) (e : Entry) → Are (machine_entry_parts machine whose section e)
  unfolding machine_entry_parts
  in_machine_entry section e =
      when (bytes_eq section coils_name) (coil_part machine whose (coil_of e) ∷ [])
      (if bytes_eq section switches_name then switch_part machine whose (switch_of e)
      ∷ [] else where_some (device whose) (machine_device machine whose section e))
      (one (coil_part machine whose (coil_of e)) tt)
      (when (bytes_eq section switches_name) (switch_part machine whose (switch_of e) ∷ [])
      (where_some (device whose) (machine_device machine whose section e))
      (one (switch_part machine whose (switch_of e)) tt)
      (in_rule whose (machine_device machine whose section e)
      (machine_rule (Unit {0}) ⊥ e (λ x. absurd x) machine whose section)))

  in_entry : (place : TextKind) (section : List ℕ) (e : Entry) → Are (row_parts machine whose (entry place section e))
  unfolding row_parts entry_parts
  in_entry Machine section e = in_machine_entry section e
  in_entry Mode section e = in_shared whose (device_of section e) (device_shared (Unit {0}) ⊥ e (λ x. absurd x) section)

  in_alone : (place : TextKind) (section : List ℕ) (e : Entry) → Are (row_parts machine whose (alone place section e))
  unfolding row_parts alone_parts
  in_alone Machine section e = by (bytes_eq section game_name)
    where
      by : (b : Bool) → Are (where_true b (game_part machine whose (game_of e)))
      by true = one (game_part machine whose (game_of e)) tt
      by false = All-nil IsRight
  in_alone Mode section e = All-nil IsRight

  in_player : (place : TextKind) (section : List ℕ) (p : PlayerEntry)
      → Are (row_parts machine whose (player place section p))
  unfolding row_parts player_parts
  in_player place section p = by (bytes_eq section event_player_name) (bytes_eq section coil_player_name)
      (bytes_eq section variable_player_name)
    where
      by : (e c v : Bool)
          → Are (if e then handler whose (event_player_of p).event.event
          (run (map posts (texts (event_player_of p).posts))) ∷ []
          else (if c then handler whose (coil_player_of p).event.event
          (run (map (item_effect machine) (coil_player_of p).items)) ∷ []
          else (if v then handler whose (variable_player_of p).event.event
          (run (map item_change (variable_player_of p).items)) ∷ [] else [])))
      by true c v = one (handler whose (event_player_of p).event.event
          (run (map posts (texts (event_player_of p).posts)))) tt
      by false true v = one (handler whose (coil_player_of p).event.event
          (run (map (item_effect machine) (coil_player_of p).items))) tt
      by false false true = one (handler whose (variable_player_of p).event.event
          (run (map item_change (variable_player_of p).items))) tt
      by false false false = All-nil IsRight

  in_shot : (place : TextKind) (seat : List ℕ → Option Seat) (s : Shot)
      → Are (row_parts machine whose (shot_row rows place seat s))
  unfolding row_parts
  in_shot place seat s =
      let known = unknown_unless (has_profile rows s.profile.text) in
      let named = where_some (λ w. mention Switches w.text) s.switch in
      let p = profile_of_name rows s.profile.text in
      All-append IsRight (known ++ named) (with_seat machine whose p s (seat s.name.text))
      (All-append IsRight known named (in_unknown (has_profile rows s.profile.text)) (in_mention s.switch))
      (in_seated p s (seat s.name.text))

  in_group : (place : TextKind) (seat : List ℕ → Option Seat) (e : Entry)
      → Are (row_parts machine whose (group_row rows place seat (shot_group_of e)))
  unfolding row_parts
  in_group place seat e =
      let g = shot_group_of e in
      let m = members_of rows g in
      All-append IsRight (unknown_unless m.all_known) (device whose (group_device g m) ∷ []) (in_unknown m.all_known)
      (one (device whose (group_device g m)) (right_plain (group_device g m) (plain_group g m)))

  in_ball_device : (to : List ℕ → Destination) (d : BallDeviceEntry)
      → Are (row_parts machine whose (ball_device_row to d))
  unfolding row_parts
  in_ball_device to d =
      let target = to d.target.text in
      All-append IsRight (unknown_unless (is_known target)) (device whose (ball_device_from machine d target) ∷ [])
      (in_unknown (is_known target))
      (one (device whose (ball_device_from machine d target)) (right_ball_device machine d target))

  in_text : (place : TextKind) (n : ℕ) (ss : List SectionRows) → Are (text_parts rows whose place n ss)
  in_text place n ss =
      let any_entry : List ℕ → Entry → Type 0 = λ section e. Unit {0} in
      let any_player : List ℕ → PlayerEntry → Type 0 = λ section p. Unit {0} in
      text_each rows whose place n ss IsRight any_entry any_player
      (record {
        shot = λ section e h is. in_shot place (seat_of place n ss) (shot_of e);
        group = λ section e h is. in_group place (seat_of place n ss) e;
        ball_device = λ section e h own is. in_ball_device (destination_of place n ss) (ball_device_of e);
        entry = λ section e h. in_entry place section e;
        alone = λ section e h. in_alone place section e;
        player = λ section p h. in_player place section p;
      })
      (λ i s within. such (get_or ss i s))
    where
      such : (s : SectionRows) → IsSuch (λ section e. Unit {0}) (λ section p. Unit {0}) s
      such s = by s.content
        where
          by : (content : Content)
              → IsSuch (λ section e. Unit {0}) (λ section p. Unit {0}) (record { name = s.name; content = content })
          by (entries es) = λ i d within. tt
          by (players ps) = λ i d within. tt
          by (sections.entry e) = tt
          by (sections.name_list ws) = tt

-- each device of rows is such a one
pub devices_are_right : (rows : Rows) → All IsRight (parts_of rows)
devices_are_right rows =
    parts_each rows IsRight (λ s. Unit {0}) (λ m. Unit {0})
    (record {
      text = λ whose place n ss at h. in_text rows whose place n ss;
      sections = λ m h i d within. tt;
      mode = λ k m below h. in_mode (record { 0 = k }) m.name (mode_settings m.sections);
    })
    (λ i d within. tt) (λ i d within. tt)
