-- What holds of the names of each part, if those in the rows are names.
use Rattle.std.proofs.Common.{ℕ, Bool, true, false, List, [], ◌++◌, map, get_or, codes}
use Rattle.std.specs.{Prelude.{Option, None, Some, IfSome}, List.All}
use Rattle.std.proofs.lemmas.List.Elements.{All-nil, All-cons, All-append, All-map, All-weaker}
use Rattle.mpf_values.specs.Events.{Event}
use Rattle.mpf_config.specs.{Rows.Rows, Named.IsNamedMode}
use Rattle.mpf_sections.specs.Rows.{HandledEvent, Entry, PlayerEntry, ModeSettings}
use Rattle.mpf_sections.specs.Rows.{Content, entries, players, entry as single, name_list, SectionRows}
use Rattle.mpf_sections.specs.Named.{IsName, IsNamedEntry, IsNamedPlayer, IsNamedHandled, AllNamedEvents}
use Rattle.mpf_sections.specs.Named.{AreNamedSettings, IsNamedContent, IsNamed}
use Rattle.mpf_sections.specs.Typed.{switch_of, event_player_of, mode_settings}
use Rattle.mpf_sections.specs.{TypedGame.variable_player_of, TypedShots.{shot_of, shot_group_of}}
use Rattle.mpf_sections.specs.{TypedCoils.coil_player_of, TypedBalls.ball_device_of}
use Rattle.mpf_sections.proofs.RowNames.{switch_named, event_player_named, mode_settings_named}
use Rattle.mpf_sections.proofs.{CoilRows.{coil_named, coil_player_named}, ShotRows.{shot_named, shot_group_named}}
use Rattle.mpf_sections.proofs.{GameRows.variable_player_named, BallRows.ball_device_named}
use Rattle.machine_definitions.specs.Shots.{profile_of_name}
use Rattle.plan_tables.specs.declared.{devices.Act.Act, entries.ModeId.ModeId}
use Rattle.plan_rows.specs.{Members.members_of, Seats.destination_of}
use Rattle.mpf_tables.specs.declared.tables.TextKind.{TextKind}
use Rattle.plan_parts.specs.{VariableEntries.item_change, CoilEntries.item_effect, ShotEntries.shot_acts}
use Rattle.plan_parts.specs.Parts.{Whose, Device, events, always, device_of, Reaction, start, stop}
use Rattle.plan_parts.specs.Parts.{act_on, switch, mode, handler, device, where_true, control, stops_at_ball_end}
use Rattle.plan_parts.specs.Parts.{stops_at_game_end, mode_parts, machine_device, parts_of}
use Rattle.plan_parts.specs.PartNames.{IsOfNames, IsFitEffect, IsFitEvent, IsFitDevice, IsFitReaction, IsFitPart}
use Rattle.plan_parts.proofs.{PartFacts.parts_each, ShotFacts.{profile_named, members_named}, RuleFacts.machine_fit}
use Rattle.plan_parts.proofs.NamedFacts.{device_fit, active_fit, inactive_fit}
use Rattle.plan_parts.proofs.NamedFacts.{fit_handled, fit_player, fit_shot_acts, fit_lone, fit_group, fit_ball_device}
use Rattle.plan_parts.proofs.WalkFacts.{EachPart, IsSuchContent, IsSuch, text_parts_each}

module _ (P : List ℕ → Type 0) where
  -- what holds of the device of an entry, if there is one
  if_device : (whose : Whose) (o : Option Device) → IfSome o (IsFitDevice P)
      → IfSome o (λ d. IsFitPart P (device whose d))
  if_device whose None is = tt
  if_device whose (Some d) is = is

  module _ (of : IsOfNames P) (rows : Rows) (machine : All IsNamed rows.machine)
      (modes : All IsNamedMode rows.modes) where
    abbrev E : List ℕ → Entry → Type 0
    E section e = IsNamedEntry e

    abbrev L : List ℕ → PlayerEntry → Type 0
    L section p = IsNamedPlayer p

    -- ---- a text

    module _ (whose : Whose) (place : TextKind) (n : ℕ) (ss : List SectionRows) where
      each_part : EachPart rows whose place n ss (IsFitPart P) E L
      each_part = record {
        unknowns = tt;
        mentions = λ section e h. let own = shot_named e h in own.switch;
        lone_shots =
            λ section e h. fit_lone P of (profile_of_name rows (shot_of e).profile.text) (shot_of e) (shot_named e h)
            (profile_named rows machine modes (shot_of e).profile.text);
        seats = λ section e h x is.
            let acting = shot_acts x.shot (shot_of e) in
            All-map (IsFitPart P) (λ (a : Event × Act). handler whose a.0 (act_on (record { 0 = x.row }) a.1)) acting
            (All-weaker (λ (a : Event × Act). IsFitEvent P a.0) (λ a. IsFitEvent P a.0 × Unit {0}) (λ a is. (is, tt))
            acting (fit_shot_acts P of x.shot (shot_of e) (shot_named e h)));
        groups =
            λ section e h. fit_group P of (shot_group_of e) (members_of rows (shot_group_of e))
            (shot_group_named e h) (members_named rows machine modes (shot_group_of e));
        ball_devices =
            λ section e h own is. fit_ball_device P of rows.machine (ball_device_of e)
            (destination_of place n ss (ball_device_of e).target.text) (ball_device_named e h);
        switches =
            λ section e h. let own = switch_named e h in
            (own.name, active_fit P of (switch_of e) own, inactive_fit P of (switch_of e) own);
        coils = λ section e h. let own = coil_named e h in own.name;
        rules =
            λ section e h own. if_device whose (machine_device rows.machine whose section e)
            (machine_fit P of e h rows.machine whose section);
        devices = λ section e h. if_device whose (device_of section e) (device_fit P of e h section);
        games = λ section e h. tt;
        event_players =
            λ section p h. let own = event_player_named p h in
            (fit_handled P of (event_player_of p).event own.event, fit_player P of (event_player_of p) own);
        coil_players = λ section p h.
            let own = coil_player_named p h in (
              fit_handled P of (coil_player_of p).event own.event,
              All-map (IsFitEffect P) (item_effect rows.machine) (coil_player_of p).items own.items,
            );
        variable_players = λ section p h.
            let own = variable_player_named p h in (
              fit_handled P of (variable_player_of p).event own.event,
              All-map (IsFitEffect P) item_change (variable_player_of p).items own.items,
            );
      }

    -- ---- modes

    module _ (id : ModeId) (s : ModeSettings) where
      in_stop : (b : Bool) (e : Event) → IsFitEvent P e
          → All (IsFitPart P) (where_true b (handler (control s) e (stop id)))
      in_stop true e is = All-cons (IsFitPart P) (handler (control s) e (stop id)) [] (is, tt) (All-nil (IsFitPart P))
      in_stop false e is = All-nil (IsFitPart P)

      -- what each of these events does
      handled_fit : (make : Event → Reaction) → ((e : Event) → IsFitReaction P (make e)) → (hs : List HandledEvent)
          → AllNamedEvents hs → All (IsFitPart P) (map (λ e. handler (control s) e (make e)) (events hs))
      handled_fit make fit hs h =
          All-map (IsFitPart P) (λ e. handler (control s) e (make e)) (events hs)
          (All-map (λ e. IsFitEvent P e × IsFitReaction P (make e)) (λ (w : HandledEvent). w.event) hs
          (All-weaker IsNamedHandled (λ (w : HandledEvent). IsFitEvent P w.event × IsFitReaction P (make w.event))
          (λ w k. (fit_handled P of w k, fit w.event)) hs h))

      mode_fit : (name : List ℕ) → IsName name → AreNamedSettings s → All (IsFitPart P) (mode_parts id name s)
      unfolding mode_parts
      mode_fit name named h =
          let on = map (λ e. handler (control s) e (start id)) (events s.starts) in
          let off = map (λ e. handler (control s) e (stop id)) (events s.stops) in
          let ball = where_true (stops_at_ball_end s)
          (handler (control s) (always (codes "ball_ending")) (stop id)) in
          let end = where_true (stops_at_game_end s) (handler (control s) (always (codes "game_ending")) (stop id)) in
          All-cons (IsFitPart P) (mode name s) (on ++ off ++ ball ++ end) named
          (All-append (IsFitPart P) (on ++ off ++ ball) end
          (All-append (IsFitPart P) (on ++ off) ball
          (All-append (IsFitPart P) on off (handled_fit (λ e. start id) (λ e. tt) s.starts h.starts)
          (handled_fit (λ e. stop id) (λ e. tt) s.stops h.stops))
          (in_stop (stops_at_ball_end s) (always (codes "ball_ending")) (of.ball, tt)))
          (in_stop (stops_at_game_end s) (always (codes "game_ending")) (of.game, tt)))

    -- ---- all parts

    such : (s : SectionRows) → IsNamed s → IsSuch E L s
    such s h = by s.content h
      where
        by : (content : Content) → IsNamedContent content → IsSuchContent E L s.name content
        by (entries es) h = h
        by (players ps) h = h
        by (single e) h = h
        by (name_list ws) h = tt

    pub parts_fit : All (IsFitPart P) (parts_of rows)
    parts_fit =
        parts_each rows (IsFitPart P) IsNamed IsNamedMode
        (record {
          text =
              λ whose place n ss at h. text_parts_each rows whose place n ss (IsFitPart P) E L
              (each_part whose place n ss) (λ i d within. such (get_or ss i d) (h i d within));
          sections = λ m h. h.sections;
          mode =
              λ k m below h. mode_fit (record { 0 = k }) (mode_settings m.sections) m.name h.name
              (mode_settings_named m.sections h.sections);
        })
        machine modes
