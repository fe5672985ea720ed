-- The modes among the parts of a configuration are those of its rows, in order.
use Rattle.std.proofs.Common.{rules, ◌≡◌, ℕ, suc, Bool, true, false, List, [], ◌∷◌, ◌++◌}
use Rattle.std.proofs.{Common.{map, get_or, refl, ◌∙◌, ap, ap₂, append-nil, codes}, lemmas.Grind.flat_map-append}
use Rattle.std.specs.{Prelude.{Option, IfSome}, List.{All, flat_map}}
use Rattle.std.proofs.lemmas.List.Elements.{All-nil, All-cons, All-head, All-tail, All-append, All-map}
use Rattle.mpf_values.specs.Events.{Event}
use Rattle.mpf_config.specs.Rows.{ModeRows, Rows}
use Rattle.mpf_sections.specs.Rows.{Entry, PlayerEntry, ModeSettings, Content, entries, players}
use Rattle.mpf_sections.specs.{Rows.{entry as single, name_list, SectionRows}, Typed.mode_settings, TypedShots.shot_of}
use Rattle.plan_tables.specs.declared.entries.ModeId.{ModeId}
use Rattle.plan_rows.specs.Seats.{rows_after_text}
use Rattle.mpf_tables.specs.declared.tables.TextKind.{TextKind, TheVariants.{Machine, Mode}}
use Rattle.plan_parts.specs.{ShotEntries.shot_acts, PartKinds.IsNoMode}
use Rattle.plan_parts.specs.Parts.{Whose, Device, events, always, device_of, start, stop, act_on, Part, mode, handler}
use Rattle.plan_parts.specs.Parts.{device, where_true, own, control, text_parts, modes_parts, parts_of}
use Rattle.plan_parts.specs.Parts.{of_the_mode, stops_at_ball_end, stops_at_game_end, mode_parts, machine_device}
use Rattle.plan_parts.proofs.{DeviceFacts.any_written, WalkFacts.{IsSuchContent, IsSuch, text_parts_each}}

-- the device of an entry, if there is one
if_device : (whose : Whose) (o : Option Device) → IfSome o (λ d. IsNoMode (device whose d))
if_device whose x1 = search rules

-- any entry
abbrev E : List ℕ → Entry → Type 0
E section e = Unit {0}

abbrev L : List ℕ → PlayerEntry → Type 0
L section p = Unit {0}

any : (s : SectionRows) → IsSuch E L s
any s = by s.content
  where
    by : (content : Content) → IsSuchContent E L s.name content
    by (entries es) = λ i d within. tt
    by (players ps) = λ i d within. tt
    by (single e) = tt
    by (name_list ws) = tt

-- no part of a text is a mode
no_modes : (rows : Rows) (whose : Whose) (place : TextKind) (n : ℕ) (ss : List SectionRows)
    → All IsNoMode (text_parts rows whose place n ss)
no_modes rows whose place n ss =
    text_parts_each rows whose place n ss IsNoMode E L
    (record {
      unknowns = tt;
      mentions = λ section e h. any_written (shot_of e).switch;
      lone_shots = λ section e h. tt;
      seats =
          λ section e h x is. All-map IsNoMode (λ a. handler whose a.0 (act_on (record { 0 = x.row }) a.1))
          (shot_acts x.shot (shot_of e)) (λ i d within. tt);
      groups = λ section e h. tt;
      ball_devices = λ section e h own is. tt;
      switches = λ section e h. tt;
      coils = λ section e h. tt;
      rules = λ section e h own. if_device whose (machine_device rows.machine whose section e);
      devices = λ section e h. if_device whose (device_of section e);
      games = λ section e h. tt;
      event_players = λ section p h. tt;
      coil_players = λ section p h. tt;
      variable_players = λ section p h. tt;
    })
    (λ i d within. any (get_or ss i d))

-- ---- what modes tell

module _ {X : Type 0} (tell : Part → List X) (quiet : (p : Part) → IsNoMode p → tell p ≡ []) where
  none_told : (ps : List Part) → All IsNoMode ps → flat_map tell ps ≡ []
  none_told [] h = refl
  none_told (p ∷ ps) h =
      ap₂ (λ a b. a ++ b) (quiet p (All-head IsNoMode p ps h)) (none_told ps (All-tail IsNoMode p ps h))

  in_stop : (whose : Whose) (m : ModeId) (b : Bool) (e : Event)
      → All IsNoMode (where_true b (handler whose e (stop m)))
  in_stop whose m true e = All-cons IsNoMode (handler whose e (stop m)) [] tt (All-nil IsNoMode)
  in_stop whose m false e = All-nil IsNoMode

  mode_told : (m : ModeId) (name : List ℕ) (s : ModeSettings)
      → flat_map tell (mode_parts m name s) ≡ tell (mode name s) ++ []
  unfolding mode_parts
  mode_told m name s =
      let on = map (λ e. handler (control s) e (start m)) (events s.starts) in
      let off = map (λ e. handler (control s) e (stop m)) (events s.stops) in
      let ball = where_true (stops_at_ball_end s) (handler (control s) (always (codes "ball_ending")) (stop m)) in
      let end = where_true (stops_at_game_end s) (handler (control s) (always (codes "game_ending")) (stop m)) in
      ap (λ l. tell (mode name s) ++ l)
      (none_told (on ++ off ++ ball ++ end)
      (All-append IsNoMode (on ++ off ++ ball) end
      (All-append IsNoMode (on ++ off) ball
      (All-append IsNoMode on off
      (All-map IsNoMode (λ e. handler (control s) e (start m)) (events s.starts) (λ i d within. tt))
      (All-map IsNoMode (λ e. handler (control s) e (stop m)) (events s.stops) (λ i d within. tt)))
      (in_stop (control s) m (stops_at_ball_end s) (always (codes "ball_ending"))))
      (in_stop (control s) m (stops_at_game_end s) (always (codes "game_ending")))))

  -- what one mode tells
  abbrev pub told : ModeRows → List X
  told m = tell (mode m.name (mode_settings m.sections))

  text_told : (rows : Rows) (whose : Whose) (place : TextKind) (n : ℕ) (ss : List SectionRows)
      → flat_map tell (text_parts rows whose place n ss) ≡ []
  text_told rows whose place n ss = none_told (text_parts rows whose place n ss) (no_modes rows whose place n ss)

  modes_from : (rows : Rows) (k n : ℕ) (ms : List ModeRows)
      → flat_map tell (modes_parts rows k n ms) ≡ flat_map told ms
  modes_from rows k n [] = refl
  modes_from rows k n (m ∷ ms) =
      let s = mode_settings m.sections in
      let id : ModeId = record { 0 = k } in
      let whose = of_the_mode id s in
      let first = mode_parts id m.name s in
      let text = text_parts rows whose Mode n m.sections in
      let rest = modes_parts rows (suc k) (rows_after_text Mode n m.sections) ms in
      flat_map-append tell (first ++ text) rest
      ∙ ap₂ (λ a b. a ++ b)
      (flat_map-append tell first text ∙ ap₂ (λ a b. a ++ b) (mode_told id m.name s ∙ append-nil (told m))
      (text_told rows whose Mode n m.sections) ∙ append-nil (told m))
      (modes_from rows (suc k) (rows_after_text Mode n m.sections) ms)

  -- what modes alone tell is told by those of the rows
  pub modes_told : (rows : Rows) → flat_map tell (parts_of rows) ≡ flat_map told rows.modes
  unfolding parts_of
  modes_told rows =
      let text = text_parts rows own Machine 0 rows.machine in
      let after = rows_after_text Machine 0 rows.machine in
      flat_map-append tell text (modes_parts rows 0 after rows.modes) ∙ ap₂ (λ a b. a ++ b)
      (text_told rows own Machine 0 rows.machine) (modes_from rows 0 after rows.modes)
