use Rattle.std.proofs.{Common.{Bool, ◌++◌, ◌∷◌, map, codes, refl, ap, ◌∙◌}, lemmas.Result.on_ok_weaker}
use Rattle.mpf_sections.specs.View.{mode_settings_view}
use Rattle.plan_tables.specs.declared.entries.Owner.TheVariants as owners
use Rattle.plan_parts.specs.declared.row_parts.ModeControl.TheVariants.{Start, Stop}
use Rattle.plan_parts.specs.declared.row_parts.RowHead.TheVariants as kinds
use Rattle.plan_parts.specs.Parts.{mode, control, events, stops_at_ball_end, stops_at_game_end}
use Rattle.plan_parts.specs.RowViews.{controls_view, controlled_by, control_parts, stops_where}
use Rattle.plan_parts.proofs.Gives.{parts_of_head, parts_of_mode}
use Rattle.plan_parts.proofs.collect.collect_mode.Goals as goal

pub returns : goal.returns
returns c =
    let s = mode_settings_view c.args.settings in
    let m = c.args.number in
    let old = c.args.parts.now in
    let new = record old {
      head = kinds.Mode m c.args.name c.args.settings;
      whose = record { owner = owners.Machine; priority = s.priority };
      controls = c.collect_stop_where-2.new.controls;
    } in
    let starts = map (controlled_by Start) (events s.starts) in
    let stops = map (controlled_by Stop) (events s.stops) in
    let ball = stops_where (stops_at_ball_end s) (codes "ball_ending") in
    let game = stops_where (stops_at_game_end s) (codes "game_ending") in
    let at_ball = c.in_ok-collect_stop_where.ensures
    ∙ ap (λ (b : Bool). controls_view c.collect_controls-2.new.controls.items
    ++ stops_where b (codes "ball_ending")) c.stops_at_ball_end-at_ball_end.ensures in
    on_ok_weaker c.collect_stop_where-2.result
    (λ last whose none.
    let controls =
    last
    ∙ ap (λ (b : Bool). controls_view c.collect_stop_where.new.controls.items ++ stops_where b (codes "game_ending"))
    c.stops_at_game_end-at_game_end.ensures
    ∙ ap (λ l. l ++ game)
    (at_ball
    ∙ ap (λ l. l ++ ball) (c.in_ok-collect_controls-2.ensures
    ∙ ap (λ l. l ++ stops) (c.in_ok-collect_controls.ensures
    ∙ ap (λ cs. controls_view cs ++ starts) none.controls))) in
    parts_of_head new (kinds.Mode m c.args.name c.args.settings) none.known none.mentions refl
    ∙ ap (λ cs. mode c.args.name.now s ∷ control_parts (control s) m cs) controls
    ∙ parts_of_mode m c.args.name.now s)
    c.collect_stop_where-2.ensures
