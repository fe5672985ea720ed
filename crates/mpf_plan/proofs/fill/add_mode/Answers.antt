use Rattle.std.proofs.Common.{refl, ap}
use Rattle.mpf_sections.specs.View.{mode_settings_view}
use Rattle.plan_tables.specs.declared.entries.{Mode.Mode, ModeEntry.ModeEntry}
use Rattle.mpf_plan.proofs.Ruled.{adds_mode}
use Rattle.mpf_plan.proofs.fill.add_mode.Goals as goal

pub returns : goal.returns
returns c =
    let a = c.args.draft.now in
    let s = mode_settings_view c.args.settings in
    let mode : Mode =
    record {
      priority = s.priority;
      game = s.game;
      holds_ball_end = s.holds_ball_end;
      events = c.in_ok-mode_events.field-0;
    } in
    let entry : ModeEntry = record { name = c.in_ok-name.name; mode = mode } in
    adds_mode a (record a { names = c.mode_events.new.names; modes = c.push.new.self }) c.args.name.now s entry
    c.in_ok-mode_events.ensures.names c.in_ok-mode_events.ensures.events
    (ap (λ n. record { name = n; mode = mode }) c.in_ok-name.ensures.items) c.in_ok-push.ensures.items refl
    (record { switches = refl; coils = refl; lists = refl; bindings = refl; rows = refl; row_lists = refl })
