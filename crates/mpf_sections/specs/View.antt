-- What contracts see of entries by the names of their settings.
use Rattle.std.specs.{Prelude.{map, option_map, Option}, List.filter_map, Borrow.Bor}
use Rattle.setting_values.specs.declared.values.Plain as plains
use Rattle.setting_values.specs.{Values.Plain, View.guard_view}
use Rattle.mpf_sections.specs.declared.typed.{NameAt.NameAt, HandledAt.HandledAt}
use Rattle.mpf_sections.specs.declared.typed.Switch as typed_switches
use Rattle.mpf_sections.specs.declared.typed.EventPlayer as typed_players
use Rattle.mpf_sections.specs.declared.typed.ModeSettings as typed_settings
use Rattle.mpf_sections.specs.declared.blocks.BlockEvents as typed_blocks
use Rattle.mpf_sections.specs.declared.blocks.CounterEntry as typed_counters
use Rattle.mpf_sections.specs.declared.blocks.StepBlock as typed_steps
use Rattle.mpf_sections.specs.declared.timers.ControlEvent as typed_controls
use Rattle.mpf_sections.specs.declared.timers.TimerEntry as typed_timers
use Rattle.mpf_sections.specs.declared.coils.Coil as typed_coils
use Rattle.mpf_sections.specs.declared.coils.CoilPlayer as typed_coil_players
use Rattle.mpf_sections.specs.declared.coils.CoilItem as typed_coil_items
use Rattle.mpf_sections.specs.declared.game.VariablePlayer as typed_variable_players
use Rattle.mpf_sections.specs.declared.game.VariableItem as typed_variable_items
use Rattle.mpf_sections.specs.declared.game.GameSettings as typed_games
use Rattle.mpf_sections.specs.declared.shots.Shot as typed_shots
use Rattle.mpf_sections.specs.declared.shots.ShotGroup as typed_groups
use Rattle.mpf_sections.specs.declared.shots.ShotProfile as typed_profiles
use Rattle.mpf_sections.specs.declared.balls.BallDeviceEntry as typed_balls
use Rattle.mpf_sections.specs.declared.saves.BallSaveEntry as typed_saves
use Rattle.mpf_sections.specs.declared.saves.MultiballEntry as typed_multiballs
use Rattle.mpf_sections.specs.Rows.{WrittenName, HandledEvent, Switch, EventPlayer, Coil, CoilItem, CoilPlayer}
use Rattle.mpf_sections.specs.Rows.{VariableItem, VariablePlayer, GameSettings, Shot}
use Rattle.mpf_sections.specs.Rows.{ShotGroup, ShotProfile, BallDeviceEntry, BallSaveEntry, MultiballEntry, BlockEvents}
use Rattle.mpf_sections.specs.Rows.{CounterEntry, StepBlock, ControlEvent, TimerEntry, ModeSettings}
use Rattle.mpf_sections.specs.{Typed.controls_of, TypedShots.state_of}
use Rattle.mpf_sections.specs.{TypedCoils.coil_item_of, TypedGame.variable_item_of}
pub use Rattle.mpf_sections.specs.SectionView.{content_view, section_view}
pub use Rattle.setting_values.specs.View.{name_view, names_view, handler_view, step_view, plain_view, fields_view}
pub use Rattle.setting_values.specs.View.{keyed_view}
pub use Rattle.section_tables.specs.View.{entry_view, player_view}

abbrev pub name_at_view : NameAt → WrittenName
name_at_view n = record { line = n.line; text = n.text.now }

abbrev pub handled_at_view : HandledAt → HandledEvent
handled_at_view h =
    record {
      line = h.line;
      event = record {
        name = h.name.now;
        condition = option_map (λ g. guard_view g.now) h.condition;
      };
    }

-- a text, if there is one
abbrev pub plain_option_view : Option (Bor plains.Plain) → Option Plain
plain_option_view text = option_map (λ x. plain_view x.now) text

abbrev pub switch_view : typed_switches.Switch → Switch
switch_view s = record {
  name = name_view s.name.now;
  contact = s.contact;
  debounce = s.debounce;
  tags = map name_view s.tags.now;
  activation_events = map name_view s.activation_events.now;
  deactivation_events = map name_view s.deactivation_events.now;
  order = s.order.now;
}

abbrev pub event_player_view : typed_players.EventPlayer → EventPlayer
event_player_view p = record { event = handled_at_view p.event; posts = map name_view p.posts.now }

abbrev pub mode_settings_view : typed_settings.ModeSettings → ModeSettings
mode_settings_view s = record {
  starts = map handler_view s.starts.now;
  stops = map handler_view s.stops.now;
  priority = s.priority;
  game = s.game;
  stops_with_ball = s.stops_with_ball;
  holds_ball_end = s.holds_ball_end;
}

abbrev pub block_view : typed_blocks.BlockEvents → BlockEvents
block_view b = record {
  enables = map handler_view b.enables.now;
  disables = map handler_view b.disables.now;
  resets = map handler_view b.resets.now;
  restarts = map handler_view b.restarts.now;
  hit = map name_view b.hit.now;
  complete = map name_view b.complete.now;
}

abbrev pub counter_view : typed_counters.CounterEntry → CounterEntry
counter_view c = record {
  name = name_view c.name.now;
  counts = map handler_view c.counts.now;
  settings = c.settings;
  block = block_view c.block;
  order = c.order.now;
}

abbrev pub step_block_view : typed_steps.StepBlock → StepBlock
step_block_view b = record {
  name = name_view b.name.now;
  steps = map step_view b.steps.now;
  settings = b.settings;
  block = block_view b.block;
  order = b.order.now;
}

abbrev pub control_view : typed_controls.ControlEvent → ControlEvent
control_view c = record { event = handled_at_view c.event; action = c.action; value = c.value }

abbrev pub timer_view : typed_timers.TimerEntry → TimerEntry
timer_view t =
    record {
      name = name_view t.name.now;
      settings = t.settings;
      controls = controls_of (map fields_view t.controls.now);
    }

abbrev pub coil_view : typed_coils.Coil → Coil
coil_view c = record {
  name = name_view c.name.now;
  pulse_ms = c.pulse_ms;
  max_pulse_ms = c.max_pulse_ms;
  pulse_power = c.pulse_power;
  max_pulse_power = c.max_pulse_power;
  may_hold = c.may_hold;
  hold_power = c.hold_power;
  max_hold_power = c.max_hold_power;
}

abbrev pub coil_item_view : typed_coil_items.CoilItem → CoilItem
coil_item_view i = record {
  coil = name_view i.coil.now;
  action = i.action;
  pulse_ms = i.pulse_ms;
  pulse_power = i.pulse_power;
  hold_power = i.hold_power;
}

abbrev pub coil_player_view : typed_coil_players.CoilPlayer → CoilPlayer
coil_player_view p = record { event = handled_at_view p.event; items = map coil_item_of (map keyed_view p.items.now) }

abbrev pub variable_item_view : typed_variable_items.VariableItem → VariableItem
variable_item_view i = record { variable = name_view i.variable.now; action = i.action; number = i.number }

abbrev pub variable_player_view : typed_variable_players.VariablePlayer → VariablePlayer
variable_player_view p =
    record { event = handled_at_view p.event; items = map variable_item_of (map keyed_view p.items.now) }

abbrev pub game_view : typed_games.GameSettings → GameSettings
game_view g = record { balls_per_game = g.balls_per_game; max_players = g.max_players }

abbrev pub shot_view : typed_shots.Shot → Shot
shot_view s = record {
  name = name_view s.name.now;
  switch = option_map name_at_view s.switch;
  hits = map handler_view s.hits.now;
  profile = name_at_view s.profile;
  advances = map handler_view s.advances.now;
  resets = map handler_view s.resets.now;
  enables = map handler_view s.enables.now;
  disables = map handler_view s.disables.now;
  order = s.order.now;
}

abbrev pub shot_group_view : typed_groups.ShotGroup → ShotGroup
shot_group_view g = record {
  name = name_view g.name.now;
  shots = map name_view g.shots.now;
  rotates = map handler_view g.rotates.now;
  rotates_right = map handler_view g.rotates_right.now;
  rotates_left = map handler_view g.rotates_left.now;
  resets = map handler_view g.resets.now;
}

abbrev pub shot_profile_view : typed_profiles.ShotProfile → ShotProfile
shot_profile_view p = record {
  name = name_view p.name.now;
  states = filter_map state_of (map fields_view p.states.now);
  advance_on_hit = p.advance_on_hit;
  loops = p.loops;
}

abbrev pub ball_device_view : typed_balls.BallDeviceEntry → BallDeviceEntry
ball_device_view d = record {
  name = name_view d.name.now;
  switches = map name_view d.switches.now;
  eject_coil = option_map name_at_view d.eject_coil;
  target = name_at_view d.target;
  ejects = d.ejects;
  tags = map name_view d.tags.now;
  order = d.order.now;
}

abbrev pub ball_save_view : typed_saves.BallSaveEntry → BallSaveEntry
ball_save_view b = record {
  name = name_view b.name.now;
  settings = b.settings;
  enable_events = map handler_view b.enable_events.now;
  disable_events = map handler_view b.disable_events.now;
}

abbrev pub multiball_view : typed_multiballs.MultiballEntry → MultiballEntry
multiball_view m =
    record { name = name_view m.name.now; settings = m.settings; start_events = map handler_view m.start_events.now }
