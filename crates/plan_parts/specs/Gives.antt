-- What rows give to a plan, as the program has them.
use Rattle.std.specs.Prelude.{ℕ, Bool, ◌≡◌, List, [], ◌∷◌, ◌++◌, map, Option, option_map}
use Rattle.section_tables.specs.declared.rows.Entry as entry_rows
use Rattle.section_tables.specs.declared.rows.PlayerEntry as player_rows
use Rattle.mpf_sections.specs.declared.typed.Switch as typed_switches
use Rattle.mpf_sections.specs.declared.typed.EventPlayer as typed_players
use Rattle.mpf_sections.specs.declared.typed.ModeSettings as typed_settings
use Rattle.mpf_sections.specs.declared.blocks.BlockEvents as typed_blocks
use Rattle.mpf_sections.specs.declared.blocks.CounterEntry as typed_counters
use Rattle.mpf_sections.specs.declared.blocks.StepBlock as typed_steps
use Rattle.mpf_sections.specs.declared.timers.TimerEntry as typed_timers
use Rattle.mpf_sections.specs.declared.coils.Coil as typed_coils
use Rattle.mpf_sections.specs.declared.coils.CoilPlayer as typed_coil_players
use Rattle.mpf_sections.specs.declared.coil_rules.CoilRule as typed_coil_rules
use Rattle.mpf_sections.specs.declared.game.VariablePlayer as typed_variable_players
use Rattle.mpf_sections.specs.declared.game.GameSettings as typed_games
use Rattle.mpf_sections.specs.declared.shots.Shot as typed_shots
use Rattle.mpf_sections.specs.declared.shots.ShotGroup as typed_groups
use Rattle.mpf_sections.specs.declared.balls.BallDeviceEntry as typed_balls
use Rattle.mpf_sections.specs.declared.saves.BallSaveEntry as typed_saves
use Rattle.mpf_sections.specs.declared.saves.MultiballEntry as typed_multiballs
use Rattle.mpf_sections.specs.{Rows.SectionRows, CoilRules.coil_rule_view}
use Rattle.mpf_sections.specs.View.{entry_view, player_view, switch_view, event_player_view, mode_settings_view}
use Rattle.mpf_sections.specs.View.{block_view, counter_view, step_block_view, timer_view, coil_view, coil_player_view}
use Rattle.mpf_sections.specs.View.{variable_player_view, game_view, shot_view}
use Rattle.mpf_sections.specs.View.{shot_group_view, ball_device_view, ball_save_view, multiball_view}
use Rattle.machine_definitions.specs.declared.profile.Profile as profiles
use Rattle.machine_definitions.specs.Found.{profile_view}
use Rattle.plan_rows.specs.{declared.destination.Destination.Destination, View.{seat_view, members_view}}
use Rattle.mpf_tables.specs.declared.tables.TextKind.{TextKind}
use Rattle.plan_rows.specs.declared.seats.Seat as seats
use Rattle.plan_rows.specs.declared.members.Members as members
use Rattle.plan_tables.specs.declared.{devices.Settings.Settings, entries.ModeId.ModeId}
use Rattle.machine_settings.specs.declared.settings.StepSettings.{StepSettings}
use Rattle.plan_parts.specs.declared.row_parts.RowParts as rows
use Rattle.plan_parts.specs.declared.row_parts.RowHead.TheVariants as kinds
use Rattle.plan_parts.specs.declared.collect_coils.Defaults as defaults
use Rattle.plan_tables.specs.declared.table.Table.TheVariants.{Switches}
use Rattle.plan_parts.specs.DeviceEntries.{Device, texts, block_acts, block_mentions, block_lists, counter_device}
use Rattle.plan_parts.specs.DeviceEntries.{step_settings, step_device, timer_device, device_of}
use Rattle.plan_parts.specs.BallEntries.{ball_settings, is_known, ball_device_from}
use Rattle.plan_parts.specs.SaveEntries.{save_device, multiball_device, save_device_of}
use Rattle.plan_parts.specs.CoilEntries.{Defaults, item_effect, coil_rule_device}
use Rattle.plan_parts.specs.{Parts.{player_parts, handler, run}, ShotEntries.{group_device, lone_device}}
use Rattle.plan_parts.specs.{Effects.posts, VariableEntries.item_change}
use Rattle.plan_parts.specs.Parts.{Whose, Part, device, where_some, unknown_unless, with_seat, mention, switch_part}
use Rattle.plan_parts.specs.Parts.{coil_part, game_part, mode_parts, machine_entry_parts, entry_parts, alone_parts}
use Rattle.plan_parts.specs.RowViews.{AreNoParts, acts_view, bytes_view, names_view, parts_in}

-- ---- what a row gains

-- if the row had no parts, it has these now; whose they are is given
abbrev pub Gives : (old new : rows.RowParts) → (Whose → List Part) → Type 0
Gives old new more = (whose : Whose) → AreNoParts whose old → parts_in new ≡ more whose

-- The row is a device with these settings now. The switches to which it listens, the events that it handles and
-- mentions, and its effect lists are added to what was there. Nothing else is changed.
pub record AddsDevice (old new : rows.RowParts) (d : Device) : Type 0 where
  pub head : new.head ≡ kinds.Device d.settings
  pub of : new.whose ≡ old.whose
  pub known : new.unknown ≡ old.unknown
  pub mentions : new.mention ≡ old.mention
  pub listens : bytes_view new.listens.items ≡ bytes_view old.listens.items ++ d.listens
  pub event_acts : acts_view new.event_acts.items ≡ acts_view old.event_acts.items ++ d.event_acts
  pub other_mentions : names_view new.other_mentions.items ≡ names_view old.other_mentions.items ++ d.other_mentions
  pub lists : new.lists ≡ old.lists ++ d.lists

-- what all kinds of blocks have is added to what is there, and nothing else is changed
pub record AddsBlock (old new : rows.RowParts) (name : List ℕ) (block : typed_blocks.BlockEvents) : Type 0 where
  pub head : new.head ≡ old.head
  pub of : new.whose ≡ old.whose
  pub known : new.unknown ≡ old.unknown
  pub mentions : new.mention ≡ old.mention
  pub listens : new.listens ≡ old.listens
  pub event_acts : acts_view new.event_acts.items ≡ acts_view old.event_acts.items ++ block_acts (block_view block)
  pub other_mentions : names_view new.other_mentions.items
      ≡ names_view old.other_mentions.items ++ block_mentions (block_view block)
  pub lists : new.lists ≡ old.lists ++ block_lists name (block_view block)

-- ---- settings

-- what the settings of a row are in the plan
abbrev pub settings_of_steps : typed_steps.StepBlock → StepSettings
settings_of_steps b = step_settings (step_block_view b)

abbrev pub settings_of_ball_device : typed_balls.BallDeviceEntry → Destination → Settings
settings_of_ball_device b to = ball_settings (ball_device_view b) to

-- what a coil's entry says
abbrev pub defaults_view : defaults.Defaults → Defaults
defaults_view d =
    record { pulse_ms = d.pulse_ms; pulse_power = d.pulse_power; hold_power = d.hold_power; may_hold = d.may_hold }

-- ---- entries, by the names of their sections

abbrev pub entry_gives : List SectionRows → TextKind → List ℕ → entry_rows.Entry → Whose → List Part
entry_gives machine place section e whose = entry_parts machine whose place section (entry_view e)

abbrev pub machine_entry_gives : List SectionRows → List ℕ → entry_rows.Entry → Whose → List Part
machine_entry_gives machine section e whose = machine_entry_parts machine whose section (entry_view e)

abbrev pub alone_gives : List SectionRows → TextKind → List ℕ → entry_rows.Entry → Whose → List Part
alone_gives machine place section e whose = alone_parts machine whose place section (entry_view e)

abbrev pub player_entry_gives : List SectionRows → List ℕ → player_rows.PlayerEntry → Whose → List Part
player_entry_gives machine section p whose = player_parts machine whose section (player_view p)

abbrev pub device_entry_gives : List ℕ → entry_rows.Entry → Whose → List Part
device_entry_gives section e whose = where_some (device whose) (device_of section (entry_view e))

abbrev pub save_entry_gives : List ℕ → entry_rows.Entry → Whose → List Part
save_entry_gives section e whose = where_some (device whose) (save_device_of section (entry_view e))

-- ---- entries, by their kinds

abbrev pub switch_gives : List SectionRows → typed_switches.Switch → Whose → List Part
switch_gives machine s whose = switch_part machine whose (switch_view s) ∷ []

abbrev pub coil_gives : typed_coils.Coil → Whose → List Part
coil_gives c whose = coil_part [] whose (coil_view c) ∷ []

abbrev pub game_gives : List SectionRows → typed_games.GameSettings → Whose → List Part
game_gives machine g whose = game_part machine whose (game_view g) ∷ []

abbrev pub mode_gives : ModeId → List ℕ → typed_settings.ModeSettings → Whose → List Part
mode_gives m name s whose = mode_parts m name (mode_settings_view s)

abbrev pub event_player_gives : typed_players.EventPlayer → Whose → List Part
event_player_gives p whose = handler whose (event_player_view p).event.event
    (run (map posts (texts (event_player_view p).posts))) ∷ []

abbrev pub coil_player_gives : List SectionRows → typed_coil_players.CoilPlayer → Whose → List Part
coil_player_gives machine p whose = handler whose (coil_player_view p).event.event
    (run (map (item_effect machine) (coil_player_view p).items)) ∷ []

abbrev pub variable_player_gives : typed_variable_players.VariablePlayer → Whose → List Part
variable_player_gives p whose = handler whose (variable_player_view p).event.event
    (run (map item_change (variable_player_view p).items)) ∷ []

abbrev pub counter_in : typed_counters.CounterEntry → Device
counter_in c = counter_device (counter_view c)

abbrev pub step_block_in : Settings → typed_steps.StepBlock → Device
step_block_in settings b = step_device settings (step_block_view b)

abbrev pub timer_in : typed_timers.TimerEntry → Device
timer_in t = timer_device (timer_view t)

abbrev pub ball_save_in : typed_saves.BallSaveEntry → Device
ball_save_in s = save_device (ball_save_view s)

abbrev pub multiball_in : typed_multiballs.MultiballEntry → Device
multiball_in m = multiball_device (multiball_view m)

abbrev pub coil_rule_in : List SectionRows → typed_coil_rules.CoilRule → Device
coil_rule_in machine r = coil_rule_device machine (coil_rule_view r)

abbrev pub lone_in : profiles.Profile → typed_shots.Shot → Device
lone_in p s = lone_device (profile_view p) (shot_view s)

abbrev pub ball_device_gives : List SectionRows → typed_balls.BallDeviceEntry → Destination → Whose → List Part
ball_device_gives machine b to whose = unknown_unless (is_known to)
    ++ device whose (ball_device_from machine (ball_device_view b) to) ∷ []

abbrev pub shot_gives : typed_shots.Shot → Option seats.Seat → Bool → profiles.Profile → Whose → List Part
shot_gives s seat known p whose =
    unknown_unless known
    ++ where_some (λ w. mention Switches w.text) (shot_view s).switch
    ++ with_seat [] whose (profile_view p) (shot_view s) (option_map seat_view seat)

abbrev pub group_gives : typed_groups.ShotGroup → members.Members → Whose → List Part
group_gives g m whose = unknown_unless (members_view m).all_known
    ++ device whose (group_device (shot_group_view g) (members_view m)) ∷ []
