-- What is read of entries and sections, as the program has them: each entry by the names of its settings.
use Rattle.std.specs.Prelude.{◌≡◌, ℕ, List, map, Option, option_map}
use Rattle.setting_values.specs.declared.values.{Name.Name, Handler.Handler}
use Rattle.setting_values.specs.declared.values.Fields as field_rows
use Rattle.setting_values.specs.declared.values.KeyedValues as keyed_rows
use Rattle.section_tables.specs.declared.rows.Entry as entry_rows
use Rattle.section_tables.specs.declared.rows.PlayerEntry as player_rows
use Rattle.mpf_sections.specs.declared.section.Content as contents
use Rattle.mpf_sections.specs.declared.{section.Section.Section, typed.{NameAt.NameAt, HandledAt.HandledAt}}
use Rattle.mpf_sections.specs.declared.typed.Switch as typed_switches
use Rattle.mpf_sections.specs.declared.typed.EventPlayer as typed_players
use Rattle.mpf_sections.specs.declared.typed.ModeSettings as typed_settings
use Rattle.mpf_sections.specs.declared.blocks.CounterEntry as typed_counters
use Rattle.mpf_sections.specs.declared.blocks.StepBlock as typed_steps
use Rattle.mpf_sections.specs.declared.timers.ControlEvent as typed_controls
use Rattle.mpf_sections.specs.declared.timers.TimerEntry as typed_timers
use Rattle.mpf_sections.specs.declared.coils.Coil as typed_coils
use Rattle.mpf_sections.specs.declared.coils.CoilPlayer as typed_coil_players
use Rattle.mpf_sections.specs.declared.coils.CoilItem as typed_coil_items
use Rattle.mpf_sections.specs.declared.game.VariablePlayer as typed_variable_players
use Rattle.mpf_sections.specs.declared.game.VariableItem as typed_variable_items
use Rattle.mpf_sections.specs.declared.game.GameSettings as typed_games
use Rattle.mpf_sections.specs.declared.shots.Shot as typed_shots
use Rattle.mpf_sections.specs.declared.shots.ShotGroup as typed_groups
use Rattle.mpf_sections.specs.declared.shots.ShotProfile as typed_profiles
use Rattle.mpf_sections.specs.declared.balls.BallDeviceEntry as typed_balls
use Rattle.mpf_sections.specs.declared.saves.BallSaveEntry as typed_saves
use Rattle.mpf_sections.specs.declared.saves.MultiballEntry as typed_multiballs
use Rattle.mpf_sections.specs.Typed.{switch_of, event_player_of, mode_settings_of, mode_settings, listed_modes}
use Rattle.mpf_sections.specs.Typed.{counter_of, step_block_of, control_of, timer_of, entries_in, players_in}
use Rattle.mpf_sections.specs.{Typed.{entries_of, players_of}, TypedBalls.ball_device_of}
use Rattle.mpf_sections.specs.TypedSaves.{ball_save_of, multiball_of}
use Rattle.mpf_sections.specs.TypedCoils.{coil_of, coil_item_of, coil_player_of, needed_at}
use Rattle.mpf_sections.specs.TypedGame.{variable_item_of, variable_player_of, game_of, min_balls_of}
use Rattle.mpf_sections.specs.TypedShots.{shot_of, shot_group_of, state_of, shot_profile_of}
use Rattle.mpf_sections.specs.View.{multiball_view, variable_player_view, game_view, shot_view}
use Rattle.mpf_sections.specs.View.{name_view, handler_view, fields_view, keyed_view, entry_view, player_view}
use Rattle.mpf_sections.specs.View.{content_view, section_view, name_at_view, handled_at_view, switch_view}
use Rattle.mpf_sections.specs.View.{event_player_view, mode_settings_view, counter_view, step_block_view, control_view}
use Rattle.mpf_sections.specs.View.{timer_view, coil_view, coil_item_view, coil_player_view, variable_item_view}
use Rattle.mpf_sections.specs.View.{shot_group_view, shot_profile_view, ball_device_view, ball_save_view}

-- ---- switches, and what events do

-- the event of this handler, with its line and its condition
abbrev pub IsEventOf : Handler → HandledAt → Type 0
IsEventOf handler event = handled_at_view event ≡ handler_view handler

-- the switch of this entry of `switches`
abbrev pub IsSwitchOf : entry_rows.Entry → typed_switches.Switch → Type 0
IsSwitchOf entry switch = switch_view switch ≡ switch_of (entry_view entry)

-- what this entry of `event_player` posts, and at what event
abbrev pub IsEventPlayerOf : player_rows.PlayerEntry → typed_players.EventPlayer → Type 0
IsEventPlayerOf player row = event_player_view row ≡ event_player_of (player_view player)

-- what this entry of `coil_player` does with coils, and at what event
abbrev pub IsCoilPlayerOf : player_rows.PlayerEntry → typed_coil_players.CoilPlayer → Type 0
IsCoilPlayerOf player answer = coil_player_view answer ≡ coil_player_of (player_view player)

-- what is done with the coil of this name
abbrev pub IsCoilItemOf : keyed_rows.KeyedValues → typed_coil_items.CoilItem → Type 0
IsCoilItemOf pair item = coil_item_view item ≡ coil_item_of (keyed_view pair)

-- what this entry of `variable_player` does with variables, and at what event
abbrev pub IsVariablePlayerOf : player_rows.PlayerEntry → typed_variable_players.VariablePlayer → Type 0
IsVariablePlayerOf player answer = variable_player_view answer ≡ variable_player_of (player_view player)

-- what is done with the variable of this name
abbrev pub IsVariableItemOf : keyed_rows.KeyedValues → typed_variable_items.VariableItem → Type 0
IsVariableItemOf pair item = variable_item_view item ≡ variable_item_of (keyed_view pair)

-- ---- coils

-- the coil of this entry of `coils`
abbrev pub IsCoilOf : entry_rows.Entry → typed_coils.Coil → Type 0
IsCoilOf entry coil = coil_view coil ≡ coil_of (entry_view entry)

-- the name at a place of this entry; its own if there is none
abbrev pub IsNeededAt : ℕ → entry_rows.Entry → NameAt → Type 0
IsNeededAt place entry name = name_at_view name ≡ needed_at place (entry_view entry)

-- ---- logic blocks and timers

-- the counter of this entry of `counters`
abbrev pub IsCounterOf : entry_rows.Entry → typed_counters.CounterEntry → Type 0
IsCounterOf entry counter = counter_view counter ≡ counter_of (entry_view entry)

-- the block of this entry of `accruals` or `sequences`
abbrev pub IsStepBlockOf : entry_rows.Entry → typed_steps.StepBlock → Type 0
IsStepBlockOf entry block = step_block_view block ≡ step_block_of (entry_view entry)

-- the timer of this entry of `timers`
abbrev pub IsTimerOf : entry_rows.Entry → typed_timers.TimerEntry → Type 0
IsTimerOf entry timer = timer_view timer ≡ timer_of (entry_view entry)

-- the control of a timer that this map says, if it has an event
abbrev pub IsControlOf : field_rows.Fields → Option typed_controls.ControlEvent → Type 0
IsControlOf map control = option_map control_view control ≡ control_of (fields_view map)

-- ---- shots

-- the shot of this entry of `shots`
abbrev pub IsShotOf : entry_rows.Entry → typed_shots.Shot → Type 0
IsShotOf entry shot = shot_view shot ≡ shot_of (entry_view entry)

-- the group of this entry of `shot_groups`
abbrev pub IsShotGroupOf : entry_rows.Entry → typed_groups.ShotGroup → Type 0
IsShotGroupOf entry group = shot_group_view group ≡ shot_group_of (entry_view entry)

-- the profile of this entry of `shot_profiles`
abbrev pub IsShotProfileOf : entry_rows.Entry → typed_profiles.ShotProfile → Type 0
IsShotProfileOf entry profile = shot_profile_view profile ≡ shot_profile_of (entry_view entry)

-- the name of the state that this map says, if it has one
abbrev pub IsStateOf : field_rows.Fields → Option NameAt → Type 0
IsStateOf map state = option_map name_at_view state ≡ state_of (fields_view map)

-- ---- balls

-- the ball device of this entry of `ball_devices`
abbrev pub IsBallDeviceOf : entry_rows.Entry → typed_balls.BallDeviceEntry → Type 0
IsBallDeviceOf entry device = ball_device_view device ≡ ball_device_of (entry_view entry)

-- the ball save of this entry of `ball_saves`
abbrev pub IsBallSaveOf : entry_rows.Entry → typed_saves.BallSaveEntry → Type 0
IsBallSaveOf entry save = ball_save_view save ≡ ball_save_of (entry_view entry)

-- the multiball of this entry of `multiballs`
abbrev pub IsMultiballOf : entry_rows.Entry → typed_multiballs.MultiballEntry → Type 0
IsMultiballOf entry multiball = multiball_view multiball ≡ multiball_of (entry_view entry)

-- ---- the game and the modes

-- the settings of a game that this entry says
abbrev pub IsGameOf : entry_rows.Entry → typed_games.GameSettings → Type 0
IsGameOf entry game = game_view game ≡ game_of (entry_view entry)

-- with how many balls a machine of these sections begins a game
abbrev pub min_balls_in : List Section → ℕ
min_balls_in sections = min_balls_of (map section_view sections)

-- the settings of a mode that this entry says
abbrev pub AreModeSettingsOf : entry_rows.Entry → typed_settings.ModeSettings → Type 0
AreModeSettingsOf entry settings = mode_settings_view settings ≡ mode_settings_of (entry_view entry).values

-- the settings of the mode whose text has these sections
abbrev pub AreModeSettingsIn : List Section → typed_settings.ModeSettings → Type 0
AreModeSettingsIn sections settings = mode_settings_view settings ≡ mode_settings (map section_view sections)

-- the modes that these sections list
abbrev pub AreModesIn : List Section → List Name → Type 0
AreModesIn sections names = map name_view names ≡ listed_modes (map section_view sections)

-- ---- sections

-- the entries that stand in a section
abbrev pub AreEntriesIn : contents.Content → List entry_rows.Entry → Type 0
AreEntriesIn content entries = map entry_view entries ≡ entries_in (content_view content)

-- the entries of a player that stand in a section
abbrev pub ArePlayersIn : contents.Content → List player_rows.PlayerEntry → Type 0
ArePlayersIn content players = map player_view players ≡ players_in (content_view content)

-- the entries of a section, if it has this name
abbrev pub AreEntriesOf : List ℕ → Section → List entry_rows.Entry → Type 0
AreEntriesOf name section entries = map entry_view entries ≡ entries_of name (section_view section)

-- the entries of a player, if its section has this name
abbrev pub ArePlayersOf : List ℕ → Section → List player_rows.PlayerEntry → Type 0
ArePlayersOf name section players = map player_view players ≡ players_of name (section_view section)
