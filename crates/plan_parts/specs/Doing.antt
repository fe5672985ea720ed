-- What holds of each effect, of each event that a switch posts, and of each switch to which a device listens or which a
-- setting names: first of those of rows, then of those of parts.
use Rattle.std.specs.Prelude.{◌≡◌, ◌≢◌, ℕ, Bool, true, ◌||◌, List, Option, None, Some, IfSome, IsSome}
use Rattle.std.specs.{List.{All, AllPairs, flat_map, list_any}, Str.bytes_eq}
use Rattle.mpf_sections.specs.Rows.{Switch, EventPlayer, CoilPlayer, VariablePlayer, Shot, ShotGroup, BallDeviceEntry}
use Rattle.mpf_sections.specs.{Rows.SectionRows, CoilRules.coil_rule_of}
use Rattle.mpf_sections.specs.{TypedBalls.{playfield, ball_devices_in}, TypedShots.{shots_in, shot_groups_in}}
use Rattle.mpf_sections.specs.{TypedCoils.coil_players_in, TypedGame.variable_players_in}
use Rattle.mpf_config.specs.Rows.{ModeRows, Rows}
use Rattle.mpf_sections.specs.Typed.{entries_in, switches_in, event_players_in}
use Rattle.machine_definitions.specs.Shots.{shot_called, has_profile, profile_of_name}
use Rattle.plan_tables.specs.declared.table.Table.{Table, TheVariants.{Events, Switches}}
use Rattle.plan_rows.specs.Members.{members_of}
use Rattle.plan_parts.specs.{DeviceEntries.{texts, Device, device_of}, CoilEntries.{item_effect, rule_device_of}}
use Rattle.plan_parts.specs.{ShotEntries.{shot_lists, group_lists}, VariableEntries.item_change}
use Rattle.plan_parts.specs.{Effects.{Effect, posts}, BallEntries.ball_lists}
use Rattle.plan_parts.specs.Parts.{Part, switch, handler, device, mention, unknown, run, active_posts, inactive_posts}

-- the playfield, or a ball device of the machine text, has this name
abbrev pub has_target : List SectionRows → List ℕ → Bool
has_target machine name = bytes_eq name playfield
    || list_any (λ d. bytes_eq name d.name.text) (flat_map ball_devices_in machine)

-- no device listens to one switch twice
abbrev pub IsHeardOnce : Part → Type 0
IsHeardOnce (device whose d) = AllPairs (λ m n. m ≢ n) d.listens
IsHeardOnce _ = Unit {0}

module _ (P : Effect → Type 0) (S L : List ℕ → Type 0) where
  -- S holds of the name of each event that a switch posts, and P of each post of an entry of `event_player`
  abbrev pub IsSwitchDoing : Switch → Type 0
  IsSwitchDoing s = All S (active_posts s) × All S (inactive_posts s)

  abbrev pub IsPlayerDoing : EventPlayer → Type 0
  IsPlayerDoing p = All (λ n. P (posts n)) (texts p.posts)

  -- and of each change of an entry of `variable_player`
  abbrev pub IsVariablePlayerDoing : VariablePlayer → Type 0
  IsVariablePlayerDoing p = All (λ item. P (item_change item)) p.items

  -- P holds of all that the effect lists of a device do, and L of the name of each switch to which it listens
  pub record IsDeviceDoing (d : Device) : Type 0 where
    pub lists : All (All P) d.lists
    pub listens : All L d.listens

  -- if an entry is one
  abbrev pub IsEntryDoing : Option Device → Type 0
  IsEntryDoing None = Unit {0}
  IsEntryDoing (Some d) = IsDeviceDoing d

  -- what coils and shots do is by the rows of all texts
  module _ (rows : Rows) where
    -- of all that an entry of `coil_player` does
    abbrev pub IsCoilPlayerDoing : CoilPlayer → Type 0
    IsCoilPlayerDoing p = All (λ item. P (item_effect rows.machine item)) p.items

    -- L holds of the name of a shot's switch, if it has one, its profile is defined, and P holds of all that its effect
    -- lists do
    pub record IsShotDoing (s : Shot) : Type 0 where
      pub switch : IfSome s.switch (λ w. L w.text)
      pub profile : has_profile rows s.profile.text ≡ true
      pub lists : All (All P) (shot_lists (profile_of_name rows s.profile.text) s.name.text)

    -- all shots of a group are defined, and P holds of all that its effect lists do
    pub record IsShotGroupDoing (g : ShotGroup) : Type 0 where
      pub shots : All (λ w. IsSome (shot_called rows w.text)) g.shots
      pub lists : All (All P) (group_lists (members_of rows g).profile g.name.text (texts g.shots))

    -- P holds of all that the effect lists of a ball device do, and L of the name of each of its ball switches, whose
    -- names are distinct; and it ejects its balls onto the playfield or into a ball device
    pub record IsBallDeviceDoing (d : BallDeviceEntry) : Type 0 where
      pub lists : All (All P) (ball_lists rows.machine d)
      pub listens : All L (texts d.switches)
      pub apart : AllPairs (λ m n. m ≢ n) (texts d.switches)
      pub target : has_target rows.machine d.target.text ≡ true

    -- and of all that a section of any text does
    pub record IsDoing (s : SectionRows) : Type 0 where
      pub players : All IsPlayerDoing (event_players_in s)
      pub variable_players : All IsVariablePlayerDoing (variable_players_in s)
      pub coil_players : All IsCoilPlayerDoing (coil_players_in s)
      pub devices : All (λ e. IsEntryDoing (device_of s.name e)) (entries_in s.content)
      pub shots : All IsShotDoing (shots_in s)
      pub groups : All IsShotGroupDoing (shot_groups_in s)

    -- and of all that a section of the machine text does
    pub record IsMachineDoing (s : SectionRows) : Type 0 where
      pub all : IsDoing s
      pub switches : All IsSwitchDoing (switches_in s)
      pub rules : All (λ e. IsEntryDoing (rule_device_of rows.machine (coil_rule_of s.name e))) (entries_in s.content)
      pub ball_devices : All IsBallDeviceDoing (ball_devices_in s)

  -- each section of the machine and of the modes
  pub record AreDoing (rows : Rows) : Type 0 where
    pub machine : All (IsMachineDoing rows) rows.machine
    pub modes : All (λ (m : ModeRows). All (IsDoing rows) m.sections) rows.modes

  -- what a setting names is an event, or a switch of whose name L holds
  abbrev pub IsMention : Table → List ℕ → Type 0
  IsMention Events n = Unit {0}
  IsMention Switches n = L n
  IsMention _ n = ⊥

  -- S holds of each event that a switch posts, P of all that effect lists do, and L of each switch to which a device
  -- listens, or which a setting names; no device listens to one switch twice, and nothing is unknown
  abbrev pub Does : Part → Type 0
  Does (switch name kind confirms on off) = All S on × All S off
  Does (handler whose e (run effects)) = All P effects
  Does (device whose d) = IsDeviceDoing d × IsHeardOnce (device whose d)
  Does (mention table n) = IsMention table n
  Does unknown = ⊥
  Does _ = Unit {0}
