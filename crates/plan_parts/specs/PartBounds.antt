-- What each part of the rows of a configuration keeps to: its owner is there, and what it acts on; lists are as many as
-- settings say, and short; and settings, limits and rules are within their limits.
use Rattle.std.specs.{Prelude.{◌≡◌, ℕ, ◌<◌, ◌≤◌, Bool, false, List, length}, List.{All, list_any}}
use Rattle.mpf_config.specs.{Rows.Rows, Short.AreListsShort, States.HaveStates}
use Rattle.plan_tables.specs.{Devices.{IsWithinLimits, list_count}, Valid.IsTargetThere}
use Rattle.plan_tables.specs.declared.entries.{CoilLimits.CoilLimits, Owner.Owner}
use Rattle.plan_tables.specs.declared.entries.Owner.TheVariants as owners
use Rattle.plan_tables.specs.declared.devices.Settings.{Settings, TheVariants.{Flipper, Autofire, BallDevice}}
use Rattle.plan_parts.specs.{Effects.Effect, PartBalls.{IsOfNoBall, DrainsIn}}
use Rattle.plan_parts.specs.PartKinds.{is_game_part, rows_of_parts, IsRowOf}
use Rattle.plan_parts.specs.Parts.{Whose, Device, Reaction, run, start, stop, act_on}
use Rattle.plan_parts.specs.Parts.{Part, coil, game, handler, device, parts_of}

-- no effect list has more
abbrev pub IsFew : List Effect → Type 0
IsFew es = length es ≤ 1024

-- a pulse of 1 to 5,000 milliseconds, and powers of at most 1,000 thousandths
pub record AreLimits (limits : CoilLimits) : Type 0 where
  pub some_pulse : 1 ≤ limits.max_pulse_ms
  pub pulse : limits.max_pulse_ms ≤ 5000
  pub pulse_power : limits.max_pulse_power ≤ 1000
  pub hold_power : limits.max_hold_power ≤ 1000

-- at most 99 balls at home, from 1 to 99 balls a player, and from 1 to 4 players
pub record AreRules (min_balls balls_per_game max_players : ℕ) : Type 0 where
  pub min_balls_within : min_balls ≤ 99
  pub some_ball : 1 ≤ balls_per_game
  pub balls : balls_per_game ≤ 99
  pub some_player : 1 ≤ max_players
  pub players : max_players ≤ 4

-- the machine, or one of so many modes
abbrev pub IsOwnerBelow : ℕ → Owner → Type 0
IsOwnerBelow n owners.Machine = Unit {0}
IsOwnerBelow n (owners.Mode m) = m.0 < n

-- flippers, autofire coils and ball devices are the machine's
abbrev pub IsKindOf : Settings → Owner → Type 0
IsKindOf Flipper owner = owner ≡ owners.Machine
IsKindOf Autofire owner = owner ≡ owners.Machine
IsKindOf (BallDevice d) owner = owner ≡ owners.Machine
IsKindOf _ owner = Unit {0}

-- where a ball device ejects its balls to is one of so many rows, or the playfield
abbrev pub IsTargetAmong : ℕ → Settings → Type 0
IsTargetAmong rows (BallDevice d) = IsTargetThere rows d.target
IsTargetAmong rows _ = Unit {0}

-- Here `S` is what gives profiles of shots a state, and `Short` what makes the lists of rows short; there are so many
-- modes and these rows, and a game where `has` holds.
module _ (S Short : Type 0) (modes : ℕ) (rows : List (Whose × Device)) (has : Bool) where
  -- A device: it has as many effect lists as its settings say, they are short, and its settings are within their
  -- limits; only devices of the machine listen to switches; where it ejects balls to is there; a ball may drain only in
  -- a game.
  pub record IsDevicePart (whose : Whose) (d : Device) : Type 0 where
    pub owner : IsOwnerBelow modes whose.owner
    pub count : S → length d.lists ≡ list_count d.settings
    pub lists : Short → All IsFew d.lists
    pub limits : Short → IsWithinLimits d.settings
    pub listens : 0 < length d.listens → whose.owner ≡ owners.Machine
    pub kind : IsKindOf d.settings whose.owner
    pub target : IsTargetAmong (length rows) d.settings
    pub drains : All (All (DrainsIn has)) d.lists

  -- an effect list of a handler is short, and has nothing to do with the balls of a device; a mode that is started or
  -- stopped is there; and so is a row that is acted on, which is of the same owner, and no ball device
  abbrev pub IsReaction : Whose → Reaction → Type 0
  IsReaction whose (run es) = All IsOfNoBall es × (Short → IsFew es)
  IsReaction whose (start m) = m.0 < modes
  IsReaction whose (stop m) = m.0 < modes
  IsReaction whose (act_on r act) = IsRowOf rows r.0 whose false

  abbrev pub IsPart : Part → Type 0
  IsPart (coil name limits) = AreLimits limits
  IsPart (game min_balls balls_per_game max_players) = AreRules min_balls balls_per_game max_players
  IsPart (handler whose e reaction) = IsOwnerBelow modes whose.owner × IsReaction whose reaction
  IsPart (device whose d) = IsDevicePart whose d
  IsPart _ = Unit {0}

-- each part of rows is such a one
abbrev pub IsPartOf : Rows → Part → Type 0
IsPartOf rows =
    IsPart (HaveStates rows) (AreListsShort rows) (length rows.modes) (rows_of_parts (parts_of rows))
    (list_any is_game_part (parts_of rows))
