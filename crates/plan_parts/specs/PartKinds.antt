-- What a part gives, if it is of one kind: a switch, a coil or a row; and whether it is a game or a mode.
use Rattle.std.specs.{Prelude.{◌≡◌, ℕ, Bool, true, false, List, [], ◌∷◌, Some, slice_get}, List.flat_map}
use Rattle.plan_tables.specs.declared.entries.CoilLimits.{CoilLimits}
use Rattle.plan_tables.specs.declared.devices.Settings.{Settings, TheVariants.BallDevice}
use Rattle.plan_parts.specs.Parts.{Whose, Device, Part, switch, coil, game, mode, device}

-- the switch that a part gives, by name, if it gives one; and the coil, with what it may be sent
abbrev pub given_switch : Part → List (List ℕ)
given_switch (switch n kind confirms on off) = n ∷ []
given_switch _ = []

abbrev pub given_coil : Part → List (List ℕ × CoilLimits)
given_coil (coil n limits) = (n, limits) ∷ []
given_coil _ = []

abbrev pub is_game_part : Part → Bool
is_game_part (game min_balls balls_per_game max_players) = true
is_game_part _ = false

-- a part that is no mode
abbrev pub IsNoMode : Part → Type 0
IsNoMode (mode name s) = ⊥
IsNoMode _ = Unit {0}

-- ---- rows

-- the row that a part gives, if it gives one: whose it is, and its device
abbrev pub row_of_part : Part → List (Whose × Device)
row_of_part (device whose d) = (whose, d) ∷ []
row_of_part _ = []

-- the rows of parts, in turn
abbrev pub rows_of_parts : List Part → List (Whose × Device)
rows_of_parts ps = flat_map row_of_part ps

abbrev pub is_ball : Settings → Bool
is_ball (BallDevice d) = true
is_ball _ = false

-- The row of this number is whose this says, and it is that of a ball device, or of none.
pub record IsRowOf (rows : List (Whose × Device)) (r : ℕ) (whose : Whose) (ball : Bool) : Type 0 where
  pub device : Device
  pub there : slice_get rows r ≡ Some (whose, device)
  pub kind : is_ball device.settings ≡ ball
