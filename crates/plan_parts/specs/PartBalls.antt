-- What parts have to do with balls: each effect list of a ball device does what it is for, it listens to its ball
-- switches, and no event acts on it; no other part has to do with the balls of a device.
use Rattle.std.specs.{Prelude.{◌≡◌, ℕ, Bool, true, List, [], ◌∷◌, length, get_or}, List.All}
use Rattle.plan_tables.specs.declared.devices.Settings.{Settings}
use Rattle.plan_tables.specs.declared.devices.Settings.TheVariants as kinds
use Rattle.plan_parts.specs.Effects.{Effect, enters, leaves, loses, arrives, requests, adds_balls}
use Rattle.plan_parts.specs.Parts.{Device, Part, device}

-- ---- effects

-- it has nothing to do with the balls of a device; that more balls are asked for is none of it
abbrev pub IsOfNoBall : Effect → Type 0
IsOfNoBall (enters e drain) = ⊥
IsOfNoBall leaves = ⊥
IsOfNoBall loses = ⊥
IsOfNoBall arrives = ⊥
IsOfNoBall _ = Unit {0}

-- it has to do with no balls at all: it asks for none either
abbrev pub IsBallFree : Effect → Type 0
IsBallFree (requests n) = ⊥
IsBallFree (adds_balls n) = ⊥
IsBallFree e = IsOfNoBall e

-- a ball may have drained only if there is a game
abbrev pub DrainsIn : Bool → Effect → Type 0
DrainsIn has (enters e drain) = drain ≡ true → has ≡ true
DrainsIn has _ = Unit {0}

-- ---- devices

-- What the effect lists of a ball device do, by their numbers: a ball enters it in list 0, leaves it in list 2, is lost
-- in list 3 and arrives in list 5. The other lists have to do with no balls at all.
pub record AreBallLists (lists : List (List Effect)) : Type 0 where
  pub event : List ℕ
  pub drain : Bool
  pub entry : get_or lists 0 [] ≡ enters event drain ∷ []
  pub attempt : All IsBallFree (get_or lists 1 [])
  pub exit : get_or lists 2 [] ≡ leaves ∷ []
  pub loss : get_or lists 3 [] ≡ loses ∷ []
  pub success : All IsBallFree (get_or lists 4 [])
  pub arrival : get_or lists 5 [] ≡ arrives ∷ []
  pub failure : All IsBallFree (get_or lists 6 [])

-- a ball device with so many ball switches
pub record IsBallDevice (switches : ℕ) (d : Device) : Type 0 where
  pub lists : AreBallLists d.lists
  pub count : length d.lists ≡ 7
  pub listens : length d.listens ≡ switches
  pub event_acts : d.event_acts ≡ []

-- a device with these settings
abbrev pub IsRightDevice : Settings → Device → Type 0
IsRightDevice (kinds.BallDevice b) d = IsBallDevice b.switches d
IsRightDevice _ d = All (All IsOfNoBall) d.lists

-- a part, if it is a device
abbrev pub IsRight : Part → Type 0
IsRight (device whose d) = IsRightDevice d.settings d
IsRight _ = Unit {0}
