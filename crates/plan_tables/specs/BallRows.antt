-- What a plan does with balls.
use Rattle.std.specs.{Prelude.{◌≡◌, ℕ, ◌<◌, Bool, List, [], ◌∷◌, length}, List.{All, AllPairs, flat_map}}
use Rattle.plan_tables.specs.{Devices.list_count, declared.entries.Owner.{Owner, TheVariants.Machine}}
use Rattle.plan_tables.specs.PlanView.{PlanView, actions_at, list_of_row, row_at}
use Rattle.plan_tables.specs.declared.devices.{RowId.RowId, Settings.{Settings, TheVariants.BallDevice}}
use Rattle.plan_tables.specs.declared.entries.{Action.Action, EventId.EventId, Listener.Listener}
use Rattle.plan_tables.specs.declared.entries.Action.TheVariants.{Enter, Leave, Lose, Arrive, Request, AddBalls}
use Rattle.plan_tables.specs.declared.entries.Target.{Target, TheVariants.{Run, Start, Stop, Act}}

-- ---- devices

abbrev pub IsNoBallDevice : Settings → Type 0
IsNoBallDevice (BallDevice d) = ⊥
IsNoBallDevice _ = Unit {0}

-- a ball switch is one that its device has
abbrev pub IsSwitchOf : Settings → ℕ → Type 0
IsSwitchOf (BallDevice d) i = i < d.switches
IsSwitchOf _ i = Unit {0}

-- a ball device is the machine's
abbrev pub IsOwnBallDevice : Settings → Owner → Type 0
IsOwnBallDevice (BallDevice d) owner = owner ≡ Machine
IsOwnBallDevice _ owner = Unit {0}

-- Ball devices are the machine's.
abbrev pub BallDevicesAreOwn : PlanView → Type 0
BallDevicesAreOwn plan = All (λ row. IsOwnBallDevice row.settings row.owner) plan.rows

-- ---- effect lists

abbrev pub BooksNothing : Action → Type 0
BooksNothing (Enter r e drain) = ⊥
BooksNothing (Leave r) = ⊥
BooksNothing (Lose r) = ⊥
BooksNothing (Arrive r) = ⊥
BooksNothing _ = Unit {0}

-- it books nothing, and tells no other device anything
abbrev pub IsPlain : Action → Type 0
IsPlain (Enter r e drain) = ⊥
IsPlain (Leave r) = ⊥
IsPlain (Lose r) = ⊥
IsPlain (Arrive r) = ⊥
IsPlain (Request n) = ⊥
IsPlain (AddBalls n) = ⊥
IsPlain _ = Unit {0}

-- What the effect lists of a ball device do, by their numbers: a ball enters it in list 0, leaves it in list 2, is lost
-- in list 3 and arrives in list 5. The others book nothing, and tell no other device anything.
pub record BooksBalls (r : RowId) (lists : ℕ → List Action) : Type 0 where
  pub event : EventId
  pub drain : Bool
  pub entry : lists 0 ≡ Enter r event drain ∷ []
  pub attempt : All IsPlain (lists 1)
  pub exit : lists 2 ≡ Leave r ∷ []
  pub loss : lists 3 ≡ Lose r ∷ []
  pub success : All IsPlain (lists 4)
  pub arrival : lists 5 ≡ Arrive r ∷ []
  pub failure : All IsPlain (lists 6)

-- the lists of a ball device do so, and those of any other device book nothing
abbrev pub BooksRightly : RowId → Settings → (ℕ → List Action) → Type 0
BooksRightly r (BallDevice d) lists = BooksBalls r lists
BooksRightly r settings lists = (k : ℕ) → k < list_count settings → All BooksNothing (lists k)

-- the actions of a row's effect list, by its number in the row
abbrev pub actions_in : PlanView → RowId → ℕ → List Action
actions_in plan r k = actions_at plan (list_of_row plan r k)

-- ---- bindings

-- a binding acts on no ball device, and the list that it runs books nothing
abbrev pub IsOffBalls : PlanView → Target → Type 0
IsOffBalls plan (Run l) = All BooksNothing (actions_at plan l)
IsOffBalls plan (Start m) = Unit {0}
IsOffBalls plan (Stop m) = Unit {0}
IsOffBalls plan (Act r act) = IsNoBallDevice (row_at plan r).settings

-- ---- switches

-- not the same switch number of one row
abbrev pub AreApart : Listener → Listener → Type 0
AreApart a b = a.row ≡ b.row → a.switch ≡ b.switch → ⊥

-- not of one row
abbrev pub AreOfTwoRows : Listener → Listener → Type 0
AreOfTwoRows a b = a.row ≡ b.row → ⊥

-- ---- the plan

-- Only the lists of ball devices book balls: one list books balls that enter, one balls that leave, one lost balls, and
-- one balls that arrive. No binding acts on a ball device: only switches, alarms, arrivals and requests for balls do.
-- Each ball switch of a device is one switch, and that switch is no other ball switch of it.
pub record BookingsAreRight (plan : PlanView) : Type 0 where
  pub rows : (r : RowId) → r.0 < length plan.rows → BooksRightly r (row_at plan r).settings (actions_in plan r)
  pub bindings : All (λ b. IsOffBalls plan b.target) plan.bindings
  pub switches : All (λ s. All (λ l. IsSwitchOf (row_at plan l.row).settings l.switch) s.listeners) plan.switches
  pub once : All (λ s. AllPairs AreOfTwoRows s.listeners) plan.switches
  pub apart : AllPairs AreApart (flat_map (λ s. s.listeners) plan.switches)
