-- What holds of every step of a device.
use Rattle.std.specs.{Prelude.{◌≡◌, ℕ, ◌<◌, ◌≤◌, ◌⊎◌, None, Some, IsSome, IfSome, List, length, Contains}, List.All}
use Rattle.plan_tables.specs.{declared.devices.Settings.Settings, Devices.{IsWithinLimits, list_count}}
use Rattle.device_objects.specs.declared.{device.Call.Call, state.{World.World, DeviceState.DeviceState}}
use Rattle.device_objects.specs.declared.device.Call.TheVariants as calls
use Rattle.device_objects.specs.{Kinds.{kind_of, moments_of}, KindModel.{Kind, Moments}, Outcomes.silent}
use Rattle.device_objects.specs.DeviceStep.{first_state, due_of, part_due, outcomes, device_step}

-- ---- what is said of a kind

-- a call that may come when the device is due at these moments: it fires only while it is due
abbrev pub MayComeAt : Call → Moments → Type 0
MayComeAt calls.ModeStart m = Unit {0}
MayComeAt calls.ModeStop m = Unit {0}
MayComeAt calls.Fire m = IsSome m.due
MayComeAt (calls.Act act) m = Unit {0}

-- the lists are what a device of the kind answers to the call, in some state
pub record IsAnswerOf {S : Type 0} (kind : Kind S) (moments : S → Moments) (call : Call) (lists : List ℕ) : Type 0 where
  pub now : ℕ
  pub world : World
  pub state : S
  pub shape : kind.IsShaped state
  pub may_come : MayComeAt call (moments state)
  pub answer : (kind.step call now world state).1 ≡ lists

-- A part was due at this moment. Afterwards it is due later than now, or not at all.
pub record IsDoneIn (now moment : ℕ) (before after : Moments) : Type 0 where
  pub part : ℕ
  pub due : before.part part ≡ Some moment
  pub later_part : IfSome (after.part part) (λ later. now < later)

-- The part is due at the moment, no part is due before it, and no part with a lower number is due at it.
pub record IsFirstPartOf (m : Moments) (moment part : ℕ) : Type 0 where
  pub due : m.part part ≡ Some moment
  pub earliest : (other at : ℕ) → m.part other ≡ Some at → moment ≤ at
  pub lowest : (other : ℕ) → m.part other ≡ Some moment → part ≤ other

-- A device of the kind that fires does what this part of it does, and the part is the first that is due.
pub record FiresFirstPartOf {S : Type 0} (kind : Kind S) (moments : S → Moments) (now : ℕ) (world : World) (state : S)
    (moment : ℕ) : Type 0 where
  pub part : ℕ
  pub first : IsFirstPartOf (moments state) moment part
  pub step : kind.step calls.Fire now world state ≡ kind.fire_part part now state

-- What holds of every kind, of devices within their limits and with so many lists.
pub record IsLawful {S : Type 0} (kind : Kind S) (moments : S → Moments) (IsWithin : Type 0) (lists : ℕ) : Type 0 where
  -- the first state has the shape, and each step leaves it so
  pub first : kind.IsShaped kind.first
  pub step : (call : Call) (now : ℕ) (world : World) (state : S) → kind.IsShaped state
      → kind.IsShaped (kind.step call now world state).0
  -- each answer is an outcome, and each outcome comes about
  pub answers : (call : Call) (now : ℕ) (world : World) (state : S) → kind.IsShaped state
      → MayComeAt call (moments state) → Contains (kind.outcomes call) (kind.step call now world state).1
  pub comes : IsWithin → (call : Call) → All (IsAnswerOf kind moments call) (kind.outcomes call)
  -- all lists are of the row, whatever the state; and an answer has at most four
  pub of_row : (call : Call) → All (All (λ list. list < lists)) (kind.outcomes call)
  pub answers_of_row : (call : Call) (now : ℕ) (world : World) (state : S)
      → All (λ list. list < lists) (kind.step call now world state).1
  pub short : (call : Call) → All (λ answer. length answer ≤ 4) (kind.outcomes call)
  -- when its mode stops it answers nothing
  pub silent_stop : kind.outcomes calls.ModeStop ≡ silent
  -- nothing is due at first, nor when its mode has stopped
  pub quiet : (moments kind.first).due ≡ None
  pub stop : (now : ℕ) (world : World) (state : S) → kind.IsShaped state
      → (moments (kind.step calls.ModeStop now world state).0).due ≡ None
  -- what a step arms is due later than now
  pub arms : IsWithin → (call : Call) (now : ℕ) (world : World) (state : S) (part due : ℕ)
      → (moments (kind.step call now world state).0).part part ≡ Some due
      → ((moments state).part part ≡ Some due) ⊎ (now < due)
  -- when it fires, the first part that is due does so, and one that was due is done
  pub fires : (now : ℕ) (world : World) (state : S) → kind.IsShaped state
      → IfSome (moments state).due (FiresFirstPartOf kind moments now world state)
  pub later_part : IsWithin → (now : ℕ) (world : World) (state : S) → kind.IsShaped state
      → IfSome (moments state).due
      (λ due. IsDoneIn now due (moments state) (moments (kind.step calls.Fire now world state).0))
  -- only parts 0 to 16 are ever due
  pub few : (state : S) (part : ℕ) → kind.IsShaped state → 17 ≤ part → (moments state).part part ≡ None

-- ---- what is said of devices

-- A state of the shape that the settings ask for. It is of their kind. A block or a bank has four slots, in each of
-- which an accrual has 16 marks, and a bank its flags and 16 states of its profile. `HasBallShape` says what a ball
-- device has, and `HasSaveShape` what a ball save has. All else may be anything, such as a mark of a step that an
-- accrual does not have, or a next step that a sequence does not have.
abbrev pub HasShape : Settings → DeviceState → Type 0
HasShape settings state = (kind_of settings).IsShaped state

-- The first state has the shape of its settings, and each step leaves it so.
pub record StatesKeepTheirShape : Type 0 where
  pub first : (settings : Settings) → HasShape settings (first_state settings)
  pub step : (settings : Settings) (call : Call) (now : ℕ) (world : World) (state : DeviceState)
      → HasShape settings state → HasShape settings (device_step settings call now world state).0

-- a call that may come in this state: a device fires only while it is due
abbrev pub MayCome : Call → DeviceState → Type 0
MayCome call state = MayComeAt call (moments_of state)

-- No state answers anything but one of the outcomes.
abbrev pub AnswersAreOutcomes : Type 0
AnswersAreOutcomes =
    (settings : Settings) (call : Call) (now : ℕ) (world : World) (state : DeviceState) → HasShape settings state
    → MayCome call state → Contains (outcomes settings call) (device_step settings call now world state).1

-- the lists are what some state answers to the call
abbrev pub IsAnswer : Settings → Call → List ℕ → Type 0
IsAnswer settings call lists = IsAnswerOf (kind_of settings) moments_of call lists

-- Each outcome is the answer of some state, if the settings are within their limits.
abbrev pub OutcomesComeAbout : Type 0
OutcomesComeAbout =
    (settings : Settings) (call : Call) → IsWithinLimits settings
    → All (IsAnswer settings call) (outcomes settings call)

-- A device is due at the first of the moments at which its parts are due. Only parts 0 to 16 are ever due.
pub record DevicesAreDueWithTheirParts : Type 0 where
  pub none : (state : DeviceState) → due_of state ≡ None → (k : ℕ) → part_due state k ≡ None
  pub one : (state : DeviceState) → IfSome (due_of state) (λ due. (k : ℕ) × (part_due state k ≡ Some due))
  pub first : (state : DeviceState)
      → IfSome (due_of state) (λ due. (k other : ℕ) → part_due state k ≡ Some other → due ≤ other)
  pub few : (settings : Settings) (state : DeviceState) (k : ℕ) → HasShape settings state → 17 ≤ k
      → part_due state k ≡ None

-- A device that fires does what this part of it does, and the part is the first that is due.
abbrev pub FiresFirstPart : Settings → ℕ → World → DeviceState → ℕ → Type 0
FiresFirstPart settings now world state moment =
    FiresFirstPartOf (kind_of settings) moments_of now world state moment

-- Of the parts of a device that are due at one moment the one with the lowest number fires first: so of a ball device
-- the ball switches by their numbers, then the attempt.
abbrev pub FirstPartsFire : Type 0
FirstPartsFire =
    (settings : Settings) (now : ℕ) (world : World) (state : DeviceState) → HasShape settings state
    → IfSome (due_of state) (FiresFirstPart settings now world state)

-- A part was due at this moment. In the next state it is due later than now, or not at all.
abbrev pub IsDone : ℕ → ℕ → DeviceState → DeviceState → Type 0
IsDone now moment state next = IsDoneIn now moment (moments_of state) (moments_of next)

-- What a step arms is due after the moment of the step. When a device fires, one of its parts that were due is done.
pub record ArmsLaterMoments : Type 0 where
  pub step : (settings : Settings) (call : Call) (now : ℕ) (world : World) (state : DeviceState)
      → IsWithinLimits settings → (k due : ℕ)
      → part_due (device_step settings call now world state).0 k ≡ Some due
      → (part_due state k ≡ Some due) ⊎ (now < due)
  pub fire : (settings : Settings) (now : ℕ) (world : World) (state : DeviceState) → IsWithinLimits settings
      → HasShape settings state
      → IfSome (due_of state) (λ due. IsDone now due state (device_step settings calls.Fire now world state).0)

-- Every list that a device answers is one of its row.
abbrev pub OutcomesAreOfTheRow : Type 0
OutcomesAreOfTheRow =
    (settings : Settings) (call : Call) → All (All (λ list. list < list_count settings)) (outcomes settings call)

-- At first nothing is due, nor when the device's mode has stopped.
pub record NothingIsDue : Type 0 where
  pub first : (settings : Settings) → due_of (first_state settings) ≡ None
  pub stop : (settings : Settings) (now : ℕ) (world : World) (state : DeviceState) → HasShape settings state
      → due_of (device_step settings calls.ModeStop now world state).0 ≡ None

-- A device whose mode stops answers no list.
abbrev pub StopsAreSilent : Type 0
StopsAreSilent = (settings : Settings) → outcomes settings calls.ModeStop ≡ silent
