-- Stimuli, and runs of the machine.
use Rattle.std.specs.Prelude.{◌≡◌, ℕ, ◌<◌, ◌≤◌, ◌^◌, ◌⊎◌, Bool, Option, Some, List, [], ◌∷◌, ◌++◌, length}
use Rattle.plan_tables.specs.{PlanView.PlanView, declared.{entries.SwitchId.SwitchId, devices.RowId.RowId}}
use Rattle.switch_core.specs.Switches.{due_of}
use Rattle.device_objects.specs.declared.device.Call.TheVariants as calls
use Rattle.device_objects.specs.DeviceStep as devices
use Rattle.written_machine.specs.{declared.line.Line.Line, EventStep.EventSteps}
use Rattle.written_machine.specs.Machine.{Machine, initial, call_device, change_switch, device_at, fire_switch}

-- ---- what can be due

-- a source of alarms: the raw level of a switch, which is to be accepted, or a device
pub data Source : Type 0 where
  switch : SwitchId → Source
  device : RowId → Source

-- the moment at which the alarm of a source is due, if it is
abbrev pub source_due : Machine → Source → Option ℕ
source_due s (switch n) = due_of s.switches n
source_due s (device r) = devices.due_of (device_at s r)

-- When the parts of a source are due, by their numbers: `source_due` is the first of these moments. A switch has one
-- part, whatever the number.
abbrev pub part_due : Machine → Source → ℕ → Option ℕ
part_due s (switch n) k = due_of s.switches n
part_due s (device r) k = devices.part_due (device_at s r) k

-- of two sources that are due at one moment, the first does not come after the other: switches come before devices, and
-- each by number
abbrev pub IsNotAfter : Source → Source → Type 0
IsNotAfter (switch n) (switch m) = n.0 ≤ m.0
IsNotAfter (switch n) (device r) = Unit {0}
IsNotAfter (device r) (switch n) = ⊥
IsNotAfter (device r) (device q) = r.0 ≤ q.0

-- no alarm is due at or before the moment
abbrev pub IsNoAlarmDueBy : Machine → ℕ → Type 0
IsNoAlarmDueBy s at = (source : Source) (due : ℕ) → source_due s source ≡ Some due → at < due

-- no alarm was due before the moment of the latest stimulus
abbrev pub IsNothingLate : Machine → Type 0
IsNothingLate s = (source : Source) (due : ℕ) → source_due s source ≡ Some due → s.moment ≤ due

-- the alarm of the least moment, and of those the first source's
pub record IsNextAlarm (s : Machine) (at : ℕ) (source : Source) : Type 0 where
  pub due : source_due s source ≡ Some at
  pub least : (other : Source) (moment : ℕ) → source_due s other ≡ Some moment
      → (at < moment) ⊎ ((at ≡ moment) × IsNotAfter source other)

-- ---- stimuli

-- A switch changes its raw level, an alarm is due, or nothing happens up to a moment.
pub data Stimulus : Type 0 where
  SwitchChange : (at : ℕ) (switch : SwitchId) (level : Bool) → Stimulus
  Alarm : (at : ℕ) (source : Source) → Stimulus
  Wait : (at : ℕ) → Stimulus

-- the moment at which a stimulus comes
abbrev pub moment_of : Stimulus → ℕ
moment_of (SwitchChange at n level) = at
moment_of (Alarm at source) = at
moment_of (Wait at) = at

-- a moment that a change or a wait may have: it does not go back, and each alarm due at or before it has come
pub record IsTimely (s : Machine) (at : ℕ) : Type 0 where
  pub forward : s.moment ≤ at
  pub early : at < 2 ^ 40
  pub quiet : IsNoAlarmDueBy s at

-- what may come next
abbrev pub IsAllowed : PlanView → Machine → Stimulus → Type 0
IsAllowed plan s (SwitchChange at n level) = IsTimely s at × (n.0 < length plan.switches)
IsAllowed plan s (Alarm at source) = IsNextAlarm s at source × (at < 2 ^ 40)
IsAllowed plan s (Wait at) = IsTimely s at

-- it is a new moment, with no line yet
abbrev pub arrive : ℕ → Machine → Machine
arrive at s = record s { moment = at; lines = [] }

-- an alarm comes
abbrev pub fire : PlanView → Source → Machine → Machine
fire plan (switch n) s = fire_switch plan n s
fire plan (device r) s = call_device plan calls.Fire r s

-- what a stimulus does before any event step
abbrev pub begin : PlanView → Stimulus → Machine → Machine
begin plan (SwitchChange at n level) s = change_switch plan at n level (arrive at s)
begin plan (Alarm at source) s = fire plan source (arrive at s)
begin plan (Wait at) s = arrive at s

-- ---- runs

-- Each stimulus comes with a number: how many event steps follow it. The next one comes only once nothing waits, so
-- that a run may stop in mid-cascade only at its end. In the trace the lines of each stimulus come after those of the
-- one before it.
abbrev pub IsRun : PlanView → List (Stimulus × ℕ) → Machine → List Line → Machine → Type 0
IsRun plan [] old trace new = (trace ≡ []) × (new ≡ old)
IsRun plan ((stimulus, n) ∷ more) old trace new =
    (old.waiting ≡ []) × IsAllowed plan old stimulus
    × ((mid : Machine) × (rest : List Line) × EventSteps plan n (begin plan stimulus old) mid
    × IsRun plan more mid rest new × (trace ≡ mid.lines ++ rest))

-- this holds of every run of the plan: of its stimuli, its trace and the state in which it ends
abbrev pub InEveryRun : PlanView → (List (Stimulus × ℕ) → List Line → Machine → Type 0) → Type 0
InEveryRun plan P = (stimuli : List (Stimulus × ℕ)) (trace : List Line) (s : Machine)
    → IsRun plan stimuli (initial plan) trace s → P stimuli trace s

-- this holds after every stimulus of every run: of the state before it, the stimulus, how many event steps followed it,
-- and the state then
abbrev pub InEveryCascade : PlanView → (Machine → Stimulus → ℕ → Machine → Type 0) → Type 0
InEveryCascade plan P =
    InEveryRun plan (λ stimuli trace s. s.waiting ≡ [] → (stimulus : Stimulus) → IsAllowed plan s stimulus →
    (n : ℕ) (t : Machine) → EventSteps plan n (begin plan stimulus s) t → P s stimulus n t)

-- a run leads to this state, in which no event waits, and has this trace
pub record IsReached (plan : PlanView) (trace : List Line) (s : Machine) : Type 0 where
  pub stimuli : List (Stimulus × ℕ)
  pub run : IsRun plan stimuli (initial plan) trace s
  pub idle : s.waiting ≡ []
