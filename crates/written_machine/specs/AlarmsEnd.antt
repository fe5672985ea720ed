-- Alarms come to an end, since a stimulus arms nothing for its own moment.
use Rattle.std.specs.Prelude.{◌≡◌, ℕ, ◌<◌, ◌⊎◌, Some, List}
use Rattle.plan_tables.specs.{PlanView.PlanView, Valid.IsValid}
use Rattle.written_machine.specs.{Devices.HasDevices, EventStep.EventSteps}
use Rattle.written_machine.specs.{Machine.Machine, AlarmsBy.{alarms_by, state_after}, Run.IsReached}
use Rattle.written_machine.specs.{NextAlarm.most_alarms, declared.line.Line.Line}
use Rattle.written_machine.specs.Run.{Source, source_due, part_due, IsNoAlarmDueBy, Stimulus, Alarm, moment_of, begin}

-- What is due after a stimulus and event steps was due before it, or is due later than it came.
abbrev pub StimuliArmLater : Type 0
StimuliArmLater =
    (plan : PlanView) (stimulus : Stimulus) (s : Machine) (n : ℕ) (t : Machine) → IsValid plan
    → EventSteps plan n (begin plan stimulus s) t
    → (source : Source) (k due : ℕ) → part_due t source k ≡ Some due
    → (part_due s source k ≡ Some due) ⊎ (moment_of stimulus < due)

-- a part of the source was due at the moment, and is due later or not at all in another state
pub record IsPartDone (at : ℕ) (source : Source) (s t : Machine) : Type 0 where
  pub part : ℕ
  pub few : part < 17
  pub due : part_due s source part ≡ Some at
  pub later_part : (later : ℕ) → part_due t source part ≡ Some later → at < later

-- An alarm is that of a part of its source, which is due later after that, or not at all.
abbrev pub AlarmsAreDone : Type 0
AlarmsAreDone =
    (plan : PlanView) (at : ℕ) (source : Source) (s : Machine) (n : ℕ) (t : Machine) → IsValid plan
    → HasDevices plan s.devices
    → source_due s source ≡ Some at → EventSteps plan n (begin plan (Alarm at source) s) t → IsPartDone at source s t

-- So after the alarms that come by a moment, of which there are no more than `most_alarms`, nothing is due by it.
abbrev pub AlarmsEnd : Type 0
AlarmsEnd =
    (plan : PlanView) (bound : ℕ) (trace : List Line) (s : Machine) → IsValid plan → IsReached plan trace s
    → (until : ℕ) → IsNoAlarmDueBy (state_after plan bound (alarms_by plan bound until (most_alarms plan until s) s) s)
    until
