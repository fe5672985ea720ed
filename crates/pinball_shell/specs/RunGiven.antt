-- Which run a log gives, whatever plays it.
use Rattle.std.specs.Prelude.{◌≡◌, ◌≢◌, ℕ, Option, None, Result, Ok, Err, List, [], ◌∷◌, ◌++◌, map, option_to_list}
use Rattle.std.specs.{Option.option_map_or, Str.Lines.lines}
use Rattle.plan_tables.specs.{PlanView.PlanView, Valid.IsValid}
use Rattle.written_machine.specs.{declared.line.Line.Line, CheckedView.CheckedView}
use Rattle.written_machine.specs.{Machine.{Machine, initial}, PlanOrder.plan_steps, Run.IsReached}
use Rattle.written_machine.specs.Run.{Source, Stimulus, SwitchChange, Alarm, Wait, moment_of, IsAllowed, begin}
use Rattle.pinball_shell.specs.{declared.refusal.LogRefusal.LogRefusal, LogText.meaning}
use Rattle.pinball_shell.specs.RunOfLog.{given_by_line, printed_for_log, trace_in}

-- the stimulus that a line gives, if it gives one
abbrev pub given_of : Result (Option Stimulus) LogRefusal → Option Stimulus
given_of (Ok stimulus) = stimulus
given_of (Err refusal) = None

-- The stimuli that these lines of a log give, if the latest stimulus before them came at `now`. A line that is refused
-- leaves `now` as it was; an alarm comes before the stimulus of a line, and not at a later moment.
abbrev pub given_by_lines : PlanView → ℕ → List (List ℕ) → List Stimulus
given_by_lines plan now [] = []
given_by_lines plan now (line ∷ more) =
    let stimulus = given_of (given_by_line plan now (meaning line)) in
    option_to_list stimulus ++ given_by_lines plan (option_map_or moment_of stimulus now) more

-- the stimuli that a log gives
abbrev pub given_by_log : PlanView → List ℕ → List Stimulus
given_by_log plan log = given_by_lines plan 0 (lines log)

-- the stimuli of a run, without how many event steps follow each
abbrev pub stimuli_of : List (Stimulus × ℕ) → List Stimulus
stimuli_of = map (λ s. s.0)

-- stimuli without the alarms among them
abbrev pub without_alarms : List Stimulus → List Stimulus
without_alarms [] = []
without_alarms (SwitchChange at switch level ∷ more) = SwitchChange at switch level ∷ without_alarms more
without_alarms (Alarm at source ∷ more) = without_alarms more
without_alarms (Wait at ∷ more) = Wait at ∷ without_alarms more

-- The lines are the trace of a run of the plan that the log gives: its changes and waits are those of the log, in
-- order; before each have come the alarms due by its moment, as in every run; no alarm is the last; and at the end no
-- event waits.
pub record IsRunOfLog (plan : PlanView) (log : List ℕ) (trace : List Line) : Type 0 where
  pub end : Machine
  pub reach : IsReached plan trace end
  pub inputs : without_alarms (stimuli_of reach.stimuli) ≡ given_by_log plan log
  pub last : (before : List Stimulus) (at : ℕ) (source : Source)
      → stimuli_of reach.stimuli ≢ before ++ Alarm at source ∷ []

-- A run in plan order: after each stimulus come event steps in plan order, until no event waits.
abbrev pub IsRunInOrder : PlanView → List Stimulus → Machine → List Line → Machine → Type 0
IsRunInOrder plan [] old trace new = (trace ≡ []) × (new ≡ old)
IsRunInOrder plan (stimulus ∷ more) old trace new =
    IsAllowed plan old stimulus
    × ((n : ℕ) × (let settled = plan_steps plan n (begin plan stimulus old) in
    (settled.waiting ≡ []) × ((rest : List Line) × IsRunInOrder plan more settled rest new
    × (trace ≡ settled.lines ++ rest))))

-- the lines are the trace of a run that the log gives, and it is in plan order
pub record IsPlayOfLog (plan : PlanView) (log : List ℕ) (trace : List Line) : Type 0 where
  pub run : IsRunOfLog plan log trace
  pub order : IsRunInOrder plan (stimuli_of run.reach.stimuli) (initial plan) trace run.end

-- the trace that is printed for a log is the play that the log gives
abbrev pub PrintsPlayOf : CheckedView → (log : List ℕ) → Type 0
PrintsPlayOf c log = IsPlayOfLog c.plan log (trace_in (printed_for_log c.plan c.bound log))

-- Every run of a log has the same changes and waits. Which alarms come may depend on the order of handlers of equal
-- priority.
abbrev pub GivesChangesAndWaits : Type 0
GivesChangesAndWaits =
    (plan : PlanView) (log : List ℕ) (trace other : List Line) (a : IsRunOfLog plan log trace)
    (b : IsRunOfLog plan log other)
    → without_alarms (stimuli_of a.reach.stimuli) ≡ without_alarms (stimuli_of b.reach.stimuli)

-- In plan order a log gives one run: its stimuli, alarms too, and its trace.
abbrev pub GivesOnePlay : Type 0
GivesOnePlay =
    (plan : PlanView) (log : List ℕ) (trace other : List Line) → IsValid plan
    → (a : IsPlayOfLog plan log trace) (b : IsPlayOfLog plan log other)
    → (stimuli_of a.run.reach.stimuli ≡ stimuli_of b.run.reach.stimuli) × (trace ≡ other)
