-- What a line gives is taken by the rig, once no alarm is due by its moment.
use Rattle.std.proofs.Common.{rules, ◌≡◌, ℕ, ◌<◌, ◌≤◌, ◌^◌, Bool, false, Option, None, Some, Result, Ok, Err, OnOk}
use Rattle.std.proofs.Common.{IfOk, List, [], ◌∷◌, refl, ap, sym, ◌∙◌, subst, arith, append-nil}
use Rattle.std.{specs.Result.is_err, proofs.KnownBytes.Appends-trans}
use Rattle.plan_tables.specs.{PlanView.PlanView, Valid.IsValid, declared.devices.DeviceRow.DeviceRow}
use Rattle.written_machine.specs.{Accepted.IsAccepted, Machine.Machine, CheckedView.CheckedView, NextAlarm.is_due_by}
use Rattle.written_machine.specs.Run.{Stimulus, SwitchChange, Alarm, Wait, moment_of, IsReached}
use Rattle.written_machine.proofs.NextAlarms.{not_due-nothing}
use Rattle.coil_driver.specs.Board.{BoardView, commands_of, TellsMore}
use Rattle.machine_core.specs.declared.{fault.CoreFault.CoreFault, stimulus.Stimulus.Stimulus as HeldStimulus}
use Rattle.machine_core.specs.{Fit.{IsFit, IsFirstWrong}, Stimuli.stimulus_view}
use Rattle.machine_core.specs.declared.fault.CoreFault.TheVariants as core_faults
use Rattle.pin_rig.specs.{declared.input.Input.Input, Admission.{Admits, IsAdmitted}}
use Rattle.pin_rig.{proofs.Judging.allowed-judged, specs.{Rig.{RigView, IsOfRun}, Steps.at_rest}}
use Rattle.pin_rig.specs.declared.input.Input.TheVariants as inputs
use Rattle.device_objects.specs.declared.state.DeviceState.{DeviceState}
use Rattle.pinball_shell.specs.declared.fault.{ShellFault.ShellFault, Verdict.Verdict}
use Rattle.pinball_shell.specs.declared.fault.ShellFault.TheVariants as faults
use Rattle.pinball_shell.specs.{Status.fault_of_rig, LogText.{LogLine, meaning}, Played.{IsLogPlayed, IsShutDown}}
use Rattle.pinball_shell.specs.RunOfLog.{given_by_line, PrintedLine, trace_in}
use Rattle.pinball_shell.specs.{Ends.{IsServed, IsEnd, IsPlayOn}, LogPlayers.RunsUnlessStopped}
use Rattle.pinball_shell.specs.declared.{play.Stop.Stop, refusal.LogRefusal.LogRefusal}
use Rattle.pinball_shell.specs.declared.play.Stop.TheVariants as stops
use Rattle.pinball_shell.specs.declared.fault.Verdict.TheVariants as verdicts
use Rattle.pinball_shell.specs.Played.{GivesTimed, GoesOrHalts, IsPlayed, IsPlayedToFault, IsRigOf, AreAlarmsPlayed}
use Rattle.pinball_shell.specs.Played.{AreAlarmsPlayedToFault, IsLinePlayed, IsLinePlayedToFault, PlaysLine}
use Rattle.pinball_shell.proofs.{Alarms.{IsComing, alarm-taken}, Playing.{line-played, line-fault, line-alarm_fault}}
use Rattle.pinball_shell.proofs.LogRuns.{IsGivenInTime, given-in_time, in_time-early, may_come}
use Rattle.pinball_shell.proofs.Serving.{served-tells, halted-tells, end-tells, traced-append}

-- ---- what the rig takes

-- the input that is a stimulus: which alarm comes, the rig says itself
abbrev input_of : Stimulus → Input
input_of (SwitchChange at switch level) = inputs.Change at switch level
input_of (Alarm at source) = inputs.Alarm
input_of (Wait at) = inputs.Wait at

-- what comes in time is taken, once nothing is due by its moment
in_time-taken : (rig : RigView) (now : ℕ) (stimulus : Stimulus) → rig.faulted_coil ≡ None
    → IsGivenInTime rig.checked.plan now stimulus → rig.machine.moment ≤ moment_of stimulus
    → is_due_by (moment_of stimulus) rig.machine ≡ false → Admits rig (input_of stimulus) stimulus
in_time-taken rig now stimulus running time ahead quiet =
    search (rules, stimulus, allowed-judged, may_come, not_due-nothing)

-- ---- on a rig of the plan

-- if a step of playing has halted, so has what goes on to it
pub halts-on : {T U : Type 0} (stop : Stop) (r : Result U Stop) (goes : T → Type 0) (next : U → Type 0)
    (first halts : Type 0) → r ≡ Err stop → (first → halts) → GoesOrHalts {T = T} (Err stop) goes first
    → GoesOrHalts r next halts
halts-on {T} {U} stop r goes next first halts is step =
    subst (λ (q : Result U Stop). GoesOrHalts {T = T} (Err stop) goes first → GoesOrHalts q next halts) (sym is)
    (by stop)
  where
    by : (s : Stop) → GoesOrHalts {T = T} (Err s) goes first → GoesOrHalts {T = U} (Err s) next halts
    by x1 h = search rules

pub halts-in : {T : Type 0} (r : Result T Stop) (goes : T → Type 0) (halts : Type 0) → r ≡ Err stops.Board
    → GoesOrHalts r goes halts → halts
halts-in {T} r goes halts is = subst (λ (q : Result T Stop). GoesOrHalts q goes halts → halts) (sym is) (λ h. h)

-- what is known of an answer, in two parts
pub ok-both : {T E : Type 0} (r : Result T E) (A : Type 0) (B P : T → Type 0) → ((x : T) → A → B x → P x) → OnOk r A
    → IfOk r B → IfOk r P
ok-both x1 A B P both a b = search rules

-- an error is the same one, whatever there would be without it
pub err-as : {T U E : Type 0} (e x : E) → ◌≡◌ {A = Result T E} (Err e) (Err x) → ◌≡◌ {A = Result U E} (Err e) (Err x)
err-as e x is = let same : e ≡ x = cc in ap Err same

pub rig_of-served : (plan : PlanView) (output : List PrintedLine) (old now : RigView) → IsServed output old now
    → IsRigOf plan old → IsRigOf plan now
rig_of-served plan output old now service h = search rules

module _ (plan : PlanView) (old now : RigView) (p : PlanView) (same : p ≡ plan) (is : now.checked ≡ old.checked)
    (number : ℕ) (line : List ℕ) (t : RigView) (a b : Option (List ℕ)) where
  pub line-same : (v : Verdict) → IsLinePlayed p now.checked.bound number line now t a b v
      → IsLinePlayed plan old.checked.bound number line now t a b v
  line-same v h = subst (λ (c : CheckedView). IsLinePlayed plan c.bound number line now t a b v) is
      (subst (λ (q : PlanView). IsLinePlayed q now.checked.bound number line now t a b v) same h)

  pub fault-same : IsLinePlayedToFault p now.checked.bound number line now t a b
      → IsLinePlayedToFault plan old.checked.bound number line now t a b
  fault-same h = subst (λ (c : CheckedView). IsLinePlayedToFault plan c.bound number line now t a b) is
      (subst (λ (q : PlanView). IsLinePlayedToFault q now.checked.bound number line now t a b) same h)

-- ---- as long as each line is played to its end

pub runs-ready : (c : CheckedView) (plan : PlanView) (rig : RigView) (board : BoardView) → plan ≡ c.plan
    → rig ≡ at_rest c board → IsAccepted c → RunsUnlessStopped plan rig false
runs-ready c plan rig board plan_is rest accepted going = record {
  plan_is = ap (λ (r : RigView). r.checked.plan) rest ∙ sym plan_is;
  acceptance = subst (λ (r : RigView). IsAccepted r.checked) (sym rest) accepted;
  running = ap (λ (r : RigView). r.faulted_coil) rest;
}

pub runs-on : (plan : PlanView) (number : ℕ) (line : List ℕ) (old new : RigView) (a b : Option (List ℕ))
    (r : Result Verdict Stop) → IsRigOf plan old → PlaysLine plan number line old new a b r
    → RunsUnlessStopped plan new (is_err r)
runs-on plan number line old new a b (Ok v) h played going = rig_of-served plan _ old new played.output.service h
runs-on plan number line old new a b (Err stop) h played going = cc

pub runs-ok : {T E : Type 0} (r : Result T E) (b : Bool) → b ≡ is_err r → OnOk r (b ≡ false)
runs-ok (Ok x) b is = is
runs-ok (Err e) b is = tt

-- the plan is valid
pub valid-of : (plan : PlanView) (rig : RigView) → IsRigOf plan rig → IsValid plan
valid-of plan rig h = subst IsValid h.plan_is h.acceptance.valid

-- ---- a log from the beginning

-- what a board tells once the log is over
end-told : (plan : PlanView) (bound : ℕ) (log : List ℕ) (old : RigView) (output : List PrintedLine) (new : RigView)
    → IsEnd plan bound log old output new
    → TellsMore (commands_of (trace_in output)) old.board.command_list new.board.command_list
end-told plan bound log old output new x7 = search (rules, served-tells, traced-append, append-nil, halted-tells)

-- a log that was played on a new rig, which was then shut down
pub log-played : (plan : PlanView) (c : CheckedView) (first rig : RigView) (board last : BoardView) (log : List ℕ)
    (a b d : Option (List ℕ)) (v : Verdict) → plan ≡ c.plan → first ≡ at_rest c board
    → IsLogPlayed plan first.checked.bound log first rig a b v → IsShutDown plan rig last b d
    → IsPlayOn c log board last a d v
log-played plan c first rig board last log a b d v plan_is rest h shut =
    let begun = subst (λ (r : RigView). IsLogPlayed plan r.checked.bound log r rig a b v) rest h in
    let whole = subst (λ (p : PlanView). IsLogPlayed p c.bound log (at_rest c board) rig a b v) plan_is begun in
    let over = subst (λ (p : PlanView). IsShutDown p rig last b d) plan_is shut in
    record {
      output = whole.output;
      rig = rig;
      end = whole.end;
      off = over.off;
      faults = over.faults;
      put_off = over.put_off;
      telling = end-tells (commands_of (trace_in whole.output)) _ over.off over.faults board rig.board last
          (end-told c.plan c.bound log (at_rest c board) whole.output rig whole.end) over.put_off;
      text = Appends-trans a b d _ _ whole.text over.text;
      verdict_is = whole.verdict_is;
    }

-- if no rig was made for its devices, they are not those of the plan
pub wrong-unfit : {T : Type 0} (plan : PlanView) (rows : List DeviceRow) (states : List DeviceState) (fault : CoreFault)
    → ((row : ℕ) → fault ≡ core_faults.WrongDevice (record { 0 = row }) → IsFirstWrong plan rows states row)
    → ◌≡◌ {A = Result T ShellFault} (Err (fault_of_rig fault)) (Err faults.WrongDevice) → IsFit plan rows states → ⊥
wrong-unfit plan rows states core_faults.NoMemory wrong is fit = cc
wrong-unfit plan rows states (core_faults.WrongDevice row) wrong is fit = (wrong row.0 refl).unfit fit

-- a run of the plan leads to a state of the rig
pub reached-of : (plan : PlanView) (first now : RigView) → IsRigOf plan first → now.checked ≡ first.checked
    → (held : IsOfRun now) → IsReached plan held.0 now.machine
reached-of plan first now h is held = subst (λ (p : PlanView). IsReached p held.0 now.machine)
    (ap (λ (c : CheckedView). c.plan) is ∙ h.plan_is) held.1

-- an alarm that comes by a moment
pub coming-taken : (rig : RigView) (until : ℕ) (alarm : Stimulus) → rig.faulted_coil ≡ None → until < 2 ^ 40
    → IsComing rig.machine until alarm → IsAdmitted rig alarm
coming-taken rig until alarm running early coming =
    subst (IsAdmitted rig) (sym coming.alarm_is) (inputs.Alarm, alarm-taken rig until running early coming.next)

module _ (plan : PlanView) (until : ℕ) (first now new : RigView) (a b : Option (List ℕ))
    (same : now.checked ≡ first.checked) (alarm : Stimulus) (coming : IsComing now.machine until alarm) where
  abbrev next : Stimulus
  next = Alarm coming.next.at coming.next.source

  pub alarm-played : IsPlayed plan now.checked.bound (alarm ∷ []) now new a b
      → IsPlayed plan first.checked.bound (next ∷ []) now new a b
  alarm-played h =
      subst (λ (c : CheckedView). IsPlayed plan c.bound (next ∷ []) now new a b) same
      (subst (λ (x : Stimulus). IsPlayed plan now.checked.bound (x ∷ []) now new a b) coming.alarm_is h)

  pub alarm-fault : IsPlayedToFault plan now.checked.bound (alarm ∷ []) now new a b
      → IsPlayedToFault plan first.checked.bound (next ∷ []) now new a b
  alarm-fault h =
      subst (λ (c : CheckedView). IsPlayedToFault plan c.bound (next ∷ []) now new a b) same
      (subst (λ (x : Stimulus). IsPlayedToFault plan now.checked.bound (x ∷ []) now new a b) coming.alarm_is h)

-- ---- a line that gives a stimulus

-- what a line gives
pub record IsGiven (plan : PlanView) (s : Machine) (line : List ℕ) (at : ℕ) (stimulus : Stimulus) : Type 0 where
  pub given_is : given_by_line plan s.moment (meaning line) ≡ Ok (Some stimulus)
  pub at_is : at ≡ moment_of stimulus

pub timed-given : (plan : PlanView) (r : Result (Option (ℕ × HeldStimulus)) LogRefusal) (at : ℕ)
    (stimulus : HeldStimulus) (s : Machine) (line : List ℕ) (now : ℕ) (read : LogLine) → now ≡ s.moment
    → read ≡ meaning line
    → r ≡ Ok (Some (at, stimulus)) → GivesTimed r (given_by_line plan now read)
    → IsGiven plan s line at (stimulus_view stimulus)
timed-given plan r at stimulus s line now read moment says is given =
    let (given_is, at_is) = subst (λ (y : Result (Option (ℕ × HeldStimulus)) LogRefusal). GivesTimed y
    (given_by_line plan now read)) is given in
    record {
      given_is = ap (λ (m : ℕ). given_by_line plan m (meaning line)) (sym moment)
          ∙ ap (given_by_line plan now) (sym says)
          ∙ given_is;
      at_is = at_is;
    }

module _ (plan : PlanView) (rig : RigView) (rig_of : IsRigOf plan rig) (line : List ℕ) (at : ℕ) (stimulus : Stimulus)
    (given : IsGiven plan rig.machine line at stimulus) where
  given-in : IsGivenInTime plan rig.machine.moment stimulus
  given-in = given-in_time plan rig.machine.moment (meaning line) stimulus given.given_is

  -- its moment is that of an alarm that is not too late
  pub given-early : at < 2 ^ 40
  given-early = let (forward, early) = in_time-early plan rig.machine.moment stimulus given-in in let is = given.at_is
      in omega (arith, early, is)

  pub given-forward : rig.machine.moment ≤ at
  given-forward = let (forward, early) = in_time-early plan rig.machine.moment stimulus given-in in let is = given.at_is
      in omega (arith, forward, is)

  -- an alarm before it is not taken
  pub given-alarm_fault : (number : ℕ) (new : RigView) (a b : Option (List ℕ))
      → AreAlarmsPlayedToFault plan at rig new a b → IsLinePlayedToFault plan rig.checked.bound number line rig new a b
  given-alarm_fault number new a b = line-alarm_fault plan rig.checked.bound number line rig stimulus at rig new a a b
      given.given_is given.at_is

  module _ (mid : RigView) (a b : Option (List ℕ)) (alarms : AreAlarmsPlayed plan at rig mid a b) where
    -- once its alarms have come, the rig takes it
    pub given-taken : IsAdmitted mid stimulus
    given-taken =
        let service = alarms.play.output.service in
        let plan_is : mid.checked.plan ≡ plan = ap (λ (c : CheckedView). c.plan) service.checked_is ∙ rig_of.plan_is
        in (
          input_of stimulus,
          in_time-taken mid rig.machine.moment stimulus service.running
              (subst (λ (p : PlanView). IsGivenInTime p rig.machine.moment stimulus) (sym plan_is) given-in)
              (subst (λ (m : ℕ). mid.machine.moment ≤ m) given.at_is alarms.moment)
              (subst (λ (m : ℕ). is_due_by m mid.machine ≡ false) given.at_is alarms.quiet),
        )

    pub given-plan : mid.checked.plan ≡ plan
    given-plan = ap (λ (c : CheckedView). c.plan) alarms.play.output.service.checked_is ∙ rig_of.plan_is

    bound-same : mid.checked.bound ≡ rig.checked.bound
    bound-same = ap (λ (k : CheckedView). k.bound) alarms.play.output.service.checked_is

    module _ (number : ℕ) (new : RigView) (c : Option (List ℕ)) where
      pub given-played : IsPlayed plan mid.checked.bound (stimulus ∷ []) mid new b c
          → IsLinePlayed plan rig.checked.bound number line rig new a c verdicts.Yes
      given-played h =
          line-played plan rig.checked.bound number line rig stimulus at mid new a b c given.given_is given.at_is
          alarms.play
          (subst (λ (n : ℕ). IsPlayed plan n (stimulus ∷ []) mid new b c) bound-same h)

      pub given-fault : IsPlayedToFault plan mid.checked.bound (stimulus ∷ []) mid new b c
          → IsLinePlayedToFault plan rig.checked.bound number line rig new a c
      given-fault h =
          line-fault plan rig.checked.bound number line rig stimulus at mid new a b c given.given_is given.at_is
          alarms.play
          (subst (λ (n : ℕ). IsPlayedToFault plan n (stimulus ∷ []) mid new b c) bound-same h)
