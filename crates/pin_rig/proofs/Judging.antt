-- What an input is judged to be may come next.
use Rattle.std.proofs.Common.{rules, ◌≡◌, ℕ, ◌<◌, ◌≤◌, ◌^◌, nat_lt, nat_le, Bool, cond, if◌then◌else◌, Option, Some}
use Rattle.std.proofs.Common.{None, Result, Ok, Err, option_map, length, inl, inr, arith, refl, sym, subst, ap, ◌∙◌}
use Rattle.std.{specs.Result.result_and, proofs.lemmas.Bool.lt-leb}
use Rattle.std.proofs.lemmas.Bool.{cond_both, cond-true, cond-false, ltb-true, ltb-false, lt-ltb, le-ltb, leb-false}
use Rattle.plan_tables.specs.{declared.entries.{SwitchId.SwitchId, CoilId.CoilId}, Valid.IsValid}
use Rattle.written_machine.specs.{Machine.Machine, NextAlarm.{next_alarm, is_due_by}}
use Rattle.written_machine.proofs.{Reached.reached-not_late, NextAlarms.nothing-not_due}
use Rattle.written_machine.specs.Run.{Source, Stimulus, SwitchChange, Alarm, Wait, IsTimely, IsAllowed}
use Rattle.written_machine.proofs.NextAlarms.{none-nothing, found-is_next, next-is_found, not_due-nothing}
use Rattle.pin_rig.specs.declared.input.{Input.Input, StepFault.StepFault}
use Rattle.pin_rig.specs.declared.input.Input.TheVariants as inputs
use Rattle.pin_rig.specs.declared.input.StepFault.TheVariants as faults
use Rattle.pin_rig.specs.{Refused.{is_too_late, admission}, Steps.IsOfInput}
use Rattle.pin_rig.specs.Rig.{RigView, timely, alarm_at, stimulus_in, unless_halted, stimulus_at, IsOfRun, IsNextMoment}

ok_is : (a b : Stimulus) → ◌≡◌ {A = Result Stimulus StepFault} (Ok a) (Ok b) → a ≡ b
ok_is a b h = cc

-- ---- moments

-- a moment that is admitted is not before that of the latest stimulus, nor too late
pub admitted-is : (latest at : ℕ) → admission latest at ≡ Ok tt → (latest ≤ at) × (at < 2 ^ 40)
admitted-is latest at = search (rules, at, cond_both, nat_lt, nat_le, ltb-false, leb-false)

-- and such a moment is admitted
pub admitted-ok : (latest at : ℕ) → latest ≤ at → at < 2 ^ 40 → admission latest at ≡ Ok tt
admitted-ok latest at forward early = search (rules, at, early, cond-false, nat_lt, nat_le, le-ltb, lt-leb)

both_ok : (r : Result Unit StepFault) (given : Result Stimulus StepFault) (stimulus : Stimulus)
    → result_and r given ≡ Ok stimulus → (r ≡ Ok tt) × (given ≡ Ok stimulus)
both_ok x1 given stimulus h = search rules

late_or : (late : Bool) (given : Result Stimulus StepFault)
    → result_and (if late then Err faults.TooLate else Ok (tt {0})) given ≡ (if late then Err faults.TooLate else given)
late_or x1 given = search rules

-- no alarm is late, so that the moment of one is refused only if it is too late
pub alarm-judged : (rig : RigView) → IsValid rig.checked.plan → IsOfRun rig → (a : ℕ × Source)
    → next_alarm rig.machine ≡ Some a → alarm_at (next_alarm rig.machine)
    ≡ result_and (admission rig.machine.moment a.0) (Ok (Alarm a.0 a.1))
alarm-judged rig valid (trace, reach) a next =
    let given : Result Stimulus StepFault = Ok (Alarm a.0 a.1) in
    let early : Result Unit StepFault = if is_too_late a.0 then Err faults.TooLate else Ok tt in
    let here = found-is_next rig.machine a.0 a.1 next in
    let ahead = reached-not_late rig.checked.plan trace rig.machine reach valid a.1 a.0 here.due in
    ap alarm_at next
    ∙ sym (ap (λ (r : Result Unit StepFault). result_and r given)
    (cond-false (nat_lt a.0 rig.machine.moment) (Err faults.Backwards) early (le-ltb a.0 rig.machine.moment ahead))
    ∙ late_or (is_too_late a.0) given)

-- ---- what is taken may come

timely-is : (s : Machine) (at : ℕ) (stimulus given : Stimulus) → timely s at stimulus ≡ Ok given
    → IsTimely s at × (stimulus ≡ given)
timely-is s at stimulus given h =
    let both = both_ok (admission s.moment at) (cond (is_due_by at s) (Err faults.AlarmPending) (Ok stimulus)) given h
    in
    let time = admitted-is s.moment at both.0 in
    cond_both (is_due_by at s) (Err faults.AlarmPending) (Ok stimulus)
    (λ (r : Result Stimulus StepFault). r ≡ Ok given → IsTimely s at × (stimulus ≡ given))
    (λ v k. cc)
    (λ v k. (record { forward = time.0; early = time.1; quiet = not_due-nothing s at v }, ok_is stimulus given k))
    both.1

-- of an alarm
pub record IsAlarm (s : Machine) (given : Stimulus) : Type 0 where
  pub at : ℕ
  pub source : Source
  pub given_is : Alarm at source ≡ given
  pub next : next_alarm s ≡ Some (at, source)
  pub early : at < 2 ^ 40

alarm-is : (s : Machine) (given : Stimulus) (o : Option (ℕ × Source)) → next_alarm s ≡ o → alarm_at o ≡ Ok given
    → IsAlarm s given
alarm-is s given None next h = cc
alarm-is s given (Some a) next h =
    cond_both (nat_le (2 ^ 40) a.0) (Err faults.TooLate) (Ok (Alarm a.0 a.1))
    (λ (r : Result Stimulus StepFault). r ≡ Ok given → IsAlarm s given)
    (λ t k. cc)
    (λ t k.
    record {
      at = a.0;
      source = a.1;
      given_is = ok_is (Alarm a.0 a.1) given k;
      next = next;
      early = leb-false (2 ^ 40) a.0 t;
    }) h

-- a change is that of a switch of the plan
change-is : (rig : RigView) (at : ℕ) (switch : SwitchId) (level : Bool) (given : Stimulus)
    → cond (nat_lt switch.0 (length rig.checked.plan.switches)) (timely rig.machine at (SwitchChange at switch level))
    (Err faults.NoSuchSwitch) ≡ Ok given
    → IsTimely rig.machine at × (switch.0 < length rig.checked.plan.switches) × (SwitchChange at switch level ≡ given)
change-is rig at switch level given = search (rules, at, cond_both, nat_lt, timely-is, ltb-true)

-- so it may come
in-allowed : (rig : RigView) (input : Input) (given : Stimulus) → stimulus_in rig.checked rig.machine input ≡ Ok given
    → IsAllowed rig.checked.plan rig.machine given
in-allowed rig (inputs.Change at switch level) given h = search (rules, at, change-is)
in-allowed rig inputs.Alarm given h =
    let a = alarm-is rig.machine given (next_alarm rig.machine) refl h in
    subst (IsAllowed rig.checked.plan rig.machine) a.given_is (found-is_next rig.machine a.at a.source a.next, a.early)
in-allowed rig (inputs.Wait at) given h = search (rules, at, timely-is)

-- and it is the stimulus of the input
in-of_input : (rig : RigView) (input : Input) (given : Stimulus) → stimulus_in rig.checked rig.machine input ≡ Ok given
    → IsOfInput input given
in-of_input rig (inputs.Change at switch level) given h = let (time, within, is) = change-is rig at switch level given h
    in sym is
in-of_input rig inputs.Alarm given h =
    let a = alarm-is rig.machine given (next_alarm rig.machine) refl h in
    (a.at, a.source, sym a.given_is)
in-of_input rig (inputs.Wait at) given h = let (time, is) = timely-is rig.machine at (Wait at) given h in sym is

-- what it asks for is there
abbrev pub AsksFor : RigView → Stimulus → Type 0
AsksFor rig (SwitchChange at switch level) = (at < 2 ^ 40) × (switch.0 < length rig.checked.plan.switches)
AsksFor rig (Alarm at source) = (at < 2 ^ 40) × (next_alarm rig.machine ≡ Some (at, source))
AsksFor rig (Wait at) = at < 2 ^ 40

in-asks : (rig : RigView) (input : Input) (given : Stimulus) → stimulus_in rig.checked rig.machine input ≡ Ok given
    → AsksFor rig given
in-asks rig (inputs.Change at switch level) given h =
    let (time, within, is) = change-is rig at switch level given h in
    subst (AsksFor rig) is (time.early, within)
in-asks rig inputs.Alarm given h =
    let a = alarm-is rig.machine given (next_alarm rig.machine) refl h in
    subst (AsksFor rig) a.given_is (a.early, a.next)
in-asks rig (inputs.Wait at) given h =
    let (time, is) = timely-is rig.machine at (Wait at) given h in
    subst (AsksFor rig) is time.early

-- ---- and what may come is taken

timely-ok : (s : Machine) (at : ℕ) (stimulus : Stimulus) → IsTimely s at → timely s at stimulus ≡ Ok stimulus
timely-ok s at stimulus time =
    ap (λ (r : Result Unit StepFault). result_and r (cond (is_due_by at s) (Err faults.AlarmPending) (Ok stimulus)))
    (admitted-ok s.moment at time.forward time.early)
    ∙ cond-false (is_due_by at s) (Err faults.AlarmPending) (Ok stimulus) (nothing-not_due s at time.quiet)

allowed-in : (rig : RigView) (input : Input) (given : Stimulus) → IsOfInput input given
    → IsAllowed rig.checked.plan rig.machine given → stimulus_in rig.checked rig.machine input ≡ Ok given
allowed-in rig (inputs.Change at switch level) given is allowed =
    search (rules, at, cond-true, nat_lt, lt-ltb, timely-ok)
allowed-in rig inputs.Alarm given (at, source, is) allowed =
    let (next, early) = subst (IsAllowed rig.checked.plan rig.machine) is allowed in
    ap alarm_at (next-is_found rig.machine at source next)
    ∙ cond-false (nat_le (2 ^ 40) at) (Err faults.TooLate) (Ok (Alarm at source)) (lt-leb (2 ^ 40) at early)
    ∙ ap Ok (sym is)
allowed-in rig (inputs.Wait at) given is allowed = search (rules, at, timely-ok)

-- ---- as long as the rig is not halted

ok-running : (halted : Option CoilId) (given : Result Stimulus StepFault) (stimulus : Stimulus)
    → unless_halted halted given ≡ Ok stimulus → (halted ≡ None) × (given ≡ Ok stimulus)
ok-running x1 given stimulus h = search rules

module _ (rig : RigView) (input : Input) (given : Stimulus) (judged : stimulus_at rig input ≡ Ok given) where
  both : (rig.faulted_coil ≡ None) × (stimulus_in rig.checked rig.machine input ≡ Ok given)
  both = ok-running rig.faulted_coil (stimulus_in rig.checked rig.machine input) given judged

  pub judged-running : rig.faulted_coil ≡ None
  judged-running = both.0

  pub judged-allowed : IsAllowed rig.checked.plan rig.machine given
  judged-allowed = in-allowed rig input given both.1

  pub judged-of_input : IsOfInput input given
  judged-of_input = in-of_input rig input given both.1

  pub judged-asks : AsksFor rig given
  judged-asks = in-asks rig input given both.1

pub allowed-judged : (rig : RigView) (input : Input) (given : Stimulus) → rig.faulted_coil ≡ None
    → IsOfInput input given → IsAllowed rig.checked.plan rig.machine given → stimulus_at rig input ≡ Ok given
allowed-judged rig input given running is allowed = search (rules, allowed-in)

-- ---- an input that is refused is not one at which the board does not take a command

abbrev IsRefusal : StepFault → Type 0
IsRefusal faults.BoardFault = ⊥
IsRefusal fault = Unit {0}

-- if there is one, it is a refusal
abbrev Refuses : Result Stimulus StepFault → Type 0
Refuses (Ok stimulus) = Unit {0}
Refuses (Err fault) = IsRefusal fault

-- ---- the alarm that is due next

next-from : (s : Machine) (next : Option (ℕ × Source)) → next_alarm s ≡ next
    → IsNextMoment s (option_map (λ a. a.0) next)
next-from s None is = λ source due here. none-nothing s is source due here
next-from s (Some a) is =
    let first = found-is_next s a.0 a.1 is in (
      (a.1, first.due),
      λ source due here. elim (first.least source due here)
          [ inl later ↦ omega (arith, later) | inr same ↦ let e = same.0 in omega (arith, e) ],
    )

pub next-moment : (s : Machine) → IsNextMoment s (option_map (λ a. a.0) (next_alarm s))
next-moment s = next-from s (next_alarm s) refl
