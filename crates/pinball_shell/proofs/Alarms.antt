-- The alarms that come by a moment.
use Rattle.std.proofs.Common.{◌≡◌, ℕ, suc, ◌<◌, ◌≤◌, ◌^◌, ◌⊎◌, Bool, true, false, Option, Some, None, option_map, List}
use Rattle.std.proofs.Common.{◌∷◌, length, inl, inr, refl, ap, sym, subst, arith}
use Rattle.std.proofs.lemmas.Option.{none-some, same_Some}
use Rattle.plan_tables.specs.{PlanView.PlanView, Valid.IsValid}
use Rattle.written_machine.specs.{declared.line.Line.Line, NextAlarm.{next_alarm, is_due_by}}
use Rattle.written_machine.specs.{Machine.Machine, AlarmsBy.{due_by, alarms_by, state_after}, PlanOrder.settle_all}
use Rattle.written_machine.specs.Run.{Source, IsNoAlarmDueBy, IsNextAlarm, Stimulus, Alarm, IsAllowed, IsReached}
use Rattle.written_machine.proofs.NextAlarms.{due-comes, due_by-some, due_by-none, nothing-not_due, not_due-nothing}
use Rattle.written_machine.proofs.AlarmsEnd.{alarms_by-more, alarms_by-next}
use Rattle.pin_rig.specs.declared.input.Input.TheVariants as inputs
use Rattle.pin_rig.{specs.{Rig.RigView, Admission.{Admits, alarm_by}}, proofs.Judging.allowed-judged}
use Rattle.pinball_shell.specs.RunOfLog.{all_alarms_by}

-- ---- one alarm

-- the next alarm, which comes by the moment
pub record ComesBy (s : Machine) (until : ℕ) : Type 0 where
  pub at : ℕ
  pub source : Source
  pub next : IsNextAlarm s at source
  pub by : at ≤ until

pub comes : (s : Machine) (until : ℕ) → is_due_by until s ≡ true → ComesBy s until
comes s until due = let (at, source, next, by) = due-comes s until due
    in record { at = at; source = source; next = next; by = by }

-- the stimulus is that alarm
pub record IsComing (s : Machine) (until : ℕ) (stimulus : Stimulus) : Type 0 where
  pub next : ComesBy s until
  pub alarm_is : stimulus ≡ Alarm next.at next.source

pub coming : (s : Machine) (until : ℕ) (stimulus : Stimulus) → Some stimulus ≡ alarm_by until s
    → IsComing s until stimulus
coming s until stimulus = go (due_by until (next_alarm s)) refl
  where
    go : (o : Option (ℕ × Source)) → due_by until (next_alarm s) ≡ o
        → Some stimulus ≡ option_map (λ (a : ℕ × Source). Alarm a.0 a.1) o → IsComing s until stimulus
    go None is h = absurd (none-some stimulus (sym h))
    go (Some a) is h =
        let (next, by) = due_by-some s until a.0 a.1 is in
        record {
          next = record { at = a.0; source = a.1; next = next; by = by };
          alarm_is = same_Some stimulus (Alarm a.0 a.1) h;
        }

-- if there is none, nothing is due by the moment
pub none-quiet : (s : Machine) (until : ℕ) → None ≡ alarm_by until s → is_due_by until s ≡ false
none-quiet s until = go (due_by until (next_alarm s)) refl
  where
    go : (o : Option (ℕ × Source)) → due_by until (next_alarm s) ≡ o
        → None ≡ option_map (λ (a : ℕ × Source). Alarm a.0 a.1) o → is_due_by until s ≡ false
    go None is h = nothing-not_due s until (due_by-none s until is)
    go (Some a) is h = absurd (none-some (Alarm a.0 a.1) h)

-- nothing is due by the moment, or an alarm comes
pub cases_due : (s : Machine) (until : ℕ) → IsNoAlarmDueBy s until ⊎ ComesBy s until
cases_due s until = go (is_due_by until s) refl
  where
    go : (b : Bool) → is_due_by until s ≡ b → IsNoAlarmDueBy s until ⊎ ComesBy s until
    go true is = inr (comes s until is)
    go false is = inl (not_due-nothing s until is)

-- if it is not too late, it may come
pub alarm-allowed : (plan : PlanView) (s : Machine) (until : ℕ) → until < 2 ^ 40 → (a : ComesBy s until)
    → IsAllowed plan s (Alarm a.at a.source)
alarm-allowed plan s until early a = let by = a.by in (a.next, omega (arith, by, early))

-- and the rig takes it, unless it is halted
pub alarm-taken : (rig : RigView) (until : ℕ) → rig.faulted_coil ≡ None → until < 2 ^ 40
    → (a : ComesBy rig.machine until) → Admits rig inputs.Alarm (Alarm a.at a.source)
alarm-taken rig until running early a = allowed-judged rig inputs.Alarm (Alarm a.at a.source) running
    (a.at, a.source, refl) (alarm-allowed rig.checked.plan rig.machine until early a)

-- ---- those that come one after another

module _ (plan : PlanView) (bound until : ℕ) where
  -- so many alarms are all: after them nothing is due by the moment
  abbrev pub AreAll : ℕ → Machine → Type 0
  AreAll fuel s = IsNoAlarmDueBy (state_after plan bound (alarms_by plan bound until fuel s) s) until

  -- with those that are left after the first
  pub all-next : (fuel : ℕ) (s : Machine) (a : ComesBy s until) → AreAll (suc fuel) s
      → AreAll fuel (settle_all plan bound (Alarm a.at a.source) s)
  all-next k s a all = subst (λ (xs : List Stimulus). IsNoAlarmDueBy (state_after plan bound xs s) until)
      (alarms_by-more plan bound until k s a.at a.source a.next a.by) all

  -- of all alarms that come the first is the next one, and one fewer is left after it
  module _ (valid : IsValid plan) (trace : List Line) (s : Machine) (reach : IsReached plan trace s)
      (a : ComesBy s until) where
    pub all-first : all_alarms_by plan bound until s
        ≡ Alarm a.at a.source ∷ all_alarms_by plan bound until (settle_all plan bound (Alarm a.at a.source) s)
    all-first = alarms_by-next plan bound valid until trace s reach a.at a.source a.next a.by

    pub all-fewer : length (all_alarms_by plan bound until (settle_all plan bound (Alarm a.at a.source) s))
        < length (all_alarms_by plan bound until s)
    all-fewer = omega (arith, ap length all-first)
