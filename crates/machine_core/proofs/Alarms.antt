-- What the next alarm comes from.
use Rattle.std.proofs.Common.{rules, ◌≡◌, ℕ, ◌<◌, Option, Some, None, option_map, MatchOption, length, refl, ap, sym}
use Rattle.std.{proofs.{Common.{◌∙◌, subst, arith}, lemmas.Option.same_Some}, specs.Option.IsSome}
use Rattle.plan_tables.specs.{PlanView.PlanView, declared.{entries.SwitchId.SwitchId, devices.RowId.RowId}}
use Rattle.device_objects.specs.declared.device.Call.TheVariants as calls
use Rattle.device_objects.specs.Laws.{MayCome}
use Rattle.switch_core.specs.{declared.change.Change.Change, Switches.{report_change, after_fire, reported_by_fire}}
use Rattle.switch_core.specs.Switches.{SwitchesView, next_due, IsNextDue, IsNothingDue, accept, accept_due}
use Rattle.switch_core.proofs.{NextDue.{next_due-is, next_due-is_due}, Lists.due-within}
use Rattle.written_machine.specs.Machine.{Machine, set_switches, device_at, do_accepted}
use Rattle.written_machine.specs.{Devices.HasDevices, Run.{Source, switch, device, fire}, NextAlarm.next_alarm}
use Rattle.written_machine.proofs.{Does.due-row, NextAlarms.{found-is_next, next_alarm-due}}
use Rattle.machine_core.specs.Core.{CoreView, IsWhole, IsWithin, after}

within-found : (s new : SwitchesView) (o : Option (ℕ × SwitchId)) (a : Change)
    → MatchOption o (IsNothingDue s) (λ d. IsNextDue s d.0 d.1) → option_map (λ d. report_change new d.1) o ≡ Some a
    → a.switch.0 < length s.states
within-found s new None a h is = cc
within-found s new (Some d) a h is =
    let number = ap (λ (t : Change). t.switch.0) (same_Some (report_change new d.1) a is) in
    omega (arith, number, due-within s d.1 d.0 h.due)

-- it is one of the plan's
pub fired-within : (c : CoreView) (a : Change) → IsWhole c → reported_by_fire c.machine.switches ≡ Some a
    → a.switch.0 < length c.plan.switches
fired-within c a core is =
    let s = c.machine.switches in
    let within = within-found s (after_fire s) (next_due s) a (next_due-is_due s) is in
    let states = core.complete.states in
    let kinds = core.kinds in
    omega (arith, within, states, kinds)

-- ---- which source fires

-- a device that is the source of the next alarm is one of the plan, and due
pub next-row : (plan : PlanView) (s : Machine) (at : ℕ) (r : RowId) → HasDevices plan s.devices
    → next_alarm s ≡ Some (at, device r) → r.0 < length plan.rows
next-row plan s at r has next = due-row plan s r at has (found-is_next s at (device r) next).due

pub next-due : (s : Machine) (at : ℕ) (r : RowId) → next_alarm s ≡ Some (at, device r)
    → MayCome calls.Fire (device_at s r)
next-due s at r next = subst IsSome (sym (found-is_next s at (device r) next).due) refl

-- the next alarm has a moment
pub next-of : (s : Machine) (source : Source) → option_map (λ a. a.1) (next_alarm s) ≡ Some source
    → (at : ℕ) × (next_alarm s ≡ Some (at, source))
next-of s source is = by (next_alarm s) refl is
  where
    by : (o : Option (ℕ × Source)) → next_alarm s ≡ o → option_map (λ a. a.1) o ≡ Some source
        → (at : ℕ) × (next_alarm s ≡ Some (at, source))
    by x1 e h = search rules

-- ---- the raw level of a switch is accepted

module _ (core : CoreView) (source : Source) (next : option_map (λ a. a.1) (next_alarm core.machine) ≡ Some source)
    (n : SwitchId) (source_is : source ≡ switch n)
    (a : Change) (reported_is : reported_by_fire core.machine.switches ≡ Some a) (now : CoreView)
    (now_is : now ≡ after (set_switches (after_fire core.machine.switches)) core) where
  abbrev switches : SwitchesView
  switches = core.machine.switches

  due : (at : ℕ) × (next_due switches ≡ Some (at, n))
  due = search (rules, next-of, next_due-is, next_alarm-due, found-is_next)

  accepted-is : after_fire switches ≡ accept n switches
  accepted-is = ap (λ o. accept_due o switches) due.1

  acceptance-is : a ≡ report_change (accept n switches) n
  acceptance-is = search rules

  fired-is : fire core.plan source core.machine
      ≡ do_accepted core.plan a (set_switches (after_fire switches) core.machine)
  fired-is = ap (λ x. fire core.plan x core.machine) source_is
      ∙ (λ i. do_accepted core.plan (sym acceptance-is i) (set_switches (sym accepted-is i) core.machine))

  pub fired-room : IsWithin core.room (fire core.plan source core.machine)
      → IsWithin now.room (do_accepted now.plan a now.machine)
  fired-room room =
      subst (λ (c : CoreView). IsWithin c.room (do_accepted c.plan a c.machine)) (sym now_is)
      (subst (IsWithin core.room) fired-is room)

  pub fired-done : (last : CoreView) → last ≡ after (do_accepted now.plan a) now
      → last ≡ after (fire core.plan source) core
  fired-done last last_is = last_is ∙ ap (λ (c : CoreView). after (do_accepted c.plan a) c) now_is
      ∙ ap (λ (s : Machine). after (λ t. s) core) (sym fired-is)
