-- The next alarm that is computed is the next alarm, and nothing is due by a moment exactly if it is computed so.
use Rattle.std.proofs.Common.{rules, ◌≡◌, ℕ, ◌<◌, ◌≤◌, ◌⊎◌, inl, inr, true, false, nat_le, Option, Some, None}
use Rattle.std.{proofs.Common.{option_map, List, map, refl, ap, sym, subst, ◌∙◌, arith}, specs.Option.option_map_or}
use Rattle.std.proofs.lemmas.Bool.{cases_lt, cond_both, cond-true, leb-true, leb-false, le-leb, lt-leb}
use Rattle.std.proofs.lemmas.{List.{get_or_past, get_or-map, length-map}, Option.{none-some, same_Some}}
use Rattle.plan_tables.specs.declared.{entries.SwitchId.SwitchId, devices.RowId.RowId}
use Rattle.switch_core.{specs.Switches.{IsNextDue, next_due}, proofs.NextDue.{next_due-least, not_due-quiet}}
use Rattle.device_objects.specs.DeviceStep as devices
use Rattle.event_queue.{specs.Alarms.{due_of, least_of}, proofs.Least.alarms_give_the_least}
use Rattle.written_machine.specs.{Machine.Machine, NextAlarm.{first_of, next_alarm, is_due_by}, AlarmsBy.due_by}
use Rattle.written_machine.specs.Run.{Source, switch, device, source_due, IsNotAfter, IsNoAlarmDueBy, IsNextAlarm}

-- the next alarm of a switch is what is due next among the switches
pub next_alarm-due : (s : Machine) (at : ℕ) (n : SwitchId) → IsNextAlarm s at (switch n) → IsNextDue s.switches at n
next_alarm-due s at n h = record { due = h.due; least = least }
  where
    least : (m : SwitchId) (moment : ℕ) → source_due s (switch m) ≡ Some moment
        → (at < moment) ⊎ ((at ≡ moment) × (n.0 ≤ m.0))
    least m moment is = h.least (switch m) moment is

-- ---- there is one at most

pub next-unique : (s : Machine) (at other : ℕ) (source first : Source) → IsNextAlarm s at source
    → IsNextAlarm s other first → (at ≡ other) × (source ≡ first)
next-unique s at other source first a b = search rules

-- ---- what is due of the devices

abbrev pub dues : Machine → List (Option ℕ)
dues s = map devices.due_of s.devices

pub dues-at : (s : Machine) (r : RowId) → due_of (dues s) r ≡ source_due s (device r)
dues-at s r = search (rules, cases_lt, get_or-map, get_or_past, length-map)

-- ---- the next alarm

abbrev of_switch : ℕ × SwitchId → ℕ × Source
of_switch d = (d.0, switch d.1)

abbrev of_device : ℕ × RowId → ℕ × Source
of_device d = (d.0, device d.1)

module _ (s : Machine) where
  no_switch-due : next_due s.switches ≡ None → (n : SwitchId) (due : ℕ) → source_due s (switch n) ≡ Some due → ⊥
  no_switch-due none n due is =
      let later = not_due-quiet s.switches due
      (ap (λ (o : Option (ℕ × SwitchId)). option_map_or (λ d. nat_le d.0 due) o false) none) n due is in
      omega (arith, later)

  no_device-due : least_of (dues s) ≡ None → (r : RowId) (due : ℕ) → source_due s (device r) ≡ Some due → ⊥
  no_device-due none r due is = none-some due (sym (alarms_give_the_least.none (dues s) none r) ∙ dues-at s r ∙ is)

  -- the alarm of a switch, before which no device is due
  switch-next : (c : ℕ × SwitchId) → next_due s.switches ≡ Some c
      → ((r : RowId) (due : ℕ) → source_due s (device r) ≡ Some due → c.0 ≤ due) → IsNextAlarm s c.0 (switch c.1)
  switch-next c found later = record { due = next.due; least = least }
    where
      next : IsNextDue s.switches c.0 c.1
      next = next_due-least s.switches c.0 c.1 found

      least : (other : Source) (moment : ℕ) → source_due s other ≡ Some moment
          → (c.0 < moment) ⊎ ((c.0 ≡ moment) × IsNotAfter (switch c.1) other)
      least (switch m) moment is = next.least m moment is
      least (device r) moment is =
          elim (cases_lt c.0 moment) [
            | inl below ↦ inl below
            | inr not ↦ let by = later r moment is in inr (omega (arith, not, by), tt)
          ]

  -- the alarm of a device, by which no switch is due
  device-next : (d : ℕ × RowId) → least_of (dues s) ≡ Some d
      → ((n : SwitchId) (due : ℕ) → source_due s (switch n) ≡ Some due → d.0 < due) → IsNextAlarm s d.0 (device d.1)
  device-next d found later = record { due = sym (dues-at s d.1) ∙ first.due; least = least }
    where
      first : Rattle.event_queue.specs.Alarms.IsLeast (dues s) d.0 d.1
      first = alarms_give_the_least.least (dues s) d.0 d.1 found

      least : (other : Source) (moment : ℕ) → source_due s other ≡ Some moment
          → (d.0 < moment) ⊎ ((d.0 ≡ moment) × IsNotAfter (device d.1) other)
      least (switch n) moment is = inl (later n moment is)
      least (device q) moment is =
          let here : due_of (dues s) q ≡ Some moment = dues-at s q ∙ is in
          elim (cases_lt d.0 moment) [
            | inl below ↦ inl below
            | inr not ↦
                let early = first.earliest q moment here in
                let same : d.0 ≡ moment = omega (arith, not, early) in
                inr (same, first.lowest q (here ∙ ap Some (sym same)))
          ]

  abbrev next_from : Option (ℕ × SwitchId) → Option (ℕ × RowId) → Option (ℕ × Source)
  next_from a b = first_of (option_map of_switch a) (option_map of_device b)

  found-from : (a : Option (ℕ × SwitchId)) (b : Option (ℕ × RowId)) → next_due s.switches ≡ a → least_of (dues s) ≡ b
      → (x : ℕ × Source) → next_from a b ≡ Some x → IsNextAlarm s x.0 x.1
  found-from None None p q x is = absurd (none-some x is)
  found-from None (Some d) p q x is = subst (λ (y : ℕ × Source). IsNextAlarm s y.0 y.1) (same_Some (of_device d) x is)
      (device-next d q (λ n due h. absurd (no_switch-due p n due h)))
  found-from (Some c) None p q x is = subst (λ (y : ℕ × Source). IsNextAlarm s y.0 y.1) (same_Some (of_switch c) x is)
      (switch-next c p (λ r due h. absurd (no_device-due q r due h)))
  found-from (Some c) (Some d) p q x is =
      cond_both (nat_le c.0 d.0) (Some (of_switch c)) (Some (of_device d))
      (λ (v : Option (ℕ × Source)). v ≡ Some x → IsNextAlarm s x.0 x.1)
      (λ t e. subst (λ (y : ℕ × Source). IsNextAlarm s y.0 y.1) (same_Some (of_switch c) x e)
      (switch-next c p (λ r due h. let early = device-early r due h in let by = leb-true c.0 d.0 t
      in omega (arith, early, by))))
      (λ t e. subst (λ (y : ℕ × Source). IsNextAlarm s y.0 y.1) (same_Some (of_device d) x e)
      (device-next d q (λ n due h. let early = switch-early n due h in let by = leb-false c.0 d.0 t
      in omega (arith, early, by)))) is
    where
      device-early : (r : RowId) (due : ℕ) → source_due s (device r) ≡ Some due → d.0 ≤ due
      device-early r due h = (alarms_give_the_least.least (dues s) d.0 d.1 q).earliest r due (dues-at s r ∙ h)

      switch-early : (n : SwitchId) (due : ℕ) → source_due s (switch n) ≡ Some due → c.0 ≤ due
      switch-early n due h =
          elim ((next_due-least s.switches c.0 c.1 p).least n due h) [
            | inl below ↦ omega (arith, below)
            | inr same ↦ let e = same.0 in omega (arith, e)
          ]

  nothing-from : (a : Option (ℕ × SwitchId)) (b : Option (ℕ × RowId)) → next_due s.switches ≡ a → least_of (dues s) ≡ b
      → next_from a b ≡ None → (source : Source) (due : ℕ) → source_due s source ≡ Some due → ⊥
  nothing-from a b p q none source due is = search (rules, no_switch-due, no_device-due, none-some)

  -- there is none exactly if nothing is due
  pub none-nothing : next_alarm s ≡ None → (source : Source) (due : ℕ) → source_due s source ≡ Some due → ⊥
  none-nothing none = nothing-from (next_due s.switches) (least_of (dues s)) refl refl none

pub found-is_next : (s : Machine) (at : ℕ) (source : Source) → next_alarm s ≡ Some (at, source)
    → IsNextAlarm s at source
found-is_next s at source is = found-from s (next_due s.switches) (least_of (dues s)) refl refl (at, source) is

pub next-is_found : (s : Machine) (at : ℕ) (source : Source) → IsNextAlarm s at source
    → next_alarm s ≡ Some (at, source)
next-is_found s at source h = by (next_alarm s) refl
  where
    by : (o : Option (ℕ × Source)) → next_alarm s ≡ o → next_alarm s ≡ Some (at, source)
    by None is = absurd (none-nothing s is source at h.due)
    by (Some x) is = search (rules, next-unique, found-is_next)

-- ---- whether one is due by a moment

pub not_due-nothing : (s : Machine) (at : ℕ) → is_due_by at s ≡ false → IsNoAlarmDueBy s at
not_due-nothing s at h source due is = search (rules, nat_le, none-nothing, found-is_next, leb-false)

pub nothing-not_due : (s : Machine) (at : ℕ) → IsNoAlarmDueBy s at → is_due_by at s ≡ false
nothing-not_due s at h = by (next_alarm s) refl
  where
    by : (o : Option (ℕ × Source)) → next_alarm s ≡ o
        → option_map_or (λ (a : ℕ × Source). nat_le a.0 at) o false ≡ false
    by None none = refl
    by (Some x) found = lt-leb x.0 at (h x.1 x.0 (found-is_next s x.0 x.1 found).due)

-- ---- one that is due by a moment

pub due_by-some : (s : Machine) (until at : ℕ) (source : Source) → due_by until (next_alarm s) ≡ Some (at, source)
    → IsNextAlarm s at source × (at ≤ until)
due_by-some s until at source h = search (rules, found-is_next)

pub some-due_by : (s : Machine) (until at : ℕ) (source : Source) → IsNextAlarm s at source → at ≤ until
    → due_by until (next_alarm s) ≡ Some (at, source)
some-due_by s until at source next by = search (rules, next-is_found, cond-true, nat_le, le-leb)

none-where : (until : ℕ) (o : Option (ℕ × Source))
    → option_map_or (λ (a : ℕ × Source). nat_le a.0 until) o false ≡ false → due_by until o ≡ None
none-where until o h = search rules

not_due-where : (until : ℕ) (o : Option (ℕ × Source)) → due_by until o ≡ None
    → option_map_or (λ (a : ℕ × Source). nat_le a.0 until) o false ≡ false
not_due-where until o h = search rules

-- there is none exactly if nothing is due by the moment
pub due_by-none : (s : Machine) (until : ℕ) → due_by until (next_alarm s) ≡ None → IsNoAlarmDueBy s until
due_by-none s until h = not_due-nothing s until (not_due-where until (next_alarm s) h)

pub nothing-due_by : (s : Machine) (until : ℕ) → IsNoAlarmDueBy s until → due_by until (next_alarm s) ≡ None
nothing-due_by s until h = none-where until (next_alarm s) (nothing-not_due s until h)

-- one is due by the moment
pub due-comes : (s : Machine) (until : ℕ) → is_due_by until s ≡ true
    → (at : ℕ) × (source : Source) × IsNextAlarm s at source × (at ≤ until)
due-comes s until h = search (rules, nat_le, found-is_next, leb-true)
