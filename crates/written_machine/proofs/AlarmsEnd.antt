-- Playing the next alarm again and again comes to an end: each part of a source comes at most once at each moment.
use Rattle.std.proofs.Common.{rules, ◌≡◌, ℕ, zero, suc, ◌+◌, ◌-◌, ◌*◌, ◌≤◌, ◌<◌, ◌⊎◌, Bool, true, false, if◌then◌else◌}
use Rattle.std.proofs.Common.{nat_le, Option, Some, None, List, [], ◌∷◌, ◌++◌, length, length-append, map, Contains}
use Rattle.std.proofs.Common.{refl, ap, sym, ◌∙◌, subst, inl, inr, arith}
use Rattle.std.specs.{Option.option_map_or, List.range_with_len}
use Rattle.std.proofs.lemmas.{List.FromFn.get_or-range_with_len, Bool.{cases_lt, le-leb}}
use Rattle.std.proofs.lemmas.List.{length-map, get_or-map, get_or_append_left, get_or-append-add}
use Rattle.plan_tables.specs.{PlanView.{PlanView, row_numbers}, Valid.IsValid}
use Rattle.cascade_rank.specs.Cost.{switches_of}
use Rattle.cascade_rank.proofs.{Rows.{length-rows, row_of}, Switches.{length-switches, switch_of}}
use Rattle.switch_core.proofs.Lists.{due-within}
use Rattle.written_machine.specs.{declared.line.Line.Line, PlanOrder.settle_all}
use Rattle.written_machine.specs.{AlarmsEnd.AlarmsEnd, Machine.Machine, AlarmsBy.{due_by, alarms_by, state_after}}
use Rattle.written_machine.specs.Run.{Source, switch, device, source_due, part_due, IsNoAlarmDueBy, IsNothingLate}
use Rattle.written_machine.specs.Run.{IsNextAlarm, Stimulus, Alarm, begin, IsReached}
use Rattle.written_machine.specs.NextAlarm.{next_alarm, source_count, part_count, most_alarms}
use Rattle.written_machine.proofs.PlanSteps.{IsSteps, plan_steps-are_steps}
use Rattle.written_machine.proofs.{Does.{HasStates, due-row}, Alarms.not_late-from}
use Rattle.written_machine.proofs.Alarms.{has_states-after, arms_later, alarm-done, moment-after, next-first}
use Rattle.written_machine.proofs.NextAlarms.{due_by-some, due_by-none, nothing-due_by, some-due_by}
use Rattle.written_machine.proofs.Reached.{reached-not_late, reached-has_states}

-- ---- counting

-- all of these, added up
abbrev total : {X : Type 0} → (X → ℕ) → List X → ℕ
total f [] = 0
total f (x ∷ xs) = f x + total f xs

total-most : {X : Type 0} (f : X → ℕ) (m : ℕ) → ((x : X) → f x ≤ m) → (xs : List X) → total f xs ≤ m * length xs
total-most f m most [] = omega arith
total-most f m most (x ∷ xs) = omega (arith, most x, total-most f m most xs)

module _ {X : Type 0} (f g : X → ℕ) (less : (x : X) → g x ≤ f x) where
  total-no_more : (xs : List X) → total g xs ≤ total f xs
  total-no_more [] = omega arith
  total-no_more (x ∷ xs) = omega (arith, less x, total-no_more xs)

  -- if one of them is less, so is the whole
  total-fewer : (xs : List X) (x : X) → Contains xs x → g x + 1 ≤ f x → total g xs + 1 ≤ total f xs
  total-fewer [] x (k, l, is) fewer = absurd (omega arith)
  total-fewer (y ∷ ys) x (zero, l, is) fewer = search (rules, total-no_more)
  total-fewer (y ∷ ys) x (suc k, l, is) fewer = omega (arith, less y, total-fewer ys x (k, omega arith, is) fewer)

abbrev flag : Bool → ℕ
flag b = if b then 1 else 0

flag-most : (b : Bool) → flag b ≤ 1
flag-most b = search rules

flag-no_more : (b c : Bool) → (c ≡ true → b ≡ true) → flag c ≤ flag b
flag-no_more b c h = search rules

flag-fewer : (b c : Bool) → b ≡ true → c ≡ false → flag c + 1 ≤ flag b
flag-fewer b c was now = rw was (rw now (omega arith))

-- ---- parts that are due by a moment

abbrev is_part_due : ℕ → Machine → Source → ℕ → Bool
is_part_due at s source k = option_map_or (λ (due : ℕ). nat_le due at) (part_due s source k) false

part_due-yes : (at due : ℕ) (s : Machine) (source : Source) (k : ℕ) → part_due s source k ≡ Some due → due ≤ at
    → is_part_due at s source k ≡ true
part_due-yes at due s source k is by = ap (λ (o : Option ℕ). option_map_or (λ (d : ℕ). nat_le d at) o false) is
    ∙ le-leb due at by

part_due-is : (at : ℕ) (s : Machine) (source : Source) (k : ℕ) → is_part_due at s source k ≡ true
    → (due : ℕ) × (part_due s source k ≡ Some due) × (due ≤ at)
part_due-is at s source k h = search rules

part_due-no : (at : ℕ) (s : Machine) (source : Source) (k : ℕ) → ((due : ℕ) → part_due s source k ≡ Some due → at < due)
    → is_part_due at s source k ≡ false
part_due-no at s source k later = search rules

-- how many parts of a source are due
abbrev due_parts : ℕ → Machine → Source → ℕ
due_parts at s source = total (λ k. flag (is_part_due at s source k)) (range_with_len 0 17)

due_parts-most : (at : ℕ) (s : Machine) (source : Source) → due_parts at s source ≤ 17
due_parts-most at s source = total-most (λ k. flag (is_part_due at s source k)) 1
    (λ k. flag-most (is_part_due at s source k)) (range_with_len 0 17)

module _ (plan : PlanView) (bound : ℕ) where
  abbrev of_switches : List Source
  of_switches = map switch (switches_of plan)

  abbrev of_devices : List Source
  of_devices = map device (row_numbers plan)

  abbrev sources : List Source
  sources = of_switches ++ of_devices

  switches-count : length of_switches ≡ length plan.switches
  switches-count = length-map (switches_of plan) switch ∙ length-switches plan

  devices-count : length of_devices ≡ length plan.rows
  devices-count = length-map (row_numbers plan) device ∙ length-rows plan

  sources-count : length sources ≡ source_count plan
  sources-count = omega (arith, length-append of_switches of_devices, switches-count, devices-count)

  sources-all : (s : Machine) (source : Source) (due : ℕ) → HasStates plan s → source_due s source ≡ Some due
      → Contains sources source
  sources-all s (switch n) due h is =
      let there = due-within s.switches n due is in
      let states = h.switches in
      let within : n.0 < length plan.switches = omega (arith, there, states) in
      let listed : n.0 < length (switches_of plan) = omega (arith, within, length-switches plan) in
      let first : n.0 < length of_switches = omega (arith, within, switches-count) in (
        n.0,
        omega (arith, first, length-append of_switches of_devices),
        get_or_append_left of_switches of_devices (switch n) n.0 first
            ∙ get_or-map switch (switches_of plan) n.0 n (switch n) listed ∙ ap switch (switch_of plan n.0 n within),
      )
  sources-all s (device r) due h is =
      let within : r.0 < length plan.rows = due-row plan s r due h.devices is in
      let listed : r.0 < length (row_numbers plan) = omega (arith, within, length-rows plan) in (
        length of_switches + r.0,
        omega (arith, within, devices-count, length-append of_switches of_devices),
        get_or-append-add of_switches of_devices r.0 (device r)
            ∙ get_or-map device (row_numbers plan) r.0 r (device r) listed ∙ ap device (row_of plan r.0 r within),
      )

  -- ---- an alarm

  abbrev after_alarm : ℕ → Source → Machine → Machine
  after_alarm at source s = settle_all plan bound (Alarm at source) s

  -- what stays so from alarm to alarm
  record IsGoing (s : Machine) : Type 0 where
    not_late : IsNothingLate s
    switches : HasStates plan s

  -- how many parts are due at the moment of the state
  abbrev due_now : Machine → ℕ
  due_now s = total (due_parts s.moment s) sources

  due_now-most : (s : Machine) → due_now s ≤ part_count plan
  due_now-most s =
      omega (arith, total-most (due_parts s.moment s) 17 (due_parts-most s.moment s) sources, sources-count)

  module _ (at : ℕ) (source : Source) (s : Machine) (next : IsNextAlarm s at source) where
    steps : IsSteps plan bound (begin plan (Alarm at source) s) (after_alarm at source s)
    steps = plan_steps-are_steps plan bound (begin plan (Alarm at source) s)

    alarm-moment : (after_alarm at source s).moment ≡ at
    alarm-moment = moment-after plan (Alarm at source) s steps.count (after_alarm at source s) steps.steps

    alarm-goes_on : IsValid plan → IsGoing s → IsGoing (after_alarm at source s)
    alarm-goes_on valid going = record {
      not_late = not_late-from plan valid (Alarm at source) s steps.count (after_alarm at source s)
          (next-first plan valid s at source next) steps.steps;
      switches = has_states-after plan (Alarm at source) s steps.count (after_alarm at source s) steps.steps
          going.switches;
    }

    -- if it comes at the moment of the state, one part fewer is due then
    alarm-fewer : IsValid plan → IsGoing s → at ≡ s.moment → due_now (after_alarm at source s) + 1 ≤ due_now s
    alarm-fewer valid going same =
        let t = after_alarm at source s in
        let here : t.moment ≡ s.moment = alarm-moment ∙ same in
        let done = alarm-done plan valid at source s steps.count t going.switches.devices next.due steps.steps in
        let was = part_due-yes s.moment at s source done.part done.due (omega (arith, same)) in
        let now = part_due-no s.moment t source done.part
        (λ due is. let later = done.later_part due is in omega (arith, later, same)) in
        let listed : Contains (range_with_len 0 17) done.part =
        (done.part, done.few, omega (arith, get_or-range_with_len 0 17 done.part done.part done.few)) in
        let of_source = total-fewer (λ k. flag (is_part_due s.moment s source k))
        (λ k. flag (is_part_due s.moment t source k)) (no_more source) (range_with_len 0 17) done.part listed
        (flag-fewer (is_part_due s.moment s source done.part) (is_part_due s.moment t source done.part) was now) in
        let fewer = total-fewer (due_parts s.moment s) (due_parts s.moment t) each sources source
        (sources-all s source at going.switches next.due) of_source in
        subst (λ (m : ℕ). total (due_parts m t) sources + 1 ≤ due_now s) (sym here) fewer
      where
        weaker : (other : Source) (k : ℕ) → is_part_due s.moment (after_alarm at source s) other k ≡ true
            → is_part_due s.moment s other k ≡ true
        weaker other k h =
            let (due, is, by) = part_due-is s.moment (after_alarm at source s) other k h in
            elim (arms_later plan valid (Alarm at source) s steps.count (after_alarm at source s) steps.steps other k
            due is) [
              | inl old ↦ part_due-yes s.moment due s other k old by
              | inr later ↦ absurd (omega (arith, later, by, same))
            ]

        no_more : (other : Source) (k : ℕ)
            → flag (is_part_due s.moment (after_alarm at source s) other k) ≤ flag (is_part_due s.moment s other k)
        no_more other k = flag-no_more (is_part_due s.moment s other k)
            (is_part_due s.moment (after_alarm at source s) other k) (weaker other k)

        each : (other : Source) → due_parts s.moment (after_alarm at source s) other ≤ due_parts s.moment s other
        each other = search (rules, total-no_more, no_more)

  -- ---- alarms, one after another

  -- after so many alarms nothing is due by the moment
  abbrev LeavesNothing : ℕ → ℕ → Machine → Type 0
  LeavesNothing until k s = IsNoAlarmDueBy (state_after plan bound (alarms_by plan bound until k s) s) until

  module _ (until : ℕ) where
    none-due : (k : ℕ) (s : Machine) → due_by until (next_alarm s) ≡ None → alarms_by plan bound until k s ≡ []
    none-due k s none = search rules

    -- if nothing is due, no alarm comes
    pub alarms_by-none : (k : ℕ) (s : Machine) → IsNoAlarmDueBy s until → alarms_by plan bound until k s ≡ []
    alarms_by-none k s nothing = none-due k s (nothing-due_by s until nothing)

    -- the next alarm comes first
    pub alarms_by-more : (k : ℕ) (s : Machine) (at : ℕ) (source : Source) → IsNextAlarm s at source → at ≤ until
        → alarms_by plan bound until (suc k) s
        ≡ Alarm at source ∷ alarms_by plan bound until k (settle_all plan bound (Alarm at source) s)
    alarms_by-more k s at source next by =
        ap (λ (o : Option (ℕ × Source)). option_map_or
        (λ a. Alarm a.0 a.1 ∷ alarms_by plan bound until k (after_alarm a.0 a.1 s)) o [])
        (some-due_by s until at source next by)

    leaves-none : (k : ℕ) (s : Machine) → IsNoAlarmDueBy s until → LeavesNothing until k s
    leaves-none k s nothing = subst (λ (xs : List Stimulus). IsNoAlarmDueBy (state_after plan bound xs s) until)
        (sym (alarms_by-none k s nothing)) nothing

    leaves-more : (k : ℕ) (s : Machine) (at : ℕ) (source : Source) → IsNextAlarm s at source → at ≤ until
        → LeavesNothing until k (after_alarm at source s) → LeavesNothing until (suc k) s
    leaves-more k s at source next by h =
        subst (λ (xs : List Stimulus). IsNoAlarmDueBy (state_after plan bound xs s) until)
        (sym (alarms_by-more k s at source next by)) h

    -- an alarm is due by the moment, or none is
    due-cases : (s : Machine) → ((at : ℕ) × (source : Source) × IsNextAlarm s at source × (at ≤ until))
        ⊎ IsNoAlarmDueBy s until
    due-cases s = by (due_by until (next_alarm s)) refl
      where
        by : (o : Option (ℕ × Source)) → due_by until (next_alarm s) ≡ o
            → ((at : ℕ) × (source : Source) × IsNextAlarm s at source × (at ≤ until)) ⊎ IsNoAlarmDueBy s until
        by None is = inr (due_by-none s until is)
        by (Some a) is = let (next, on_time) = due_by-some s until a.0 a.1 is in inl (a.0, a.1, next, on_time)

    -- so many moments are left, and at this one so many parts are due
    ends : IsValid plan → (k moments few : ℕ) (s : Machine) → IsGoing s → until ≤ s.moment + moments → due_now s ≤ few
        → moments * (part_count plan + 1) + few ≤ k → LeavesNothing until k s
    ends valid zero zero few s going reach due fuel =
        elim (due-cases s) [
          | inr nothing ↦ leaves-none zero s nothing
          | inl (at, source, next, by) ↦
              let not_before = going.not_late source at next.due in
              let fewer = alarm-fewer at source s next valid going (omega (arith, not_before, by, reach)) in
              absurd (omega (arith, fewer, due, fuel))
        ]
    ends valid zero (suc moments) few s going reach due fuel = search rules
    ends valid (suc k) moments few s going reach due fuel =
        elim (due-cases s) [
          | inr nothing ↦ leaves-none (suc k) s nothing
          | inl (at, source, next, by) ↦
              let t = after_alarm at source s in
              let on = alarm-goes_on at source s next valid going in
              let not_before = going.not_late source at next.due in
              elim (cases_lt s.moment at) [
                | inr same ↦
                    let fewer = alarm-fewer at source s next valid going (omega (arith, not_before, same)) in
                    leaves-more k s at source next by
                    (ends valid k moments (few - 1) t on
                    (omega (arith, reach, alarm-moment at source s next, not_before, same))
                    (omega (arith, fewer, due)) (omega (arith, fuel, fewer, due)))
                | inl later ↦ leaves-more k s at source next by
                    (elsewhere k moments few at s t later by reach fuel on (alarm-moment at source s next)
                    (ends valid k))
              ]
        ]
      where
        elsewhere : (k moments few at : ℕ) (s t : Machine) → s.moment < at → at ≤ until → until ≤ s.moment + moments
            → moments * (part_count plan + 1) + few ≤ suc k → IsGoing t → t.moment ≡ at
            → ((moments few : ℕ) (s : Machine) → IsGoing s → until ≤ s.moment + moments → due_now s ≤ few
            → moments * (part_count plan + 1) + few ≤ k → LeavesNothing until k s) → LeavesNothing until k t
        elsewhere k zero few at s t later by reach fuel on here again = absurd (omega (arith, later, by, reach))
        elsewhere k (suc moments) few at s t later by reach fuel on here again =
            again moments (part_count plan) t on (omega (arith, later, reach, here)) (due_now-most t)
            (room (part_count plan) moments few k fuel)
          where
            room : (n moments few k : ℕ) → suc moments * (n + 1) + few ≤ suc k → moments * (n + 1) + n ≤ k
            room n moments few k h = omega (arith, h)

    leaves-nothing : IsValid plan → (s : Machine) → IsGoing s → LeavesNothing until (most_alarms plan until s) s
    leaves-nothing valid s going =
        elim (cases_lt until s.moment) [
          | inl past ↦ leaves-none (most_alarms plan until s) s
              (λ source due is. let on = going.not_late source due is in omega (arith, on, past))
          | inr here ↦
              ends valid (most_alarms plan until s) (until - s.moment) (part_count plan) s going (omega (arith, here))
              (due_now-most s)
              (enough (part_count plan) until s.moment here)
        ]
      where
        more : (n moments left : ℕ) → left ≡ suc moments → moments * (n + 1) + n ≤ left * (n + 1)
        more n moments left is = rw is (omega arith)

        enough : (n until moment : ℕ) → moment ≤ until → (until - moment) * (n + 1) + n ≤ (until + 1 - moment) * (n + 1)
        enough n until moment h = more n (until - moment) (until + 1 - moment) (omega (arith, h))

    -- what leaves nothing is one list of alarms, however many there could be
    alarms_by-same : (j k : ℕ) (s : Machine) → LeavesNothing until j s → LeavesNothing until k s
        → alarms_by plan bound until j s ≡ alarms_by plan bound until k s
    alarms_by-same zero k s a b = sym (alarms_by-none k s a)
    alarms_by-same (suc j) zero s a b = alarms_by-none (suc j) s b
    alarms_by-same (suc j) (suc k) s a b =
        elim (due-cases s) [
          | inr nothing ↦ alarms_by-none (suc j) s nothing ∙ sym (alarms_by-none (suc k) s nothing)
          | inl (at, source, next, by) ↦
              let alarm = Alarm at source in
              let t = after_alarm at source s in
              let first = subst (λ (xs : List Stimulus). IsNoAlarmDueBy (state_after plan bound xs s) until)
              (alarms_by-more j s at source next by) a in
              let second = subst (λ (xs : List Stimulus). IsNoAlarmDueBy (state_after plan bound xs s) until)
              (alarms_by-more k s at source next by) b in
              alarms_by-more j s at source next by
              ∙ ap (λ (xs : List Stimulus). alarm ∷ xs) (alarms_by-same j k t first second)
              ∙ sym (alarms_by-more k s at source next by)
        ]

  -- ---- the run of a plan

  module _ (valid : IsValid plan) (until : ℕ) (trace : List Line) (s : Machine) (reached : IsReached plan trace s) where
    going : IsGoing s
    going = search (rules, reached-not_late, reached-has_states)

    -- all alarms that are due by the moment come
    pub alarms_by-all : IsNoAlarmDueBy (state_after plan bound (alarms_by plan bound until (most_alarms plan until s) s)
        s) until
    alarms_by-all = leaves-nothing until valid s going

    -- the next alarm, if it is due by the moment, and then those that are due after it
    pub alarms_by-next : (at : ℕ) (source : Source) → IsNextAlarm s at source → at ≤ until
        → alarms_by plan bound until (most_alarms plan until s) s
        ≡ Alarm at source ∷ alarms_by plan bound until
        (most_alarms plan until (settle_all plan bound (Alarm at source) s))
        (settle_all plan bound (Alarm at source) s)
    alarms_by-next at source next by = first (most_alarms plan until s) alarms_by-all
      where
        first : (k : ℕ) → LeavesNothing until k s
            → alarms_by plan bound until k s
            ≡ Alarm at source ∷ alarms_by plan bound until (most_alarms plan until (after_alarm at source s))
            (after_alarm at source s)
        first zero h = absurd (over (h source at next.due))
          where
            over : until < at → ⊥
            over h = omega (arith, h, by)
        first (suc k) h =
            let t = after_alarm at source s in
            let alarm = Alarm at source in
            let left = subst (λ (xs : List Stimulus). IsNoAlarmDueBy (state_after plan bound xs s) until)
            (alarms_by-more until k s at source next by) h in
            alarms_by-more until k s at source next by
            ∙ ap (λ (xs : List Stimulus). alarm ∷ xs)
            (alarms_by-same until k (most_alarms plan until t) t left
            (leaves-nothing until valid t (alarm-goes_on at source s next valid going)))

pub alarms_end : AlarmsEnd
alarms_end plan bound trace s valid reached until = alarms_by-all plan bound valid until trace s reached
