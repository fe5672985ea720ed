-- When ball devices are due.
use Rattle.std.proofs.Common.{rules, ◌≡◌, ℕ, zero, suc, ◌+◌, ◌<◌, ◌≤◌, min, ◌⊎◌, inl, inr, Bool, true, false, Option}
use Rattle.std.proofs.Common.{None, Some, IfSome, is_some, List, [], ◌∷◌, length, get_or, set, option_map, nat_lt}
use Rattle.std.proofs.Common.{if◌then◌else◌, refl, sym, ap, ◌∙◌, subst, arith}
use Rattle.std.proofs.lemmas.{Bool.{cases_lt, le-ltb, lt-ltb, ltb-true, ltb-false}, List.{length-map, length-set}}
use Rattle.std.proofs.lemmas.Option.{IfSome_then, MatchOption-from_none, none-some, same_Some}
use Rattle.plan_tables.specs.{declared.devices.{Act.Act, BallSettings.BallSettings}, Devices.IsBallDeviceWithin}
use Rattle.plan_tables.specs.declared.devices.Act.TheVariants as acts
use Rattle.device_objects.specs.declared.{device.Call.Call, state.{BallState.BallState, World.World}}
use Rattle.device_objects.specs.declared.device.Call.TheVariants as calls
use Rattle.device_objects.specs.declared.state.{BallSwitch.BallSwitch, Eject.{Eject, TheVariants.Idle}}
use Rattle.device_objects.specs.BallDevice.{empty, switch_at, set_switch, first_due, first_due_from, timeout_of}
use Rattle.device_objects.specs.BallDevice.{earlier, due_of, part_due, is_timeout_first, entry_list, attempt, can_begin}
use Rattle.device_objects.specs.BallDevice.{begin, after, time_out, confirm, delay, switch_level, turn_over, lose_sight}
use Rattle.device_objects.specs.BallDevice.{count, count_due, fire, fire_part, request, act_step, halt, ball_device}
use Rattle.device_objects.specs.{BallDevice.{ball_step, moments}, Laws.{IsDoneIn, IsFirstPartOf, FiresFirstPartOf}}
use Rattle.device_objects.proofs.BallDue.{not_due-none, first_due-none, first_due-is_due, first_due-is_first}
use Rattle.device_objects.proofs.BallDue.{first_due-is_lowest, due-inside, part-of_switch, part-of_attempt, part-past}
use Rattle.device_objects.proofs.{BallDue.{switch-is_part, which_part}, Parts.IsDueWithItsParts}

-- ---- what a step arms

-- a ball switch after one was written: the one written, or as it was
after_set : (bs : List BallSwitch) (i j : ℕ) (b : BallSwitch)
    → (get_or (set bs i b) j empty ≡ b) ⊎ (get_or (set bs i b) j empty ≡ get_or bs j empty)
after_set (c ∷ bs) zero zero b = inl refl
after_set (c ∷ bs) (suc i) (suc j) b = after_set bs i j b
after_set _ _ _ b = inr refl

-- the part after the last ball switch is the attempt
part-at_attempt : (s : BallState) (k : ℕ) → k ≡ length s.switches → part_due s k ≡ timeout_of s.eject
part-at_attempt s k is = search (rules, get_or, part-of_attempt)

module _ (d : BallSettings) (now : ℕ) (limits : IsBallDeviceWithin d) (old : BallState) where
  -- the parts are due when they were before, or later than now
  abbrev IsEjectLater : Eject → Type 0
  IsEjectLater e = (due : ℕ) → timeout_of e ≡ Some due → (timeout_of old.eject ≡ Some due) ⊎ (now < due)

  abbrev AreSwitchesLater : List BallSwitch → Type 0
  AreSwitchesLater bs =
      (i due : ℕ) → (get_or bs i empty).due ≡ Some due → ((get_or old.switches i empty).due ≡ Some due) ⊎ (now < due)

  abbrev IsLater : BallState → Type 0
  IsLater s = AreSwitchesLater s.switches × IsEjectLater s.eject × (length s.switches ≡ length old.switches)

  either : (test : Bool) (x y : BallState × List ℕ) → IsLater x.0 → IsLater y.0 → IsLater (if test then x else y).0
  either test x y first second = search rules

  one_state : (test : Bool) (x y : BallState) → IsLater x → IsLater y → IsLater (if test then x else y)
  one_state test x y first second = search rules

  idle : IsEjectLater Idle
  idle due is = absurd (none-some due is)

  armed : (due : ℕ) → Some (now + d.ejects.timeout) ≡ Some due → (timeout_of old.eject ≡ Some due) ⊎ (now < due)
  armed due is = search rules

  begin-later : (s : BallState) → IsLater s → IsLater (begin d now s).0
  begin-later s h = either (can_begin d s) (attempt d 1 now s) (s, []) (h.0, armed, h.2) h

  time_out-later : (eject : Eject) (s : BallState) → IsLater s → IsLater (time_out d now eject s).0
  time_out-later eject s h = search rules

  confirm-later : (eject : Eject) (s : BallState) → IsLater s → IsLater (confirm d now eject s).0
  confirm-later eject s h = search rules

  gone-later : (eject : Eject) (s : BallState) → IsEjectLater eject → IsLater s → IsLater (lose_sight d now eject s).0
  gone-later eject s e h = search rules

  set-later : (i : ℕ) (b : BallSwitch) (bs : List BallSwitch) → ((due : ℕ) → b.due ≡ Some due → now < due)
      → AreSwitchesLater bs → AreSwitchesLater (set bs i b)
  set-later i b bs later h j due is = search (rules, after_set)

  count-later : (i : ℕ) (s : BallState) → IsLater s → IsLater (count d now i s).0
  count-later i s h =
      let b : BallSwitch = turn_over (switch_at s i) in
      let t : BallState = set_switch i b s in
      let still : IsLater t =
      (set-later i b s.switches (λ due is. absurd (none-some due is)) h.0, h.1, length-set s.switches i b ∙ h.2) in
      either (switch_at s i).counted (lose_sight d now s.eject t) (after (entry_list ∷ []) (begin d now t))
      (gone-later s.eject t h.1 still) (begin-later t still)

  count_due-later : (first : Option (ℕ × ℕ)) (s : BallState) → IsLater s → IsLater (count_due d now first s).0
  count_due-later None s h = h
  count_due-later (Some a) s h = count-later a.1 s h

  fire-later : (s : BallState) → IsLater s → IsLater (fire d now s).0
  fire-later s h = search (rules, either, time_out-later, count_due-later)

  noted-later : (active otherwise : Bool) (due : ℕ)
      → (if otherwise then Some (now + delay d active) else None) ≡ Some due → now < due
  noted-later active otherwise due is = search rules

  switched-later : (i : ℕ) (active : Bool) (s : BallState) → IsLater s → IsLater (switch_level d i active now s)
  switched-later i active s h = search (rules, one_state, nat_lt, set-later, noted-later, length-set)

  requested-later : (n : ℕ) (s : BallState) → IsLater s → IsLater (request d n now s).0
  requested-later n s h = search rules

  act-later : (act : Act) (s : BallState) → IsLater s → IsLater (act_step d act now s).0
  act-later (acts.SwitchOn i) s h = switched-later i true s h
  act-later (acts.SwitchOff i) s h = switched-later i false s h
  act-later acts.Confirm s h = confirm-later s.eject s h
  act-later (acts.Request n) s h = requested-later n s h
  act-later _ s h = h

  halted-later : (s : BallState) → IsLater s → IsLater (halt s)
  halted-later s h = search (rules, none-some, not_due-none, idle, length-map)

  step-later : (call : Call) (s : BallState) → IsLater s → IsLater (ball_step d call now s).0
  step-later calls.ModeStart s h = h
  step-later calls.ModeStop s h = halted-later s h
  step-later calls.Fire s h = fire-later s h
  step-later (calls.Act act) s h = act-later act s h

pub ball-arms_later : (d : BallSettings) (call : Call) (now : ℕ) (s : BallState) → IsBallDeviceWithin d → (k due : ℕ)
    → part_due (ball_step d call now s).0 k ≡ Some due → (part_due s k ≡ Some due) ⊎ (now < due)
ball-arms_later d call now s limits k due is =
    let next : BallState = (ball_step d call now s).0 in
    let later = step-later d now limits s call s ((λ i m at. inl at), (λ m at. inl at), refl) in
    elim (which_part next.switches (timeout_of next.eject) k due is) [
      | inl switch ↦ elim (later.0 k due switch.1) [
        | inl before ↦ inl (switch-is_part s.switches (timeout_of s.eject) k due before)
        | inr after ↦ inr after
      ]
      | inr attempt ↦ elim (later.1 due attempt.1) [
        | inl before ↦ inl (part-at_attempt s k (attempt.0 ∙ later.2) ∙ before)
        | inr after ↦ inr after
      ]
    ]

-- ---- what is due first is a part

switch-is_due : (s : BallState) (a : ℕ × ℕ) → first_due s ≡ Some a → (switch_at s a.1).due ≡ Some a.0
switch-is_due s a is = search (rules, first_due-is_due, get_or)

first-is_part : (s : BallState) (a : ℕ × ℕ) → first_due s ≡ Some a → part_due s a.1 ≡ Some a.0
first-is_part s a is = switch-is_part s.switches (timeout_of s.eject) a.1 a.0 (switch-is_due s a is)

part-one : (s : BallState) (first : Option (ℕ × ℕ)) (timeout : Option ℕ) → first_due s ≡ first
    → timeout_of s.eject ≡ timeout
    → IfSome (earlier (option_map (λ a. a.0) first) timeout) (λ due. (k : ℕ) × (part_due s k ≡ Some due))
part-one s None None at over = tt
part-one s None (Some t) at over = (length s.switches, part-at_attempt s (length s.switches) refl ∙ over)
part-one s (Some a) None at over = (a.1, first-is_part s a at)
part-one s (Some a) (Some t) at over =
    elim (cases_lt t a.0) [
      | inl before ↦
          (length s.switches, part-at_attempt s (length s.switches) refl ∙ over ∙ ap Some (omega (arith, before)))
      | inr after ↦ (a.1, first-is_part s a at ∙ ap Some (omega (arith, after)))
    ]

ball-parts_one : (s : BallState) → IfSome (due_of s) (λ due. (k : ℕ) × (part_due s k ≡ Some due))
ball-parts_one s = part-one s (first_due s) (timeout_of s.eject) refl refl

-- ---- what is done when it fires

-- a ball switch that has been turned is not due
turned-quiet : (bs : List BallSwitch) (i : ℕ) (b : BallSwitch) → b.due ≡ None → (get_or (set bs i b) i empty).due ≡ None
turned-quiet [] i b is = refl
turned-quiet (c ∷ bs) zero b is = is
turned-quiet (c ∷ bs) (suc i) b is = turned-quiet bs i b is

module _ (d : BallSettings) (now : ℕ) (limits : IsBallDeviceWithin d) where
  -- an eject that is over later than now, if at all
  abbrev IsAfter : Eject → Type 0
  IsAfter e = IfSome (timeout_of e) (λ later. now < later)

  time_out-after : (eject : Eject) (s : BallState) → is_some (timeout_of eject) ≡ true
      → IsAfter (time_out d now eject s).0.eject
  time_out-after eject s some = search rules

  time_out-switches : (eject : Eject) (s : BallState) → (time_out d now eject s).0.switches ≡ s.switches
  time_out-switches eject s = search rules

  counted-switches : (i : ℕ) (s : BallState)
      → (count d now i s).0.switches ≡ set s.switches i (turn_over (switch_at s i))
  counted-switches i s = search rules

  timeout-done : (s : BallState) (t due : ℕ) → timeout_of s.eject ≡ Some t → due ≡ t
      → IsDoneIn now due (moments s) (moments (time_out d now s.eject s).0)
  timeout-done s t due is same =
      let next : BallState = (time_out d now s.eject s).0 in
      let at : part_due next (length s.switches) ≡ timeout_of next.eject =
      part-at_attempt next (length s.switches) (ap length (sym (time_out-switches s.eject s))) in
      record {
        part = length s.switches;
        due = part-at_attempt s (length s.switches) refl ∙ is ∙ ap Some (sym same);
        later_part = subst (λ (o : Option ℕ). IfSome o (λ later. now < later)) (sym at)
            (time_out-after s.eject s (ap is_some is));
      }

  count-done : (s : BallState) (a : ℕ × ℕ) (due : ℕ) → first_due s ≡ Some a → due ≡ a.0
      → IsDoneIn now due (moments s) (moments (count d now a.1 s).0)
  count-done s a due is same =
      let next : BallState = (count d now a.1 s).0 in
      let within : a.1 < length s.switches = due-inside s.switches a.1 a.0 (switch-is_due s a is) in
      let long : length next.switches ≡ length s.switches =
      ap length (counted-switches a.1 s) ∙ length-set s.switches a.1 (turn_over (switch_at s a.1)) in
      let quiet : (switch_at next a.1).due ≡ None =
      ap (λ switches. (get_or switches a.1 empty).due) (counted-switches a.1 s)
      ∙ turned-quiet s.switches a.1 (turn_over (switch_at s a.1)) refl in
      record {
        part = a.1;
        due = first-is_part s a is ∙ ap Some (sym same);
        later_part = MatchOption-from_none (part_due next a.1) (λ later. now < later)
            (part-of_switch next.switches (timeout_of next.eject) a.1 (omega (arith, within, long)) ∙ quiet);
      }

  -- of both, that is done which is due first
  first-does : (Does : ℕ → BallState → Type 0) (s : BallState) (first : Option (ℕ × ℕ)) (timeout : Option ℕ)
      → ((t due : ℕ) → timeout ≡ Some t → due ≡ t → Does due (time_out d now s.eject s).0)
      → ((a : ℕ × ℕ) (due : ℕ) → first ≡ Some a → due ≡ a.0 → Does due (count d now a.1 s).0)
      → IfSome (earlier (option_map (λ a. a.0) first) timeout) (λ due. Does due
      (if is_timeout_first first timeout then time_out d now s.eject s else count_due d now first s).0)
  first-does Does s first timeout over counted = search (rules, nat_lt, ltb-true, ltb-false)

pub ball-fired : (d : BallSettings) (now : ℕ) (s : BallState) → IsBallDeviceWithin d
    → IfSome (due_of s) (λ due. IsDoneIn now due (moments s) (moments (fire d now s).0))
ball-fired d now s limits =
    first-does d now limits (λ due next. IsDoneIn now due (moments s) (moments next)) s (first_due s)
    (timeout_of s.eject) (timeout-done d now limits s) (count-done d now limits s)

-- ---- its parts

none-due : (bs : List BallSwitch) (i : ℕ) (due : Option ℕ) → first_due_from 0 bs ≡ None → (get_or bs i empty).due ≡ due
    → due ≡ None
none-due bs i None none is = refl
none-due bs i (Some t) none is = let c = first_due-is_first 0 bs i t is in absurd (none-some c.0 (sym none ∙ c.1))

pub ball-parts_none : (s : BallState) → due_of s ≡ None → (k : ℕ) → part_due s k ≡ None
ball-parts_none s is k = search (rules, option_map, which_part, none-some, none-due)

-- a part that is due is the attempt, or is due when the first ball switch is, or later
abbrev IsPart : Option (ℕ × ℕ) → Option ℕ → ℕ → Type 0
IsPart first timeout other = (timeout ≡ Some other) ⊎ ((c : ℕ × ℕ) × (first ≡ Some c) × (c.0 ≤ other))

part-is : (s : BallState) (k other : ℕ) → part_due s k ≡ Some other → IsPart (first_due s) (timeout_of s.eject) other
part-is s k other is =
    elim (which_part s.switches (timeout_of s.eject) k other is) [
      | inl switch ↦ inr (first_due-is_first 0 s.switches k other switch.1)
      | inr attempt ↦ inl attempt.1
    ]

first-is_least : (first : Option (ℕ × ℕ)) (timeout : Option ℕ)
    → IfSome (earlier (option_map (λ a. a.0) first) timeout)
    (λ due. (other : ℕ) → IsPart first timeout other → due ≤ other)
first-is_least first timeout = search rules

pub ball-parts_first : (s : BallState)
    → IfSome (due_of s) (λ due. (k other : ℕ) → part_due s k ≡ Some other → due ≤ other)
ball-parts_first s = search (rules, IfSome_then, first-is_least, part-is)

pub ball_moments-lawful : (s : BallState) → IsDueWithItsParts (moments s)
ball_moments-lawful s = record { none = ball-parts_none s; one = ball-parts_one s; first = ball-parts_first s }

pub ball-parts_few : (s : BallState) (k : ℕ) → length s.switches ≡ 16 → 17 ≤ k → part_due s k ≡ None
ball-parts_few s k long past = part-past s.switches (timeout_of s.eject) k (omega (arith, long, past))

-- ---- which part fires

module _ (d : BallSettings) (now : ℕ) (s : BallState) where
  -- a ball switch that is due first is the first part, unless the attempt is over before
  switch-first : (a : ℕ × ℕ) → first_due s ≡ Some a → ((t : ℕ) → timeout_of s.eject ≡ Some t → a.0 ≤ t)
      → IsFirstPartOf (moments s) a.0 a.1
  switch-first a is before = record {
    due = first-is_part s a is;
    earliest = λ other at found. elim (which_part s.switches (timeout_of s.eject) other at found) [
      | inl switch ↦
          let by = first_due-is_first 0 s.switches other at switch.1 in
          let same : a.0 ≡ by.0.0 = ap (λ p. p.0) (same_Some a by.0 (sym is ∙ by.1)) in
          omega (arith, same, by.2)
      | inr attempt ↦ before at attempt.1
    ];
    lowest = λ other found. elim (which_part s.switches (timeout_of s.eject) other a.0 found) [
      | inl switch ↦ (let low = first_due-is_lowest 0 s.switches other a is switch.1 in omega (arith, low))
      | inr attempt ↦
          let within = due-inside s.switches a.1 a.0 (switch-is_due s a is) in omega (arith, within, attempt.0)
    ];
  }

  -- the attempt is the first part if it is over before any ball switch is due
  attempt-first : (t : ℕ) → timeout_of s.eject ≡ Some t → ((i at : ℕ) → (switch_at s i).due ≡ Some at → t < at)
      → IsFirstPartOf (moments s) t (length s.switches)
  attempt-first t is before = search (rules, part-at_attempt, which_part, same_Some)

  of_test : (k : ℕ) (test : Bool) → nat_lt k (length s.switches) ≡ test
      → fire_part d k now s ≡ (if test then count d now k s else time_out d now s.eject s)
  of_test k test is = ap (λ (t : Bool). if t then count d now k s else time_out d now s.eject s) is

  attempt-fires : time_out d now s.eject s ≡ fire_part d (length s.switches) now s
  attempt-fires = sym (of_test (length s.switches) false (le-ltb (length s.switches) (length s.switches) (omega arith)))

  switch-fires : (a : ℕ × ℕ) → first_due s ≡ Some a → count d now a.1 s ≡ fire_part d a.1 now s
  switch-fires a is = search (rules, of_test, lt-ltb, due-inside, switch-is_due)

  -- what is done, if the first ball switch and the attempt are due then, is what the first part does
  abbrev DoesFirst : BallState × List ℕ → ℕ → Type 0
  DoesFirst answer due =
      (part : ℕ) × IsFirstPartOf (moments s) due part × (answer ≡ fire_part d part now s)

  fires : (first : Option (ℕ × ℕ)) (timeout : Option ℕ) → first_due s ≡ first → timeout_of s.eject ≡ timeout
      → IfSome (earlier (option_map (λ a. a.0) first) timeout)
      (DoesFirst (if is_timeout_first first timeout then time_out d now s.eject s else count_due d now first s))
  fires None None at over = tt
  fires None (Some t) at over = (
    length s.switches,
    attempt-first t over (λ i m due. let by = first_due-is_first 0 s.switches i m due
        in absurd (none-some by.0 (sym at ∙ by.1))),
    attempt-fires,
  )
  fires (Some a) None at over =
      (a.1, switch-first a at (λ t due. absurd (none-some t (sym over ∙ due))), switch-fires a at)
  fires (Some a) (Some t) at over = one_of (nat_lt t a.0) refl
    where
      after_first : t < a.0 → (i m : ℕ) → (switch_at s i).due ≡ Some m → t < m
      after_first before i m due =
          let by = first_due-is_first 0 s.switches i m due in
          let same : a.0 ≡ by.0.0 = ap (λ p. p.0) (same_Some a by.0 (sym at ∙ by.1)) in
          omega (arith, before, same, by.2)

      one_of : (test : Bool) → nat_lt t a.0 ≡ test
          → DoesFirst (if test then time_out d now s.eject s else count d now a.1 s) (min a.0 t)
      one_of true is =
          let before : t < a.0 = ltb-true t a.0 is in
          let least : t ≡ min a.0 t = omega (arith, before) in (
            length s.switches,
            subst (λ m. IsFirstPartOf (moments s) m (length s.switches)) least
                (attempt-first t over (after_first before)),
            attempt-fires,
          )
      one_of false is =
          let before : a.0 ≤ t = ltb-false t a.0 is in
          let least : a.0 ≡ min a.0 t = omega (arith, before) in (
            a.1,
            subst (λ m. IsFirstPartOf (moments s) m a.1) least
                (switch-first a at (λ m due. let same : t ≡ m = same_Some t m (sym over ∙ due)
                in omega (arith, before, same))),
            switch-fires a at,
          )

pub ball-fires_first : (d : BallSettings) (now : ℕ) (world : World) (s : BallState)
    → IfSome (due_of s) (FiresFirstPartOf (ball_device d) moments now world s)
ball-fires_first d now world s =
    IfSome_then (due_of s) (fires d now s (first_due s) (timeout_of s.eject) refl refl)
    (λ due does. record { part = does.0; first = does.1; step = does.2 })

-- ---- when its mode has stopped

pub ball-stopped_quiet : (s : BallState) → due_of (halt s) ≡ None
ball-stopped_quiet s = ap (λ first. earlier (option_map (λ (a : ℕ × ℕ). a.0) first) None) (first_due-none 0 s.switches)
