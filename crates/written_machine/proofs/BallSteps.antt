-- What each call of a ball device leads to: how many balls count in it then, whether it is Away, and what its lists
-- book.
use Rattle.std.proofs.Common.{rules, ◌≡◌, ℕ, ◌+◌, ◌<◌, ◌≤◌, min, inl, inr, ◌⊎◌, Bool, true, false, not, cond, Option}
use Rattle.std.proofs.Common.{None, Some, List, [], ◌∷◌, length, nat_lt, refl, sym, ap, ◌∙◌, arith}
use Rattle.std.{specs.List.count_by, proofs.lemmas.List.{get_or_past, set_past, Sums.sum_by-set}}
use Rattle.std.proofs.lemmas.{Bool.{cases_lt, cond_both}, Option.none-some}
use Rattle.plan_tables.specs.declared.devices.{Act.Act, BallSettings.BallSettings, RowId.RowId}
use Rattle.plan_tables.specs.declared.devices.Act.TheVariants as acts
use Rattle.plan_tables.specs.declared.devices.BallTarget.{BallTarget, TheVariants.{Playfield, Device}}
use Rattle.device_objects.specs.declared.{device.Call.Call, state.Eject.{Eject, TheVariants.{Idle, Pulsing, Away}}}
use Rattle.device_objects.specs.declared.device.Call.TheVariants as calls
use Rattle.device_objects.specs.declared.state.{Attempt.Attempt, BallSwitch.BallSwitch, BallState.BallState}
use Rattle.device_objects.specs.BallDevice.{empty, switch_at, set_switch, first_due, entry_list, attempt_list}
use Rattle.device_objects.specs.BallDevice.{exit_list, loss_list, success_list, arrival_list, failure_list, attempt}
use Rattle.device_objects.specs.BallDevice.{is_away, begin, after, end_eject, stuck, may_try_again, next_number}
use Rattle.device_objects.specs.BallDevice.{overdue, confirmation, time_out, confirm, note_level, switch_level}
use Rattle.device_objects.specs.BallDevice.{turn_over, lose_sight, count, count_due, fire, request, act_step, ball_step}
use Rattle.device_objects.proofs.BallDue.{first_due-is_due}
use Rattle.ball_devices.specs.Bookings.{one}

-- how many balls count in it
abbrev pub balls_in : BallState → ℕ
balls_in s = count_by (λ b. b.counted) s.switches

-- ---- lists that book nothing

abbrev pub IsQuiet : ℕ → Type 0
IsQuiet k = (k ≡ attempt_list) ⊎ ((k ≡ success_list) ⊎ (k ≡ failure_list))

abbrev pub AreQuiet : List ℕ → Type 0
AreQuiet [] = Unit {0}
AreQuiet (k ∷ ks) = IsQuiet k × AreQuiet ks

-- ---- what a call leads to

-- the ball switches are the same, and it is Away if it was
pub record IsSame (s t : BallState) : Type 0 where
  pub switches : t.switches ≡ s.switches
  pub away : is_away t.eject ≡ is_away s.eject

same-balls : (s t : BallState) → t.switches ≡ s.switches → balls_in t ≡ balls_in s
same-balls s t is = ap (count_by (λ b. b.counted)) is

-- What an answer is: nothing is booked; a ball has entered, if one may; the one that was ejected has left; one is
-- lost; or the one that was on its way is on the playfield.
pub data Answer (enter : Type 0) (s : BallState) : BallState → List ℕ → Type 0 where
  nothing : (t : BallState) (lists : List ℕ) → balls_in t ≡ balls_in s → is_away t.eject ≡ is_away s.eject
      → AreQuiet lists
      → Answer enter s t lists
  enters : enter → (t : BallState) (rest : List ℕ) → balls_in t ≡ balls_in s + 1 → is_away t.eject ≡ is_away s.eject
      → AreQuiet rest
      → Answer enter s t (entry_list ∷ rest)
  leaves : (t : BallState) → balls_in t + 1 ≡ balls_in s → is_away s.eject ≡ false → is_away t.eject ≡ true
      → Answer enter s t (exit_list ∷ [])
  loses : (t : BallState) → balls_in t + 1 ≡ balls_in s → is_away t.eject ≡ is_away s.eject
      → Answer enter s t (loss_list ∷ [])
  arrives : (t : BallState) (rest : List ℕ) → balls_in t ≡ balls_in s → is_away s.eject ≡ true → is_away t.eject ≡ false
      → AreQuiet rest → Answer enter s t (arrival_list ∷ rest)

abbrev pub IsAnswer : Type 0 → BallState → BallState × List ℕ → Type 0
IsAnswer enter s a = Answer enter s a.0 a.1

-- the ball that was ejected is in its target device: it is Away no more, and nothing is booked
pub record IsConfirmed (s : BallState) (a : BallState × List ℕ) : Type 0 where
  pub switches : a.0.switches ≡ s.switches
  pub away : is_away a.0.eject ≡ false
  pub quiet : AreQuiet a.1

-- calls that come on their own; no mode stops that has one, and only the machine confirms
abbrev pub IsUsual : Call → Type 0
IsUsual calls.ModeStop = ⊥
IsUsual (calls.Act acts.Confirm) = ⊥
IsUsual _ = Unit {0}

-- ---- ejecting

-- it begins to eject a ball or not
pub record IsBegun (s : BallState) (a : BallState × List ℕ) : Type 0 where
  pub same : IsSame s a.0
  pub quiet : AreQuiet a.1

module _ (d : BallSettings) where
  pub begin-begun : (now : ℕ) (s : BallState) → IsBegun s (begin d now s)
  begin-begun now s = search rules

module _ (d : BallSettings) (enter : Type 0) where
  -- ---- an attempt is over

  stuck-answer : (now : ℕ) (a : Attempt) (s : BallState) → is_away s.eject ≡ false → IsAnswer enter s (stuck d now a s)
  stuck-answer now a s not_yet =
      cond_both (may_try_again d.ejects.max_attempts a.number)
      (after (failure_list ∷ []) (attempt d (next_number d.ejects.max_attempts a.number) now s))
      (record s { eject = Idle; wanted = 0 }, failure_list ∷ []) (IsAnswer enter s)
      (λ may. nothing (record s {
        eject = Pulsing
            (record { number = next_number d.ejects.max_attempts a.number; timeout = now + d.ejects.timeout });
      })
      (failure_list ∷ attempt_list ∷ []) refl (sym not_yet) (inr (inr refl), (inl refl, tt)))
      (λ not. nothing (record s { eject = Idle; wanted = 0 }) (failure_list ∷ []) refl (sym not_yet)
      (inr (inr refl), tt))

  -- lists of a ball that has arrived on the playfield, and then it may begin to eject the next
  on_playfield : (now : ℕ) (s : BallState) (k : ℕ) → IsQuiet k → is_away s.eject ≡ true
      → IsAnswer enter s (after (arrival_list ∷ k ∷ []) (begin d now (end_eject s)))
  on_playfield now s k quiet away =
      let begun = begin-begun d now (end_eject s) in
      arrives (begin d now (end_eject s)).0 (k ∷ (begin d now (end_eject s)).1)
      (same-balls s (begin d now (end_eject s)).0 begun.same.switches) away
      begun.same.away (quiet, begun.quiet)

  overdue-answer : (target : BallTarget) (now : ℕ) (s : BallState) → is_away s.eject ≡ true
      → IsAnswer enter s (after (overdue target) (begin d now (end_eject s)))
  overdue-answer target now s away = search (rules, on_playfield)

  time_out-answer : (now : ℕ) (eject : Eject) (s : BallState) → s.eject ≡ eject
      → IsAnswer enter s (time_out d now eject s)
  time_out-answer now Idle s is = nothing s [] refl refl tt
  time_out-answer now (Pulsing a) s is = stuck-answer now a s (ap is_away is)
  time_out-answer now (Away a) s is = overdue-answer d.target now s (ap is_away is)

  -- ---- a ball switch counts

  gone-answer : (now : ℕ) (eject : Eject) (s t : BallState) → s.eject ≡ eject → t.eject ≡ s.eject
      → balls_in t + 1 ≡ balls_in s
      → IsAnswer enter s (lose_sight d now eject t)
  gone-answer now Idle s t is same fewer =
      cond_both d.ejects.mechanical
      (record t { eject = Away (record { number = 1; timeout = now + d.ejects.timeout }) }, exit_list ∷ [])
      (t, loss_list ∷ []) (IsAnswer enter s)
      (λ hand. leaves (record t { eject = Away (record { number = 1; timeout = now + d.ejects.timeout }) }) fewer
      (ap is_away is) refl)
      (λ none. loses t fewer (ap is_away same))
  gone-answer now (Pulsing a) s t is same fewer = leaves (record t { eject = Away a }) fewer (ap is_away is) refl
  gone-answer now (Away a) s t is same fewer = loses t fewer (ap is_away same)

  count-answer : enter → (now i : ℕ) (s : BallState) → i < length s.switches → IsAnswer enter s (count d now i s)
  count-answer may now i s within =
      let t : BallState = set_switch i (turn_over (switch_at s i)) s in
      let sums = sum_by-set (λ (b : BallSwitch). cond b.counted 1 0) s.switches i (turn_over (switch_at s i)) empty
      within in
      cond_both (switch_at s i).counted (lose_sight d now s.eject t) (after (entry_list ∷ []) (begin d now t))
      (IsAnswer enter s)
      (λ was.
      let before : one (switch_at s i).counted ≡ 1 = ap one was in
      let later : one (not (switch_at s i).counted) ≡ 0 = ap (λ (b : Bool). one (not b)) was in
      gone-answer now s.eject s t refl refl (omega (arith, sums, before, later)))
      (λ was_not.
      let before : one (switch_at s i).counted ≡ 0 = ap one was_not in
      let later : one (not (switch_at s i).counted) ≡ 1 = ap (λ (b : Bool). one (not b)) was_not in
      let begun = begin-begun d now t in
      let more : balls_in t ≡ balls_in s + 1 = omega (arith, sums, before, later) in
      enters may (begin d now t).0 (begin d now t).1 (same-balls t (begin d now t).0 begun.same.switches ∙ more)
      begun.same.away begun.quiet)

  -- one that is due is there
  there : (s : BallState) (i due : ℕ) → (switch_at s i).due ≡ Some due → i < length s.switches
  there s i due is = search (rules, cases_lt, none-some, get_or_past)

  count_due-answer : enter → (now : ℕ) (first : Option (ℕ × ℕ)) (s : BallState) → first_due s ≡ first
      → IsAnswer enter s (count_due d now first s)
  count_due-answer may now None s is = nothing s [] refl refl tt
  count_due-answer may now (Some a) s is =
      let at = first_due-is_due 0 s.switches a is in
      let within = there s at.0 a.0 at.2 in
      count-answer may now a.1 s (omega (arith, within, at.1))

  fire-answer : enter → (now : ℕ) (s : BallState) → IsAnswer enter s (fire d now s)
  fire-answer may now s = search (rules, cond_both, time_out-answer, count_due-answer)

  -- ---- acts

  -- it is told that the ball that it has ejected has arrived
  confirmed-answer : (now : ℕ) (s : BallState) (target : BallTarget) → target ≡ Playfield → is_away s.eject ≡ true
      → IsAnswer enter s (after (confirmation target) (begin d now (end_eject s)))
  confirmed-answer now s target is away = search (rules, on_playfield)

  to_playfield : (now : ℕ) (eject : Eject) (s : BallState) → s.eject ≡ eject → d.target ≡ Playfield
      → IsAnswer enter s (confirm d now eject s)
  to_playfield now (Away a) s is target = confirmed-answer now s d.target target (ap is_away is)
  to_playfield now _ s is target = nothing s [] refl refl tt

  -- if it ejects balls to the playfield
  pub confirm-answer : (now : ℕ) (s : BallState) → d.target ≡ Playfield
      → IsAnswer enter s (ball_step d (calls.Act acts.Confirm) now s)
  confirm-answer now s target = to_playfield now s.eject s refl target

  pub requested-answer : (n now : ℕ) (s : BallState) → IsAnswer enter s (request d n now s)
  requested-answer n now s =
      let more : BallState = record s { wanted = min (s.wanted + n) 255 } in
      cond_both d.trough (begin d now more) (s, []) (IsAnswer enter s)
      (λ asked.
      let begun = begin-begun d now more in
      let next = begin d now more in
      nothing next.0 next.1 (same-balls s next.0 begun.same.switches) begun.same.away begun.quiet)
      (λ not. nothing s [] refl refl tt)

  noted-answer : (i : ℕ) (active : Bool) (now : ℕ) (s : BallState)
      → IsAnswer enter s (switch_level d i active now s, [])
  noted-answer i active now s =
      cond_both (nat_lt i d.switches) (set_switch i (note_level d active now (switch_at s i)) s) s
      (λ t. IsAnswer enter s (t, []))
      (λ has. nothing (set_switch i (note_level d active now (switch_at s i)) s) []
      (same_count (cases_lt i (length s.switches))) refl tt)
      (λ not. nothing s [] refl refl tt)
    where
      same_count : (i < length s.switches) ⊎ (length s.switches ≤ i)
          → balls_in (set_switch i (note_level d active now (switch_at s i)) s) ≡ balls_in s
      same_count (inl within) =
          let sums = sum_by-set (λ (b : BallSwitch). cond b.counted 1 0) s.switches i
          (note_level d active now (switch_at s i)) empty within in
          omega (arith, sums)
      same_count (inr past) = ap (count_by (λ b. b.counted))
          (set_past s.switches i (note_level d active now (switch_at s i)) past)

  -- ---- steps

  act-answer : (act : Act) (now : ℕ) (s : BallState) → IsUsual (calls.Act act) → IsAnswer enter s (act_step d act now s)
  act-answer (acts.SwitchOn i) now s usual = noted-answer i true now s
  act-answer (acts.SwitchOff i) now s usual = noted-answer i false now s
  act-answer acts.Confirm now s usual = absurd usual
  act-answer (acts.Request n) now s usual = requested-answer n now s
  act-answer _ now s usual = nothing s [] refl refl tt

  pub step-answer : enter → (call : Call) (now : ℕ) (s : BallState) → IsUsual call
      → IsAnswer enter s (ball_step d call now s)
  step-answer may calls.ModeStart now s usual = nothing s [] refl refl tt
  step-answer may calls.ModeStop now s usual = absurd usual
  step-answer may calls.Fire now s usual = fire-answer may now s
  step-answer may (calls.Act act) now s usual = act-answer act now s usual

module _ (d : BallSettings) where
  -- ---- confirmed in a device

  by_eject : (now : ℕ) (eject : Eject) (s : BallState) (r : RowId) → s.eject ≡ eject → is_away s.eject ≡ true
      → d.target ≡ Device r
      → IsConfirmed s (confirm d now eject s)
  by_eject now eject s r is away target = search rules

  pub step-confirmed : (now : ℕ) (s : BallState) (r : RowId) → is_away s.eject ≡ true → d.target ≡ Device r
      → IsConfirmed s (ball_step d (calls.Act acts.Confirm) now s)
  step-confirmed now s r away target = by_eject now s.eject s r refl away target
