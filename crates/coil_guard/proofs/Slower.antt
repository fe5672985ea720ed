-- Commands that are carried out later keep the limits.
use Rattle.std.proofs.Common.{rules, ◌≡◌, ℕ, ◌+◌, ◌-◌, ◌*◌, ◌<◌, ◌≤◌, ◌==◌, Bool, true, false, not, ◌&&◌, ◌||◌, Option}
use Rattle.std.proofs.Common.{Some, None, is_some, List, [], ◌∷◌, ◌++◌, length, nat_le, nat_lt, refl, ap, ap₂, sym}
use Rattle.std.proofs.Common.{subst, ◌∙◌, inl, inr, append-nil, append_assoc, arith}
use Rattle.std.{specs.List.list_any, proofs.lemmas.Bool.{and_parts, and_from, or_parts}}
use Rattle.std.proofs.lemmas.Bool.{false≢true, not-true, ltb-false, le-leb, eq-eqb, ne_eqb, cases_lt, cases_eq}
use Rattle.plan_tables.specs.declared.entries.{Owner.Owner, CoilId.CoilId, CoilLimits.CoilLimits}
use Rattle.coil_guard.specs.declared.{command.Command.Command, state.CoilState.CoilState}
use Rattle.coil_guard.specs.{Lowest.lowest, Coils.all_off, Follows.{IsFollowed, Follows}}
use Rattle.coil_guard.specs.{Laws.sent_from_new, SentCommands.IsOnThroughout}
use Rattle.coil_guard.specs.Limits.{limits_at, is_pulse_within, is_hold_within}
use Rattle.coil_guard.specs.CoilStep.{off, takes_pulse, pulse_coil, disable_coil}
use Rattle.coil_guard.specs.SentCommands.{Sending, is_to, makes_rest, is_held, is_held_for, is_on, is_resting}
use Rattle.coil_guard.specs.Calls.{CoilCall, Pulse, Enable, Disable, Release, moment_of, after_call, sent_by}
use Rattle.coil_guard.specs.Calls.{sent_by_calls, AreInOrder, pulse_sent, enable_sent, disable_sent, sent_if}
use Rattle.coil_guard.specs.Calls.{disables_sent, due_by, is_pulse_due, is_enable_due}
use Rattle.coil_guard.specs.Slower.{IsSameCommand, KeepTheirDistance, AreOnSlowerClock, LimitsHoldOnSlowerClock}
use Rattle.coil_guard.proofs.{Lasting.any-push, Following.{new_follows, calls_follow, followers_send_what_is_due}}
use Rattle.coil_guard.proofs.OneCoil.{followed-off, followed-later, followed-other, followed-pulse, followed-disable}

-- What is sent to a coil that may not be held, after these: a pulse at which the coil does not rest, or a disable. Or
-- it is sent to another coil.
data IsStep (coil : CoilId) (limits : CoilLimits) (earlier : List Sending) (p : Sending) : Type 0 where
  pulse : (ms power : ℕ) → p ≡ pulse_sent coil ms power p.at → is_resting earlier coil p.at ≡ false
      → is_pulse_within limits ms power ≡ true → IsStep coil limits earlier p
  disable : p ≡ disable_sent coil p.at → IsStep coil limits earlier p
  other : is_to coil p.command ≡ false → IsStep coil limits earlier p

-- So is each of these, one after another, and their moments do not go back.
abbrev AreSteps : CoilId → CoilLimits → (at : ℕ) → (earlier : List Sending) → List Sending → Type 0
AreSteps coil limits at earlier [] = Unit {0}
AreSteps coil limits at earlier (p ∷ more) =
    (at ≤ p.at) × IsStep coil limits earlier p × AreSteps coil limits p.at (earlier ++ p ∷ []) more

-- ---- what a guard sends

module _ (coil : CoilId) (limits : CoilLimits) where
  steps-later : (at now : ℕ) (earlier sent : List Sending) → at ≤ now → AreSteps coil limits now earlier sent
      → AreSteps coil limits at earlier sent
  steps-later at now earlier [] le h = tt
  steps-later at now earlier (p ∷ more) le (from, step, rest) = (omega (arith, le, from), step, rest)

  steps-if : (at : ℕ) (earlier rest : List Sending) (b : Bool) (p : Sending) → at ≤ p.at
      → (b ≡ true → IsStep coil limits earlier p) → AreSteps coil limits p.at (earlier ++ sent_if b p) rest
      → AreSteps coil limits at earlier (sent_if b p ++ rest)
  steps-if at earlier rest true p le step h = (le, step refl, h)
  steps-if at earlier rest false p le step h =
      steps-later at p.at earlier rest le (subst (λ (e : List Sending). AreSteps coil limits p.at e rest)
      (append-nil earlier) h)

same-coil : (d coil : CoilId) → d.0 ≡ coil.0 → d ≡ coil
same-coil d coil is = ap numbered is
  where
    numbered : ℕ → CoilId
    numbered n = record { 0 = n }

-- a disable is a step of every coil
disable-step : (coil : CoilId) (limits : CoilLimits) (earlier : List Sending) (d : CoilId) (now : ℕ)
    → IsStep coil limits earlier (disable_sent d now)
disable-step coil limits earlier d now =
    elim (cases_eq d.0 coil.0) [
      | inl same ↦ disable (ap (λ (k : CoilId). disable_sent k now) (same-coil d coil same))
      | inr apart ↦ other (ne_eqb d.0 coil.0 apart)
    ]

module _ (limits : List CoilLimits) (coil : CoilId) (barred : (limits_at limits coil).may_hold ≡ false) where
  abbrev own : CoilLimits
  own = limits_at limits coil

  pulse-step : (sent : List Sending) (d : CoilId) (ms power now : ℕ) → is_pulse_due limits sent d ms power now ≡ true
      → IsStep coil own sent (pulse_sent d ms power now)
  pulse-step sent d ms power now due =
      elim (cases_eq d.0 coil.0) [
        | inl same ↦
            let is = same-coil d coil same in
            let here : is_pulse_due limits sent coil ms power now ≡ true =
            subst (λ (k : CoilId). is_pulse_due limits sent k ms power now ≡ true) is due in
            let rest = (and_parts (not (is_held sent coil))
            (not (is_resting sent coil now) && is_pulse_within own ms power) here).1 in
            let two = and_parts (not (is_resting sent coil now)) (is_pulse_within own ms power) rest in
            pulse ms power (ap (λ (k : CoilId). pulse_sent k ms power now) is)
            (not-true (is_resting sent coil now) two.0) two.1
        | inr apart ↦ other (ne_eqb d.0 coil.0 apart)
      ]

  enable-step : (sent : List Sending) (d : CoilId) (power : ℕ) (owner : Owner) (now : ℕ)
      → is_enable_due limits sent d power ≡ true → IsStep coil own sent (enable_sent d power owner now)
  enable-step sent d power owner now due =
      elim (cases_eq d.0 coil.0) [
        | inl same ↦
            let here : is_enable_due limits sent coil power ≡ true =
            subst (λ (k : CoilId). is_enable_due limits sent k power ≡ true) (same-coil d coil same) due in
            let hold = (and_parts (not (is_held sent coil)) (is_hold_within own power) here).1 in
            absurd (false≢true (sym barred ∙ (and_parts own.may_hold (nat_le power own.max_hold_power) hold).0))
        | inr apart ↦ other (ne_eqb d.0 coil.0 apart)
      ]

  steps-off : (at now : ℕ) (sent rest : List Sending) (o : Option CoilId) → at ≤ now
      → AreSteps coil own now (sent ++ disables_sent o now) rest
      → AreSteps coil own at sent (disables_sent o now ++ rest)
  steps-off at now sent rest None le h = steps-later coil own at now sent rest le
      (subst (λ (e : List Sending). AreSteps coil own now e rest) (append-nil sent) h)
  steps-off at now sent rest (Some d) le h = (le, disable-step coil own sent d now, h)

  steps-due : (at : ℕ) (sent rest : List Sending) (call : CoilCall) → at ≤ moment_of call
      → AreSteps coil own (moment_of call) (sent ++ due_by limits sent call) rest
      → AreSteps coil own at sent (due_by limits sent call ++ rest)
  steps-due at sent rest (Pulse d ms power now) le h =
      steps-if coil own at sent rest (is_pulse_due limits sent d ms power now) (pulse_sent d ms power now) le
      (pulse-step sent d ms power now) h
  steps-due at sent rest (Enable d power owner now) le h =
      steps-if coil own at sent rest (is_enable_due limits sent d power) (enable_sent d power owner now) le
      (enable-step sent d power owner now) h
  steps-due at sent rest (Disable d now) le h =
      steps-if coil own at sent rest (is_on sent d now) (disable_sent d now) le (λ _. disable-step coil own sent d now)
      h
  steps-due at sent rest (Release owner now) le h =
      steps-off at now sent rest (lowest (λ k. is_held_for sent owner k) (length limits)) le h

  steps-calls : (calls : List CoilCall) (sent : List Sending) (s : List CoilState) (moment : ℕ)
      → AreInOrder moment calls → Follows limits sent s moment → AreSteps coil own moment sent (sent_by_calls calls s)
  steps-calls [] sent s moment order f = tt
  steps-calls (call ∷ calls) sent s moment (forward, order) f =
      let after = after_call call s in
      let due = followers_send_what_is_due limits sent s moment call forward f in
      let next = steps-calls calls (sent ++ sent_by call s) after (moment_of call) order
      (calls_follow limits sent s moment call forward f) in
      subst (λ (p : List Sending). AreSteps coil own moment sent (p ++ sent_by_calls calls after)) (sym due)
      (steps-due moment sent (sent_by_calls calls after) call forward
      (subst (λ (p : List Sending). AreSteps coil own (moment_of call) (sent ++ p) (sent_by_calls calls after)) due
      next))

-- ---- what is carried out

same-sending : (q : Sending) (command : Command) (owner : Option Owner) → q.command ≡ command → q.owner ≡ owner
    → q ≡ record { at = q.at; command = command; owner = owner }
same-sending q command owner is whose = ap₂ (λ (c : Command) (o : Option Owner). sending c o) is whose
  where
    sending : Command → Option Owner → Sending
    sending c o = record { at = q.at; command = c; owner = o }

module _ (coil : CoilId) (limits : CoilLimits) (barred : limits.may_hold ≡ false) where
  -- By what was carried out, the state of the coil is this. It is ready, once it does not rest by what was sent.
  record IsBehind (earlier done : List Sending) (at late : ℕ) : Type 0 where
    state : CoilState
    followed : IsFollowed coil limits done state late
    free : is_some state.holder ≡ false
    ready : (t : ℕ) → at ≤ t → is_resting earlier coil t ≡ false → state.ready ≤ late + (t - at)

  resting-push : (earlier : List Sending) (p : Sending) (t : ℕ)
      → is_resting (earlier ++ p ∷ []) coil t
      ≡ (is_resting earlier coil t || (is_to coil p.command && makes_rest t p.at p.command))
  resting-push earlier p t = any-push (λ s. is_to coil s.command && makes_rest t s.at s.command) earlier p
      (is_to coil p.command && makes_rest t p.at p.command) refl

  module _ (earlier done : List Sending) (at late : ℕ) (h : IsBehind earlier done at late) (p q : Sending)
      (same : IsSameCommand p q) (from : at ≤ p.at) (far : late + (p.at - at) ≤ q.at) where
    old-ready : (t : ℕ) → p.at ≤ t → is_resting (earlier ++ p ∷ []) coil t ≡ false → h.state.ready ≤ q.at + (t - p.at)
    old-ready t le none =
        let was = (or_parts (is_resting earlier coil t) (is_to coil p.command && makes_rest t p.at p.command)
        (sym (resting-push earlier p t) ∙ none)).0 in
        let k = h.ready t (omega (arith, from, le)) was in
        omega (arith, from, far, le, k)

    behind-pulse : (ms power : ℕ) → p ≡ pulse_sent coil ms power p.at → is_resting earlier coil p.at ≡ false
        → is_pulse_within limits ms power ≡ true → IsBehind (earlier ++ p ∷ []) (done ++ q ∷ []) p.at q.at
    behind-pulse ms power is quiet within =
        let early = h.ready p.at from quiet in
        let c = h.state in
        let taken : takes_pulse ms power q.at c ≡ true =
        and_from (not (is_some c.holder)) (nat_le c.ready q.at && is_pulse_within c.limits ms power) (ap not h.free)
        (and_from (nat_le c.ready q.at) (is_pulse_within c.limits ms power)
        (le-leb c.ready q.at (omega (arith, early, far)))
        (ap (λ (l : CoilLimits). is_pulse_within l ms power) h.followed.limits_are ∙ within)) in
        let command : p.command ≡ (pulse_sent coil ms power p.at).command = ap (λ (x : Sending). x.command) is in
        let carried : q ≡ pulse_sent coil ms power q.at =
        same-sending q _ _ (same.command ∙ command) (same.owner ∙ ap (λ (x : Sending). x.owner) is) in
        record {
          state = pulse_coil ms q.at c;
          followed = subst (λ (x : Sending). IsFollowed coil limits (done ++ x ∷ []) (pulse_coil ms q.at c) q.at)
              (sym carried) (followed-pulse coil limits done c late q.at (omega (arith, far)) h.followed ms power
              taken);
          free = h.free;
          ready = λ t le none.
              let own = (or_parts (is_resting earlier coil t) (is_to coil p.command && makes_rest t p.at p.command)
              (sym (resting-push earlier p t) ∙ none)).1 in
              let rests : (is_to coil (pulse_sent coil ms power p.at).command
              && makes_rest t p.at (pulse_sent coil ms power p.at).command)
              ≡ false = subst (λ (k : Command). (is_to coil k && makes_rest t p.at k) ≡ false) command own in
              let over : nat_lt t (p.at + 2 * ms) ≡ false =
              sym (ap (λ b. b && nat_lt t (p.at + 2 * ms)) (eq-eqb coil.0 coil.0 refl)) ∙ rests in
              omega (arith, le, ltb-false t (p.at + 2 * ms) over);
        }

    behind-disable : p ≡ disable_sent coil p.at → IsBehind (earlier ++ p ∷ []) (done ++ q ∷ []) p.at q.at
    behind-disable is =
        let carried : q ≡ disable_sent coil q.at =
        same-sending q _ _ (same.command ∙ ap (λ (x : Sending). x.command) is)
        (same.owner ∙ ap (λ (x : Sending). x.owner) is) in
        record {
          state = disable_coil h.state;
          followed = subst (λ (x : Sending). IsFollowed coil limits (done ++ x ∷ []) (disable_coil h.state) q.at)
              (sym carried) (followed-disable coil limits done h.state late q.at (omega (arith, far)) h.followed);
          free = refl;
          ready = old-ready;
        }

    behind-other : is_to coil p.command ≡ false → IsBehind (earlier ++ p ∷ []) (done ++ q ∷ []) p.at q.at
    behind-other apart = record {
      state = h.state;
      followed = followed-other coil limits done h.state late q.at (omega (arith, far)) h.followed q
          (ap (is_to coil) same.command ∙ apart);
      free = h.free;
      ready = old-ready;
    }

    behind-step : IsStep coil limits earlier p → IsBehind (earlier ++ p ∷ []) (done ++ q ∷ []) p.at q.at
    behind-step (pulse ms power is quiet within) = behind-pulse ms power is quiet within
    behind-step (disable is) = behind-disable is
    behind-step (other apart) = behind-other apart

  slower-runs : (sent carried earlier done : List Sending) (at late : ℕ) → AreSteps coil limits at earlier sent
      → KeepTheirDistance at late sent carried → IsBehind earlier done at late
      → (first count : ℕ) → IsOnThroughout (done ++ carried) coil first count → count ≤ limits.max_pulse_ms
  slower-runs [] [] earlier done at late steps apart h first count on =
      (h.followed.apart barred).runs first count
      (subst (λ (l : List Sending). IsOnThroughout l coil first count) (append-nil done) on)
  slower-runs [] (q ∷ carried) earlier done at late steps apart h first count on = absurd apart
  slower-runs (p ∷ sent) [] earlier done at late steps apart h first count on = absurd apart
  slower-runs (p ∷ sent) (q ∷ carried) earlier done at late (from, step, steps) (same, far, apart) h first count on =
      slower-runs sent carried (earlier ++ p ∷ []) (done ++ q ∷ []) p.at q.at steps apart
      (behind-step earlier done at late h p q same from far step) first count
      (subst (λ (l : List Sending). IsOnThroughout l coil first count) (sym (append_assoc done (q ∷ []) carried)) on)

  behind-first : (at late : ℕ) → IsBehind [] [] at late
  behind-first at late = record {
    state = off limits;
    followed = followed-later coil limits [] (off limits) 0 late (omega arith) (followed-off coil limits);
    free = refl;
    ready = λ t le none. omega arith;
  }

  slower-all : (sent carried : List Sending) → AreSteps coil limits 0 [] sent → AreOnSlowerClock sent carried
      → (first count : ℕ) → IsOnThroughout carried coil first count → count ≤ limits.max_pulse_ms
  slower-all [] carried steps is first count on =
      (h.followed.apart barred).runs first count (subst (λ (l : List Sending). IsOnThroughout l coil first count) is on)
    where
      h : IsBehind [] [] 0 0
      h = behind-first 0 0
  slower-all (p ∷ sent) [] steps is first count on = absurd is
  slower-all (p ∷ sent) (q ∷ carried) (from, step, steps) (same, apart) first count on =
      slower-runs (p ∷ sent) (q ∷ carried) [] [] p.at q.at (omega arith, step, steps) (same, omega arith, apart)
      (behind-first p.at q.at) first count on

pub limits_hold_on_slower_clock : LimitsHoldOnSlowerClock
limits_hold_on_slower_clock limits calls order carried is coil barred first count on =
    slower-all coil (limits_at limits coil) barred (sent_from_new limits calls) carried
    (steps-calls limits coil barred calls [] (all_off limits) 0 order (new_follows limits)) is first count on
