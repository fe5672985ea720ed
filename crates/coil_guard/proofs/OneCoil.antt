-- One coil: after each command its state says what the sent commands say of it.
use Rattle.std.proofs.Common.{rules, ◌≡◌, ◌⊎◌, ℕ, ◌+◌, ◌*◌, ◌<◌, ◌≤◌, ◌==◌, zero, suc, true, false, not, ◌&&◌, ◌||◌}
use Rattle.std.proofs.Common.{Option, Some, None, is_some, List, [], ◌∷◌, ◌++◌, nat_le, nat_lt, refl, ap, ap₂, sym, ◌∙◌}
use Rattle.std.proofs.{Common.{inl, inr, arith}, Math.Bool.or-false}
use Rattle.std.proofs.lemmas.Bool.{false≢true, not-true, ltb-true, leb-true, le-ltb, le-leb, eq-eqb, cases_lt}
use Rattle.std.proofs.lemmas.Bool.{and_parts, and_from, and_left, and_right, or_cases, or_from, or_right}
use Rattle.plan_tables.specs.declared.entries.{Owner.Owner, CoilId.CoilId, CoilLimits.CoilLimits}
use Rattle.coil_guard.specs.{declared.state.CoilState.CoilState, Limits.{is_pulse_within, is_hold_within}}
use Rattle.coil_guard.specs.{Owners.is_holder, Follows.{IsApart, IsFollowed}}
use Rattle.coil_guard.specs.CoilStep.{off, is_on_at, takes_pulse, pulse_coil, takes_enable, enabled, disable_coil}
use Rattle.coil_guard.specs.SentCommands.{Sending, is_to, makes_rest, begins_on, ends_on, begins_hold, begins_hold_for}
use Rattle.coil_guard.specs.SentCommands.{ends_hold, is_on, is_held, is_resting, IsOnThroughout}
use Rattle.coil_guard.specs.Calls.{pulse_sent, enable_sent, disable_sent}
use Rattle.coil_guard.proofs.Lasting.{lasts-push, lasts-begun, lasts-kept, lasts-ended, any-push, lt-either}

not-owner : (owner : Owner) (o : Option Owner) → is_some o ≡ false → is_holder owner o ≡ false
not-owner owner o free = search rules

-- ---- nothing has been sent

pub followed-off : (coil : CoilId) (limits : CoilLimits) → IsFollowed coil limits [] (off limits) 0
followed-off coil limits = search rules

-- ---- a command is sent now

module _ (coil : CoilId) (limits : CoilLimits) (sent : List Sending) (c : CoilState) (moment now : ℕ)
    (forward : moment ≤ now) (f : IsFollowed coil limits sent c moment) where
  own : (coil.0 == coil.0) ≡ true
  own = eq-eqb coil.0 coil.0 refl

  -- Time has passed.
  pub followed-later : IsFollowed coil limits sent c now
  followed-later =
      record {
        limits_are = f.limits_are;
        on = λ later h. f.on later (omega arith);
        holding = f.holding;
        held_for = f.held_for;
        resting = f.resting;
        ends = f.ends;
        apart = f.apart;
      }

  -- A command is sent to another coil.
  module _ (s : Sending) (other : is_to coil s.command ≡ false) where
    on-other : (t : ℕ) → is_on (sent ++ s ∷ []) coil t ≡ is_on sent coil t
    on-other t = lasts-kept (begins_on coil t) (ends_on coil t) sent s (and_left (is_to coil s.command) _ other)
        (and_left (is_to coil s.command) _ other)

    pub followed-other : IsFollowed coil limits (sent ++ s ∷ []) c now
    followed-other = record {
      limits_are = f.limits_are;
      on = λ later h. on-other later ∙ f.on later (omega arith);
      holding = lasts-kept (begins_hold coil) (ends_hold coil) sent s (and_left (is_to coil s.command) _ other)
          (and_left (is_to coil s.command) _ other) ∙ f.holding;
      held_for = λ owner. lasts-kept (begins_hold_for owner coil) (ends_hold coil) sent s
          (and_left (is_to coil s.command) _ other) (and_left (is_to coil s.command) _ other) ∙ f.held_for owner;
      resting = λ t. any-push (λ p. is_to coil p.command && makes_rest t p.at p.command) sent s false
          (and_left (is_to coil s.command) _ other) ∙ (or-false (is_resting sent coil t) ∙ f.resting t);
      ends = f.ends;
      apart = λ barred. record {
        before = λ t is. (f.apart barred).before t (sym (on-other t) ∙ is);
        runs = λ first count all. (f.apart barred).runs first count (λ t from to. sym (on-other t) ∙ all t from to);
      };
    }

  -- A pulse is sent.
  module _ (ms power : ℕ) (taken : takes_pulse ms power now c ≡ true) where
    free : is_some c.holder ≡ false
    free = not-true (is_some c.holder) (and_parts (not (is_some c.holder))
        (nat_le c.ready now && is_pulse_within c.limits ms power) taken).0

    ready_within : (nat_le c.ready now && is_pulse_within c.limits ms power) ≡ true
    ready_within = (and_parts (not (is_some c.holder)) (nat_le c.ready now && is_pulse_within c.limits ms power)
        taken).1

    ready : c.ready ≤ now
    ready = leb-true c.ready now (and_parts (nat_le c.ready now) (is_pulse_within c.limits ms power) ready_within).0

    within : is_pulse_within c.limits ms power ≡ true
    within = (and_parts (nat_le c.ready now) (is_pulse_within c.limits ms power) ready_within).1

    pub some_ms : 1 ≤ ms
    some_ms = leb-true 1 ms (and_parts (nat_le 1 ms)
        (nat_le ms c.limits.max_pulse_ms && nat_le power c.limits.max_pulse_power) within).0

    pub short : ms ≤ limits.max_pulse_ms
    short = search rules

    pub weak : power ≤ limits.max_pulse_power
    weak = search rules

    -- It adds its own moments to those at which the coil is on.
    on-pulsed : (t : ℕ) → is_on (sent ++ pulse_sent coil ms power now ∷ []) coil t
        ≡ (is_on sent coil t || (nat_le now t && nat_lt t (now + ms)))
    on-pulsed t = search (rules, lasts-begun, nat_le, nat_lt, own, and_right)

    -- From now on only these are left, since an older pulse has ended.
    on-after : (later : ℕ) → now ≤ later → is_on (sent ++ pulse_sent coil ms power now ∷ []) coil later
        ≡ is_on_at later (pulse_coil ms now c)
    on-after later h =
        let past = f.ends in
        let was : is_on sent coil later ≡ false = f.on later (omega arith)
        ∙ or_from (nat_lt later c.pulse_end) (is_some c.holder) (le-ltb later c.pulse_end (omega (arith, ready)))
        free in
        on-pulsed later ∙ (ap₂ (λ b l. b || (l && nat_lt later (now + ms))) was (le-leb now later h)
        ∙ sym (ap (λ b. nat_lt later (now + ms) || b) free ∙ or-false (nat_lt later (now + ms))))

    on-cases : (t : ℕ) → is_on (sent ++ pulse_sent coil ms power now ∷ []) coil t ≡ true
        → (is_on sent coil t ≡ true) ⊎ ((now ≤ t) × (t < now + ms))
    on-cases t is = search (rules, or_cases, nat_le, nat_lt, on-pulsed, and_parts, leb-true, ltb-true)

    module _ (a : IsApart coil limits sent c.ready) where
      before-pulsed : (t : ℕ) → is_on (sent ++ pulse_sent coil ms power now ∷ []) coil t ≡ true → t + 1 < now + 2 * ms
      before-pulsed t is =
          elim (on-cases t is) [
            | inl old ↦ let h = a.before t old in omega (arith, ready)
            | inr new ↦ let h = new.1 in omega (arith, some_ms)
          ]

      -- moments that are all before the pulse
      old-run : (first count : ℕ) → first + count < now
          → IsOnThroughout (sent ++ pulse_sent coil ms power now ∷ []) coil first count → count ≤ limits.max_pulse_ms
      old-run first count lt all =
          a.runs first count (λ t from to. elim (on-cases t (all t from to))
          [ inl old ↦ old | inr new ↦ let h = new.0 in absurd (omega arith) ])

      -- moments that are all within the pulse
      new-run : (first count : ℕ) → now ≤ first
          → IsOnThroughout (sent ++ pulse_sent coil ms power now ∷ []) coil first count → count ≤ limits.max_pulse_ms
      new-run first zero le all = omega arith
      new-run first (suc n) le all =
          elim (on-cases (first + n) (all (first + n) (omega arith) (omega arith))) [
            | inl old ↦ let h = a.before (first + n) old in absurd (omega (arith, ready))
            | inr new ↦ let h = new.1 in omega (arith, short)
          ]

      -- None has moments of both kinds: the moment before the pulse is between them, and the coil is off then.
      joined-run : (first count before : ℕ) → before + 1 ≡ now → first ≤ before → before < first + count
          → IsOnThroughout (sent ++ pulse_sent coil ms power now ∷ []) coil first count → ⊥
      joined-run first count before is from to all =
          elim (on-cases before (all before from to)) [
            | inl old ↦ let h = a.before before old in omega (arith, ready)
            | inr new ↦ let h = new.0 in omega arith
          ]

      runs-pulsed : (first count : ℕ) → IsOnThroughout (sent ++ pulse_sent coil ms power now ∷ []) coil first count
          → count ≤ limits.max_pulse_ms
      runs-pulsed first count all =
          elim (cases_lt first now) [
            | inr from ↦ new-run first count from all
            | inl earlier ↦
                elim (cases_lt (first + count) now) [
                  | inl past ↦ old-run first count past all
                  | inr reaches ↦ absurd (joined-at now earlier reaches refl)
                ]
          ]
        where
          joined-at : (n : ℕ) → first < n → n ≤ first + count → n ≡ now → ⊥
          joined-at zero earlier reaches is = omega arith
          joined-at (suc before) earlier reaches is =
              joined-run first count before (omega arith) (omega arith) (omega arith) all

    pub followed-pulse : IsFollowed coil limits (sent ++ pulse_sent coil ms power now ∷ []) (pulse_coil ms now c) now
    followed-pulse = record {
      limits_are = f.limits_are;
      on = on-after;
      holding = lasts-kept (begins_hold coil) (ends_hold coil) sent (pulse_sent coil ms power now)
          (and_right (coil.0 == coil.0) false refl) (and_right (coil.0 == coil.0) false refl) ∙ f.holding;
      held_for = λ owner. lasts-kept (begins_hold_for owner coil) (ends_hold coil) sent (pulse_sent coil ms power now)
          (and_right (coil.0 == coil.0) false refl) (and_right (coil.0 == coil.0) false refl) ∙ f.held_for owner;
      resting = λ t.
          any-push (λ s. is_to coil s.command && makes_rest t s.at s.command) sent (pulse_sent coil ms power now)
          (nat_lt t (now + 2 * ms)) (ap (λ b. b && nat_lt t (now + 2 * ms)) own)
          ∙ (ap (λ b. b || nat_lt t (now + 2 * ms)) (f.resting t)
          ∙ lt-either t c.ready (now + 2 * ms) (omega (arith, ready)));
      ends = omega arith;
      apart = λ barred. record { before = before-pulsed (f.apart barred); runs = runs-pulsed (f.apart barred) };
    }

  -- An enable is sent.
  module _ (power : ℕ) (owner : Owner) (taken : takes_enable power c ≡ true) where
    free-to : is_some c.holder ≡ false
    free-to = not-true (is_some c.holder) (and_parts (not (is_some c.holder)) (is_hold_within c.limits power) taken).0

    hold : is_hold_within c.limits power ≡ true
    hold = (and_parts (not (is_some c.holder)) (is_hold_within c.limits power) taken).1

    pub permitted : limits.may_hold ≡ true
    permitted = sym (ap (λ (l : CoilLimits). l.may_hold) f.limits_are)
        ∙ (and_parts c.limits.may_hold (nat_le power c.limits.max_hold_power) hold).0

    pub weak_hold : power ≤ limits.max_hold_power
    weak_hold = search rules

    pub followed-enable : IsFollowed coil limits (sent ++ enable_sent coil power owner now ∷ []) (enabled owner c) now
    followed-enable = record {
      limits_are = f.limits_are;
      on = λ later h.
          lasts-begun (begins_on coil later) (ends_on coil later) sent (enable_sent coil power owner now) true
          (and_from (coil.0 == coil.0) (nat_le now later) own (le-leb now later h))
          (and_right (coil.0 == coil.0) false refl)
          ∙ (or_right (is_on sent coil later) true refl ∙ sym (or_right (nat_lt later c.pulse_end) true refl));
      holding = lasts-begun (begins_hold coil) (ends_hold coil) sent (enable_sent coil power owner now) true
          (and_from (coil.0 == coil.0) true own refl) (and_right (coil.0 == coil.0) false refl)
          ∙ or_right (is_held sent coil) true refl;
      held_for = λ other.
          lasts-begun (begins_hold_for other coil) (ends_hold coil) sent (enable_sent coil power owner now)
          (is_holder other (Some owner)) (ap (λ b. b && is_holder other (Some owner)) own)
          (and_right (coil.0 == coil.0) false refl)
          ∙ ap (λ b. b || is_holder other (Some owner)) (f.held_for other ∙ not-owner other c.holder free-to);
      resting = λ t. any-push (λ s. is_to coil s.command && makes_rest t s.at s.command) sent
          (enable_sent coil power owner now) false (and_right (coil.0 == coil.0) false refl)
          ∙ (or-false (is_resting sent coil t) ∙ f.resting t);
      ends = f.ends;
      apart = λ barred. absurd (false≢true (sym barred ∙ permitted));
    }

  -- A disable is sent. It only takes moments away.
  on-disabled : (t : ℕ) → is_on (sent ++ disable_sent coil now ∷ []) coil t ≡ true → is_on sent coil t ≡ true
  on-disabled t is = search (rules, or_cases, lasts-push, and_parts, and_right)

  pub followed-disable : IsFollowed coil limits (sent ++ disable_sent coil now ∷ []) (disable_coil c) now
  followed-disable = record {
    limits_are = f.limits_are;
    on = λ later h.
        lasts-ended (begins_on coil later) (ends_on coil later) sent (disable_sent coil now)
        (and_right (coil.0 == coil.0) false refl)
        (and_from (coil.0 == coil.0) (nat_le now later) own (le-leb now later h))
        ∙ sym (or_from (nat_lt later 0) false (le-ltb later 0 (omega arith)) refl);
    holding = lasts-ended (begins_hold coil) (ends_hold coil) sent (disable_sent coil now)
        (and_right (coil.0 == coil.0) false refl) (and_from (coil.0 == coil.0) true own refl);
    held_for = λ owner. lasts-ended (begins_hold_for owner coil) (ends_hold coil) sent (disable_sent coil now)
        (and_right (coil.0 == coil.0) (false && is_holder owner None) refl) (and_from (coil.0 == coil.0) true own refl);
    resting = λ t. any-push (λ s. is_to coil s.command && makes_rest t s.at s.command) sent (disable_sent coil now)
        false (and_right (coil.0 == coil.0) false refl) ∙ (or-false (is_resting sent coil t) ∙ f.resting t);
    ends = omega arith;
    apart = λ barred. record {
      before = λ t is. (f.apart barred).before t (on-disabled t is);
      runs = λ first count all. (f.apart barred).runs first count (λ t from to. on-disabled t (all t from to));
    };
  }
