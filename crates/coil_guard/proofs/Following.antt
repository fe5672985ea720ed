-- Each call keeps what a guard's state and the sent commands have to do with each other.
use Rattle.std.proofs.Common.{rules, ◌≡◌, ℕ, ◌<◌, ◌≤◌, ◌==◌, Bool, true, false, if◌then◌else◌, Option, Some, None, List}
use Rattle.std.proofs.Common.{[], ◌∷◌, ◌++◌, length, map, refl, ap, sym, subst, ◌∙◌, inl, inr, append-nil, arith}
use Rattle.std.proofs.lemmas.{Bool.{false≢true, cases_lt, cases_eq, ne_eqb}, List.Elements.{All-nil, All-push}}
use Rattle.std.proofs.lemmas.List.{length-set, length-map, get_or_past, get_or-map, get_or-set_same, get_or-set_other}
use Rattle.plan_tables.specs.declared.entries.{Owner.Owner, CoilId.CoilId, CoilLimits.CoilLimits}
use Rattle.coil_guard.specs.{declared.state.CoilState.CoilState, Lowest.IsLowest, CoilStep.disable_coil}
use Rattle.coil_guard.specs.Limits.{no_limits, limits_at, IsWithin}
use Rattle.coil_guard.specs.CoilStep.{off, is_on_at, is_held_by, takes_pulse, pulse_coil, takes_enable, enabled}
use Rattle.coil_guard.specs.Coils.{coil_at, set_coil, all_off, next_held, put_off, next_on}
use Rattle.coil_guard.specs.SentCommands.{Sending, coil_of, is_to, is_on, is_held_for}
use Rattle.coil_guard.specs.Calls.{CoilCall, Pulse, Enable, Disable, Release, moment_of, after_call, sent_by}
use Rattle.coil_guard.specs.Calls.{pulse_sent, enable_sent, disable_sent, sent_if, disables_sent, due_by}
use Rattle.coil_guard.specs.Follows.{IsFollowed, Follows, NewFollows, CallsFollow, LaterFollows, FollowersSendWhatIsDue}
use Rattle.coil_guard.proofs.OneCoil.{followed-off, followed-later, followed-other, some_ms, short, weak}
use Rattle.coil_guard.proofs.OneCoil.{followed-pulse, permitted, weak_hold, followed-enable, followed-disable}
use Rattle.coil_guard.proofs.Lowest.{lowest-same, lowest-within, lowest-by}

-- ---- a new guard

pub new_follows : NewFollows
new_follows limits = record {
  count = length-map limits off;
  within = All-nil (λ q. IsWithin limits q.command);
  each = λ coil. subst (λ (c : CoilState). IsFollowed coil (limits_at limits coil) [] c 0) (sym (off-at coil))
      (followed-off coil (limits_at limits coil));
}
  where
    off-at : (coil : CoilId) → coil_at (all_off limits) coil ≡ off (limits_at limits coil)
    off-at coil =
        elim (cases_lt coil.0 (length limits)) [
          | inl within ↦ get_or-map off limits coil.0 no_limits (off no_limits) within
          | inr past ↦
              let count = length-map limits off in
              get_or_past (map off limits) coil.0 (off no_limits) (omega arith)
              ∙ sym (ap off (get_or_past limits coil.0 no_limits past))
        ]

-- ---- if there is no coil, nothing is sent

is-there : (s : List CoilState) (coil : CoilId) (test : CoilState → Bool) → test (coil_at s coil) ≡ true
    → (test (off no_limits) ≡ true → ⊥) → coil.0 < length s
is-there s coil test taken never = search (rules, cases_lt, get_or_past)

pub never-pulsed : (ms power now : ℕ) → takes_pulse ms power now (off no_limits) ≡ true → ⊥
never-pulsed ms power now taken = search rules

pub never-enabled : (power : ℕ) → takes_enable power (off no_limits) ≡ true → ⊥
never-enabled power taken = false≢true taken

pub never-on : (now : ℕ) → is_on_at now (off no_limits) ≡ true → ⊥
never-on now taken = search rules

-- ---- what an answer says was sent, by the test that the answer was made of

abbrev tested : CoilCall → List CoilState → List Sending
tested (Pulse coil ms power now) s = sent_if (takes_pulse ms power now (coil_at s coil)) (pulse_sent coil ms power now)
tested (Enable coil power owner now) s = sent_if (takes_enable power (coil_at s coil))
    (enable_sent coil power owner now)
tested (Disable coil now) s = sent_if (is_on_at now (coil_at s coil)) (disable_sent coil now)
tested (Release owner now) s = disables_sent (next_held owner s) now

sent-tested : (call : CoilCall) (s : List CoilState) → sent_by call s ≡ tested call s
sent-tested call s = search rules

-- ---- a call

module _ (limits : List CoilLimits) (sent : List Sending) (s : List CoilState) (moment now : ℕ) (forward : moment ≤ now)
    (f : Follows limits sent s moment) where
  follows-later : Follows limits sent s now
  follows-later =
      record {
        count = f.count;
        within = f.within;
        each = λ coil. followed-later coil (limits_at limits coil) sent (coil_at s coil) moment now forward
            (f.each coil);
      }

  -- A command is sent to a coil, and the state of this coil is set.
  follows-set : (coil : CoilId) (c : CoilState) (p : Sending) → coil_of p.command ≡ coil → coil.0 < length s
      → IsWithin limits p.command
      → IsFollowed coil (limits_at limits coil) (sent ++ p ∷ []) c now
      → Follows limits (sent ++ p ∷ []) (set_coil coil c s) now
  follows-set coil c p to there within new = record {
    count = length-set s coil.0 c ∙ f.count;
    within = All-push (λ q. IsWithin limits q.command) sent p f.within within;
    each = λ other.
        elim (cases_eq other.0 coil.0) [
          | inl same ↦
              let is : coil ≡ other = ap (λ (n : ℕ). numbered n) (sym same) in
              subst (λ (d : CoilId). IsFollowed d (limits_at limits d) (sent ++ p ∷ []) (coil_at (set_coil coil c s) d)
              now) is
              (subst (λ (x : CoilState). IsFollowed coil (limits_at limits coil) (sent ++ p ∷ []) x now)
              (sym (get_or-set_same s coil.0 c (off no_limits) there)) new)
          | inr apart ↦
              let test : is_to other p.command ≡ false = ap (λ (d : CoilId). d.0 == other.0) to
              ∙ ne_eqb coil.0 other.0 (λ e. apart (sym e)) in
              subst (λ (x : CoilState). IsFollowed other (limits_at limits other) (sent ++ p ∷ []) x now)
              (sym (get_or-set_other s coil.0 other.0 c (off no_limits) apart))
              (followed-other other (limits_at limits other) sent (coil_at s other) moment now forward (f.each other) p
              test)
        ];
  }
    where
      numbered : ℕ → CoilId
      numbered n = record { 0 = n }

  -- Something is sent, or nothing happens.
  follows-if : (b : Bool) (p : Sending) (t : List CoilState) → (b ≡ true → Follows limits (sent ++ p ∷ []) t now)
      → Follows limits (sent ++ sent_if b p) (if b then t else s) now
  follows-if b p t taken = search rules

  follows-pulse : (coil : CoilId) (ms power : ℕ)
      → Follows limits (sent ++ tested (Pulse coil ms power now) s) (after_call (Pulse coil ms power now) s) now
  follows-pulse coil ms power =
      let c = coil_at s coil in
      follows-if (takes_pulse ms power now c) (pulse_sent coil ms power now) (set_coil coil (pulse_coil ms now c) s)
      (λ taken. follows-set coil (pulse_coil ms now c) (pulse_sent coil ms power now) refl
      (is-there s coil (λ x. takes_pulse ms power now x) taken (never-pulsed ms power now)) (
        some_ms coil (limits_at limits coil) sent c moment now forward (f.each coil) ms power taken,
        short coil (limits_at limits coil) sent c moment now forward (f.each coil) ms power taken,
        weak coil (limits_at limits coil) sent c moment now forward (f.each coil) ms power taken,
      )
      (followed-pulse coil (limits_at limits coil) sent c moment now forward (f.each coil) ms power taken))

  follows-enable : (coil : CoilId) (power : ℕ) (owner : Owner)
      → Follows limits (sent ++ tested (Enable coil power owner now) s) (after_call (Enable coil power owner now) s) now
  follows-enable coil power owner =
      let c = coil_at s coil in
      follows-if (takes_enable power c) (enable_sent coil power owner now) (set_coil coil (enabled owner c) s)
      (λ taken. follows-set coil (enabled owner c) (enable_sent coil power owner now) refl
      (is-there s coil (λ x. takes_enable power x) taken (never-enabled power)) (
        permitted coil (limits_at limits coil) sent c moment now forward (f.each coil) power owner taken,
        weak_hold coil (limits_at limits coil) sent c moment now forward (f.each coil) power owner taken,
      )
      (followed-enable coil (limits_at limits coil) sent c moment now forward (f.each coil) power owner taken))

  follows-off : (coil : CoilId) → coil.0 < length s
      → Follows limits (sent ++ disable_sent coil now ∷ []) (set_coil coil (disable_coil (coil_at s coil)) s) now
  follows-off coil there =
      follows-set coil (disable_coil (coil_at s coil)) (disable_sent coil now) refl there tt
      (followed-disable coil (limits_at limits coil) sent (coil_at s coil) moment now forward (f.each coil))

  follows-disable : (coil : CoilId) → Follows limits (sent ++ tested (Disable coil now) s)
      (after_call (Disable coil now) s) now
  follows-disable coil =
      let c = coil_at s coil in
      follows-if (is_on_at now c) (disable_sent coil now) (set_coil coil (disable_coil c) s)
      (λ taken. follows-off coil (is-there s coil (λ x. is_on_at now x) taken (never-on now)))

  follows-put_off : (o : Option CoilId) → ((d : CoilId) → o ≡ Some d → d.0 < length s)
      → Follows limits (sent ++ disables_sent o now) (put_off o s) now
  follows-put_off None within = subst (λ (ss : List Sending). Follows limits ss s now) (sym (append-nil sent))
      follows-later
  follows-put_off (Some coil) within = follows-off coil (within coil refl)

  follows-release : (owner : Owner) → Follows limits (sent ++ tested (Release owner now) s)
      (after_call (Release owner now) s) now
  follows-release owner = follows-put_off (next_held owner s)
      (λ d is. lowest-within (λ coil. is_held_by owner (coil_at s coil)) (length s) d is)

follows-tested : (limits : List CoilLimits) (sent : List Sending) (s : List CoilState) (moment : ℕ) (call : CoilCall)
    → moment ≤ moment_of call → Follows limits sent s moment
    → Follows limits (sent ++ tested call s) (after_call call s) (moment_of call)
follows-tested limits sent s moment (Pulse coil ms power now) forward f =
    follows-pulse limits sent s moment now forward f coil ms power
follows-tested limits sent s moment (Enable coil power owner now) forward f =
    follows-enable limits sent s moment now forward f coil power owner
follows-tested limits sent s moment (Disable coil now) forward f =
    follows-disable limits sent s moment now forward f coil
follows-tested limits sent s moment (Release owner now) forward f =
    follows-release limits sent s moment now forward f owner

pub calls_follow : CallsFollow
calls_follow limits sent s moment call forward f = search (rules, sent-tested, follows-tested)

pub later_follows : LaterFollows
later_follows limits sent s moment now forward f = follows-later limits sent s moment now forward f

-- ---- what follows

tested-due : (limits : List CoilLimits) (sent : List Sending) (s : List CoilState) (moment : ℕ) (call : CoilCall)
    → moment ≤ moment_of call → Follows limits sent s moment → tested call s ≡ due_by limits sent call
tested-due limits sent s moment call forward f = search (rules, lowest-same)

pub followers_send_what_is_due : FollowersSendWhatIsDue
followers_send_what_is_due limits sent s moment call forward f = sent-tested call s
    ∙ tested-due limits sent s moment call forward f

module _ (limits : List CoilLimits) (sent : List Sending) (s : List CoilState) (moment : ℕ)
    (f : Follows limits sent s moment) where
  pub next_on-lowest : (now : ℕ) → moment ≤ now → IsLowest (λ coil. is_on sent coil now) (length limits) (next_on now s)
  next_on-lowest now forward = search (rules, lowest-by)

  pub next_held-lowest : (owner : Owner) → IsLowest (λ coil. is_held_for sent owner coil) (length limits)
      (next_held owner s)
  next_held-lowest owner = search (rules, lowest-by)
