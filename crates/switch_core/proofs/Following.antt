-- Each step keeps to the accepted level of the raw changes so far.
use Rattle.std.proofs.Common.{rules, ◌≡◌, ◌≢◌, ℕ, ◌+◌, ◌<◌, ◌≤◌, ◌==◌, Bool, true, false, not, cond, ◌&&◌, Option, Some}
use Rattle.std.proofs.Common.{None, List, [], ◌∷◌, ◌++◌, length, nat_le, slice_index_or, refl, ap, sym, subst, ◌∙◌, inl}
use Rattle.std.proofs.{Common.{inr, append-nil, append_assoc, arith}, lemmas.List.{length-map, get_or-map}}
use Rattle.std.proofs.lemmas.Bool.{cases_Bool, cases_eq, cond-false, and_left, ne_eqb, eq-eqb}
use Rattle.plan_tables.specs.declared.entries.{SwitchId.SwitchId, SwitchKind.SwitchKind}
use Rattle.plan_tables.specs.PlanView.{PlanView, switch_at}
use Rattle.switch_core.specs.SwitchStep.{SwitchState, same_level, is_active, raw_at_rest, idle, accept_level}
use Rattle.switch_core.specs.SwitchStep.{await_level, change_level, fire_change}
use Rattle.switch_core.specs.Switches.{SwitchesView, no_kind, kind_at, state_at, set_state, due_of, all_idle}
use Rattle.switch_core.specs.Switches.{after_change, IsNextDue, IsNothingDueBy, accept, accept_due, after_fire}
use Rattle.switch_core.specs.{AcceptedLevel.{RawChange, accepted_level}, Calls.{LevelsAreAccepted, NothingIsLate}}
use Rattle.switch_core.specs.Calls.{SwitchCall, Change, Fire, after_calls, last_moment, AreInTime, raw_changes}
use Rattle.switch_core.proofs.{Levels.accepted-push, NextDue.next_due-is}

-- ---- one switch

-- whether a switch in a state is active at a moment, if no more comes
abbrev level_by : SwitchKind → SwitchState → ℕ → Option ℕ → Bool
level_by kind x moment None = x.active
level_by kind x moment (Some due) = cond (nat_le due moment) (is_active kind.contact x.raw) x.active

-- From the moment on the state foretells the accepted level of the raw changes so far, and nothing is due before it.
record IsFollowed (kind : SwitchKind) (past : List RawChange) (x : SwitchState) (moment : ℕ) : Type 0 where
  levels : (later : ℕ) → moment ≤ later → accepted_level kind later past ≡ level_by kind x later x.due
  ahead : (due : ℕ) → x.due ≡ Some due → moment ≤ due

level-quiet : (kind : SwitchKind) (x : SwitchState) (moment : ℕ) (o : Option ℕ)
    → ((due : ℕ) → o ≡ Some due → moment < due) → level_by kind x moment o ≡ x.active
level-quiet kind x moment o quiet = search rules

followed-idle : (kind : SwitchKind) → IsFollowed kind [] (idle kind) 0
followed-idle kind = record { levels = λ later h. refl; ahead = λ due is. omega arith }

module _ (kind : SwitchKind) (past : List RawChange) (x : SwitchState) (moment now : ℕ) where
  followed-fired : x.due ≡ Some now → moment ≤ now → IsFollowed kind past x moment
      → IsFollowed kind past (fire_change kind x) now
  followed-fired due forward f = search rules

-- the state after another raw level, where q says whether the switch is quick
abbrev taken : Bool → SwitchKind → ℕ → Bool → SwitchState → SwitchState
taken q kind now level x = cond q (accept_level kind level) (await_level kind now level x)

taken-level : (kind : SwitchKind) (now later : ℕ) (level : Bool) (x : SwitchState) (q : Bool) → now ≤ later
    → cond (nat_le (now + cond q 0 5) later) (is_active kind.contact level) x.active
    ≡ level_by kind (taken q kind now level x) later (taken q kind now level x).due
taken-level kind now later level x q h = search rules

taken-ahead : (kind : SwitchKind) (now due : ℕ) (level : Bool) (x : SwitchState) (q : Bool)
    → (taken q kind now level x).due ≡ Some due → now ≤ due
taken-ahead kind now due level x q is = search rules

taken-raw : (kind : SwitchKind) (now : ℕ) (level : Bool) (x : SwitchState) (q : Bool)
    → (taken q kind now level x).raw ≡ level
taken-raw kind now level x q = search rules

changed-is : (kind : SwitchKind) (now : ℕ) (level : Bool) (x : SwitchState) → same_level level x.raw ≡ false
    → change_level kind now level x ≡ taken kind.quick kind now level x
changed-is kind now level x other = cond-false (same_level level x.raw) x (taken kind.quick kind now level x) other

-- one more raw change
followed-taken : (kind : SwitchKind) (past : List RawChange) (x : SwitchState) (moment now : ℕ) (level : Bool)
    → moment ≤ now → ((due : ℕ) → x.due ≡ Some due → now < due)
    → IsFollowed kind past x moment → IsFollowed kind (past ++ record { at = now; level = level } ∷ [])
    (taken kind.quick kind now level x) now
followed-taken kind past x moment now level forward quiet f =
    search (rules, level-quiet, accepted-push, nat_le, taken-level, taken-ahead)

-- ---- a switch among all

record Follows (switch : SwitchId) (kind : SwitchKind) (raw : Bool) (past : List RawChange) (s : SwitchesView)
    (moment : ℕ) : Type 0 where
  within : switch.0 < length s.states
  kind_is : kind_at s switch ≡ kind
  raw_is : (state_at s switch).raw ≡ raw
  followed : IsFollowed kind past (state_at s switch) moment

module _ (switch : SwitchId) (kind : SwitchKind) (raw : Bool) (past : List RawChange) (s : SwitchesView)
    (moment now : ℕ) where
  -- Another switch's state is set.
  follows-other : (other : SwitchId) (x : SwitchState) → switch.0 ≢ other.0 → moment ≤ now
      → ((due : ℕ) → due_of s switch ≡ Some due → now ≤ due)
      → Follows switch kind raw past s moment → Follows switch kind raw past (set_state other x s) now
  follows-other other x apart forward ahead f = search rules

  -- Its own state is set, by what is made of its kind and its state.
  follows-own : (other : SwitchId) (make : SwitchKind → SwitchState → SwitchState) (level : Bool)
      (changes : List RawChange) → other.0 ≡ switch.0
      → (make kind (state_at s switch)).raw ≡ level → IsFollowed kind changes (make kind (state_at s switch)) now
      → Follows switch kind raw past s moment
      → Follows switch kind level changes (set_state other (make (kind_at s other) (state_at s other)) s) now
  follows-own other make level changes own is_level new f = search rules

  -- Its raw level changes to the one that is there already.
  follows-unchanged : (other : SwitchId) (level : Bool) → other.0 ≡ switch.0 → same_level level raw ≡ true
      → moment ≤ now → IsNothingDueBy s now
      → Follows switch kind raw past s moment → Follows switch kind raw past (after_change other level now s) now
  follows-unchanged other level own same forward quiet f = search rules

  -- Its raw level changes to another one.
  follows-changed : (other : SwitchId) (level : Bool) → other.0 ≡ switch.0 → same_level level raw ≡ false → moment ≤ now
      → IsNothingDueBy s now
      → Follows switch kind raw past s moment
      → Follows switch kind level (past ++ record { at = now; level = level } ∷ []) (after_change other level now s)
      now
  follows-changed other level own differs forward quiet f =
      let x = state_at s switch in
      let changes = past ++ record { at = now; level = level } ∷ [] in
      let is : change_level kind now level x ≡ taken kind.quick kind now level x =
      changed-is kind now level x (ap (same_level level) f.raw_is ∙ differs) in
      follows-own other (λ k y. change_level k now level y) level changes own
      (ap (λ (y : SwitchState). y.raw) is ∙ taken-raw kind now level x kind.quick)
      (subst (λ (y : SwitchState). IsFollowed kind changes y now) (sym is)
      (followed-taken kind past x moment now level forward (λ due h. quiet switch due h) f.followed)) f

  -- What is due next is accepted.
  follows-accept : (next : SwitchId) → moment ≤ now → IsNextDue s now next → Follows switch kind raw past s moment
      → Follows switch kind raw past (accept next s) now
  follows-accept next forward is_next f =
      elim (cases_eq next.0 switch.0) [
        | inl own ↦
            let due : due_of s switch ≡ Some now =
            subst (λ (n : ℕ). (slice_index_or s.states n (idle no_kind)).due ≡ Some now) own is_next.due in
            follows-own next (λ k y. fire_change k y) raw past own f.raw_is
            (followed-fired kind past (state_at s switch) moment now due forward f.followed) f
        | inr apart ↦
            follows-other next (fire_change (kind_at s next) (state_at s next)) (λ e. apart (sym e)) forward
            (λ due is. elim (is_next.least switch due is)
            [ inl less ↦ omega arith | inr same ↦ let e = same.0 in omega arith ]) f
      ]

  follows-fire : (next : SwitchId) → moment ≤ now → IsNextDue s now next → Follows switch kind raw past s moment
      → Follows switch kind raw past (after_fire s) now
  follows-fire next forward is_next f =
      let is : after_fire s ≡ accept next s = ap (λ d. accept_due d s) (next_due-is s now next is_next) in
      subst (λ (t : SwitchesView). Follows switch kind raw past t now) (sym is) (follows-accept next forward is_next f)

-- ---- calls

-- what a change adds to a switch's raw changes
changes-none : (switch other : SwitchId) (level raw : Bool) (now : ℕ) (calls : List SwitchCall)
    → ((other.0 == switch.0) && not (same_level level raw)) ≡ false
    → raw_changes switch raw (Change other level now ∷ calls) ≡ raw_changes switch raw calls
changes-none switch other level raw now calls is = search rules

changes-one : (switch other : SwitchId) (level raw : Bool) (now : ℕ) (calls : List SwitchCall)
    → ((other.0 == switch.0) && not (same_level level raw)) ≡ true
    → raw_changes switch raw (Change other level now ∷ calls)
    ≡ record { at = now; level = level } ∷ raw_changes switch level calls
changes-one switch other level raw now calls is = search rules

test_of : (x y b same : Bool) → x ≡ true → same ≡ b → (x && not same) ≡ not b
test_of x y b same own is = ap (λ c. c && not same) own ∙ ap not is

module _ (switch : SwitchId) (kind : SwitchKind) where
  abbrev Foretold : List RawChange → SwitchesView → ℕ → Type 0
  Foretold past s moment = IsFollowed kind past (state_at s switch) moment

  followed-calls : (calls : List SwitchCall) (s : SwitchesView) (moment : ℕ) (raw : Bool) (past : List RawChange)
      → Follows switch kind raw past s moment → AreInTime moment s calls
      → Foretold (past ++ raw_changes switch raw calls) (after_calls calls s) (last_moment moment calls)
  followed-calls [] s moment raw past f in_time =
      subst (λ (cs : List RawChange). Foretold cs s moment) (sym (append-nil past)) f.followed
  followed-calls (Fire now ∷ calls) s moment raw past f (forward, (next, is_next), more) =
      followed-calls calls (after_fire s) now raw past
      (follows-fire switch kind raw past s moment now next forward is_next f) more
  followed-calls (Change other level now ∷ calls) s moment raw past f (forward, quiet, more) =
      let after = after_change other level now s in
      let last = last_moment now calls in
      let P : List RawChange → Type 0 = λ cs. Foretold (past ++ cs) (after_calls calls after) last in
      elim (cases_eq other.0 switch.0) [
        | inr apart ↦
            let test : ((other.0 == switch.0) && not (same_level level raw)) ≡ false =
            and_left (other.0 == switch.0) (not (same_level level raw)) (ne_eqb other.0 switch.0 apart) in
            let g = follows-other switch kind raw past s moment now other
            (change_level (kind_at s other) now level (state_at s other)) (λ e. apart (sym e)) forward
            (λ due is. let h = quiet switch due is in omega arith) f in
            subst P (sym (changes-none switch other level raw now calls test))
            (followed-calls calls after now raw past g more)
        | inl own ↦
            let eq : (other.0 == switch.0) ≡ true = eq-eqb other.0 switch.0 own in
            elim (cases_Bool (same_level level raw)) [
              | inl same ↦
                  let test = test_of (other.0 == switch.0) true true (same_level level raw) eq same in
                  subst P (sym (changes-none switch other level raw now calls test))
                  (followed-calls calls after now raw past
                  (follows-unchanged switch kind raw past s moment now other level own same forward quiet f) more)
              | inr differs ↦
                  let test = test_of (other.0 == switch.0) true false (same_level level raw) eq differs in
                  let c : RawChange = record { at = now; level = level } in
                  let g = follows-changed switch kind raw past s moment now other level own differs forward quiet f in
                  let rest : Foretold ((past ++ c ∷ []) ++ raw_changes switch level calls) (after_calls calls after)
                  last = followed-calls calls after now level (past ++ c ∷ []) g more in
                  subst P (sym (changes-one switch other level raw now calls test))
                  (subst (λ (cs : List RawChange). Foretold cs (after_calls calls after) last)
                  (append_assoc past (c ∷ []) (raw_changes switch level calls)) rest)
            ]
      ]

-- ---- from `new` on

module _ (plan : PlanView) (switch : SwitchId) (within : switch.0 < length plan.switches) where
  follows-new : Follows switch (switch_at plan switch).kind (raw_at_rest (switch_at plan switch).kind.contact) []
      (all_idle plan) 0
  follows-new = search (rules, get_or-map, length-map, followed-idle)

  followed-new : (calls : List SwitchCall) → AreInTime 0 (all_idle plan) calls
      → IsFollowed (switch_at plan switch).kind
      (raw_changes switch (raw_at_rest (switch_at plan switch).kind.contact) calls)
      (state_at (after_calls calls (all_idle plan)) switch) (last_moment 0 calls)
  followed-new calls in_time =
      followed-calls switch (switch_at plan switch).kind calls (all_idle plan) 0
      (raw_at_rest (switch_at plan switch).kind.contact) [] follows-new in_time

pub levels_are_accepted : LevelsAreAccepted
levels_are_accepted plan calls moment in_time last quiet switch within =
    let f = followed-new plan switch within calls in_time in
    let kind = (switch_at plan switch).kind in
    let x = state_at (after_calls calls (all_idle plan)) switch in
    sym (f.levels moment last ∙ level-quiet kind x moment x.due (λ due is. quiet switch due is))

pub nothing_is_late : NothingIsLate
nothing_is_late plan calls in_time switch due within is =
    let f = followed-new plan switch within calls in_time in
    f.ahead due is
