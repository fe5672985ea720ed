-- In plan order a log gives one run.
use Rattle.std.proofs.Common.{rules, ◌≡◌, ◌≢◌, ℕ, ◌≤◌, List, [], ◌∷◌, ◌++◌, refl, ap, sym, ◌∙◌, subst, arith}
use Rattle.std.proofs.lemmas.Bool.{cases_lt}
use Rattle.plan_tables.specs.{PlanView.PlanView, Valid.IsValid}
use Rattle.written_machine.specs.{declared.line.Line.Line, Machine.Machine, PlanOrder.plan_steps}
use Rattle.written_machine.specs.Run.{Source, IsNoAlarmDueBy, IsNothingLate, IsNextAlarm, Stimulus, SwitchChange, Alarm}
use Rattle.written_machine.specs.Run.{Wait, moment_of, IsAllowed, begin}
use Rattle.written_machine.proofs.{Alarms.{moment-after, not_late-after}, NextAlarms.next-unique}
use Rattle.written_machine.proofs.PlanSteps.{plan_steps-event_steps, plan_steps-enough}
use Rattle.pinball_shell.specs.RunGiven.{without_alarms, stimuli_of, IsRunOfLog, IsRunInOrder, IsPlayOfLog}

-- no alarm is the last
abbrev NoAlarmLast : List Stimulus → Type 0
NoAlarmLast stimuli = (before : List Stimulus) (at : ℕ) (source : Source) → stimuli ≢ before ++ Alarm at source ∷ []

no_last-more : (first : Stimulus) (more : List Stimulus) → NoAlarmLast (first ∷ more) → NoAlarmLast more
no_last-more first more h before at source is =
    h (first ∷ before) at source (ap (λ (xs : List Stimulus). first ∷ xs) is)

none_given : (xs : List Stimulus) → without_alarms xs ≡ [] → NoAlarmLast xs → xs ≡ []
none_given [] e h = refl
none_given (SwitchChange at n level ∷ more) e h = cc
none_given (Alarm at source ∷ more) e h = absurd
    (h [] at source (ap (λ (xs : List Stimulus). Alarm at source ∷ xs)
    (none_given more e (no_last-more (Alarm at source) more h))))
none_given (Wait at ∷ more) e h = cc

given-rest : (x : Stimulus) (xs ys : List Stimulus) → without_alarms (x ∷ xs) ≡ without_alarms (x ∷ ys)
    → without_alarms xs ≡ without_alarms ys
given-rest x1 xs ys e = search rules

next-same : (s : Machine) (at other : ℕ) (a b : Source) → IsNextAlarm s at a → IsNextAlarm s other b
    → Alarm at a ≡ Alarm other b
next-same s at other a b here there = search (rules, next-unique)

-- an alarm that comes before something that was given would have been due by its moment
early_alarm : (s : Machine) (at until : ℕ) (source : Source) → IsNextAlarm s at source → IsNoAlarmDueBy s until
    → at ≤ until → ⊥
early_alarm s at until source a quiet by = search rules

module _ (plan : PlanView) where
  -- the state to which so many event steps lead, once no event waits, is one
  idle-same : (n m : ℕ) (s : Machine) → (plan_steps plan n s).waiting ≡ [] → (plan_steps plan m s).waiting ≡ []
      → plan_steps plan n s ≡ plan_steps plan m s
  idle-same n m s idle idle' = search (rules, cases_lt, plan_steps-enough)

module _ (plan : PlanView) (valid : IsValid plan) where
  -- nothing is late after a stimulus and its event steps, which came at its moment
  after-not_late : (x : Stimulus) (s : Machine) (n : ℕ) → IsAllowed plan s x
      → IsNothingLate (plan_steps plan n (begin plan x s))
  after-not_late x s n allowed =
      let steps = plan_steps-event_steps plan n (begin plan x s) in
      not_late-after plan valid x s steps.0 (plan_steps plan n (begin plan x s)) allowed steps.1

  after-moment : (x : Stimulus) (s : Machine) (n : ℕ) → (plan_steps plan n (begin plan x s)).moment ≡ moment_of x
  after-moment x s n =
      let steps = plan_steps-event_steps plan n (begin plan x s) in
      moment-after plan x s steps.0 (plan_steps plan n (begin plan x s)) steps.1

  -- nothing that was given comes before the moment of the state
  later : (xs : List Stimulus) (s : Machine) (trace : List Line) (end : Machine) → IsRunInOrder plan xs s trace end
      → IsNothingLate s → (g : Stimulus) (rest : List Stimulus) → without_alarms xs ≡ g ∷ rest → s.moment ≤ moment_of g
  later [] s trace end run ahead g rest e = cc
  later (SwitchChange at n level ∷ more) s trace end (allowed, after) ahead g rest e =
      let same : at ≡ moment_of g = ap (λ (o : Stimulus). moment_of o) (first_is e) in let on = allowed.0.forward
      in omega (arith, same, on)
    where
      first_is : SwitchChange at n level ∷ without_alarms more ≡ g ∷ rest → SwitchChange at n level ≡ g
      first_is e = cc
  later (Alarm at source ∷ more) s trace end (allowed, (n, (idle, (lines, run, is)))) ahead g rest e =
      let mid = plan_steps plan n (begin plan (Alarm at source) s) in
      let there = later more mid lines end run (after-not_late (Alarm at source) s n allowed) g rest e in
      omega (arith, there, after-moment (Alarm at source) s n, ahead source at allowed.0.due)
  later (Wait at ∷ more) s trace end (allowed, after) ahead g rest e =
      let same : at ≡ moment_of g = ap (λ (o : Stimulus). moment_of o) (first_is e) in let on = allowed.forward
      in omega (arith, same, on)
    where
      first_is : Wait at ∷ without_alarms more ≡ g ∷ rest → Wait at ≡ g
      first_is e = cc

  same_first : (s : Machine) (x y : Stimulus) (xs ys : List Stimulus) → IsAllowed plan s x → IsAllowed plan s y
      → ((g : Stimulus) (rest : List Stimulus) → without_alarms xs ≡ g ∷ rest → moment_of x ≤ moment_of g)
      → ((g : Stimulus) (rest : List Stimulus) → without_alarms ys ≡ g ∷ rest → moment_of y ≤ moment_of g)
      → without_alarms (x ∷ xs) ≡ without_alarms (y ∷ ys) → x ≡ y
  same_first s (Alarm at n) (Alarm at' n') xs ys a b la lb is = next-same s at at' n n' a.0 b.0
  same_first s (Alarm at n) (SwitchChange at' n' level) xs ys a b la lb is =
      absurd (early_alarm s at at' n a.0 b.0.quiet (la (SwitchChange at' n' level) (without_alarms ys) is))
  same_first s (Alarm at n) (Wait at') xs ys a b la lb is =
      absurd (early_alarm s at at' n a.0 b.quiet (la (Wait at') (without_alarms ys) is))
  same_first s (SwitchChange at n level) (Alarm at' n') xs ys a b la lb is =
      absurd (early_alarm s at' at n' b.0 a.0.quiet (lb (SwitchChange at n level) (without_alarms xs) (sym is)))
  same_first s (Wait at) (Alarm at' n') xs ys a b la lb is =
      absurd (early_alarm s at' at n' b.0 a.quiet (lb (Wait at) (without_alarms xs) (sym is)))
  same_first s (SwitchChange at n level) (SwitchChange at' n' level') xs ys a b la lb is = cc
  same_first s (SwitchChange at n level) (Wait at') xs ys a b la lb is = cc
  same_first s (Wait at) (SwitchChange at' n' level') xs ys a b la lb is = cc
  same_first s (Wait at) (Wait at') xs ys a b la lb is = cc

  one_run : (xs ys : List Stimulus) (s t : Machine) (trace trace' : List Line) (end end' : Machine) → s ≡ t
      → IsRunInOrder plan xs s trace end → IsRunInOrder plan ys t trace' end'
      → without_alarms xs ≡ without_alarms ys → NoAlarmLast xs → NoAlarmLast ys → (xs ≡ ys) × (trace ≡ trace')
  one_run [] ys s t trace trace' end end' e run run' is none none' =
      let empty = none_given ys (sym is) none' in
      let ended = subst (λ (zs : List Stimulus). IsRunInOrder plan zs t trace' end') empty run' in
      (sym empty, run.0 ∙ sym ended.0)
  one_run (x ∷ xs) [] s t trace trace' end end' e run run' is none none' =
      let empty = none_given (x ∷ xs) is none in
      let ended = subst (λ (zs : List Stimulus). IsRunInOrder plan zs s trace end) empty run in
      (empty, ended.0 ∙ sym run'.0)
  one_run (x ∷ xs) (y ∷ ys) s t trace trace' end end' e (allowed, (k, (idle, (lines, run, joined))))
      (allowed', (j, (idle', (lines', run', joined')))) is none none' =
      let mid = plan_steps plan k (begin plan x s) in
      let mid' = plan_steps plan j (begin plan y t) in
      let la = λ (g : Stimulus) (rest : List Stimulus) (h : without_alarms xs ≡ g ∷ rest). at_moment x s k g
      (later xs mid lines end run (after-not_late x s k allowed) g rest h) in
      let lb = λ (g : Stimulus) (rest : List Stimulus) (h : without_alarms ys ≡ g ∷ rest). at_moment y t j g
      (later ys mid' lines' end' run' (after-not_late y t j allowed') g rest h) in
      let same : x ≡ y = same_first s x y xs ys allowed (subst (λ (m : Machine). IsAllowed plan m y) (sym e) allowed')
      la lb is in
      let begun : begin plan x s ≡ begin plan y t = ap (λ (z : Stimulus). begin plan z s) same ∙ ap (begin plan y) e in
      let states : mid ≡ mid' = idle-same plan k j (begin plan x s) idle
      (subst (λ (m : Machine). (plan_steps plan j m).waiting ≡ []) (sym begun) idle') ∙ ap (plan_steps plan j) begun
      in
      let left = given-rest x xs ys (is ∙ ap (λ (z : Stimulus). without_alarms (z ∷ ys)) (sym same)) in
      let rest = one_run xs ys mid mid' lines lines' end end' states run run' left (no_last-more x xs none)
      (no_last-more y ys none') in (
        ap (λ (z : Stimulus). z ∷ xs) same ∙ ap (λ (zs : List Stimulus). y ∷ zs) rest.0,
        joined ∙ ap (λ (m : Machine). m.lines ++ lines) states ∙ ap (λ (ls : List Line). mid'.lines ++ ls) rest.1
            ∙ sym joined',
      )
    where
      at_moment : (x : Stimulus) (s : Machine) (k : ℕ) (g : Stimulus)
          → (plan_steps plan k (begin plan x s)).moment ≤ moment_of g → moment_of x ≤ moment_of g
      at_moment x s k g h = omega (arith, h, after-moment x s k)

pub log-gives_one : (plan : PlanView) (log : List ℕ) (trace other : List Line) → IsValid plan
    → (a : IsPlayOfLog plan log trace) (b : IsPlayOfLog plan log other)
    → (stimuli_of a.run.reach.stimuli ≡ stimuli_of b.run.reach.stimuli) × (trace ≡ other)
log-gives_one plan log trace other valid a b = search (rules, one_run)

pub log-gives_same : (plan : PlanView) (log : List ℕ) (trace other : List Line) (a : IsRunOfLog plan log trace)
    (b : IsRunOfLog plan log other)
    → without_alarms (stimuli_of a.reach.stimuli) ≡ without_alarms (stimuli_of b.reach.stimuli)
log-gives_same plan log trace other a b = a.inputs ∙ sym b.inputs
