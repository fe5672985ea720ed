-- Coils are turned off, one after another.
use Rattle.std.proofs.Common.{◌≡◌, ℕ, suc, ◌+◌, ◌<◌, ◌≤◌, inl, inr, Bool, true, false, List, [], ◌∷◌, ◌++◌, length}
use Rattle.std.proofs.Common.{zero, map, take, filter, refl, sym, ap, ap₂, ◌∙◌, subst, length-append, arith}
use Rattle.std.{specs.Prelude.{◌||◌, if◌then◌else◌}, proofs.lemmas.List.Elements.filter-append}
use Rattle.std.proofs.lemmas.List.{append-nil, take_more, take_all, length-set, get_or-set_other}
use Rattle.std.proofs.lemmas.List.FromFn.{length-map-range_with_len, get_or-map-range_with_len}
use Rattle.plan_tables.specs.{PlanView.{PlanView, coil_numbers}, declared.entries.CoilId.CoilId}
use Rattle.coil_guard.specs.declared.{command.Command.TheVariants.Disable, state.CoilState.CoilState}
use Rattle.coil_guard.specs.Coils.{coil_at, set_coil, after_disable}
use Rattle.coil_guard.specs.{Limits.no_limits, CoilStep.{off, is_on_at, disable_coil}}
use Rattle.coil_driver.specs.{Board.{BoardView, HasTaken, HasNotTaken}, ShutDown.{is_faulted, ArePutOff}}
use Rattle.coil_driver.specs.Driver.{DriverView, is_due_off, off_state, HasPutOff}

-- ---- one coil more

off-taken : (cs : List CoilId) (coil : CoilId) (a m n : BoardView) (off : List CoilId) (faults : ℕ)
    → ArePutOff cs a off faults m → HasTaken (Disable coil) m n
    → ArePutOff (cs ++ coil ∷ []) a (off ++ coil ∷ []) faults n
off-taken [] coil a m n off faults (none, no_fault, is) taken = (
  n,
  inl (
    subst (λ x. HasTaken (Disable coil) x n) is taken,
    ([], ap (λ cs. cs ++ coil ∷ []) none, (refl, no_fault, refl)),
  ),
)
off-taken (c ∷ cs) coil a m n off faults (mid, inl (one, (rest, is, more))) taken = (
  mid,
  inl (
    one,
    (
      rest ++ coil ∷ [],
      ap (λ cs. cs ++ coil ∷ []) is,
      off-taken cs coil mid m n rest faults more taken,
    ),
  ),
)
off-taken (c ∷ cs) coil a m n off faults (mid, inr (one, (others, is, more))) taken =
    (mid, inr (one, (others, is, off-taken cs coil mid m n off others more taken)))

off-fault : (cs : List CoilId) (coil : CoilId) (a m n : BoardView) (off : List CoilId) (faults : ℕ)
    → ArePutOff cs a off faults m → HasNotTaken m n
    → ArePutOff (cs ++ coil ∷ []) a off (suc faults) n
off-fault [] coil a m n off faults (none, no_fault, is) fault =
    (n, inr (subst (λ x. HasNotTaken x n) is fault, (faults, refl, (none, no_fault, refl))))
off-fault (c ∷ cs) coil a m n off faults (mid, inl (one, (rest, is, more))) fault =
    (mid, inl (one, (rest, is, off-fault cs coil mid m n rest faults more fault)))
off-fault (c ∷ cs) coil a m n off faults (mid, inr (one, (others, is, more))) fault =
    (mid, inr (one, (suc others, ap suc is, off-fault cs coil mid m n off others more fault)))

off-more : (cs : List CoilId) (coil : CoilId) (a m n : BoardView) (off : List CoilId) (faults : ℕ)
    (then_off : List CoilId) (then_faults : ℕ) → ArePutOff cs a off faults m
    → HasPutOff coil m off faults then_off then_faults n → ArePutOff (cs ++ coil ∷ []) a then_off then_faults n
off-more cs coil a m n off faults then_off then_faults h (inl (taken, is, same)) =
    subst (λ o. ArePutOff (cs ++ coil ∷ []) a o then_faults n) (sym is)
    (subst (λ k. ArePutOff (cs ++ coil ∷ []) a (off ++ coil ∷ []) k n) (sym same)
    (off-taken cs coil a m n off faults h taken))
off-more cs coil a m n off faults then_off then_faults h (inr (fault, same, is)) =
    subst (λ o. ArePutOff (cs ++ coil ∷ []) a o then_faults n) (sym same)
    (subst (λ k. ArePutOff (cs ++ coil ∷ []) a off k n) (sym is) (off-fault cs coil a m n off faults h fault))

few-more : (coil : CoilId) (m n : BoardView) (off : List CoilId) (faults : ℕ) (then_off : List CoilId)
    (then_faults number : ℕ) → HasPutOff coil m off faults then_off then_faults n
    → length off + faults ≤ number → length then_off + then_faults ≤ number + 1
few-more coil m n off faults then_off then_faults number (inl (taken, is, same)) few =
    omega (arith, few, same, ap (λ (cs : List CoilId). length cs) is, length-append off (coil ∷ []))
few-more coil m n off faults then_off then_faults number (inr (fault, same, is)) few =
    omega (arith, few, is, ap (λ (cs : List CoilId). length cs) same)

-- ---- coils by their numbers

numbers-more : (plan : PlanView) (k : ℕ) → k < length plan.coils
    → take (k + 1) (coil_numbers plan) ≡ take k (coil_numbers plan) ++ record { 0 = k } ∷ []
numbers-more plan k there =
    let here : CoilId = record { 0 = k } in
    take_more (coil_numbers plan) k here (omega
    (arith, there, length-map-range_with_len {X = CoilId} (λ n. record { 0 = n }) 0 (length plan.coils)))
    ∙ ap (λ (c : CoilId). take k (coil_numbers plan) ++ c ∷ [])
    (get_or-map-range_with_len (λ n. record { 0 = n }) 0 (length plan.coils) k k here there (omega arith))

due-more : (test : CoilId → Bool) (plan : PlanView) (k : ℕ) (b : Bool) → k < length plan.coils
    → test (record { 0 = k }) ≡ b
    → filter test (take (k + 1) (coil_numbers plan))
    ≡ filter test (take k (coil_numbers plan)) ++ (if b then record { 0 = k } ∷ [] else [])
due-more test plan k b there is =
    ap (filter test) (numbers-more plan k there)
    ∙ filter-append test (take k (coil_numbers plan)) (record { 0 = k } ∷ [])
    ∙ ap (λ (x : Bool). filter test (take k (coil_numbers plan)) ++ (if x then record { 0 = k } ∷ [] else [])) is

-- ---- what the guard holds for off

-- the guard once it was asked for the coils below this number
abbrev pub partly : ℕ → ℕ → List CoilState → List CoilState
partly now zero s = s
partly now (suc number) [] = []
partly now (suc number) (c ∷ s) = off_state now c ∷ partly now number s

later : (b : Bool) (c : CoilState) (some other : List CoilState)
    → (if b then c ∷ some else c ∷ other) ≡ c ∷ (if b then some else other)
later true c some other = refl
later false c some other = refl

first : (b : Bool) (c on : CoilState) (s : List CoilState) → (if b then on ∷ s else c ∷ s) ≡ (if b then on else c) ∷ s
first true c on s = refl
first false c on s = refl

partly-more : (now number : ℕ) (s : List CoilState) → number < length s
    → after_disable (record { 0 = number }) now (partly now number s) ≡ partly now (suc number) s
partly-more now zero [] there = absurd (omega (arith, there))
partly-more now (suc number) [] there = absurd (omega (arith, there))
partly-more now zero (c ∷ s) there = first (is_on_at now c) c (disable_coil c) s
partly-more now (suc number) (c ∷ s) there =
    let rest = partly now number s in
    let coil : CoilId = record { 0 = number } in
    later (is_on_at now (coil_at rest coil)) (off_state now c) (set_coil coil (disable_coil (coil_at rest coil)) rest)
    rest ∙ ap (λ (s : List CoilState). off_state now c ∷ s) (partly-more now number s (omega (arith, there)))

partly-all : (now number : ℕ) (s : List CoilState) → length s ≤ number → partly now number s ≡ map (off_state now) s
partly-all now zero [] past = refl
partly-all now (suc number) [] past = refl
partly-all now zero (c ∷ s) past = absurd (omega (arith, past))
partly-all now (suc number) (c ∷ s) past =
    ap (λ (s : List CoilState). off_state now c ∷ s) (partly-all now number s (omega (arith, past)))

-- ---- the loop

-- so many coils were gone through, and the guard still says of the others what it said
pub record IsPuttingOff (plan : PlanView) (now : ℕ) (start : DriverView) (number : ℕ) (d : DriverView)
    (off : List CoilId) (faults : ℕ) : Type 0 where
  pub off_are : ArePutOff (filter (is_due_off now start) (take number (coil_numbers plan))) start.board off faults
      d.board
  pub coils : length d.guard ≡ length plan.coils
  pub sent : d.guard ≡ partly now number start.guard
  pub faulted_coil : d.faulted_coil ≡ start.faulted_coil
  pub same : (c : CoilId) → number ≤ c.0 → coil_at d.guard c ≡ coil_at start.guard c
  pub few : length off + faults ≤ number

module _ (plan : PlanView) (now : ℕ) (start : DriverView) (number : ℕ) (d : DriverView) (off_now : List CoilId)
    (faults : ℕ) (h : IsPuttingOff plan now start number d off_now faults) (there : number < length plan.coils)
    (start_count : length start.guard ≡ length plan.coils) where
  abbrev coil : CoilId
  coil = record { 0 = number }

  due-same : is_due_off now d coil ≡ is_due_off now start coil
  due-same = ap₂ (λ x f. is_on_at now x || is_faulted f coil) (h.same coil (omega arith)) h.faulted_coil

  -- it is asked to go off
  module _ (turned : DriverView) (turned_is : turned ≡ record d { guard = after_disable coil now d.guard }) (due : Bool)
      (due_is : due ≡ is_due_off now d coil) where
    turned-count : length turned.guard ≡ length plan.coils
    turned-count = ap (λ (x : DriverView). length x.guard) turned_is ∙ by (is_on_at now (coil_at d.guard coil))
        ∙ h.coils
      where
        by : (b : Bool) → length (if b then set_coil coil (disable_coil (coil_at d.guard coil)) d.guard else d.guard)
            ≡ length d.guard
        by true = length-set d.guard number (disable_coil (coil_at d.guard coil))
        by false = refl

    turned-same : (c : CoilId) → number + 1 ≤ c.0 → coil_at turned.guard c ≡ coil_at start.guard c
    turned-same c after = ap (λ (x : DriverView). coil_at x.guard c) turned_is
        ∙ by (is_on_at now (coil_at d.guard coil))
        ∙ h.same c (omega (arith, after))
      where
        by : (b : Bool) → coil_at (if b then set_coil coil (disable_coil (coil_at d.guard coil)) d.guard else d.guard) c
            ≡ coil_at d.guard c
        by true = get_or-set_other d.guard number c.0 (disable_coil (coil_at d.guard coil)) (off no_limits)
            (λ (at : c.0 ≡ number). omega (arith, after, at))
        by false = refl

    turned-sent : turned.guard ≡ partly now (number + 1) start.guard
    turned-sent =
        let next : suc number ≡ number + 1 = omega arith in
        ap (λ (x : DriverView). x.guard) turned_is ∙ ap (after_disable coil now) h.sent
        ∙ partly-more now number start.guard (omega (arith, there, start_count))
        ∙ ap (λ (n : ℕ). partly now n start.guard) next

    board-same : turned.board ≡ d.board
    board-same = ap (λ (x : DriverView). x.board) turned_is

    pub putting-left : due ≡ false → IsPuttingOff plan now start (number + 1) turned off_now faults
    putting-left no_ =
        let is = due-more (is_due_off now start) plan number false there (sym (due_is ∙ due-same) ∙ no_)
        ∙ append-nil (filter (is_due_off now start) (take number (coil_numbers plan))) in
        let few = h.few in
        record {
          off_are = subst (λ cs. ArePutOff cs start.board off_now faults turned.board) (sym is)
              (subst (λ b. ArePutOff (filter (is_due_off now start) (take number (coil_numbers plan))) start.board
              off_now faults b) (sym board-same) h.off_are);
          coils = turned-count;
          sent = turned-sent;
          faulted_coil = ap (λ (x : DriverView). x.faulted_coil) turned_is ∙ h.faulted_coil;
          same = turned-same;
          few = omega (arith, few);
        }

    pub putting-more : due ≡ true → (last : DriverView) (then_off : List CoilId) (then_faults : ℕ)
        → HasPutOff coil turned.board off_now faults then_off then_faults last.board
        → last ≡ record turned { board = last.board }
        → IsPuttingOff plan now start (number + 1) last then_off then_faults
    putting-more yes_ last then_off then_faults put rest =
        let is = due-more (is_due_off now start) plan number true there (sym (due_is ∙ due-same) ∙ yes_) in
        let from = subst (λ b. HasPutOff coil b off_now faults then_off then_faults last.board) board-same put in
        record {
          off_are =
              subst (λ cs. ArePutOff cs start.board then_off then_faults last.board) (sym is)
              (off-more (filter (is_due_off now start) (take number (coil_numbers plan))) coil start.board d.board
              last.board off_now faults then_off then_faults h.off_are from);
          coils = ap (λ (x : DriverView). length x.guard) rest ∙ turned-count;
          sent = ap (λ (x : DriverView). x.guard) rest ∙ turned-sent;
          faulted_coil = ap (λ (x : DriverView). x.faulted_coil) rest
              ∙ ap (λ (x : DriverView). x.faulted_coil) turned_is ∙ h.faulted_coil;
          same = λ c after. ap (λ (x : DriverView). coil_at x.guard c) rest ∙ turned-same c after;
          few = few-more coil d.board last.board off_now faults then_off then_faults number from h.few;
        }

pub putting-end : (plan : PlanView) (now : ℕ) (start : DriverView) (number : ℕ) (d : DriverView) (off : List CoilId)
    (faults : ℕ) → IsPuttingOff plan now start number d off faults → length plan.coils ≤ number
    → ArePutOff (filter (is_due_off now start) (coil_numbers plan)) start.board off faults d.board
putting-end plan now start number d off faults h past =
    subst (λ cs. ArePutOff (filter (is_due_off now start) cs) start.board off faults d.board)
    (take_all number (coil_numbers plan) (omega
    (arith, past, length-map-range_with_len {X = CoilId} (λ n. record { 0 = n }) 0 (length plan.coils)))) h.off_are

pub putting-end-sent : (plan : PlanView) (now : ℕ) (start : DriverView) (number : ℕ) (d : DriverView)
    (off : List CoilId) (faults : ℕ) → IsPuttingOff plan now start number d off faults → length plan.coils ≤ number
    → length start.guard ≡ length plan.coils → d.guard ≡ map (off_state now) start.guard
putting-end-sent plan now start number d off faults h past start_count =
    h.sent ∙ partly-all now number start.guard (omega (arith, past, start_count))
