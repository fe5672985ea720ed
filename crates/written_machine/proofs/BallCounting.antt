-- As many balls count in a device as count at the switches that its ball switches are.
use Rattle.std.proofs.Common.{rules, ◌≡◌, ℕ, suc, ◌+◌, ◌==◌, inl, inr, Bool, true, false, cond, ◌&&◌, ◌||◌, List, []}
use Rattle.std.proofs.Common.{◌∷◌, length, map, get_or, set, refl, ap, ap₂, sym, ◌∙◌, arith}
use Rattle.std.specs.List.{All, AllPairs, count_by, filter, flat_map, list_any, range_with_len, sum_by}
use Rattle.std.proofs.lemmas.Bool.{and_parts, cases_Bool, cases_eq, cases_lt, eqb-true, false≢true, ne_eqb, or_cases}
use Rattle.std.proofs.lemmas.List.{get_or_past, get_or-set_same, get_or-set_other, set_past}
use Rattle.std.proofs.lemmas.List.{Elements.{All-head, All-tail}, Folds.flat_map-map, FromFn.fill_by_all}
use Rattle.std.proofs.lemmas.List.Sums.{sum_by-append, sum_by-cons, sum_by-set}
use Rattle.plan_tables.specs.PlanView.{PlanView, PlanSwitch, listeners_of, no_switch, switch_at}
use Rattle.plan_tables.specs.declared.{devices.RowId.RowId, entries.{Listener.Listener, SwitchId.SwitchId}}
use Rattle.cascade_rank.specs.Cost.{switches_of}
use Rattle.device_objects.specs.{declared.state.BallSwitch.BallSwitch, BallDevice.empty}
use Rattle.plan_tables.specs.BallRows.{AreApart, AreOfTwoRows}
use Rattle.written_machine.{specs.Counted.ball_switches, proofs.BallFeeders.filter-count}
use Rattle.ball_devices.specs.Bookings.{one}

-- ---- pairs

module _ {X : Type 0} (R : X → X → Type 0) where
  pub pairs-head : (x : X) (xs : List X) → AllPairs R (x ∷ xs) → All (R x) xs
  pairs-head x xs h k d within = h 0 (suc k) d (omega arith) (omega arith)

  pub pairs-tail : (x : X) (xs : List X) → AllPairs R (x ∷ xs) → AllPairs R xs
  pairs-tail x xs h i j d before within = h (suc i) (suc j) d (omega arith) (omega arith)

sum-same : {X : Type 0} (f g : X → ℕ) (xs : List X) → All (λ x. f x ≡ g x) xs → sum_by f xs ≡ sum_by g xs
sum-same f g [] same = refl
sum-same f g (x ∷ xs) same =
    search (rules, sum_by-cons, All-head, All-tail, sum-same f g xs (All-tail (λ y. f y ≡ g y) x xs same))

-- ---- who listens for a ball switch

-- whether it is this ball switch of this row
abbrev pub is_for : RowId → ℕ → Listener → Bool
is_for r i l = l.row.0 == r.0 && l.switch == i

abbrev pub is_heard : RowId → ℕ → List Listener → Bool
is_heard r i ls = list_any (is_for r i) ls

module _ (r : RowId) where
  abbrev counts : List BallSwitch → ℕ → Bool
  counts bs i = (get_or bs i empty).counted

  -- 1 if a ball counts at the listener's ball switch, and that is one of the row
  abbrev counts_at : List BallSwitch → Listener → ℕ
  counts_at bs l = one (l.row.0 == r.0 && counts bs l.switch)

  -- none counts
  none-counts : (bs : List BallSwitch) → ((i : ℕ) → counts bs i ≡ true → ⊥) → count_by (λ b. b.counted) bs ≡ 0
  none-counts [] none = refl
  none-counts (b ∷ bs) none =
      elim (cases_Bool b.counted) [
        | inl is ↦ absurd (none 0 is)
        | inr is ↦
            let zero_is : one b.counted ≡ 0 = ap one is in
            omega (
              arith,
              zero_is,
              sum_by-cons (λ (x : BallSwitch). cond x.counted 1 0) b bs,
              none-counts bs (λ i. none (suc i)),
            )
      ]

  -- when one is emptied, one fewer counts if it did
  emptied : (bs : List BallSwitch) (i : ℕ)
      → count_by (λ b. b.counted) (set bs i empty) + one (counts bs i) ≡ count_by (λ b. b.counted) bs
  emptied bs i = search (rules, cases_lt, sum_by-set, set_past, get_or_past)

  emptied-other : (bs : List BallSwitch) (i j : ℕ) → (j ≡ i → ⊥) → counts (set bs i empty) j ≡ counts bs j
  emptied-other bs i j other = ap (λ (b : BallSwitch). b.counted) (get_or-set_other bs i j empty empty other)

  emptied-none : (bs : List BallSwitch) (i : ℕ) → counts (set bs i empty) i ≡ false
  emptied-none bs i = search (rules, cases_lt, get_or-set_same, set_past, get_or_past)

  -- the listeners count each ball once, if each ball that counts has one, and no two are for one ball switch
  pub listeners-count : (ls : List Listener) (bs : List BallSwitch) → AllPairs AreApart ls
      → ((i : ℕ) → counts bs i ≡ true → is_heard r i ls ≡ true)
      → sum_by (counts_at bs) ls ≡ count_by (λ b. b.counted) bs
  listeners-count [] bs apart heard = sym (none-counts bs (λ i is. false≢true (heard i is)))
  listeners-count (l ∷ ls) bs apart heard =
      elim (cases_Bool (l.row.0 == r.0)) [
        | inl its ↦
            let fewer = set bs l.switch empty in
            let row : l.row.0 ≡ r.0 = eqb-true l.row.0 r.0 its in
            let rest = listeners-count ls fewer (pairs-tail AreApart l ls apart) (λ i is. still i is) in
            let same = sum-same (counts_at fewer) (counts_at bs) ls
            (λ k e within. unchanged row (get_or ls k e) (pairs-head AreApart l ls apart k e within)) in
            let here : counts_at bs l ≡ one (counts bs l.switch) = ap (λ (b : Bool). one (b && counts bs l.switch)) its
            in
            omega (arith, sum_by-cons (counts_at bs) l ls, rest, same, here, emptied bs l.switch)
        | inr not ↦
            let here : counts_at bs l ≡ 0 = ap (λ (b : Bool). one (b && counts bs l.switch)) not in
            let rest = listeners-count ls bs (pairs-tail AreApart l ls apart) (λ i is. later not i (heard i is)) in
            omega (arith, sum_by-cons (counts_at bs) l ls, rest, here)
      ]
    where
      later : (l.row.0 == r.0) ≡ false → (i : ℕ) → is_heard r i (l ∷ ls) ≡ true → is_heard r i ls ≡ true
      later not i is = search (rules, or_cases, and_parts)

      still : (i : ℕ) → counts (set bs l.switch empty) i ≡ true → is_heard r i ls ≡ true
      still i is = search (rules, cases_eq, emptied-none, or_cases, emptied-other, eqb-true, and_parts)

      unchanged : l.row.0 ≡ r.0 → (m : Listener) → AreApart l m → counts_at (set bs l.switch empty) m ≡ counts_at bs m
      unchanged row m are = search (rules, cases_Bool, eqb-true, emptied-other)

  -- ---- the switches of a row

  abbrev of_row : Listener → Bool
  of_row l = l.row.0 == r.0

  -- no listener of the row
  none-of_row : (bs : List BallSwitch) (ls : List Listener) → All (λ (l : Listener). l.row.0 ≡ r.0 → ⊥) ls
      → sum_by (counts_at bs) ls ≡ 0
  none-of_row bs [] none = refl
  none-of_row bs (l ∷ ls) none =
      search (
        rules,
        ne_eqb,
        All-head,
        sum_by-cons,
        All-tail,
        none-of_row bs ls (All-tail (λ (m : Listener). m.row.0 ≡ r.0 → ⊥) l ls none),
      )

  -- the one listener of the row that a switch has, if it has one, says whether a ball counts at it
  switch-count : (bs : List BallSwitch) (c : Bool) (ls : List Listener) → AllPairs AreOfTwoRows ls
      → All (λ (l : Listener). l.row.0 ≡ r.0 → counts bs l.switch ≡ c) ls
      → one (list_any of_row ls && c) ≡ sum_by (counts_at bs) ls
  switch-count bs c [] apart says = refl
  switch-count bs c (l ∷ ls) apart says =
      elim (cases_Bool (l.row.0 == r.0)) [
        | inl its ↦
            let row : l.row.0 ≡ r.0 = eqb-true l.row.0 r.0 its in
            let whole : one (list_any of_row (l ∷ ls) && c) ≡ one c =
            ap (λ (b : Bool). one ((b || list_any of_row ls) && c)) its in
            let here : counts_at bs l ≡ one c =
            ap₂ (λ (x y : Bool). one (x && y)) its
            (All-head (λ (m : Listener). m.row.0 ≡ r.0 → counts bs m.switch ≡ c) l ls says row) in
            let none = none-of_row bs ls (λ k e within also.
            pairs-head AreOfTwoRows l ls apart k e within (ap (λ (j : ℕ). record { 0 = j }) (row ∙ sym also))) in
            omega (arith, whole, here, none, sum_by-cons (counts_at bs) l ls)
        | inr not ↦
            let whole : one (list_any of_row (l ∷ ls) && c) ≡ one (list_any of_row ls && c) =
            ap (λ (b : Bool). one ((b || list_any of_row ls) && c)) not in
            let here : counts_at bs l ≡ 0 = ap (λ (b : Bool). one (b && counts bs l.switch)) not in
            let rest = switch-count bs c ls (pairs-tail AreOfTwoRows l ls apart)
            (All-tail (λ (m : Listener). m.row.0 ≡ r.0 → counts bs m.switch ≡ c) l ls says) in
            omega (arith, whole, here, rest, sum_by-cons (counts_at bs) l ls)
      ]

module _ (plan : PlanView) (r : RowId) (bs : List BallSwitch) (test : SwitchId → Bool) where
  -- what the listeners of a switch say
  pub record IsSaid (n : SwitchId) : Type 0 where
    pub once : AllPairs AreOfTwoRows (listeners_of plan n)
    pub says : All (λ (l : Listener). l.row.0 ≡ r.0 → (get_or bs l.switch empty).counted ≡ test n) (listeners_of plan n)

  switches-count : (ns : List SwitchId) → All IsSaid ns
      → count_by test (filter (λ n. list_any (λ l. l.row.0 == r.0) (listeners_of plan n)) ns)
      ≡ sum_by (counts_at r bs) (flat_map (listeners_of plan) ns)
  switches-count [] all = refl
  switches-count (n ∷ ns) all =
      let said = All-head IsSaid n ns all in
      omega (
        arith,
        filter-count test (λ n. list_any (λ l. l.row.0 == r.0) (listeners_of plan n)) n ns,
        switch-count r bs (test n) (listeners_of plan n) said.once said.says,
        sum_by-append (counts_at r bs) (listeners_of plan n) (flat_map (listeners_of plan) ns),
        switches-count ns (All-tail IsSaid n ns all),
      )

  all_listeners : flat_map (listeners_of plan) (switches_of plan) ≡ flat_map (λ s. s.listeners) plan.switches
  all_listeners =
      let number : ℕ → SwitchId = λ k. record { 0 = k } in
      let all : plan.switches ≡ map (λ k. switch_at plan (number k)) (range_with_len 0 (length plan.switches)) =
      fill_by_all (λ k. switch_at plan (number k)) plan.switches (length plan.switches) no_switch refl
      (λ k within. refl) in
      flat_map-map (listeners_of plan) number (range_with_len 0 (length plan.switches))
      ∙ (sym (flat_map-map (λ (s : PlanSwitch). s.listeners) (λ k. switch_at plan (number k))
      (range_with_len 0 (length plan.switches)))
      ∙ ap (flat_map (λ (s : PlanSwitch). s.listeners)) (sym all))

  pub row-count : AllPairs AreApart (flat_map (λ s. s.listeners) plan.switches) → All IsSaid (switches_of plan)
      → ((i : ℕ) → (get_or bs i empty).counted ≡ true → is_heard r i (flat_map (λ s. s.listeners) plan.switches) ≡ true)
      → count_by (λ b. b.counted) bs ≡ count_by test (ball_switches plan r)
  row-count apart said heard = search (rules, switches-count, all_listeners, listeners-count)
