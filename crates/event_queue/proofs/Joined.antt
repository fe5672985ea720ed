-- Plan order of places when one more takes part: it is put into the order.
use Rattle.std.proofs.Common.{rules, ◌≡◌, ◌≢◌, ℕ, suc, ◌<◌, nat_lt, ◌==◌, ◌&&◌, ◌||◌, not, Bool, true, false, arith}
use Rattle.std.proofs.Common.{true≢false, cond, List, [], ◌∷◌, filter, get_or, refl, ap, sym, subst, ◌∙◌, inl, inr}
use Rattle.std.specs.{List.{All, AllPairs, list_any}, Cmp.IsStrictWeakOrder}
use Rattle.std.proofs.lemmas.Bool.{cases_eq, eq-eqb, ne_eqb, or_right, Decides.nat_tests}
use Rattle.std.proofs.{lemmas.List.{Kept.AllPairs-filter, Sorted.All-permutation}, Math.Bool.or-false}
use Rattle.plan_tables.specs.{declared.entries.BindingId.BindingId, PlanView.PlanView}
use Rattle.event_queue.specs.{Handlers.priority_at, PlanOrder.{insert_place, by_priority}}
use Rattle.event_queue.specs.OrderedLists.{put, IsOrdered, runs_before, also}
use Rattle.event_queue.proofs.{Put.{ordered-put, put_comm}, Sort.by_priority-permutes, PlanOrder.IsBelow}
use Rattle.yaml_bytes.proofs.Each.{filter-agree}

-- ---- tests that agree

pub place-same : (p q : BindingId) → p.0 ≡ q.0 → p ≡ q
place-same p q same = ap (λ n. record { 0 = n }) same

-- whether a place is among some
abbrev pub has : List BindingId → BindingId → Bool
has ps q = list_any (λ p. p.0 == q.0) ps

module _ (takes : BindingId → Bool) (q : BindingId) where
  pub also-other : (p : BindingId) → p.0 ≢ q.0 → also takes q p ≡ takes p
  also-other p other = ap (λ b. takes p || b) (ne_eqb q.0 p.0 (λ same. other (sym same))) ∙ or-false (takes p)

  also-itself : (p : BindingId) → p.0 ≡ q.0 → also takes q p ≡ true
  also-itself p same = or_right (takes p) (q.0 == p.0) (eq-eqb q.0 p.0 (sym same))

module _ (plan : PlanView) where
  -- ---- one place before another

  higher-same : (t r u s : ℕ) → (nat_lt u t || ((t == u) && nat_lt r s)) ≡ false
      → (nat_lt t u || ((u == t) && nat_lt s r)) ≡ false → r ≡ s
  higher-same t r u s not neither = grind (arith, nat_tests)

  pub runs-order : IsStrictWeakOrder (runs_before plan)
  runs-order = search rules

  pub runs-same : (p q : BindingId) → runs_before plan p q ≡ false → runs_before plan q p ≡ false → p ≡ q
  runs-same p q not neither = place-same p q (higher-same (priority_at plan p) p.0 (priority_at plan q) q.0 not neither)

  -- ---- places by priority, as places put into one another

  in_turn : List BindingId → List BindingId
  in_turn [] = []
  in_turn (p ∷ ps) = put (runs_before plan) p (in_turn ps)

  test-is : (x y n m : ℕ) → n < m → nat_lt x y ≡ (nat_lt x y || ((y == x) && nat_lt m n))
  test-is x y n m below = grind (arith, nat_tests)

  insert-put : (p : BindingId) (qs : List BindingId) → All (IsBelow p) qs
      → insert_place plan p qs ≡ put (runs_before plan) p qs
  insert-put p [] below = refl
  insert-put p (q ∷ qs) below =
      let test = test-is (priority_at plan p) (priority_at plan q) p.0 q.0 (below 0 q (omega arith)) in
      let rest = insert-put p qs (λ k d within. below (suc k) d (omega arith)) in
      λ i. cond (test i) (q ∷ rest i) (p ∷ q ∷ qs)

  by_priority-in_turn : (ps : List BindingId) → AllPairs IsBelow ps → by_priority plan ps ≡ in_turn ps
  unfolding in_turn
  by_priority-in_turn [] below = refl
  by_priority-in_turn (p ∷ ps) below =
      insert-put p (by_priority plan ps) (All-permutation (IsBelow p) ps (by_priority plan ps)
      (by_priority-permutes plan ps) (λ k d within. below 0 (suc k) d (omega arith) (omega arith)))
      ∙ ap (put (runs_before plan) p) (by_priority-in_turn ps
      (λ i j d low high. below (suc i) (suc j) d (omega arith) (omega arith)))

  in_turn-ordered : (ps : List BindingId) → IsOrdered (runs_before plan) (in_turn ps)
  unfolding in_turn
  in_turn-ordered [] = λ i j d low high. absurd (omega arith)
  in_turn-ordered (p ∷ ps) = ordered-put (runs_before plan) runs-order p (in_turn ps) (in_turn-ordered ps)

  pub by_priority-in_order : (ps : List BindingId) → AllPairs IsBelow ps
      → IsOrdered (runs_before plan) (by_priority plan ps)
  by_priority-in_order ps below = subst (IsOrdered (runs_before plan)) (sym (by_priority-in_turn ps below))
      (in_turn-ordered ps)

  -- ---- one more takes part

  module _ (takes : BindingId → Bool) (q : BindingId) (fresh : takes q ≡ false) where
    among-others : (ps : List BindingId) → All (λ p. p.0 ≢ q.0) ps → filter (also takes q) ps ≡ filter takes ps
    among-others ps others = filter-agree (also takes q) takes ps
        (λ k d within. also-other takes q (get_or ps k d) (others k d within))

    joins : (ps : List BindingId) → AllPairs IsBelow ps → has ps q ≡ true
        → in_turn (filter (also takes q) ps) ≡ put (runs_before plan) q (in_turn (filter takes ps))
    unfolding in_turn
    joins [] below there = absurd (true≢false (sym there))
    joins (p ∷ ps) below there =
        elim (cases_eq p.0 q.0) [
          | inl same ↦
              let is = place-same p q same in
              let past : All (λ r. r.0 ≢ q.0) ps = λ k d within here. let above =
              below 0 (suc k) d (omega arith) (omega arith) in absurd (omega arith) in
              ap (λ b. in_turn (cond b (p ∷ filter (also takes q) ps) (filter (also takes q) ps)))
              (also-itself takes q p same)
              ∙ ap (λ rs. put (runs_before plan) p (in_turn rs)) (among-others ps past)
              ∙ ap (λ r. put (runs_before plan) r (in_turn (filter takes ps))) is
              ∙ sym (ap (λ b. put (runs_before plan) q (in_turn (cond b (p ∷ filter takes ps) (filter takes ps))))
              (ap takes is ∙ fresh))
          | inr other ↦
              ap (λ b. in_turn (cond b (p ∷ filter (also takes q) ps) (filter (also takes q) ps)))
              (also-other takes q p other)
              ∙ by p (filter (also takes q) ps) (filter takes ps) (takes p)
              (joins ps (λ i j d low high. below (suc i) (suc j) d (omega arith) (omega arith))
              (ap (λ b. b || has ps q) (sym (ne_eqb p.0 q.0 other)) ∙ there))
        ]
      where
        by : (p : BindingId) (more less : List BindingId) (b : Bool)
            → in_turn more ≡ put (runs_before plan) q (in_turn less)
            → in_turn (cond b (p ∷ more) more) ≡ put (runs_before plan) q (in_turn (cond b (p ∷ less) less))
        by p more less true is = ap (put (runs_before plan) p) is
            ∙ put_comm (runs_before plan) runs-order runs-same p q (in_turn less)
        by p more less false is = is

    pub joined : (ps : List BindingId) → AllPairs IsBelow ps → has ps q ≡ true
        → put (runs_before plan) q (by_priority plan (filter takes ps)) ≡ by_priority plan (filter (also takes q) ps)
    joined ps below there = search (rules, by_priority-in_turn, AllPairs-filter, joins)
