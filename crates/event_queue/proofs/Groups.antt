-- Places of one event that take part from now on, or no more.
use Rattle.std.proofs.Common.{rules, ◌≡◌, ◌≢◌, ℕ, suc, ◌+◌, ◌<◌, ◌≤◌, ◌==◌, ◌&&◌, ◌||◌, not, Bool, true, false}
use Rattle.std.proofs.Common.{true≢false, List, [], ◌∷◌, ◌++◌, Some, length, filter, get_or, slice_get, slice_set, Vec}
use Rattle.std.proofs.Common.{Global, vec_capacity, refl, ap, sym, subst, ◌∙◌, inl, inr, arith}
use Rattle.std.{specs.List.{All, AllPairs}, proofs.lemmas.List.{FromFn.length-range_with_len, Kept.AllPairs-filter}}
use Rattle.std.proofs.{Math.Bool.{or-false, or_assoc}, lemmas.List.{get_or-set_other, Folds.list_any_at}}
use Rattle.std.proofs.lemmas.Bool.{cases_eq, eq-eqb, ne_eqb, and_right, or_from, not_from_true}
use Rattle.std.proofs.lemmas.List.{length-map, length-set, length-append, get_or-append-add, get_or-set_same}
use Rattle.plan_tables.specs.declared.entries.{BindingId.BindingId, EventId.EventId, Binding.Binding}
use Rattle.plan_tables.{specs.{Valid.IsValid, PlanView.{PlanView, binding_at, places_of}}, proofs.BoundTo.places_of-on}
use Rattle.event_queue.specs.{PlanOrder.by_priority, OrderedLists.{also, also_all, without_all}}
use Rattle.event_queue.proofs.{Owned.has-event, Handling.{binding-event, event-known}}
use Rattle.event_queue.proofs.Walk.{length-put_all, turn-apart, pairs-rest, pairs-first}
use Rattle.event_queue.specs.OrderedLists.{put_all, IsOrdered, IsInTurn, runs_before, IsOrderOf, HasOrders, IsGroup}
use Rattle.event_queue.proofs.PlanOrder.{IsBelow, places_of-increase, filter-shorter, priority-length}
use Rattle.event_queue.proofs.Joined.{has, place-same, also-other, joined, by_priority-in_order, runs-order}
use Rattle.yaml_bytes.proofs.Each.{filter-agree}

-- ---- whether a place is among some

abbrev pub AreApart : List BindingId → Type 0
AreApart ps = AllPairs (λ p q. p.0 ≢ q.0) ps

pub none-has : (ps : List BindingId) (p : BindingId) → All (λ q. q.0 ≢ p.0) ps → has ps p ≡ false
none-has [] p others = refl
none-has (q ∷ ps) p others = or_from (q.0 == p.0) (has ps p) (ne_eqb q.0 p.0 (others 0 q (omega arith)))
    (none-has ps p (λ k d within. others (suc k) d (omega arith)))

-- what is so of each of them is so of one among them
pub among-is : (takes : BindingId → Bool) (b : Bool) (ps : List BindingId) (p : BindingId) → All (λ q. takes q ≡ b) ps
    → has ps p ≡ true → takes p ≡ b
among-is takes b [] p all there = absurd (true≢false (sym there))
among-is takes b (q ∷ ps) p all there =
    elim (cases_eq q.0 p.0) [
      | inl same ↦ ap takes (sym (place-same q p same)) ∙ all 0 q (omega arith)
      | inr other ↦ among-is takes b ps p (λ k d within. all (suc k) d (omega arith))
          (sym (ap (λ c. c || has ps p) (ne_eqb q.0 p.0 other)) ∙ there)
    ]

pub is-among : (ps : List BindingId) (k : ℕ) (d : BindingId) → k < length ps → has ps (get_or ps k d) ≡ true
is-among ps k d within = list_any_at (λ q. q.0 == (get_or ps k d).0) ps k d within
    (eq-eqb (get_or ps k d).0 (get_or ps k d).0 refl)

pub has-append : (ps qs : List BindingId) (p : BindingId) → has (ps ++ qs) p ≡ (has ps p || has qs p)
has-append [] qs p = refl
has-append (r ∷ ps) qs p = ap (λ b. (r.0 == p.0) || b) (has-append ps qs p)
    ∙ sym (or_assoc (r.0 == p.0) (has ps p) (has qs p))

-- one among the first is not among the others
pub once : (ps qs : List BindingId) (p : BindingId) → AreApart (ps ++ qs) → has ps p ≡ true → has qs p ≡ false
once [] qs p apart there = absurd (true≢false (sym there))
once (r ∷ ps) qs p apart there =
    elim (cases_eq r.0 p.0) [
      | inl same ↦ none-has qs p (λ k d within again. pairs-first (λ a b. a.0 ≢ b.0) r (ps ++ qs) apart (length ps + k)
          d (omega (arith, length-append ps qs))
          (same ∙ sym again ∙ sym (ap (λ (q : BindingId). q.0) (get_or-append-add ps qs k d))))
      | inr other ↦ once ps qs p (pairs-rest (λ a b. a.0 ≢ b.0) r (ps ++ qs) apart)
          (sym (ap (λ c. c || has ps p) (ne_eqb r.0 p.0 other)) ∙ there)
    ]

-- ---- the bindings at places that are apart, put into the order of an event

module _ (plan : PlanView) where
  pub in_turn-apart : (ps : List BindingId) → IsInTurn (runs_before plan) ps → AreApart ps
  in_turn-apart ps turn i j d low high same =
      turn-apart (runs_before plan) (runs-order plan) ps turn i j d low high
      (place-same (get_or ps i d) (get_or ps j d) same)

  joined-all : (group : List BindingId) (takes : BindingId → Bool) (ps : List BindingId) → AllPairs IsBelow ps
      → All (λ q. has ps q ≡ true) group → AreApart group → All (λ q. takes q ≡ false) group
      → put_all (runs_before plan) group (by_priority plan (filter takes ps))
      ≡ by_priority plan (filter (also_all takes group) ps)
  joined-all [] takes ps below there apart new =
      ap (by_priority plan) (filter-agree takes (also_all takes []) ps
      (λ k d within. sym (or-false (takes (get_or ps k d)))))
  joined-all (q ∷ qs) takes ps below there apart new =
      ap (put_all (runs_before plan) qs) (joined plan takes q (new 0 q (omega arith)) ps below
      (there 0 q (omega arith)))
      ∙ joined-all qs (also takes q) ps below (λ k d within. there (suc k) d (omega arith))
      (pairs-rest (λ a b. a.0 ≢ b.0) q qs apart)
      (λ k d within. also-other takes q (get_or qs k d)
      (λ same. apart 0 (suc k) d (omega arith) (omega arith) (sym same)) ∙ new (suc k) d (omega arith))
      ∙ ap (by_priority plan) (filter-agree (also_all (also takes q) qs) (also_all takes (q ∷ qs)) ps
      (λ k d within. or_assoc (takes (get_or ps k d)) (q.0 == (get_or ps k d).0) (has qs (get_or ps k d))))

  places-count : (e : EventId) → length (places_of plan e) ≤ length plan.bindings
  places-count e = search (rules, filter-shorter, length-map, length-range_with_len)

  module _ (group : List BindingId) (e : EventId) (within : All (λ p. p.0 < length plan.bindings) group)
      (on : All (λ p. (binding_at plan p).event.0 ≡ e.0) group) (known : e.0 < length plan.events)
      (turn : IsInTurn (runs_before plan) group) where
    join-event : (takes : BindingId → Bool) → All (λ q. takes q ≡ false) group
        → put_all (runs_before plan) group (by_priority plan (filter takes (places_of plan e)))
        ≡ by_priority plan (filter (also_all takes group) (places_of plan e))
    join-event takes new =
        joined-all group takes (places_of plan e) (places_of-increase plan e)
        (λ k d inside. has-event plan e (get_or group k d) (within k d inside) (on k d inside))
        (in_turn-apart group turn) new

    -- none of another event is among them
    not-among : (p : BindingId) → (binding_at plan p).event.0 ≢ e.0 → has group p ≡ false
    not-among p other = none-has group p (λ k d inside same. other
        (ap (λ (q : BindingId). (binding_at plan q).event.0) (sym (place-same (get_or group k d) p same))
        ∙ on k d inside))

    module _ (orders : List (Vec BindingId Global)) (takes : BindingId → Bool)
        (has-orders : HasOrders plan takes orders) (d : Vec BindingId Global) where
      -- there is room for all of them, if they do not take part
      pub group-room : All (λ q. takes q ≡ false) group
          → (length (get_or orders e.0 d).items + length group ≤ vec_capacity (get_or orders e.0 d))
          × (length (get_or orders e.0 d).items + length group ≤ length plan.bindings)
      group-room new =
          let all = length-put_all (runs_before plan) group (by_priority plan (filter takes (places_of plan e))) in
          let more = ap length (join-event takes new) in
          let shown = priority-length plan (filter (also_all takes group) (places_of plan e)) in
          let fewer = filter-shorter (also_all takes group) (places_of plan e) in
          let same = ap length (has-orders.each e.0 d known).places in
          let room = (has-orders.each e.0 d known).room in
          let count = places-count e in
          (omega arith, omega arith)

      pub order-short : length (get_or orders e.0 d).items ≤ length plan.bindings
      order-short =
          let shown = priority-length plan (filter takes (places_of plan e)) in
          let fewer = filter-shorter takes (places_of plan e) in
          let same = ap length (has-orders.each e.0 d known).places in
          let count = places-count e in
          omega arith

      -- another order at the event alone
      changed-at : (v : Vec BindingId Global) (other : BindingId → Bool)
          → ((p : BindingId) → (binding_at plan p).event.0 ≢ e.0 → other p ≡ takes p) → IsOrderOf plan other e v
          → HasOrders plan other (slice_set orders e.0 v)
      changed-at v other agree is = record {
        count = length-set orders e.0 v ∙ has-orders.count;
        each = λ n c inside.
            elim (cases_eq n e.0) [
              | inl same ↦
                  subst (λ (k : ℕ). IsOrderOf plan other (record { 0 = k }) (get_or (slice_set orders e.0 v) k c))
                  (sym same)
                  (subst (IsOrderOf plan other e)
                  (sym (get_or-set_same orders e.0 v c (omega (arith, known, has-orders.count)))) is)
              | inr apart ↦
                  let was = has-orders.each n c inside in
                  let ps = places_of plan (record { 0 = n }) in
                  let places = was.places ∙ sym (ap (by_priority plan)
                  (filter-agree other takes ps
                  (λ k a there. agree (get_or ps k a)
                  (λ same. apart (sym (places_of-on plan (record { 0 = n }) k a there) ∙ same))))) in
                  subst (IsOrderOf plan other (record { 0 = n })) (sym (get_or-set_other orders e.0 n v c apart))
                  (record { places = places; room = was.room })
            ];
      }

      -- they take part from now on
      pub group-joined : (v : Vec BindingId Global) → vec_capacity (get_or orders e.0 d) ≤ vec_capacity v
          → All (λ q. takes q ≡ false) group → v.items ≡ put_all (runs_before plan) group (get_or orders e.0 d).items
          → HasOrders plan (also_all takes group) (slice_set orders e.0 v)
      group-joined v grown new is =
          let was = has-orders.each e.0 d known in
          let room : length (places_of plan e) ≤ vec_capacity v = let old = was.room in omega arith in
          changed-at v (also_all takes group)
          (λ p other. ap (λ b. takes p || b) (not-among p other) ∙ or-false (takes p))
          (record
          { places = is ∙ ap (put_all (runs_before plan) group) was.places ∙ join-event takes new; room = room })

      -- ---- they took part, and do so no more

      abbrev pub others : List BindingId
      others = by_priority plan (filter (without_all takes group) (places_of plan e))

      pub others-in_order : IsOrdered (runs_before plan) others
      others-in_order = by_priority-in_order plan (filter (without_all takes group) (places_of plan e))
          (AllPairs-filter IsBelow (without_all takes group) (places_of plan e) (places_of-increase plan e))

      pub others-short : length others ≤ vec_capacity (get_or orders e.0 d)
      others-short =
          let shown = priority-length plan (filter (without_all takes group) (places_of plan e)) in
          let fewer = filter-shorter (without_all takes group) (places_of plan e) in
          let room = (has-orders.each e.0 d known).room in
          omega arith

      back : (t h : Bool) → (h ≡ true → t ≡ true) → t ≡ ((t && not h) || h)
      back true true is = refl
      back true false is = refl
      back false true is = is refl
      back false false is = refl

      pub order-with-group : All (λ q. takes q ≡ true) group
          → (get_or orders e.0 d).items ≡ put_all (runs_before plan) group others
      order-with-group took =
          let ps = places_of plan e in
          (has-orders.each e.0 d known).places
          ∙ ap (by_priority plan) (filter-agree takes (also_all (without_all takes group) group) ps
          (λ k c inside. back (takes (get_or ps k c)) (has group (get_or ps k c))
          (among-is takes true group (get_or ps k c) took)))
          ∙ sym (join-event (without_all takes group)
          (λ k c inside. and_right (takes (get_or group k c)) (not (has group (get_or group k c)))
          (not_from_true (has group (get_or group k c)) (is-among group k c inside))))

      pub group-parted : (v : Vec BindingId Global) → vec_capacity (get_or orders e.0 d) ≤ vec_capacity v
          → v.items ≡ others → HasOrders plan (without_all takes group) (slice_set orders e.0 v)
      group-parted v grown is =
          let was = has-orders.each e.0 d known in
          let room : length (places_of plan e) ≤ vec_capacity v = let old = was.room in omega arith in
          changed-at v (without_all takes group)
          (λ p other. ap (λ b. takes p && not b) (not-among p other) ∙ both (takes p))
          (record { places = is; room = room })
        where
          both : (b : Bool) → (b && true) ≡ b
          both true = refl
          both false = refl

-- ---- the event of a group

module _ (plan : PlanView) (group : List BindingId) (is : IsGroup plan group) (b : Binding) (valid : IsValid plan)
    (found : slice_get plan.bindings (get_or group 0 (record { 0 = 0 })).0 ≡ Some b) where
  abbrev first : BindingId
  first = get_or group 0 (record { 0 = 0 })

  there : first.0 < length plan.bindings
  there = is.within 0 (record { 0 = 0 }) is.some

  pub group-known : b.event.0 < length plan.events
  group-known = event-known plan first b valid there found

  pub group-on : All (λ p. (binding_at plan p).event.0 ≡ b.event.0) group
  group-on k d within = is.same (record { 0 = 0 }) k d within ∙ binding-event plan first b valid there found
