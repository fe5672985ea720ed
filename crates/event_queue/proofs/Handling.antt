-- For each event the order of what takes part: as it is made, and when one more takes part, or one less.
use Rattle.std.proofs.Common.{rules, ◌≡◌, ◌≢◌, ℕ, ◌+◌, ◌<◌, ◌≤◌, nat_lt, ◌&&◌, Bool, true, false, List, [], ◌∷◌, ◌++◌}
use Rattle.std.proofs.Common.{Some, length, filter, get_or, slice_get, slice_set, Vec, Global, vec_capacity, refl, ap}
use Rattle.std.{proofs.Common.{sym, subst, ◌∙◌, inl, inr, arith}, specs.List.All}
use Rattle.std.proofs.lemmas.{Option.get_or_from_slice_get, List.{length_push, Kept.AllPairs-filter}}
use Rattle.std.proofs.lemmas.Bool.{cases_eq, cases_lt, le-ltb, and_right, Decides.nat_tests}
use Rattle.std.proofs.lemmas.List.{length-set, get_or-set_same, get_or-set_other, get_or_append_left, get_or_push}
use Rattle.plan_tables.specs.declared.entries.{BindingId.BindingId, EventId.EventId, Binding.Binding}
use Rattle.plan_tables.specs.{PlanView.{PlanView, no_binding, binding_at, places_of}, Valid.IsValid}
use Rattle.plan_tables.proofs.BoundTo.{places_of-within, places_of-on}
use Rattle.event_queue.{specs.{Handlers.runs_at, PlanOrder.by_priority}, proofs.{Put.length-put, Owned.has-event}}
use Rattle.event_queue.specs.OrderedLists.{put, IsOrdered, runs_before, IsOrderOf, HasOrders, IsOwnedBy, also}
use Rattle.event_queue.proofs.PlanOrder.{IsBelow, places_of-increase, filter-shorter, priority-length}
use Rattle.event_queue.proofs.Joined.{also-other, place-same, by_priority-in_order, joined}
use Rattle.yaml_bytes.proofs.Each.{filter-agree}

abbrev event : ℕ → EventId
event n = record { 0 = n }

module _ (plan : PlanView) where
  module _ (takes : BindingId → Bool) (orders : List (Vec BindingId Global)) (has : HasOrders plan takes orders) where
    -- it is that of any test that agrees
    pub orders-agree : (other : BindingId → Bool) → ((p : BindingId) → p.0 < length plan.bindings → takes p ≡ other p)
        → HasOrders plan other orders
    orders-agree other agree = record {
      count = has.count;
      each = λ e d within.
          let was = has.each e d within in
          record {
            places = was.places ∙ ap (by_priority plan)
                (filter-agree takes other (places_of plan (event e))
                (λ k c there. agree (get_or (places_of plan (event e)) k c)
                (places_of-within plan (event e) k c there)));
            room = was.room;
          };
    }

    pub order-in_order : (e : EventId) (d : Vec BindingId Global) → e.0 < length plan.events
        → IsOrdered (runs_before plan) (get_or orders e.0 d).items
    order-in_order e d within =
        subst (IsOrdered (runs_before plan)) (sym (has.each e.0 d within).places)
        (by_priority-in_order plan (filter takes (places_of plan e))
        (AllPairs-filter IsBelow takes (places_of plan e) (places_of-increase plan e)))

  -- ---- a binding, and its event

  module _ (q : BindingId) (b : Binding) (valid : IsValid plan) (there : q.0 < length plan.bindings)
      (is : slice_get plan.bindings q.0 ≡ Some b) where
    pub binding-event : (binding_at plan q).event.0 ≡ b.event.0
    binding-event = ap (λ (c : Binding). c.event.0) (get_or_from_slice_get plan.bindings q.0 b no_binding is)

    pub event-known : b.event.0 < length plan.events
    event-known = search (rules, binding-event)

  module _ (q : BindingId) (e : EventId) (there : q.0 < length plan.bindings) (on : (binding_at plan q).event.0 ≡ e.0)
      (known : e.0 < length plan.events) where
    -- it is bound to no other event
    elsewhere : (n : ℕ) → n ≢ e.0 → All (λ p. p.0 ≢ q.0) (places_of plan (event n))
    elsewhere n other k d within same = search (rules, get_or, places_of-on, place-same)

    joins-event : (takes : BindingId → Bool) → takes q ≡ false
        → put (runs_before plan) q (by_priority plan (filter takes (places_of plan e)))
        ≡ by_priority plan (filter (also takes q) (places_of plan e))
    joins-event takes fresh = joined plan takes q fresh (places_of plan e) (places_of-increase plan e)
        (has-event plan e q there on)

    -- its event's order has room for it, if it does not take part
    pub order-room : (takes : BindingId → Bool) (orders : List (Vec BindingId Global)) → HasOrders plan takes orders
        → (d : Vec BindingId Global) → takes q ≡ false
        → length (get_or orders e.0 d).items < vec_capacity (get_or orders e.0 d)
    order-room takes orders has d fresh =
        let one = length-put (runs_before plan) q (by_priority plan (filter takes (places_of plan e))) in
        let more = ap length (joins-event takes fresh) in
        let all = priority-length plan (filter (also takes q) (places_of plan e)) in
        let fewer = filter-shorter (also takes q) (places_of plan e) in
        let same = ap length (has.each e.0 d known).places in
        let room = (has.each e.0 d known).room in
        omega arith

    module _ (orders : List (Vec BindingId Global)) (v : Vec BindingId Global) where
      -- another order at the event alone
      changed : (takes other : BindingId → Bool) → HasOrders plan takes orders
          → ((p : BindingId) → p.0 ≢ q.0 → other p ≡ takes p) → IsOrderOf plan other e v
          → HasOrders plan other (slice_set orders e.0 v)
      changed takes other has agree is = record {
        count = length-set orders e.0 v ∙ has.count;
        each = λ n d within.
            elim (cases_eq n e.0) [
              | inl same ↦
                  subst (λ (k : ℕ). IsOrderOf plan other (event k) (get_or (slice_set orders e.0 v) k d)) (sym same)
                  (subst (IsOrderOf plan other e)
                  (sym (get_or-set_same orders e.0 v d (omega (arith, known, has.count)))) is)
              | inr apart ↦
                  let was = has.each n d within in
                  let places = was.places ∙ sym (ap (by_priority plan)
                  (filter-agree other takes (places_of plan (event n))
                  (λ k c inside. agree (get_or (places_of plan (event n)) k c) (elsewhere n apart k c inside)))) in
                  subst (IsOrderOf plan other (event n)) (sym (get_or-set_other orders e.0 n v d apart))
                  (record { places = places; room = was.room })
            ];
      }

      module _ (takes : BindingId → Bool) (has : HasOrders plan takes orders) (d : Vec BindingId Global)
          (grown : vec_capacity (get_or orders e.0 d) ≤ vec_capacity v) where
        room : length (places_of plan e) ≤ vec_capacity v
        room = let was = (has.each e.0 d known).room in omega arith

        -- the binding takes part from now on
        pub order-added : takes q ≡ false → v.items ≡ put (runs_before plan) q (get_or orders e.0 d).items
            → HasOrders plan (also takes q) (slice_set orders e.0 v)
        order-added fresh is =
            changed takes (also takes q) has (also-other takes q)
            (record {
              places = is ∙ ap (put (runs_before plan) q) (has.each e.0 d known).places
                  ∙ joins-event takes fresh;
              room = room;
            })

  -- ---- no binding takes part

  none-pass : (ps : List BindingId) → filter (λ p. false) ps ≡ []
  none-pass [] = refl
  none-pass (p ∷ ps) = none-pass ps

  -- so many events have room
  pub record HasFirstRooms (n : ℕ) (orders : List (Vec BindingId Global)) : Type 0 where
    pub count : length orders ≡ n
    pub each : (e : ℕ) (d : Vec BindingId Global) → e < n
        → IsOrderOf plan (λ p. false) (record { 0 = e }) (get_or orders e d)

  pub rooms-more : (n : ℕ) (orders : List (Vec BindingId Global)) (v : Vec BindingId Global) → HasFirstRooms n orders
      → v.items ≡ [] → length (places_of plan (record { 0 = n })) ≤ vec_capacity v
      → HasFirstRooms (n + 1) (orders ++ v ∷ [])
  rooms-more n orders v has empty room = search
      (rules, room, length_push, cases_lt, get_or_append_left, get_or, get_or_push, none-pass)

  -- ---- what takes part from the start on

  module _ (running : List Bool) where
    -- of the bindings below n those whose owner runs
    abbrev pub first_of : ℕ → BindingId → Bool
    first_of n p = runs_at plan running p && nat_lt p.0 n

    pub first-none : (p : BindingId) → false ≡ first_of 0 p
    first-none p = sym (and_right (runs_at plan running p) (nat_lt p.0 0) (le-ltb p.0 0 (omega arith)))

    pub first-all : (n : ℕ) (p : BindingId) → length plan.bindings ≤ n → p.0 < length plan.bindings
        → first_of n p ≡ runs_at plan running p
    first-all n p all within = search rules

    module _ (n : ℕ) where
      abbrev here : BindingId
      here = record { 0 = n }

      pub first-fresh : first_of n here ≡ false
      first-fresh = and_right (runs_at plan running here) (nat_lt n n) (le-ltb n n (omega arith))

      apart : (p : BindingId) → p.0 ≢ n → first_of n p ≡ first_of (n + 1) p
      apart p other = let same : nat_lt p.0 n ≡ nat_lt p.0 (n + 1) = grind (arith, nat_tests)
          in ap (λ b. runs_at plan running p && b) same

      pub first-more : runs_at plan running here ≡ true → (p : BindingId)
          → also (first_of n) here p ≡ first_of (n + 1) p
      first-more runs p = search rules

      pub first-same : runs_at plan running here ≡ false → (p : BindingId) → first_of n p ≡ first_of (n + 1) p
      first-same rests p = search rules

-- ---- the places of all modes, as they are listed

module _ (plan : PlanView) where
  -- the places of so many modes are listed
  pub record HasFirstOwned (n : ℕ) (lists : List (Vec BindingId Global)) : Type 0 where
    pub count : length lists ≡ n
    pub each : (m : ℕ) (d : Vec BindingId Global) → m < n → IsOwnedBy plan (record { 0 = m }) (get_or lists m d).items
