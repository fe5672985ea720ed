-- The places of a mode's bindings, and what is left of them while they join what takes part, or leave it.
use Rattle.std.proofs.Common.{◌≡◌, ℕ, ◌<◌, nat_lt, ◌==◌, ◌&&◌, ◌||◌, not, Bool, true, false, true≢false, List, ◌++◌}
use Rattle.std.proofs.Common.{length, get_or, slice_set, refl, ap, sym, ◌∙◌, arith}
use Rattle.std.specs.{List.{All, AllWithin, Sorted.{IsPermutation, IsSortedBy}}, Cmp.IsStrictWeakOrder}
use Rattle.std.proofs.lemmas.Bool.{true_from_ne_false, eq-eqb, le-ltb, or_right, ne_eqb, Decides.nat_tests}
use Rattle.std.proofs.{lemmas.List.{get_or-set_same, get_or_append_left}, Math.Bool.or-false}
use Rattle.std.proofs.lemmas.List.Sorted.{All-permutation, list_any-IsPermutation, sorted_far}
use Rattle.std.proofs.lemmas.Map.Keys.{IsDistinct-IsPermutation, IsDistinct-from_apart, apart_from_distinct}
use Rattle.plan_tables.specs.declared.entries.{BindingId.BindingId, ModeId.ModeId, Owner.TheVariants.Mode}
use Rattle.plan_tables.specs.PlanView.{PlanView, binding_at, is_owner}
use Rattle.event_queue.specs.{Handlers.{runs_at, priority_at}, OrderedLists.{also_all, without_all}}
use Rattle.event_queue.specs.OrderedLists.{IsInTurn, IsGroup, IsOwnedBy, runs_before, stands_before, places_in}
use Rattle.event_queue.proofs.Walk.{All-left, All-right, pairs-left, pairs-right, turn-apart}
use Rattle.event_queue.proofs.Groups.{AreApart, among-is, is-among, has-append, once}
use Rattle.event_queue.proofs.{Joined.{has, place-same}, Owned.{joining-all, leaving-all}}
use Rattle.event_queue.proofs.Owned.{places_in-within, places_in-own, places_in-increase, has-owned, part-own}

-- ---- the order in which a mode's places stand

one-way : (a b c x y z : ℕ) → (nat_lt a x || ((a == x) && (nat_lt y b || ((b == y) && nat_lt c z)))) ≡ true
    → (nat_lt x a || ((x == a) && (nat_lt b y || ((y == b) && nat_lt z c)))) ≡ false
one-way a b c x y z is = grind (arith, nat_tests)

chain : (a b c x y z u v w : ℕ) → (nat_lt a x || ((a == x) && (nat_lt y b || ((b == y) && nat_lt c z)))) ≡ false
    → (nat_lt x u || ((x == u) && (nat_lt v y || ((y == v) && nat_lt z w)))) ≡ false
    → (nat_lt a u || ((a == u) && (nat_lt v b || ((b == v) && nat_lt c w)))) ≡ false
chain a b c x y z u v w first then = grind (arith, nat_tests)

neither : (a b c x y z : ℕ) → (nat_lt a x || ((a == x) && (nat_lt y b || ((b == y) && nat_lt c z)))) ≡ false
    → (nat_lt x a || ((x == a) && (nat_lt b y || ((y == b) && nat_lt z c)))) ≡ false → c ≡ z
neither a b c x y z one other = grind (arith, nat_tests)

of-one-event : (a x : ℕ) (runs : Bool) → a ≡ x → (nat_lt a x || ((a == x) && runs)) ≡ true → runs ≡ true
of-one-event a x runs same is = sym (ap (λ b. b || ((a == x) && runs)) (le-ltb a x (omega arith))
    ∙ ap (λ b. b && runs) (eq-eqb a x same)) ∙ is

abbrev event_at : PlanView → BindingId → ℕ
event_at plan p = (binding_at plan p).event.0

module _ (plan : PlanView) where
  pub stands-order : IsStrictWeakOrder (stands_before plan)
  stands-order = record {
    one_way = λ p q. one-way (event_at plan p) (priority_at plan p) p.0 (event_at plan q) (priority_at plan q) q.0;
    chain = λ p q r. chain (event_at plan p) (priority_at plan p) p.0 (event_at plan q) (priority_at plan q) q.0
        (event_at plan r) (priority_at plan r) r.0;
  }

  stands-same : (p q : BindingId) → stands_before plan p q ≡ false → stands_before plan q p ≡ false → p.0 ≡ q.0
  stands-same p q one other = neither (event_at plan p) (priority_at plan p) p.0 (event_at plan q) (priority_at plan q)
      q.0 one other

  in_turn-apart : (ps : List BindingId) → IsInTurn (stands_before plan) ps → AreApart ps
  in_turn-apart ps turn i j d low high same =
      turn-apart (stands_before plan) stands-order ps turn i j d low high
      (place-same (get_or ps i d) (get_or ps j d) same)

  module _ (m : ModeId) where
    is_same : BindingId → BindingId → Bool
    is_same p q = p.0 == q.0

    same-flips : (p q : BindingId) → is_same p q ≡ is_same q p
    unfolding is_same
    same-flips p q = by p.0 q.0
      where
        by : (a b : ℕ) → (a == b) ≡ (b == a)
        by a b = grind (arith, nat_tests)

    -- the places of a mode's bindings, sorted
    pub sorted-owned : (own : List BindingId) → IsPermutation (places_in plan m) own
        → IsSortedBy (stands_before plan) own → IsOwnedBy plan m own
    unfolding is_same
    sorted-owned own moved sorted =
        let distinct = IsDistinct-IsPermutation is_same same-flips (places_in plan m) own moved
        (IsDistinct-from_apart is_same (places_in plan m)
        (λ i j d low high. ne_eqb (get_or (places_in plan m) i d).0 (get_or (places_in plan m) j d).0
        (λ same. let below = places_in-increase plan m i j d low high in omega (arith, same, below)))) in
        record {
          permutation = moved;
          in_turn = λ i j d low high.
              true_from_ne_false (stands_before plan (get_or own i d) (get_or own j d)) (λ not.
              true≢false (sym (eq-eqb (get_or own i d).0 (get_or own j d).0
              (stands-same (get_or own i d) (get_or own j d) not
              (sorted_far (stands_before plan) stands-order own sorted i j d (omega arith) high)))
              ∙ apart_from_distinct is_same own i j d distinct low high));
        }

-- ---- what is left

-- places of a mode's bindings, in turn
pub record IsRest (plan : PlanView) (m : ModeId) (rest : List BindingId) : Type 0 where
  pub within : All (λ p. p.0 < length plan.bindings) rest
  pub own : All (λ p. is_owner (Mode m) (binding_at plan p).owner ≡ true) rest
  pub in_turn : IsInTurn (stands_before plan) rest

-- the first ones, which are of one event, by themselves
pub group-same : (plan : PlanView) (rest group after : List BindingId) (n : ℕ) → rest ≡ group ++ after
    → length group ≡ n → 0 < n
    → ((first : BindingId) → AllWithin (λ p. event_at plan p ≡ event_at plan (get_or rest 0 first)) rest 0 n)
    → (first : BindingId) → All (λ p. event_at plan p ≡ event_at plan (get_or group 0 first)) group
group-same plan rest group after n whole count some same first k d within =
    sym (ap (event_at plan) (item k d within)) ∙ same first k d (omega arith) (omega (arith, within, count))
    ∙ ap (event_at plan) (item 0 first (omega (arith, some, count)))
  where
    item : (j : ℕ) (e : BindingId) → j < length group → get_or rest j e ≡ get_or group j e
    item j e inside = ap (λ (xs : List BindingId). get_or xs j e) whole ∙ get_or_append_left group after e j inside

module _ (plan : PlanView) (m : ModeId) where
  pub rest-all : (own : List BindingId) → IsOwnedBy plan m own → IsRest plan m own
  rest-all own is = record {
    within = All-permutation (λ p. p.0 < length plan.bindings) (places_in plan m) own is.permutation
        (places_in-within plan m);
    own = All-permutation (λ p. is_owner (Mode m) (binding_at plan p).owner ≡ true) (places_in plan m) own
        is.permutation (places_in-own plan m);
    in_turn = is.in_turn;
  }

  module _ (group after : List BindingId) (rest : IsRest plan m (group ++ after)) where
    pub rest-after : IsRest plan m after
    rest-after = record {
      within = All-right (λ p. p.0 < length plan.bindings) group after rest.within;
      own = All-right (λ p. is_owner (Mode m) (binding_at plan p).owner ≡ true) group after rest.own;
      in_turn = pairs-right (λ p q. stands_before plan p q ≡ true) group after rest.in_turn;
    }

    -- the first ones of one event
    pub rest-group : 0 < length group → ((first : BindingId)
        → All (λ p. event_at plan p ≡ event_at plan (get_or group 0 first)) group) → IsGroup plan group
    rest-group some same = record {
      some = some;
      within = All-left (λ p. p.0 < length plan.bindings) group after rest.within;
      same = same;
      in_turn = λ i j d low high.
          of-one-event (event_at plan (get_or group i d)) (event_at plan (get_or group j d))
          (runs_before plan (get_or group i d) (get_or group j d))
          (same d i d (omega arith) ∙ sym (same d j d high))
          (pairs-left (λ p q. stands_before plan p q ≡ true) group after rest.in_turn i j d low high);
    }

    among-rest : (k : ℕ) (d : BindingId) → k < length group → has (group ++ after) (get_or group k d) ≡ true
    among-rest k d within = has-append group after (get_or group k d)
        ∙ ap (λ b. b || has after (get_or group k d)) (is-among group k d within)

    module _ (running : List Bool) (there : m.0 < length running) where
      target : (b : Bool) → All (λ p. runs_at plan (slice_set running m.0 b) p ≡ b) group
      target b k d within =
          part-own (slice_set running m.0 b) m (binding_at plan (get_or group k d)).owner
          (All-left (λ p. is_owner (Mode m) (binding_at plan p).owner ≡ true) group after rest.own k d within)
          ∙ get_or-set_same running m.0 b false there

      module _ (takes : BindingId → Bool) where
        pub rest-fresh : All (λ p. without_all takes (group ++ after) p ≡ false) group
        rest-fresh k d within = ap (λ b. takes (get_or group k d) && not b) (among-rest k d within)
            ∙ none (takes (get_or group k d))
          where
            none : (b : Bool) → (b && false) ≡ false
            none true = refl
            none false = refl

        pub rest-took : All (λ p. also_all takes (group ++ after) p ≡ true) group
        rest-took k d within = or_right (takes (get_or group k d)) (has (group ++ after) (get_or group k d))
            (among-rest k d within)

      more : (t g a : Bool) → (g ≡ true → t ≡ true) → (g ≡ true → a ≡ false) → ((t && not (g || a)) || g) ≡ (t && not a)
      more true true a is gone = ap (λ b. not b) (sym (gone refl))
      more true false a is gone = or-false (not a)
      more false true a is gone = sym (is refl)
      more false false a is gone = refl

      pub add-more : (p : BindingId) → also_all
          (without_all (runs_at plan (slice_set running m.0 true)) (group ++ after)) group p
          ≡ without_all (runs_at plan (slice_set running m.0 true)) after p
      add-more p =
          let takes = runs_at plan (slice_set running m.0 true) in
          ap (λ b. (takes p && not b) || has group p) (has-append group after p)
          ∙ more (takes p) (has group p) (has after p) (among-is takes true group p (target true))
          (once group after p (in_turn-apart plan (group ++ after) rest.in_turn))

      less : (t g a : Bool) → (g ≡ true → t ≡ false) → (g ≡ true → a ≡ false) → ((t || (g || a)) && not g) ≡ (t || a)
      less true true a is gone = sym (is refl)
      less true false a is gone = refl
      less false true a is gone = sym (gone refl)
      less false false true is gone = refl
      less false false false is gone = refl

      pub drop-more : (p : BindingId) → without_all
          (also_all (runs_at plan (slice_set running m.0 false)) (group ++ after)) group p
          ≡ also_all (runs_at plan (slice_set running m.0 false)) after p
      drop-more p =
          let takes = runs_at plan (slice_set running m.0 false) in
          ap (λ b. (takes p || b) && not (has group p)) (has-append group after p)
          ∙ less (takes p) (has group p) (has after p) (among-is takes false group p (target false))
          (once group after p (in_turn-apart plan (group ++ after) rest.in_turn))

  -- ---- at the beginning, and at the end

  module _ (running : List Bool) (there : m.0 < length running) (own : List BindingId) (is : IsOwnedBy plan m own) where
    among-own : (p : BindingId) → p.0 < length plan.bindings → has own p ≡ is_owner (Mode m) (binding_at plan p).owner
    among-own p within = sym (list_any-IsPermutation (λ q. q.0 == p.0) (places_in plan m) own is.permutation)
        ∙ has-owned plan m p within

    kept : (t h : Bool) → (h ≡ true → t ≡ false) → t ≡ ((t || h) && not h)
    kept true true is = is refl
    kept true false is = refl
    kept false true is = refl
    kept false false is = refl

    pub add-begins : get_or running m.0 false ≡ false → (p : BindingId) → p.0 < length plan.bindings
        → runs_at plan running p ≡ without_all (runs_at plan (slice_set running m.0 true)) own p
    add-begins rests p within =
        let among = among-own p within in
        kept (runs_at plan running p) (has own p)
        (λ h. part-own running m (binding_at plan p).owner (sym among ∙ h) ∙ rests)
        ∙ ap (λ b. b && not (has own p)) (joining-all plan running m p (has own p) there among)

    back : (t h : Bool) → (h ≡ true → t ≡ true) → t ≡ ((t && not h) || h)
    back true true is = refl
    back true false is = refl
    back false true is = is refl
    back false false is = refl

    pub drop-begins : get_or running m.0 false ≡ true → (p : BindingId) → p.0 < length plan.bindings
        → runs_at plan running p ≡ also_all (runs_at plan (slice_set running m.0 false)) own p
    drop-begins runs p within =
        let among = among-own p within in
        back (runs_at plan running p) (has own p)
        (λ h. part-own running m (binding_at plan p).owner (sym among ∙ h) ∙ runs)
        ∙ ap (λ b. b || has own p) (leaving-all plan running m p (has own p) there among)
