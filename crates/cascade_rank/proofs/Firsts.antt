-- The first event that passes a test.
use Rattle.std.proofs.Common.{rules, ◌≡◌, ℕ, zero, suc, ◌+◌, ◌<◌, ◌≤◌, min, Bool, true, false, not, cond, ◌&&◌, ◌||◌}
use Rattle.std.proofs.Common.{◌==◌, nat_lt, List, [], ◌∷◌, ◌++◌, length, take, get_or, Some, None, position, refl, sym}
use Rattle.std.proofs.{Common.{◌∙◌, ap, inl, inr, arith}, lemmas.List.Elements.All-take}
use Rattle.std.specs.List.{All, position_or_len}
use Rattle.std.proofs.lemmas.Bool.{cases_lt, cases_Bool, and_left, and_right, or_cases, false≢true}
use Rattle.std.proofs.lemmas.List.Sums.{position_or_len_is, fails_before_first, passes_at_first, prefix_len-le-length}
use Rattle.plan_tables.specs.{PlanView.PlanView, Valid.{HasEntries, IsEventWithin}, declared.entries.EventId.EventId}
use Rattle.cascade_rank.specs.Cost.{Cost, Lines, Step, Weight, Both, Greater, mentions, each_of, cost_of_post}
use Rattle.cascade_rank.specs.{Cost.cost_of_event, LeadsTo.is_open, Events.{events_of, no_event}}
use Rattle.cascade_rank.specs.{Mentions.weights_in, Lowest.{lowest, IsLeft}}
use Rattle.cascade_rank.proofs.Within.{IsBelow-event, each_below}
use Rattle.cascade_rank.specs.{Order.left_of, Below.IsBelow, Cycle.{IsFirst, next_open}}
use Rattle.cascade_rank.proofs.Events.{event, same_event, length-events, event_number}

-- ---- the lowest event of a cost

pub lowest-at_most : (n : ℕ) (p : EventId → Bool) (c : Cost) → IsBelow n c → lowest n p c ≤ n
lowest-at_most n p (Lines k) h = omega arith
lowest-at_most n p Step h = omega arith
lowest-at_most n p (Weight e) h = search rules
lowest-at_most n p (Both a b) h = omega (arith, lowest-at_most n p a h.0)
lowest-at_most n p (Greater a b) h = omega (arith, lowest-at_most n p a h.0)

of_left : (x y q : Bool) → (x && q) ≡ true → ((x || y) && q) ≡ true
of_left x y q h = search rules

of_right : (x y q : Bool) → (y && q) ≡ true → ((x || y) && q) ≡ true
of_right x y q h = search rules

-- it is one of them
pub lowest-holds : (n : ℕ) (p : EventId → Bool) (c : Cost) (k : EventId) → k.0 ≡ lowest n p c → k.0 < n
    → (mentions k c && p k) ≡ true
lowest-holds n p (Lines m) k is l = absurd (omega (arith, is, l))
lowest-holds n p Step k is l = absurd (omega (arith, is, l))
lowest-holds n p (Weight e) k is l = search rules
lowest-holds n p (Both a b) k is l = elim (cases_lt (lowest n p a) (lowest n p b)) [
  | inl less ↦ of_left (mentions k a) (mentions k b) (p k) (lowest-holds n p a k (omega (arith, is, less)) l)
  | inr more ↦ of_right (mentions k a) (mentions k b) (p k) (lowest-holds n p b k (omega (arith, is, more)) l)
]
lowest-holds n p (Greater a b) k is l = elim (cases_lt (lowest n p a) (lowest n p b)) [
  | inl less ↦ of_left (mentions k a) (mentions k b) (p k) (lowest-holds n p a k (omega (arith, is, less)) l)
  | inr more ↦ of_right (mentions k a) (mentions k b) (p k) (lowest-holds n p b k (omega (arith, is, more)) l)
]

-- none of them is lower
pub lowest-first : (n : ℕ) (p : EventId → Bool) (c : Cost) (k : EventId) → k.0 < lowest n p c → mentions k c ≡ true
    → p k ≡ false
lowest-first n p (Lines m) k l h = absurd (false≢true h)
lowest-first n p Step k l h = absurd (false≢true h)
lowest-first n p (Weight e) k l h = search rules
lowest-first n p (Both a b) k l h = elim (or_cases (mentions k a) (mentions k b) h) [
  | inl m ↦ lowest-first n p a k (omega (arith, l)) m
  | inr m ↦ lowest-first n p b k (omega (arith, l)) m
]
lowest-first n p (Greater a b) k l h = elim (or_cases (mentions k a) (mentions k b) h) [
  | inl m ↦ lowest-first n p a k (omega (arith, l)) m
  | inr m ↦ lowest-first n p b k (omega (arith, l)) m
]

-- of one more of a list
pub lowest-each_more : {X : Type 0} (n : ℕ) (p : EventId → Bool) (f : X → Cost) (xs : List X) (i : ℕ) (d : X)
    → i < length xs → lowest n p (each_of f (take (i + 1) xs))
    ≡ min (lowest n p (each_of f (take i xs))) (lowest n p (f (get_or xs i d)))
lowest-each_more n p f [] i d h = absurd (omega (arith, h))
lowest-each_more n p f (x ∷ xs) zero d h = omega arith
lowest-each_more n p f (x ∷ xs) (suc i) d h =
    let e : suc i + 1 ≡ suc (i + 1) = omega arith in
    let r = lowest-each_more n p f xs i d (omega (arith, h)) in
    rw e (omega (arith, r))

-- of the first of a list, each of which is below n
pub lowest_all : (n : ℕ) (p : EventId → Bool) (es : List EventId) → All (IsEventWithin n) es → (i : ℕ)
    → lowest n p (each_of cost_of_post (take i es)) ≤ n
lowest_all n p es h i = lowest-at_most n p (each_of cost_of_post (take i es))
    (each_below n cost_of_post (IsEventWithin n) (λ e k. k) (take i es) (All-take (IsEventWithin n) i es h))

-- the lowest of a cost is the lowest of its weights
lowest-append : (n : ℕ) (p : EventId → Bool) (es ds : List EventId) → lowest n p (each_of cost_of_post ds) ≤ n
    → lowest n p (each_of cost_of_post (es ++ ds))
    ≡ min (lowest n p (each_of cost_of_post es)) (lowest n p (each_of cost_of_post ds))
lowest-append n p [] ds h = omega (arith, h)
lowest-append n p (e ∷ es) ds h = omega (arith, lowest-append n p es ds h)

pub lowest-posts : (n : ℕ) (p : EventId → Bool) (c : Cost) → IsBelow n c
    → lowest n p (each_of cost_of_post (weights_in c)) ≡ lowest n p c
lowest-posts n p (Lines k) h = refl
lowest-posts n p Step h = refl
lowest-posts n p (Weight e) h = omega (arith, lowest-at_most n p (Weight e) h)
lowest-posts n p (Both a b) h =
    search (rules, lowest-append, lowest-at_most, lowest-posts n p a h.0, lowest-posts n p b h.1)
lowest-posts n p (Greater a b) h =
    search (rules, lowest-append, lowest-at_most, lowest-posts n p a h.0, lowest-posts n p b h.1)

-- ---- the first of the plan's events

module _ (plan : PlanView) where
  -- the first place of a list that passes is that of the first event that does
  pub first_place : {X : Type 0} (p : EventId → Bool) (q : X → Bool) (xs : List X) (d : X)
      → length xs ≡ length plan.events →
      ((i : ℕ) → i < length plan.events → p (event i) ≡ q (get_or xs i d)) → position p (events_of plan) ≡ position q xs
  first_place p q xs d count same =
      let numbers = length-events plan in
      let within = prefix_len-le-length (λ x. not (q x)) xs in
      let place : position_or_len p (events_of plan) ≡ position_or_len q xs =
      position_or_len_is p (events_of plan) (position_or_len q xs) no_event (omega (arith, numbers, count, within))
      (λ k l.
      let below : k < length plan.events = omega (arith, l, within, count) in
      ap p (event_number plan k below) ∙ same k below ∙ fails_before_first q xs k d l)
      (λ l.
      let below : position_or_len q xs < length plan.events = omega (arith, l, numbers) in
      ap p (event_number plan (position_or_len q xs) below) ∙ same (position_or_len q xs) below
      ∙ passes_at_first q xs d (omega (arith, below, count)))
      in
      λ i. cond (nat_lt (place i) ((numbers ∙ sym count) i)) (Some (place i)) None

  -- the lowest number of a cost is that of the first event that is mentioned and passes
  pub lowest-first_event : (p q : EventId → Bool) (c : Cost) → IsBelow (length plan.events) c
      → ((e : EventId) → e.0 < length plan.events → p e ≡ q e) →
      position_or_len (λ e. mentions e c && q e) (events_of plan) ≡ lowest (length plan.events) p c
  lowest-first_event p q c below same =
      let numbers = length-events plan in
      let most = lowest-at_most (length plan.events) p c below in
      position_or_len_is (λ e. mentions e c && q e) (events_of plan) (lowest (length plan.events) p c) no_event
      (omega (arith, numbers, most))
      (λ k l.
      let small : k < length plan.events = omega (arith, l, most) in
      ap (λ e. mentions e c && q e) (event_number plan k small) ∙ none (event k) l small)
      (λ l.
      let small : lowest (length plan.events) p c < length plan.events = omega (arith, l, numbers) in
      let first = event (lowest (length plan.events) p c) in
      ap (λ e. mentions e c && q e) (event_number plan (lowest (length plan.events) p c) small)
      ∙ ap (λ (b : Bool). mentions first c && b) (sym (same first small))
      ∙ lowest-holds (length plan.events) p c first refl small)
    where
      none : (k : EventId) → k.0 < lowest (length plan.events) p c → k.0 < length plan.events
          → (mentions k c && q k) ≡ false
      none k l small = elim (cases_Bool (mentions k c)) [
        | inl m ↦ and_right (mentions k c) (q k) (sym (same k small) ∙ lowest-first (length plan.events) p c k l m)
        | inr m ↦ and_left (mentions k c) (q k) m
      ]

  -- what the first event that passes is
  pub first_is : (p : EventId → Bool) (e : EventId) → position_or_len p (events_of plan) ≡ e.0
      → e.0 < length plan.events → IsFirst p e
  first_is p e is l =
      let numbers = length-events plan in
      record {
        holds = sym (ap p (event_number plan e.0 l)) ∙ ap (λ (k : ℕ). p (get_or (events_of plan) k no_event)) (sym is)
            ∙ passes_at_first p (events_of plan) no_event (omega (arith, numbers, is, l));
        least = λ d less. sym (ap p (event_number plan d.0 (omega (arith, less, l))))
            ∙ fails_before_first p (events_of plan) d.0 no_event (omega (arith, less, is));
      }

  -- there is one if an event passes
  pub first_below : (p : EventId → Bool) (k : EventId) → k.0 < length plan.events → p k ≡ true
      → position_or_len p (events_of plan) < length plan.events
  first_below p k l h = elim (cases_lt (position_or_len p (events_of plan)) (length plan.events)) [
    | inl less ↦ less
    | inr more ↦ absurd (false≢true (sym (fails_before_first p (events_of plan) k.0 no_event (omega (arith, more, l)))
        ∙ ap p (event_number plan k.0 l) ∙ h))
  ]

-- ---- where an event goes on to

pub is_left : (n : ℕ) → nat_lt 0 n ≡ not (n == 0)
is_left n = search rules

-- the lowest of those to which it leads
pub next_is : (plan : PlanView) → HasEntries plan → (left : List ℕ) → IsLeft plan left → (e : EventId) (n : ℕ)
    → n ≡ lowest (length left) (λ f. nat_lt 0 (left_of left f))
    (each_of cost_of_post (weights_in (cost_of_event plan e))) → event n ≡ next_open plan e
next_is plan valid left l e n is =
    let below : IsBelow (length plan.events) (cost_of_event plan e) = IsBelow-event plan valid e in
    let first = lowest-first_event plan (λ f. nat_lt 0 (left_of left f)) (is_open plan) (cost_of_event plan e) below
    (λ f k. is_left (left_of left f) ∙ ap not (sym (l.grounded_is f k))) in
    let posts = lowest-posts (length plan.events) (λ f. nat_lt 0 (left_of left f)) (cost_of_event plan e) below in
    let count = ap (λ (m : ℕ). lowest m (λ f. nat_lt 0 (left_of left f))
    (each_of cost_of_post (weights_in (cost_of_event plan e)))) l.count in
    same_event (event n) (next_open plan e) (omega (arith, first, posts, count, is))
