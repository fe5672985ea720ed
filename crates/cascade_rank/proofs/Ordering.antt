-- The order grows: one of those that lead to its next event is gone through, then all of them, then the one after.
use Rattle.std.proofs.Common.{rules, ◌≡◌, ◌≢◌, ℕ, zero, suc, ◌+◌, ◌-◌, ◌<◌, ◌≤◌, Bool, true, false, cond, ◌||◌, eqb}
use Rattle.std.proofs.Common.{◌==◌, nat_lt, List, [], ◌∷◌, ◌++◌, length, take, set, get_or, count_by, refl, sym, ◌∙◌}
use Rattle.std.proofs.Common.{ap, subst, inl, inr, arith, length-set, take_at, get_or-set_same, get_or-set_other}
use Rattle.std.proofs.lemmas.Bool.{cases_lt, cases_eq, eq-eqb, ne_eqb, lt-ltb, le-ltb, or_right, or_from, false≢true}
use Rattle.std.proofs.lemmas.List.{take-append-le, get_or_append_left, get_or_push, length_push}
use Rattle.std.proofs.lemmas.List.Sums.{count_by_more_yes, count_by_more_no, sum_by-take-le, sum_by-set}
use Rattle.std.proofs.{lemmas.List.Folds.{list_any-append, list_any_more}, Math.Bool.or-false}
use Rattle.plan_tables.specs.{PlanView.PlanView, declared.entries.EventId.EventId}
use Rattle.cascade_rank.specs.{Cost.{Cost, all_mentioned, cost_of_event}, Events.{no_event, nth_event}, Order.IsMeeting}
use Rattle.cascade_rank.specs.Order.{unmet, occurrences, is_in, times, left_of, CountsPosts, EachAfter, IsOrdering}
use Rattle.cascade_rank.proofs.Events.{same_event}
use Rattle.cascade_rank.proofs.Mentioned.{unmet-none, unmet_met, occurrences-unmet, all_mentioned-weaker}

-- ---- one event more

pub each_push : (P : List EventId → EventId → Type 0) (xs : List EventId) (x : EventId) → EachAfter P xs → P xs x
    → EachAfter P (xs ++ x ∷ [])
each_push P xs x h last i l = elim (cases_lt i (length xs)) [
  | inl k ↦
      let before = take-append-le i xs (x ∷ []) (omega (arith, k)) in
      let here = get_or_append_left xs (x ∷ []) no_event i k in
      subst (λ (ds : List EventId). P ds (nth_event (xs ++ x ∷ []) i)) (sym before)
      (subst (P (take i xs)) (sym here) (h i k))
  | inr g ↦
      let end : length xs ≡ i = omega (arith, l, g, length_push xs x) in
      let before = take_at xs (x ∷ []) i end in
      let here = get_or_push xs x no_event i end in
      subst (λ (ds : List EventId). P ds (nth_event (xs ++ x ∷ []) i)) (sym before) (subst (P xs) (sym here) last)
]

pub is_in-push : (xs : List EventId) (x e : EventId) → is_in (xs ++ x ∷ []) e ≡ (is_in xs e || x.0 == e.0)
is_in-push xs x e = list_any-append (λ d. d.0 == e.0) xs (x ∷ [])
    ∙ ap (λ (b : Bool). is_in xs e || b) (or-false (x.0 == e.0))

pub is_in-more : (xs : List EventId) (i : ℕ) (e : EventId) → i < length xs
    → is_in (take (i + 1) xs) e ≡ (is_in (take i xs) e || (nth_event xs i).0 == e.0)
is_in-more xs i e l = list_any_more (λ d. d.0 == e.0) xs i no_event l

-- what a test adds to a count
abbrev pub counted : Bool → ℕ
counted b = cond b 1 0

pub counted_one : (b : Bool) → b ≡ true → counted b ≡ 1
counted_one b h = ap counted h

pub counted_none : (b : Bool) → b ≡ false → counted b ≡ 0
counted_none b h = ap counted h

-- ---- the start: those of which nothing is left from the first

-- the events below `count` are gone through
pub record IsStart (plan : PlanView) (left : List ℕ) (count : ℕ) (order : List EventId) : Type 0 where
  pub within : count ≤ length plan.events
  pub below : EachAfter (λ before e. e.0 < length plan.events) order
  pub apart : EachAfter (λ before e. is_in before e ≡ false) order
  pub grounds : EachAfter (λ before e. all_mentioned (is_in before) (cost_of_event plan e) ≡ true) order
  pub membership : (e : EventId) → e.0 < count → is_in order e ≡ (left_of left e == 0)
  pub above : (e : EventId) → count ≤ e.0 → is_in order e ≡ false
  pub room : count_by (λ n. nat_lt 0 n) (take count left) + length order ≡ count

module _ (plan : PlanView) (left : List ℕ) (length_is : length left ≡ length plan.events)
    (left_is : CountsPosts plan left) where
  module _ (order : List EventId) (x : EventId) (s : IsStart plan left x.0 order)
      (here : x.0 < length plan.events) where
    inside : x.0 < length left
    inside = omega (arith, here, length_is)

    pub start_push : left_of left x ≡ 0 → IsStart plan left (x.0 + 1) (order ++ x ∷ [])
    start_push none = record {
      within = omega (arith, here);
      below = each_push (λ before e. e.0 < length plan.events) order x s.below here;
      apart = each_push (λ before e. is_in before e ≡ false) order x s.apart (s.above x (omega arith));
      grounds = each_push (λ before e. all_mentioned (is_in before) (cost_of_event plan e) ≡ true) order x s.grounds
          (all_mentioned-weaker (λ _. false) (is_in order) (cost_of_event plan x) (λ e m z. absurd (false≢true z))
          (unmet-none (λ _. false) (cost_of_event plan x)
          ∙ eq-eqb (unmet (λ _. false) (cost_of_event plan x)) 0 (sym (left_is x here) ∙ none)));
      membership = λ e l. elim (cases_eq e.0 x.0) [
        | inl same ↦ is_in-push order x e ∙ or_right (is_in order e) (x.0 == e.0) (eq-eqb x.0 e.0 (sym same))
            ∙ sym (eq-eqb (left_of left e) 0 (ap (left_of left) (same_event e x same) ∙ none))
        | inr other ↦ is_in-push order x e
            ∙ ap (λ (b : Bool). is_in order e || b) (ne_eqb x.0 e.0 (λ same. other (sym same)))
            ∙ or-false (is_in order e) ∙ s.membership e (omega (arith, l, other))
      ];
      above = λ e l. is_in-push order x e ∙ or_from (is_in order e) (x.0 == e.0) (s.above e (omega (arith, l)))
          (ne_eqb x.0 e.0 (λ same. omega (arith, l, same)));
      room =
          omega (
            arith,
            s.room,
            length_push order x,
            count_by_more_no (λ n. nat_lt 0 n) left x.0 0 inside (le-ltb 0 (left_of left x) (omega (arith, none))),
          );
    }

    pub start_skip : 0 < left_of left x → IsStart plan left (x.0 + 1) order
    start_skip some = search (rules, here, cases_eq, same_event, ne_eqb, count_by_more_yes, nat_lt, inside, lt-ltb)

-- ---- the next event of the order is gone through

module _ (plan : PlanView) (taken : ℕ) (order : List EventId) (leaders : List EventId) (turn : taken < length order)
    (leaders_are : (e : EventId) → e.0 < length plan.events
    → times leaders e ≡ occurrences (nth_event order taken) (cost_of_event plan e)) where
  module _ (left : List ℕ) (apart : EachAfter (λ before e. is_in before e ≡ false) order) where
    fresh : is_in (take taken order) (nth_event order taken) ≡ false
    fresh = apart taken turn

    pub unmet_then : (c : Cost) → unmet (is_in (take taken order)) c
        ≡ unmet (is_in (take (taken + 1) order)) c + occurrences (nth_event order taken) c
    unmet_then c = unmet_met (is_in (take taken order)) (is_in (take (taken + 1) order)) (nth_event order taken) fresh
        (λ e. is_in-more order taken e turn) c

  -- one of those that lead to it
  module _ (left : List ℕ) (i : ℕ) (x : EventId) (there : i < length leaders) (x_is : get_or leaders i no_event ≡ x)
      (below : x.0 < length plan.events)
      (o : IsOrdering plan taken (take i leaders) left order) where
    inside_left : x.0 < length left
    inside_left = omega (arith, below, o.length_is)

    one_more : times (take (i + 1) leaders) x ≡ times (take i leaders) x + 1
    one_more = count_by_more_yes (λ d. d.0 == x.0) leaders i no_event there
        (eq-eqb (get_or leaders i no_event).0 x.0 (ap (λ (d : EventId). d.0) x_is))

    no_more : (e : EventId) → e.0 ≢ x.0 → times (take (i + 1) leaders) e ≡ times (take i leaders) e
    no_more e other = count_by_more_no (λ d. d.0 == e.0) leaders i no_event there
        (ne_eqb (get_or leaders i no_event).0 e.0 (λ same. other (sym same ∙ ap (λ (d : EventId). d.0) x_is)))

    no_more_than : times (take (i + 1) leaders) x ≤ occurrences (nth_event order taken) (cost_of_event plan x)
    no_more_than = omega (arith, sum_by-take-le (λ d. cond (d.0 == x.0) 1 0) leaders (i + 1), leaders_are x below)

    -- something is left of it, since it leads to an event that is not gone through
    pub some_left : 0 < left_of left x
    some_left = search (rules, occurrences-unmet, one_more, no_more_than)

    less_here : left_of (set left x.0 (left_of left x - 1)) x ≡ left_of left x - 1
    less_here = get_or-set_same left x.0 (left_of left x - 1) 0 inside_left

    less_there : (e : EventId) → e.0 ≢ x.0 → left_of (set left x.0 (left_of left x - 1)) e ≡ left_of left e
    less_there e other = get_or-set_other left x.0 e.0 (left_of left x - 1) 0 other

    less_is : (e : EventId) → e.0 < length plan.events
        → left_of (set left x.0 (left_of left x - 1)) e + times (take (i + 1) leaders) e
        ≡ unmet (is_in (take taken order)) (cost_of_event plan e)
    less_is e l = elim (cases_eq e.0 x.0) [
      | inl same ↦ subst (λ (y : EventId). left_of (set left x.0 (left_of left x - 1)) y + times (take (i + 1) leaders)
          y ≡ unmet (is_in (take taken order)) (cost_of_event plan y)) (sym (same_event e x same))
          (omega (arith, less_here, one_more, some_left, o.left_is x below))
      | inr other ↦ omega (arith, less_there e other, no_more e other, o.left_is e l)
    ]

    count_less : count_by (λ n. nat_lt 0 n) (set left x.0 (left_of left x - 1)) + 1
        ≡ count_by (λ n. nat_lt 0 n) left + cond (nat_lt 0 (left_of left x - 1)) 1 0
    count_less = search (rules, sum_by-set, nat_lt, inside_left, counted_one, lt-ltb, some_left)

    not_listed : is_in order x ≡ false
    not_listed = o.membership x below ∙ ne_eqb (left_of left x) 0 (λ z. omega (arith, z, some_left))

    -- more of it is left
    pub keeps : left_of left x - 1 ≢ 0 → IsOrdering plan taken (take (i + 1) leaders)
        (set left x.0 (left_of left x - 1)) order
    keeps more = record {
      length_is = length-set left x.0 (left_of left x - 1) ∙ o.length_is;
      within = o.within;
      below = o.below;
      apart = o.apart;
      grounds = o.grounds;
      left_is = less_is;
      membership = λ e l. elim (cases_eq e.0 x.0) [
        | inl same ↦ ap (is_in order) (same_event e x same) ∙ not_listed
            ∙ sym (ne_eqb (left_of (set left x.0 (left_of left x - 1)) e) 0
            (λ z. more (sym less_here ∙ sym (ap (left_of (set left x.0 (left_of left x - 1))) (same_event e x same))
            ∙ z)))
        | inr other ↦ o.membership e l ∙ ap (λ (n : ℕ). eqb n 0) (sym (less_there e other))
      ];
      room =
          let still = counted_one (nat_lt 0 (left_of left x - 1)) (lt-ltb 0 (left_of left x - 1) (omega (arith, more)))
          in
          omega (arith, o.room, count_less, still);
    }

    -- each event that it leads to is in the order
    all_met : left_of left x - 1 ≡ 0 → all_mentioned (is_in order) (cost_of_event plan x) ≡ true
    all_met none =
        let is = less_is x below in
        let rest = unmet_then left o.apart (cost_of_event plan x) in
        let nothing : unmet (is_in (take (taken + 1) order)) (cost_of_event plan x) ≡ 0 =
        omega (arith, is, rest, less_here, none, no_more_than) in
        let before = unmet-none (is_in (take (taken + 1) order)) (cost_of_event plan x)
        ∙ eq-eqb (unmet (is_in (take (taken + 1) order)) (cost_of_event plan x)) 0 nothing in
        all_mentioned-weaker (is_in (take (taken + 1) order)) (is_in order) (cost_of_event plan x)
        (λ e m. is_in-take order (taken + 1) e) before
      where
        is_in-take : (ds : List EventId) (k : ℕ) (e : EventId) → is_in (take k ds) e ≡ true → is_in ds e ≡ true
        is_in-take ds zero e h = absurd (false≢true h)
        is_in-take [] (suc k) e h = h
        is_in-take (d ∷ ds) (suc k) e h = by (d.0 == e.0) h (is_in-take ds k e)
          where
            by : (b : Bool) → (b || is_in (take k ds) e) ≡ true → (is_in (take k ds) e ≡ true → is_in ds e ≡ true)
                → (b || is_in ds e) ≡ true
            by true h' ih = refl
            by false h' ih = ih h'

    -- nothing is left of it, and it goes last
    pub lists : left_of left x - 1 ≡ 0 → IsOrdering plan taken (take (i + 1) leaders)
        (set left x.0 (left_of left x - 1)) (order ++ x ∷ [])
    lists none =
        let front = take-append-le taken order (x ∷ []) o.within in
        record {
          length_is = length-set left x.0 (left_of left x - 1) ∙ o.length_is;
          within = omega (arith, o.within, length_push order x);
          below = each_push (λ before e. e.0 < length plan.events) order x o.below below;
          apart = each_push (λ before e. is_in before e ≡ false) order x o.apart not_listed;
          grounds = each_push (λ before e. all_mentioned (is_in before) (cost_of_event plan e) ≡ true) order x o.grounds
              (all_met none);
          left_is = λ e l. less_is e l ∙ ap (λ (ds : List EventId). unmet (is_in ds) (cost_of_event plan e))
              (sym front);
          membership = λ e l. elim (cases_eq e.0 x.0) [
            | inl same ↦ is_in-push order x e ∙ or_right (is_in order e) (x.0 == e.0) (eq-eqb x.0 e.0 (sym same))
                ∙ sym (eq-eqb (left_of (set left x.0 (left_of left x - 1)) e) 0
                (ap (left_of (set left x.0 (left_of left x - 1))) (same_event e x same) ∙ less_here ∙ none))
            | inr other ↦ is_in-push order x e
                ∙ ap (λ (b : Bool). is_in order e || b) (ne_eqb x.0 e.0 (λ same. other (sym same)))
                ∙ or-false (is_in order e) ∙ o.membership e l ∙ ap (λ (n : ℕ). eqb n 0) (sym (less_there e other))
          ];
          room =
              let gone = counted_none (nat_lt 0 (left_of left x - 1))
              (le-ltb 0 (left_of left x - 1) (omega (arith, none))) in
              omega (arith, o.room, count_less, gone, length_push order x);
        }

  -- all of them are gone through
  pub next_turn : (left : List ℕ) → IsOrdering plan taken leaders left order → IsOrdering plan (taken + 1) [] left order
  next_turn left o = search (rules, unmet_then)

-- ---- the same, of those that lead to the next event from the first

module _ (plan : PlanView) (taken : ℕ) (leaders : List EventId) where
  leaders_of : (order : List EventId) → ((e : EventId)
      → times leaders e ≡ cond (nat_lt e.0 (length plan.events))
      (occurrences (nth_event order taken) (cost_of_event plan e)) 0) → (e : EventId) → e.0 < length plan.events
      → times leaders e ≡ occurrences (nth_event order taken) (cost_of_event plan e)
  leaders_of order is e l = is e ∙ ap (λ (b : Bool). cond b (occurrences (nth_event order taken) (cost_of_event plan e))
      0) (lt-ltb e.0 (length plan.events) l)

  -- each of them is an event of the plan
  pub leaders_below : (done : List EventId) (left : List ℕ) (order : List EventId)
      → IsMeeting plan taken leaders done left order → (i : ℕ) → i < length leaders
      → (get_or leaders i no_event).0 < length plan.events
  leaders_below done left order m i there = elim (cases_lt (get_or leaders i no_event).0 (length plan.events)) [
    | inl l ↦ l
    | inr g ↦
        let one = count_by_more_yes (λ d. d.0 == (get_or leaders i no_event).0) leaders i no_event there
        (eq-eqb (get_or leaders i no_event).0 (get_or leaders i no_event).0 refl) in
        let all = sum_by-take-le (λ d. cond (d.0 == (get_or leaders i no_event).0) 1 0) leaders (i + 1) in
        let none = m.leaders_are (get_or leaders i no_event)
        ∙ ap (λ (b : Bool). cond b (occurrences (nth_event order taken)
        (cost_of_event plan (get_or leaders i no_event))) 0)
        (le-ltb (get_or leaders i no_event).0 (length plan.events) g) in
        absurd (omega (arith, one, all, none))
  ]

  module _ (left : List ℕ) (order : List EventId) (i : ℕ) (x : EventId) (there : i < length leaders)
      (x_is : get_or leaders i no_event ≡ x) (m : IsMeeting plan taken leaders (take i leaders) left order) where
    here : x.0 < length plan.events
    here = subst (λ (d : EventId). d.0 < length plan.events) x_is (leaders_below (take i leaders) left order m i there)

    pub meets_some : 0 < left_of left x
    meets_some = some_left plan taken order leaders m.turn (leaders_of order m.leaders_are) left i x there x_is here
        m.ordering

    pub meets_inside : x.0 < length left
    meets_inside = omega (arith, here, m.ordering.length_is)

    pub meets_keeps : left_of left x - 1 ≢ 0
        → IsMeeting plan taken leaders (take (i + 1) leaders) (set left x.0 (left_of left x - 1)) order
    meets_keeps more = search (rules, keeps, leaders_of, here)

    pub meets_lists : left_of left x - 1 ≡ 0
        → IsMeeting plan taken leaders (take (i + 1) leaders) (set left x.0 (left_of left x - 1)) (order ++ x ∷ [])
    meets_lists none =
        let same : nth_event order taken ≡ nth_event (order ++ x ∷ []) taken =
        sym (get_or_append_left order (x ∷ []) no_event taken m.turn) in
        record {
          turn = omega (arith, m.turn, length_push order x);
          leaders_are = λ e. m.leaders_are e
              ∙ ap (λ (f : EventId). cond (nat_lt e.0 (length plan.events)) (occurrences f (cost_of_event plan e)) 0)
              same;
          ordering = lists plan taken order leaders m.turn (leaders_of order m.leaders_are) left i x there x_is here
              m.ordering none;
        }

  pub meets_all : (left : List ℕ) (order : List EventId) → IsMeeting plan taken leaders leaders left order
      → IsOrdering plan (taken + 1) [] left order
  meets_all left order m = next_turn plan taken order leaders m.turn (leaders_of order m.leaders_are) left m.ordering
