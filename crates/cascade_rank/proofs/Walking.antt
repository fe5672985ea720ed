-- The walk along events that are not grounded, and the cycle in which it ends.
use Rattle.std.proofs.Common.{rules, ◌≡◌, ◌≢◌, ℕ, suc, ◌+◌, ◌-◌, ◌<◌, Bool, true, false, not, cond, ◌&&◌, ◌||◌, ◌==◌}
use Rattle.std.proofs.Common.{List, [], ◌∷◌, ◌++◌, length, take, drop, set, get_or, slice_index_or, count_by, All}
use Rattle.std.proofs.Common.{Option, position, unwrap_or, refl, sym, ◌∙◌, ap, subst, inl, inr, arith, length-append}
use Rattle.std.proofs.Common.{length-drop, length-set, get_or-drop, get_or-set_same, get_or-set_other}
use Rattle.std.{specs.List.{list_any, position_or_len}, proofs.lemmas.List.{get_or_append_left, get_or_push, take_rest}}
use Rattle.std.proofs.lemmas.List.{Elements.{All-push, All-drop}, Folds.{list_any-append, list_any_at}}
use Rattle.std.proofs.lemmas.Bool.{cases_lt, cases_eq, lt-ltb, le-ltb, and_parts, or_right, eq-eqb, ne_eqb, false≢true}
use Rattle.std.proofs.lemmas.List.Sums.{sum_by-set, passes_at_first, prefix_len-le-length}
use Rattle.plan_tables.specs.{PlanView.PlanView, Valid.HasEntries, declared.entries.EventId.EventId}
use Rattle.cascade_rank.specs.{Cost.cost_of_event, Events.{no_event, nth_event}}
use Rattle.cascade_rank.specs.{Lowest.LeadsOn, LeadsTo.{leads, is_grounded, is_open, IsCycle}, Cycle.cycle_of}
use Rattle.cascade_rank.specs.Cycle.{IsFirst, GoesOn, IsWalk, IsReportedCycle, next_open, from_first, cycle_from}
use Rattle.cascade_rank.proofs.{Events.same_event, Ordering.counted_one, Firsts.{first_is, first_below}}
use Rattle.cascade_rank.proofs.{Ranking.mentioned_below, Mentioned.all_mentioned-fails}
use Rattle.plan_tables.proofs.Worked.{number_same}

-- ---- where an event goes on to

module _ (plan : PlanView) (valid : HasEntries plan) (on : LeadsOn plan) (e : EventId)
    (below : e.0 < length plan.events) (here : is_open plan e ≡ true) where
  pub next_below : (next_open plan e).0 < length plan.events
  next_below =
      let (f, m, unmet) = all_mentioned-fails (is_grounded plan) (cost_of_event plan e) (on e below here) in
      first_below plan (λ g. leads plan e g && is_open plan g) f (mentioned_below plan valid e f m)
      (by (leads plan e f) (is_grounded plan f) m unmet)
    where
      by : (a b : Bool) → a ≡ true → b ≡ false → (a && not b) ≡ true
      by true false h k = refl
      by true true h k = absurd (false≢true (sym k))
      by false b h k = absurd (false≢true h)

  pub next_goes : GoesOn plan e (next_open plan e)
  next_goes = first_is plan (λ g. leads plan e g && is_open plan g) (next_open plan e) refl next_below

  pub next_is_open : is_open plan (next_open plan e) ≡ true
  next_is_open = (and_parts (leads plan e (next_open plan e)) (is_open plan (next_open plan e)) next_goes.holds).1

-- ---- the walk so far

at_left : (path : List EventId) (e : EventId) (i : ℕ) → i < length path
    → nth_event (path ++ e ∷ []) i ≡ nth_event path i
at_left path e i l = get_or_append_left path (e ∷ []) no_event i l

at_end : (path : List EventId) (e : EventId) (i : ℕ) → length path ≡ i → nth_event (path ++ e ∷ []) i ≡ e
at_end path e i l = get_or_push path e no_event i l

has-push : (path : List EventId) (x e : EventId)
    → list_any (λ d. d.0 == e.0) (path ++ x ∷ []) ≡ (list_any (λ d. d.0 == e.0) path || x.0 == e.0)
has-push path x e = search (rules, list_any-append)

-- it has passed this path, of which the events are marked, and comes to `at`
pub record WalkAt (plan : PlanView) (start : EventId) (passed : List Bool) (path : List EventId) (at : EventId) : Type
    0 where
  pub count : length passed ≡ length plan.events
  pub walk : IsWalk plan path
  pub begins : length path ≡ 0 → at ≡ start
  pub goes : 0 < length path → GoesOn plan (nth_event path (length path - 1)) at
  pub at_open : is_open plan at ≡ true
  pub below : at.0 < length plan.events
  pub all_below : All (λ e. e.0 < length plan.events) path
  pub marks : (e : EventId) → e.0 < length plan.events
      → slice_index_or passed e.0 false ≡ list_any (λ d. d.0 == e.0) path
  pub room : count_by not passed + length path ≡ length plan.events
  pub same : cycle_from plan (length plan.events + 1 - length path) path at ≡ cycle_of plan start

module _ (plan : PlanView) (start : EventId) (first : IsFirst (is_open plan) start) (passed : List Bool)
    (path : List EventId) (at : EventId) (w : WalkAt plan start passed path at) where
  here_marked : slice_index_or passed at.0 false ≡ list_any (λ d. d.0 == at.0) path
  here_marked = w.marks at w.below

  -- one round of the definition is left
  one_left : length plan.events + 1 - length path ≡ suc (length plan.events - length path)
  one_left = omega (arith, w.room)

  module _ (valid : HasEntries plan) (on : LeadsOn plan) (new : slice_index_or passed at.0 false ≡ false) where
    longer : length (path ++ at ∷ []) ≡ length path + 1
    longer = omega (arith, length-append path (at ∷ []))

    not_in : (i : ℕ) → i < length path → nth_event path i ≢ at
    not_in i l same = false≢true (sym (sym here_marked ∙ new)
        ∙ list_any_at (λ d. d.0 == at.0) path i no_event l
        (eq-eqb (nth_event path i).0 at.0 (ap (λ (d : EventId). d.0) same)))

    walk_more : IsWalk plan (path ++ at ∷ [])
    walk_more = record {
      first = λ _. elim (cases_lt 0 (length path)) [
        | inl l ↦ subst (IsFirst (is_open plan)) (sym (at_left path at 0 l)) (w.walk.first l)
        | inr g ↦ subst (IsFirst (is_open plan))
            (sym (at_end path at 0 (omega (arith, g)) ∙ w.begins (omega (arith, g)))) first
      ];
      next = λ i l. elim (cases_lt (i + 1) (length path)) [
        | inl k ↦ subst (λ (y : EventId). GoesOn plan (nth_event (path ++ at ∷ []) i) y)
            (sym (at_left path at (i + 1) k))
            (subst (λ (x : EventId). GoesOn plan x (nth_event path (i + 1)))
            (sym (at_left path at i (omega (arith, k)))) (w.walk.next i k))
        | inr g ↦
            let last : length path ≡ i + 1 = omega (arith, l, g, longer) in
            let place : length path - 1 ≡ i = omega (arith, last) in
            let was : GoesOn plan (nth_event path i) at =
            subst (λ (x : ℕ). GoesOn plan (nth_event path x) at) place (w.goes (omega (arith, last))) in
            subst (λ (y : EventId). GoesOn plan (nth_event (path ++ at ∷ []) i) y) (sym (at_end path at (i + 1) last))
            (subst (λ (x : EventId). GoesOn plan x at) (sym (at_left path at i (omega (arith, last)))) was)
      ];
      apart = λ i j l k same. elim (cases_lt j (length path)) [
        | inl m ↦ w.walk.apart i j l m (sym (at_left path at i (omega (arith, l, m))) ∙ same ∙ at_left path at j m)
        | inr g ↦
            let last : length path ≡ j = omega (arith, k, g, longer) in
            not_in i (omega (arith, l, last))
            (sym (at_left path at i (omega (arith, l, last))) ∙ same ∙ at_end path at j last)
      ];
    }

    fewer : count_by not (set passed at.0 true) + 1 ≡ count_by not passed
    fewer = search (rules, sum_by-set, counted_one, get_or)

    same_cycle : cycle_from plan (length plan.events + 1 - length (path ++ at ∷ [])) (path ++ at ∷ [])
        (next_open plan at) ≡ cycle_of plan start
    same_cycle = search (rules, longer, here_marked, one_left)

    pub walk_goes : WalkAt plan start (set passed at.0 true) (path ++ at ∷ []) (next_open plan at)
    walk_goes = record {
      count = length-set passed at.0 true ∙ w.count;
      walk = walk_more;
      begins = λ z. absurd (omega (arith, z, longer));
      goes = λ _.
          let last : length path ≡ length (path ++ at ∷ []) - 1 = omega (arith, longer) in
          subst (λ (x : EventId). GoesOn plan x (next_open plan at))
          (sym (at_end path at (length (path ++ at ∷ []) - 1) last)) (next_goes plan valid on at w.below w.at_open);
      at_open = next_is_open plan valid on at w.below w.at_open;
      below = next_below plan valid on at w.below w.at_open;
      all_below = All-push (λ e. e.0 < length plan.events) path at w.all_below w.below;
      marks = λ e l. elim (cases_eq e.0 at.0) [
        | inl same ↦
            subst (λ (y : EventId). slice_index_or (set passed at.0 true) y.0 false
            ≡ list_any (λ d. d.0 == y.0) (path ++ at ∷ [])) (sym (same_event e at same))
            (get_or-set_same passed at.0 true false (omega (arith, w.below, w.count))
            ∙ sym (has-push path at at
            ∙ or_right (list_any (λ d. d.0 == at.0) path) (at.0 == at.0) (eq-eqb at.0 at.0 refl)))
        | inr other ↦
            get_or-set_other passed at.0 e.0 true false other ∙ w.marks e l
            ∙ sym (has-push path at e ∙ ap (λ (b : Bool). list_any (λ d. d.0 == e.0) path || b)
            (ne_eqb at.0 e.0 (λ same. other (sym same))) ∙ by (list_any (λ d. d.0 == e.0) path))
      ];
      room = omega (arith, w.room, fewer, longer);
      same = same_cycle;
    }
      where
        by : (b : Bool) → (b || false) ≡ b
        by true = refl
        by false = refl

  -- ---- it comes again to an event
  module _ (again : slice_index_or passed at.0 false ≡ true) where
    pub comes_again : list_any (λ d. d.0 == at.0) path ≡ true
    comes_again = sym here_marked ∙ again

    pub cycle_is : from_first at path ≡ cycle_of plan start
    cycle_is = search (rules, comes_again, one_left)

-- ---- the part from the first coming on

pub from_first-drop : (e : EventId) (path : List EventId)
    → from_first e path ≡ drop (position_or_len (λ d. d.0 == e.0) path) path
from_first-drop e [] = refl
from_first-drop e (d ∷ ds) = by (d.0 == e.0) (from_first-drop e ds)
  where
    by : (b : Bool) → from_first e ds ≡ drop (position_or_len (λ x. x.0 == e.0) ds) ds
        → cond b (d ∷ ds) (from_first e ds) ≡ drop (cond (not b) (1 + position_or_len (λ x. x.0 == e.0) ds) 0) (d ∷ ds)
    by true rest = refl
    by false rest = let more : 1 + position_or_len (λ x. x.0 == e.0) ds ≡ suc (position_or_len (λ x. x.0 == e.0) ds) =
        omega arith in rest ∙ ap (λ (k : ℕ). drop k (d ∷ ds)) (sym more)

place_below : (e : EventId) (path : List EventId) → list_any (λ d. d.0 == e.0) path ≡ true
    → position_or_len (λ d. d.0 == e.0) path < length path
place_below e [] h = absurd (false≢true h)
place_below e (d ∷ ds) h = by (d.0 == e.0) h (place_below e ds)
  where
    by : (b : Bool) → (b || list_any (λ x. x.0 == e.0) ds) ≡ true
        → (list_any (λ x. x.0 == e.0) ds ≡ true → position_or_len (λ x. x.0 == e.0) ds < length ds)
        → cond (not b) (1 + position_or_len (λ x. x.0 == e.0) ds) 0 < length (d ∷ ds)
    by true k rest = omega arith
    by false k rest = omega (arith, rest k)

module _ (plan : PlanView) (path : List EventId) (at : EventId) (walk : IsWalk plan path)
    (all_below : All (λ e. e.0 < length plan.events) path)
    (goes : 0 < length path → GoesOn plan (nth_event path (length path - 1)) at)
    (there : list_any (λ d. d.0 == at.0) path ≡ true) where
  place : ℕ
  place = position_or_len (λ d. d.0 == at.0) path

  within : position_or_len (λ d. d.0 == at.0) path < length path
  within = place_below at path there

  at_place : nth_event path (position_or_len (λ d. d.0 == at.0) path) ≡ at
  at_place = number_same (nth_event path (position_or_len (λ d. d.0 == at.0) path)) at
      (passes_at_first (λ d. d.0 == at.0) path no_event within)

  pub reported : IsReportedCycle plan (from_first at path)
  reported = search (rules, place, within, from_first-drop, at_place)

  leads_on : (e f : EventId) → GoesOn plan e f → leads plan e f ≡ true
  leads_on e f g = (and_parts (leads plan e f) (is_open plan f) g.holds).0

  dropped : (n i : ℕ) → nth_event (drop n path) i ≡ nth_event path (n + i)
  dropped n i = get_or-drop n path i no_event

  is_cycle : (n : ℕ) → n ≡ position_or_len (λ d. d.0 == at.0) path → IsCycle plan (drop n path)
  is_cycle n is =
      let rest = length-drop n path in
      record {
        some = omega (arith, rest, is, within);
        within = All-drop (λ e. e.0 < length plan.events) n path all_below;
        next = λ i l.
            let shift : n + (i + 1) ≡ (n + i) + 1 = omega arith in
            let step = leads_on (nth_event path (n + i)) (nth_event path (n + i + 1))
            (walk.next (n + i) (omega (arith, l, rest))) in
            subst (λ (y : EventId). leads plan (nth_event (drop n path) i) y ≡ true)
            (sym (dropped n (i + 1) ∙ ap (nth_event path) shift))
            (subst (λ (x : EventId). leads plan x (nth_event path (n + i + 1)) ≡ true) (sym (dropped n i)) step);
        back =
            let last : n + (length (drop n path) - 1) ≡ length path - 1 = omega (arith, rest, is, within) in
            let front : n + 0 ≡ position_or_len (λ d. d.0 == at.0) path = omega (arith, is) in
            let step = leads_on (nth_event path (length path - 1)) at (goes (omega (arith, within))) in
            subst (λ (y : EventId). leads plan (nth_event (drop n path) (length (drop n path) - 1)) y ≡ true)
            (sym (dropped n 0 ∙ ap (nth_event path) front ∙ at_place))
            (subst (λ (x : EventId). leads plan x at ≡ true)
            (sym (dropped n (length (drop n path) - 1) ∙ ap (nth_event path) last)) step);
      }

  pub cycle : IsCycle plan (from_first at path)
  cycle = subst (IsCycle plan) (sym (from_first-drop at path)) (is_cycle (position_or_len (λ d. d.0 == at.0) path) refl)

pub part_is : (path part : List EventId) (e : EventId) (place : ℕ) (found : Option ℕ)
    → found ≡ position (λ d. d.0 == e.0) path → place ≡ unwrap_or found (length path) →
    part ≡ take (length path - place) (drop place path) → part ≡ from_first e path
part_is path part e place found is_found is_place is_part =
    search (rules, place, unwrap_or, cases_lt, lt-ltb, le-ltb, prefix_len-le-length, take_rest, from_first-drop)
