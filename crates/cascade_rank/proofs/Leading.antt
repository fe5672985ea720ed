-- Events are noted as leading to what they post: one post, all posts of an event, all events.
use Rattle.std.proofs.Common.{rules, ◌≡◌, ◌≢◌, ℕ, zero, suc, ◌+◌, ◌<◌, Bool, false, cond, ◌==◌, nat_lt, List, [], ◌∷◌}
use Rattle.std.proofs.Common.{◌++◌, length, take, drop, take_at, set, get_or, sym, ◌∙◌, ap, inl, inr, arith, length-set}
use Rattle.std.proofs.Common.{get_or-set_same, get_or-set_other}
use Rattle.std.proofs.lemmas.Bool.{cases_lt, cases_eq, eq-eqb, ne_eqb, lt-ltb, le-ltb}
use Rattle.std.proofs.lemmas.List.{get_or_append_left, get_or_push, length_push, get_or_read, Sums.sum_by_push}
use Rattle.plan_tables.specs.{PlanView.PlanView, declared.entries.EventId.EventId}
use Rattle.cascade_rank.specs.Cost.{Cost, Weight, each_of, cost_of_post, cost_of_event}
use Rattle.cascade_rank.specs.{Mentions.weights_in, Leaders.{leaders_to, AddsLeader, HasLeaders}}
use Rattle.cascade_rank.specs.Order.{unmet, occurrences, IsOrdering, IsMeeting}
use Rattle.cascade_rank.proofs.{Events.{event, same_event}, Posted.{occurrences-posts, unmet-length}}

-- ---- one more of a list

pub occurrences-each_more : {X : Type 0} (e : EventId) (f : X → Cost) (xs : List X) (i : ℕ) (d : X) → i < length xs
    → occurrences e (each_of f (take (i + 1) xs))
    ≡ occurrences e (each_of f (take i xs)) + occurrences e (f (get_or xs i d))
occurrences-each_more e f [] i d h = absurd (omega (arith, h))
occurrences-each_more e f (x ∷ xs) zero d h = omega arith
occurrences-each_more e f (x ∷ xs) (suc i) d h =
    let one : suc i + 1 ≡ suc (i + 1) = omega arith in
    let r = occurrences-each_more e f xs i d (omega (arith, h)) in
    rw one (omega (arith, r))

-- ---- what one event leads to

split_sum : (b : Bool) (x y z : ℕ) → z ≡ x + y → cond b z 0 ≡ cond b x 0 + cond b y 0
split_sum b x y z h = search rules

pub adds-none : (leader : EventId) (c : Cost) (old : List (List EventId)) → ((f : EventId) → occurrences f c ≡ 0)
    → AddsLeader leader c old old
adds-none leader c old none = search rules

pub adds-both : (leader : EventId) (a b c : Cost) (old mid new : List (List EventId))
    → ((f : EventId) → occurrences f c ≡ occurrences f a + occurrences f b) → AddsLeader leader a old mid
    → AddsLeader leader b mid new → AddsLeader leader c old new
adds-both leader a b c old mid new sums first then = record {
  count = then.count ∙ first.count;
  more = λ f e l.
      let one = first.more f e l in
      let two = then.more f e (omega (arith, l, first.count)) in
      let whole = split_sum (leader.0 == e.0) (occurrences f a) (occurrences f b) (occurrences f c) (sums f) in
      omega (arith, one, two, whole);
}

pub adds-more : {X : Type 0} (leader : EventId) (cost : X → Cost) (xs : List X) (i : ℕ) (d : X)
    (old mid new : List (List EventId)) → i < length xs →
    AddsLeader leader (each_of cost (take i xs)) old mid → AddsLeader leader (cost (get_or xs i d)) mid new
    → AddsLeader leader (each_of cost (take (i + 1) xs)) old new
adds-more leader cost xs i d old mid new l first then =
    adds-both leader (each_of cost (take i xs)) (cost (get_or xs i d)) (each_of cost (take (i + 1) xs)) old mid new
    (λ f. occurrences-each_more f cost xs i d l) first then

pub adds-one : (leader f : EventId) (old : List (List EventId)) → f.0 < length old
    → AddsLeader leader (Weight f) old (set old f.0 (leaders_to old f ++ leader ∷ []))
adds-one leader f old l =
    search (rules, length-set, cases_eq, same_event, get_or-set_same, sum_by_push, eq-eqb, get_or-set_other, ne_eqb)

-- an event leads to what it posts as it does to what it costs
pub adds-posts : (leader : EventId) (c : Cost) (old new : List (List EventId))
    → AddsLeader leader (each_of cost_of_post (weights_in c)) old new → AddsLeader leader c old new
adds-posts leader c old new adds = search (rules, occurrences-posts)

-- ---- all events

pub leaders_more : (plan : PlanView) (n posts : ℕ) (leaders new : List (List EventId)) (left : List ℕ)
    → HasLeaders plan n leaders left → AddsLeader (event n)
    (each_of cost_of_post (weights_in (cost_of_event plan (event n)))) leaders new →
    posts ≡ length (weights_in (cost_of_event plan (event n))) → HasLeaders plan (n + 1) new (left ++ posts ∷ [])
leaders_more plan n posts leaders new left has posted is = let adds =
    adds-posts (event n) (cost_of_event plan (event n)) leaders new posted in record {
      count = adds.count ∙ has.count;
      left_count = omega (arith, has.left_count, length_push left posts);
      leads = λ f e l.
          let old = has.leads f e l in
          let now = adds.more f e (omega (arith, l, has.count)) in
          elim (cases_eq n e.0) [
            | inl same ↦
                let before = ap (λ (b : Bool). cond b (occurrences f (cost_of_event plan e)) 0)
                (le-ltb e.0 n (omega (arith, same))) in
                let here = ap (λ (b : Bool). cond b (occurrences f (cost_of_event plan (event n))) 0)
                (eq-eqb n e.0 same) in
                let after = ap (λ (b : Bool). cond b (occurrences f (cost_of_event plan e)) 0)
                (lt-ltb e.0 (n + 1) (omega (arith, same))) in
                let cost = ap (λ (k : EventId). occurrences f (cost_of_event plan k)) (same_event (event n) e same) in
                omega (arith, old, now, before, here, after, cost)
            | inr other ↦
                let here = ap (λ (b : Bool). cond b (occurrences f (cost_of_event plan (event n))) 0)
                (ne_eqb n e.0 other)
                in
                let kept = ap (λ (b : Bool). cond b (occurrences f (cost_of_event plan e)) 0) (alike e other) in
                omega (arith, old, now, here, kept)
          ];
      left_is = λ e l. elim (cases_lt e.0 n) [
        | inl k ↦ get_or_append_left left (posts ∷ []) 0 e.0 (omega (arith, k, has.left_count)) ∙ has.left_is e k
        | inr g ↦
            let here : n ≡ e.0 = omega (arith, l, g) in
            get_or_push left posts 0 e.0 (has.left_count ∙ here) ∙ is
            ∙ sym (unmet-length (cost_of_event plan (event n)))
            ∙ ap (λ (k : EventId). unmet (λ _. false) (cost_of_event plan k)) (same_event (event n) e here)
      ];
    }
  where
    alike : (e : EventId) → n ≢ e.0 → nat_lt e.0 n ≡ nat_lt e.0 (n + 1)
    alike e other = elim (cases_lt e.0 n) [
      | inl l ↦ lt-ltb e.0 n l ∙ sym (lt-ltb e.0 (n + 1) (omega (arith, l)))
      | inr g ↦ le-ltb e.0 n g ∙ sym (le-ltb e.0 (n + 1) (omega (arith, g, other)))
    ]

-- ---- those that lead to the next event of the order

pub meeting_starts : (plan : PlanView) (taken : ℕ) (leaders : List EventId) (left counts : List ℕ)
    (order : List EventId) (lists : List (List EventId)) (f : EventId)
    → HasLeaders plan (length plan.events) lists counts →
    IsOrdering plan taken [] left order → taken < length order → f ≡ get_or order taken f → leaders ≡ leaders_to lists f
    → IsMeeting plan taken leaders [] left order
meeting_starts plan taken leaders left counts order lists f has o turn f_is leaders_are =
    search (rules, get_or_read, nat_lt)

-- a slice that is written back into the whole list
pub written_back : {X : Type 0} (n : ℕ) (new old : List X) → n ≡ length old → length new ≡ length old
    → take n (new ++ drop (length new) old) ≡ new
written_back n new old is kept = take_at new (drop (length new) old) n (kept ∙ sym is)
