-- An order in which each event leads only to events before it.
use Rattle.std.specs.Prelude.{◌≡◌, ℕ, ◌+◌, ◌<◌, ◌≤◌, Bool, true, false, ◌==◌, nat_lt, if◌then◌else◌, min, List, []}
use Rattle.std.specs.{Prelude.{length, take, slice_index, count_by}, List.list_any}
use Rattle.plan_tables.specs.{PlanView.PlanView, declared.entries.EventId.EventId}
use Rattle.cascade_rank.specs.{Events.{nth_event, weight_of}, Ranks.rank_at}
use Rattle.cascade_rank.specs.Cost.{Cost, Lines, Step, Weight, Both, Greater, all_mentioned, cost_of_event}

-- how often a weight of which p does not hold is in the cost
abbrev pub unmet : (EventId → Bool) → Cost → ℕ
unmet p (Lines n) = 0
unmet p Step = 0
unmet p (Weight e) = if p e then 0 else 1
unmet p (Both a b) = unmet p a + unmet p b
unmet p (Greater a b) = unmet p a + unmet p b

-- how often the weight of e is in the cost
abbrev pub occurrences : EventId → Cost → ℕ
occurrences e (Lines n) = 0
occurrences e Step = 0
occurrences e (Weight f) = if e.0 == f.0 then 1 else 0
occurrences e (Both a b) = occurrences e a + occurrences e b
occurrences e (Greater a b) = occurrences e a + occurrences e b

-- whether e is one of these
abbrev pub is_in : List EventId → EventId → Bool
is_in events e = list_any (λ d. d.0 == e.0) events

-- how often e is among these
abbrev pub times : List EventId → EventId → ℕ
times events e = count_by (λ d. d.0 == e.0) events

-- how many posts are left of an event, where the counts are in the order of the events' numbers
abbrev pub left_of : List ℕ → EventId → ℕ
left_of unmet_counts e = slice_index unmet_counts e.0

-- each of these counts is how many posts an event leads to
abbrev pub CountsPosts : PlanView → List ℕ → Type 0
CountsPosts plan unmet_counts = (e : EventId) → e.0 < length plan.events
    → left_of unmet_counts e ≡ unmet (λ _. false) (cost_of_event plan e)

-- P holds of those before each of these events, and of that event
abbrev pub EachAfter : (List EventId → EventId → Type 0) → List EventId → Type 0
EachAfter P events = (i : ℕ) → i < length events → P (take i events) (nth_event events i)

-- So many events of the order are gone through, and of those that lead to the next one `met_leaders`. Of each event
-- `unmet_counts` counts the posts that were not met by these, and the order has the events of which none is left.
pub record IsOrdering (plan : PlanView) (next_place : ℕ) (met_leaders : List EventId) (unmet_counts : List ℕ)
    (order : List EventId) : Type
    0 where
  pub length_is : length unmet_counts ≡ length plan.events
  pub within : next_place ≤ length order
  pub below : EachAfter (λ before e. e.0 < length plan.events) order
  pub apart : EachAfter (λ before e. is_in before e ≡ false) order
  pub grounds : EachAfter (λ before e. all_mentioned (is_in before) (cost_of_event plan e) ≡ true) order
  pub left_is : (e : EventId) → e.0 < length plan.events
      → left_of unmet_counts e + times met_leaders e ≡ unmet (is_in (take next_place order)) (cost_of_event plan e)
  pub membership : (e : EventId) → e.0 < length plan.events → is_in order e ≡ (left_of unmet_counts e == 0)
  pub room : count_by (λ n. nat_lt 0 n) unmet_counts + length order ≡ length plan.events

-- `leaders` are those that lead to the next event of the order, each as often as it does
pub record IsMeeting (plan : PlanView) (next_place : ℕ) (leaders met_leaders : List EventId) (unmet_counts : List ℕ)
    (order : List EventId) : Type 0 where
  pub turn : next_place < length order
  pub leaders_are : (e : EventId) → times leaders e
      ≡ (if nat_lt e.0 (length plan.events) then occurrences (nth_event order next_place) (cost_of_event plan e) else 0)
  pub ordering : IsOrdering plan next_place met_leaders unmet_counts order

abbrev pub CanMeet : List EventId → List ℕ → List EventId → Type 0
CanMeet leaders unmet_counts order = (plan : PlanView) × (next_place : ℕ)
    × IsMeeting plan next_place leaders [] unmet_counts order

-- `met_leaders` are gone through from these counts and this order to those
abbrev pub Meets : List EventId → List EventId → List ℕ → List EventId → List ℕ → List EventId → Type 0
Meets leaders met_leaders unmet_counts order left_then order_then = (plan : PlanView) (next_place : ℕ)
    → IsMeeting plan next_place leaders [] unmet_counts order
    → IsMeeting plan next_place leaders met_leaders left_then order_then

-- all events of the plan, each after those to which it leads
pub record IsWholeOrder (plan : PlanView) (order : List EventId) : Type 0 where
  pub below : EachAfter (λ before e. e.0 < length plan.events) order
  pub grounds : EachAfter (λ before e. all_mentioned (is_in before) (cost_of_event plan e) ≡ true) order
  pub short : length order ≤ length plan.events
  pub whole : (e : EventId) → e.0 < length plan.events → is_in order e ≡ true

-- each event weighs its rank if a step costs k, or the most that it may weigh if the rank is more than that
pub record AreRanks (k most : ℕ) (plan : PlanView) (weights : List ℕ) : Type 0 where
  pub count : length weights ≡ length plan.events
  pub each : (e : EventId) → e.0 < length plan.events → weight_of weights e ≡ min most (rank_at k plan e)
