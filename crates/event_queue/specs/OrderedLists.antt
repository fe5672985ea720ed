-- What the functions inside this crate see: items in order, and what alarms and handlers hold.
use Rattle.std.specs.Prelude.{◌≡◌, ℕ, ◌+◌, ◌<◌, ◌≤◌, nat_lt, ◌==◌, ◌&&◌, ◌||◌, if◌then◌else◌, not, Bool, true, false}
use Rattle.std.specs.Prelude.{Option, None, Some, List, [], ◌∷◌, length, map, filter, slice_index_or, Vec, vec_capacity}
use Rattle.std.specs.List.{All, AllPairs, list_any, range_with_len, Sorted.{IsPermutation, IsPartitionPoint}}
use Rattle.std.specs.Global.{Global}
use Rattle.plan_tables.specs.declared.entries.{BindingId.BindingId, Owner.TheVariants.Mode}
use Rattle.plan_tables.specs.declared.{entries.{EventId.EventId, ModeId.ModeId}, devices.RowId.RowId}
use Rattle.plan_tables.specs.PlanView.{PlanView, binding_at, is_owner, places_of}
use Rattle.event_queue.specs.{Alarms.{comes_before, alarm_of}, Handlers.priority_at, PlanOrder.by_priority}

-- ---- items in order

-- an item put into a list, before the first one that does not come before it
abbrev pub put : {X : Type 0} → (X → X → Bool) → X → List X → List X
put before x [] = x ∷ []
put before x (y ∷ ys) = if before y x then y ∷ put before x ys else x ∷ y ∷ ys

-- items put into a list, one after the other
abbrev pub put_all : {X : Type 0} → (X → X → Bool) → List X → List X → List X
put_all before [] ys = ys
put_all before (x ∷ xs) ys = put_all before xs (put before x ys)

-- each item comes before all after it
abbrev pub IsInTurn : {X : Type 0} → (X → X → Bool) → List X → Type 0
IsInTurn before xs = AllPairs (λ x y. before x y ≡ true) xs

-- no item comes before one that stands before it
abbrev pub IsOrdered : {X : Type 0} → (X → X → Bool) → List X → Type 0
IsOrdered before xs = AllPairs (λ x y. before y x ≡ false) xs

-- so many items, the first ones, come before x, and no other does
abbrev pub IsPlaceOf : {X : Type 0} → (X → X → Bool) → X → List X → ℕ → Type 0
IsPlaceOf before x xs k = (k ≤ length xs) × IsPartitionPoint (λ y. before y x ≡ true) (λ y. before y x ≡ false) xs k

-- ---- alarms

-- an alarm, if there is one, put into alarms
abbrev pub put_alarm : Option (ℕ × RowId) → List (ℕ × RowId) → List (ℕ × RowId)
put_alarm None alarms = alarms
put_alarm (Some alarm) alarms = put comes_before alarm alarms

-- the alarms of rows that are numbered from the number on, each before all that do not come before it
abbrev pub ordered_from : ℕ → List (Option ℕ) → List (ℕ × RowId)
ordered_from number [] = []
ordered_from number (due ∷ dues) = put_alarm (alarm_of (record { 0 = number }) due) (ordered_from (number + 1) dues)

-- the alarms of these due moments, in order
abbrev pub ordered_alarms : List (Option ℕ) → List (ℕ × RowId)
ordered_alarms dues = ordered_from 0 dues

-- ---- the orders of handlers

-- whether a binding of the priority n at p runs before one of the priority m at q
abbrev pub ranks_before : ℕ → BindingId → ℕ → BindingId → Bool
ranks_before n p m q = nat_lt m n || ((n == m) && nat_lt p.0 q.0)

-- whether the binding at p runs before the one at q
abbrev pub runs_before : PlanView → BindingId → BindingId → Bool
runs_before plan p q = ranks_before (priority_at plan p) p (priority_at plan q) q

-- the order of those places of an event that take part, with room for all that is bound to it
pub record IsOrderOf (plan : PlanView) (takes : BindingId → Bool) (e : EventId) (order : Vec BindingId Global) : Type
    0 where
  pub places : order.items ≡ by_priority plan (filter takes (places_of plan e))
  pub room : length (places_of plan e) ≤ vec_capacity order

-- for each event of a plan the order of what takes part
pub record HasOrders (plan : PlanView) (takes : BindingId → Bool) (orders : List (Vec BindingId Global)) : Type 0 where
  pub count : length orders ≡ length plan.events
  pub each : (e : ℕ) (d : Vec BindingId Global) → e < length plan.events
      → IsOrderOf plan takes (record { 0 = e }) (slice_index_or orders e d)

-- what takes part, and the binding at the place
abbrev pub also : (BindingId → Bool) → BindingId → BindingId → Bool
also takes place p = takes p || (place.0 == p.0)

-- what takes part, and the bindings at these places
abbrev pub also_all : (BindingId → Bool) → List BindingId → BindingId → Bool
also_all takes group p = takes p || list_any (λ q. q.0 == p.0) group

-- what takes part, but for the bindings at these places
abbrev pub without_all : (BindingId → Bool) → List BindingId → BindingId → Bool
without_all takes group p = takes p && not (list_any (λ q. q.0 == p.0) group)

-- places of one event, in the order in which their bindings run
pub record IsGroup (plan : PlanView) (group : List BindingId) : Type 0 where
  pub some : 0 < length group
  pub within : All (λ p. p.0 < length plan.bindings) group
  pub same : (first : BindingId) → All (λ p. (binding_at plan p).event.0
      ≡ (binding_at plan (slice_index_or group 0 first)).event.0) group
  pub in_turn : IsInTurn (runs_before plan) group

-- the places of all bindings of a plan
abbrev pub all_places : PlanView → List BindingId
all_places plan = map (λ n. record { 0 = n }) (range_with_len 0 (length plan.bindings))

-- the places of a mode's bindings
abbrev pub places_in : PlanView → ModeId → List BindingId
places_in plan m = filter (λ p. is_owner (Mode m) (binding_at plan p).owner) (all_places plan)

-- whether the binding at p is of a lower event than the one at q, or of the same event, and runs before it
abbrev pub stands_before : PlanView → BindingId → BindingId → Bool
stands_before plan p q = nat_lt (binding_at plan p).event.0 (binding_at plan q).event.0
    || (((binding_at plan p).event.0 == (binding_at plan q).event.0) && runs_before plan p q)

-- the places of a mode's bindings, by event, and those of an event in the order in which they run
pub record IsOwnedBy (plan : PlanView) (m : ModeId) (own : List BindingId) : Type 0 where
  pub permutation : IsPermutation (places_in plan m) own
  pub in_turn : IsInTurn (stands_before plan) own

-- for each mode of a plan the places of its bindings
pub record HasOwned (plan : PlanView) (own_lists : List (Vec BindingId Global)) : Type 0 where
  pub count : length own_lists ≡ length plan.modes
  pub each : (m : ℕ) (d : Vec BindingId Global) → m < length plan.modes
      → IsOwnedBy plan (record { 0 = m }) (slice_index_or own_lists m d).items
