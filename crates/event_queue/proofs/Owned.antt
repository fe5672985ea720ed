-- The places of bindings: which of them an event and a mode have, and who takes part while a mode's bindings join or
-- leave.
use Rattle.std.proofs.Common.{rules, ◌≡◌, ℕ, ◌<◌, ◌==◌, ◌&&◌, ◌||◌, not, Bool, true, false, cond, List, [], ◌∷◌, length}
use Rattle.std.proofs.Common.{map, filter, get_or, slice_set, refl, ap, sym, subst, ◌∙◌, arith}
use Rattle.std.{specs.List.{All, AllPairs, range_with_len}, proofs.lemmas.Bool.{eqb-true, eq-eqb, and_from}}
use Rattle.std.proofs.lemmas.List.{Elements.{All-filter, filter_passes}, Kept.AllPairs-filter, Folds.list_any_at}
use Rattle.std.proofs.lemmas.List.FromFn.{length-map-range_with_len, get_or-map-range_with_len}
use Rattle.plan_tables.specs.declared.entries.{BindingId.BindingId, EventId.EventId, ModeId.ModeId}
use Rattle.plan_tables.specs.declared.entries.Owner.{Owner, TheVariants.Mode}
use Rattle.plan_tables.specs.PlanView.{PlanView, binding_at, is_owner, places_of}
use Rattle.event_queue.specs.{Handlers.{takes_part, runs_at}, OrderedLists.{all_places, places_in}}
use Rattle.event_queue.proofs.{Joined.{has, place-same}, PlanOrder.{IsBelow, all_places-increase}}

abbrev place : ℕ → BindingId
place n = record { 0 = n }

-- ---- whether a place is among those that pass

joins : (r : BindingId) (rs : List BindingId) (q : BindingId) (b : Bool)
    → has (cond b (r ∷ rs) rs) q ≡ ((b && (r.0 == q.0)) || has rs q)
joins r rs q b = search rules

passes : (b s among all c : Bool) → among ≡ (all && c) → (s ≡ true → b ≡ c) → ((b && s) || among) ≡ ((s || all) && c)
passes b s among all c is same = search rules

has-filter : (p : BindingId → Bool) (ps : List BindingId) (q : BindingId) → has (filter p ps) q ≡ (has ps q && p q)
has-filter p [] q = refl
has-filter p (r ∷ rs) q =
    joins r (filter p rs) q (p r)
    ∙ passes (p r) (r.0 == q.0) (has (filter p rs) q) (has rs q) (p q) (has-filter p rs q)
    (λ same. ap p (place-same r q (eqb-true r.0 q.0 same)))

filter-map : (p : BindingId → Bool) (ns : List ℕ) → filter p (map place ns) ≡ map place (filter (λ n. p (place n)) ns)
filter-map p [] = refl
filter-map p (n ∷ ns) = by (p (place n)) (filter-map p ns)
  where
    by : (b : Bool) → filter p (map place ns) ≡ map place (filter (λ k. p (place k)) ns)
        → cond b (place n ∷ filter p (map place ns)) (filter p (map place ns))
        ≡ map place (cond b (n ∷ filter (λ k. p (place k)) ns) (filter (λ k. p (place k)) ns))
    by true rest = ap (λ ps. place n ∷ ps) rest
    by false rest = rest

module _ (plan : PlanView) where
  has-all : (q : BindingId) → q.0 < length plan.bindings → has (all_places plan) q ≡ true
  has-all q within =
      list_any_at (λ p. p.0 == q.0) (all_places plan) q.0 q
      (omega (arith, within, length-map-range_with_len {X = BindingId} place 0 (length plan.bindings)))
      (eq-eqb (get_or (all_places plan) q.0 q).0 q.0
      (ap (λ (p : BindingId). p.0) (get_or-map-range_with_len place 0 (length plan.bindings) q.0 q.0 q within
      (omega arith))))

  -- a binding is among those of its event
  pub has-event : (e : EventId) (q : BindingId) → q.0 < length plan.bindings → (binding_at plan q).event.0 ≡ e.0
      → has (places_of plan e) q ≡ true
  has-event e q within on =
      let is : BindingId → Bool = λ p. (binding_at plan p).event.0 == e.0 in
      ap (λ ps. has ps q) (sym (filter-map is (range_with_len 0 (length plan.bindings))))
      ∙ has-filter is (all_places plan) q
      ∙ and_from (has (all_places plan) q) (is q) (has-all q within) (eq-eqb (binding_at plan q).event.0 e.0 on)

  -- ---- the places of a mode's bindings

  module _ (m : ModeId) where
    abbrev is_own : BindingId → Bool
    is_own p = is_owner (Mode m) (binding_at plan p).owner

    pub has-owned : (q : BindingId) → q.0 < length plan.bindings → has (places_in plan m) q ≡ is_own q
    has-owned q within = has-filter is_own (all_places plan) q ∙ ap (λ b. b && is_own q) (has-all q within)

    pub places_in-increase : AllPairs IsBelow (places_in plan m)
    places_in-increase = AllPairs-filter IsBelow is_own (all_places plan) (all_places-increase plan)

    pub places_in-within : All (λ p. p.0 < length plan.bindings) (places_in plan m)
    places_in-within = All-filter is_own (λ p. p.0 < length plan.bindings) (all_places plan) all-within
      where
        all-within : All (λ p. p.0 < length plan.bindings) (all_places plan)
        all-within k d there =
            let inside : k < length plan.bindings =
            omega (arith, there, length-map-range_with_len {X = BindingId} place 0 (length plan.bindings)) in
            subst (λ (p : BindingId). p.0 < length plan.bindings)
            (sym (get_or-map-range_with_len {X = BindingId} place 0 (length plan.bindings) k k d inside
            (omega arith))) inside

    pub places_in-own : All (λ p. is_own p ≡ true) (places_in plan m)
    places_in-own = filter_passes is_own (all_places plan)

-- ---- who takes part when a mode runs, or does not

pub part-own : (running : List Bool) (m : ModeId) (owner : Owner) → is_owner (Mode m) owner ≡ true
    → takes_part running owner ≡ get_or running m.0 false
part-own running m owner is = search rules

module _ (plan : PlanView) (running : List Bool) (m : ModeId) (p : BindingId) (h : Bool) (there : m.0 < length running)
    (among : h ≡ is_owner (Mode m) (binding_at plan p).owner) where
  pub joining-all : (runs_at plan running p || h) ≡ runs_at plan (slice_set running m.0 true) p
  joining-all = search (rules, among)

  pub leaving-all : (runs_at plan running p && not h) ≡ runs_at plan (slice_set running m.0 false) p
  leaving-all = search (rules, among)
