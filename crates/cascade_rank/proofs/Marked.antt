-- Marks of coils, action by action.
use Rattle.std.proofs.Common.{rules, ◌≡◌, ℕ, ◌+◌, ◌<◌, ◌≤◌, Bool, true, false, if◌then◌else◌, cond, replicate, arith}
use Rattle.std.proofs.Common.{length-append, List, [], ◌∷◌, ◌++◌, length, map, take, get_or, refl, sym, ap, ◌∙◌, subst}
use Rattle.std.specs.{Prelude.◌||◌, List.{All, flat_map, list_any, filter, range_with_len}}
use Rattle.std.proofs.lemmas.{Grind.flat_map-append, List.{append-nil, take_more, get_or-replicate, length-replicate}}
use Rattle.std.proofs.lemmas.List.{Elements.All-weaker, Folds.list_any-append, FromFn.filter_of_map_range_with_len_more}
use Rattle.std.proofs.lemmas.List.FromFn.{fill_by_all, length-map-range_with_len, get_or-map-range_with_len}
use Rattle.plan_tables.specs.PlanView.{PlanView, actions_at, actions_of, actions_of_binding, actions_of_row}
use Rattle.plan_tables.specs.PlanView.{actions_of_target, binding_at, coil_numbers, coils_enabled, is_enable_of}
use Rattle.plan_tables.specs.PlanView.{is_owner, list_of_row, no_binding, row_at, row_numbers, rows_of}
use Rattle.plan_tables.specs.{Owned.{binding_numbers, bindings_of_owner}, Devices.list_count}
use Rattle.plan_tables.specs.declared.entries.{Action.Action, BindingId.BindingId, Owner.Owner}
use Rattle.plan_tables.specs.declared.{entries.{Binding.Binding, CoilId.CoilId}, devices.RowId.RowId}
use Rattle.cascade_rank.specs.Marks.{mark_of, coil_ids, AreMarked}
use Rattle.yaml_bytes.proofs.Each.{filter-agree}

-- some actions, and then others
pub marked-then : (old mid new : List Bool) (first later : List Action) → AreMarked old first mid
    → AreMarked mid later new → AreMarked old (first ++ later) new
marked-then old mid new first later h k = search (rules, list_any-append)

-- one more of the things that have actions
pub marked-more : {X : Type 0} (f : X → List Action) (xs : List X) (n : ℕ) (d : X) (old mid new : List Bool)
    → n < length xs
    → AreMarked old (flat_map f (take n xs)) mid → AreMarked mid (f (get_or xs n d)) new
    → AreMarked old (flat_map f (take (n + 1) xs)) new
marked-more f xs n d old mid new within h k =
    let more : flat_map f (take (n + 1) xs) ≡ flat_map f (take n xs) ++ f (get_or xs n d) =
    ap (flat_map f) (take_more xs n d within) ∙ flat_map-append f (take n xs) (get_or xs n d ∷ [])
    ∙ ap (λ ys. flat_map f (take n xs) ++ ys) (append-nil (f (get_or xs n d))) in
    subst (λ acts. AreMarked old acts new) (sym more)
    (marked-then old mid new (flat_map f (take n xs)) (f (get_or xs n d)) h k)

-- ---- the actions of an owner, by the places of its bindings and by its rows

abbrev pub actions_at_place : PlanView → BindingId → List Action
actions_at_place plan p = actions_of_target plan (binding_at plan p).target

abbrev pub actions_of_lists : PlanView → RowId → List Action
actions_of_lists plan r = flat_map (λ k. actions_at plan (list_of_row plan r k))
    (range_with_len 0 (list_count (row_at plan r).settings))

-- those of what passes a test, and of all if the others have none
flat_map-filter : {X : Type 0} (p : X → Bool) (f : X → List Action) (xs : List X)
    → flat_map f (filter p xs) ≡ flat_map (λ x. if p x then f x else []) xs
flat_map-filter p f [] = refl
flat_map-filter p f (x ∷ xs) = search (rules, flat_map-filter p f xs)

flat_map-map : {X Y : Type 0} (f : Y → List Action) (g : X → Y) (xs : List X)
    → flat_map f (map g xs) ≡ flat_map (λ x. f (g x)) xs
flat_map-map f g [] = refl
flat_map-map f g (x ∷ xs) = ap (λ acts. f (g x) ++ acts) (flat_map-map f g xs)

module _ (plan : PlanView) (owner : Owner) where
  pub actions_of_bindings : flat_map (actions_at_place plan) (bindings_of_owner plan owner)
      ≡ flat_map (actions_of_binding plan owner) plan.bindings
  actions_of_bindings =
      let at : ℕ → Binding = λ n. binding_at plan (record { 0 = n }) in
      let all : plan.bindings ≡ map at (range_with_len 0 (length plan.bindings)) =
      fill_by_all at plan.bindings (length plan.bindings) no_binding refl (λ k within. refl) in
      flat_map-filter (λ b. is_owner owner (binding_at plan b).owner) (actions_at_place plan) (binding_numbers plan)
      ∙ flat_map-map (λ (b : BindingId). actions_of_binding plan owner (binding_at plan b)) (λ n. record { 0 = n })
      (range_with_len 0 (length plan.bindings))
      ∙ sym (flat_map-map (actions_of_binding plan owner) at (range_with_len 0 (length plan.bindings)))
      ∙ sym (ap (flat_map (actions_of_binding plan owner)) all)

  pub actions_of_rows : flat_map (actions_of_lists plan) (rows_of plan owner)
      ≡ flat_map (actions_of_row plan owner) (row_numbers plan)
  actions_of_rows = flat_map-filter (λ r. is_owner owner (row_at plan r).owner) (actions_of_lists plan)
      (row_numbers plan)

-- ---- counting them

pub numbered-within : (count : ℕ) → All (λ c. c.0 < count) (coil_ids count)
numbered-within count k d there = search (rules, length-map-range_with_len, get_or-map-range_with_len)

-- one more number, which is marked or not
pub count-more : (marks : List Bool) (n : ℕ) (b : Bool) → mark_of marks (record { 0 = n }) ≡ b
    → length (filter (mark_of marks) (coil_ids (n + 1)))
    ≡ length (filter (mark_of marks) (coil_ids n)) + (if b then 1 else 0)
count-more marks n b is =
    ap length (filter_of_map_range_with_len_more (mark_of marks) (λ i. record { 0 = i }) 0 n n (omega arith))
    ∙ length-append (filter (mark_of marks) (coil_ids n))
    (cond (mark_of marks (record { 0 = n })) (record { 0 = n } ∷ []) [])
    ∙ ap (λ t. length (filter (mark_of marks) (coil_ids n)) + length {A = CoilId} (cond t (record { 0 = n } ∷ []) []))
    is
    ∙ ap (λ k. length (filter (mark_of marks) (coil_ids n)) + k) (one b)
  where
    one : (t : Bool) → length {A = CoilId} (cond t (record { 0 = n } ∷ []) []) ≡ (if t then 1 else 0)
    one true = refl
    one false = refl

-- what is marked from nothing on is what the actions enable
pub marked-enabled : (plan : PlanView) (owner : Owner) (marks : List Bool) → length plan.coils ≤ 256
    → AreMarked (replicate 256 false) (actions_of plan owner) marks
    → length (filter (mark_of marks) (coil_ids (length plan.coils))) ≡ length (coils_enabled plan owner)
marked-enabled plan owner marks few h =
    ap length (filter-agree (mark_of marks) (λ coil. list_any (is_enable_of coil) (actions_of plan owner))
    (coil_numbers plan)
    (All-weaker (λ c. c.0 < length plan.coils)
    (λ c. mark_of marks c ≡ list_any (is_enable_of c) (actions_of plan owner))
    (λ c l. h.marks c (omega (arith, l, few, length-replicate 256 false))
    ∙ ap (λ b. b || list_any (is_enable_of c) (actions_of plan owner))
    (get_or-replicate 256 c.0 false false (omega (arith, l, few))))
    (coil_numbers plan) (numbered-within (length plan.coils))))
