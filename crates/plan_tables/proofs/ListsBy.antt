-- Adding the number of one entry after the other to the list of its place: of a row or a binding to that of its mode,
-- and of a ball device to that of its target.
use Rattle.std.proofs.Common.{rules, ◌≡◌, ℕ, ◌+◌, ◌<◌, ◌==◌, Bool, false, cond, List, [], ◌∷◌, ◌++◌, length, map}
use Rattle.std.proofs.Common.{get_or, set, Option, Some, None, Vec, Global, refl, sym, ◌∙◌, ap, subst, arith}
use Rattle.std.specs.{Prelude.{IfSome, unwrap_or}, List.{All, filter, range_with_len}}
use Rattle.std.specs.Option.{option_map, option_map_or}
use Rattle.std.proofs.lemmas.{Bool.Decides.eqb_tells, List.{map-set, FromFn.length-map-range_with_len}}
use Rattle.std.proofs.lemmas.List.Elements.{All-filter, All-from_get_or, All-get_or, All-map}
use Rattle.std.proofs.lemmas.List.{append-nil, get_or-map, get_or-set_same, get_or-set_other, length-map, length-set}
use Rattle.std.proofs.lemmas.List.FromFn.{fill_by_all, filter_of_map_range_with_len_more, get_or-map-range_with_len}
use Rattle.plan_tables.specs.declared.devices.BallTarget.{BallTarget, TheVariants.Playfield}
use Rattle.plan_tables.specs.declared.devices.{DeviceRow.DeviceRow, RowId.RowId}
use Rattle.plan_tables.specs.declared.entries.{Binding.Binding, BindingId.BindingId, ModeId.ModeId}
use Rattle.plan_tables.specs.declared.entries.Owner.{Owner, TheVariants.Mode}
use Rattle.plan_tables.{proofs.Owners.row_numbers-within, specs.Valid.{IsOwnerWithin, IsTargetThere, IsValid}}
use Rattle.plan_tables.specs.PlanView.{PlanView, binding_at, feeders_of, feeds, is_owner, is_target, no_binding, no_row}
use Rattle.plan_tables.specs.PlanView.{row_at, row_numbers, rows_of, target_in}
use Rattle.plan_tables.specs.{Owned.{binding_numbers, bindings_of_owner}, PlanFields.{HasModeBindings, HasModeRows}}
use Rattle.plan_tables.specs.PlanFields.{add_to_list, lists_view, mode_place, target_at, target_place, HasFeeders}

-- whether something is in the list at a place
abbrev is_at : ℕ → Option ℕ → Bool
is_at e None = false
is_at e (Some place) = e == place

module _ {X Y : Type 0} (make : ℕ → Y) (number : Y → ℕ) (back : (n : ℕ) → number (make n) ≡ n) (place : X → Option ℕ)
    (d : X) (items : List X) where
  -- of the first i items, the numbers of those whose place is e
  abbrev pub listed : ℕ → ℕ → List Y
  listed e i = filter (λ y. is_at e (place (get_or items (number y) d))) (map make (range_with_len 0 i))

  abbrev pub AreListed : ℕ → List (List Y) → Type 0
  AreListed i lists = (e : ℕ) → e < length lists → get_or lists e [] ≡ listed e i

  abbrev alone : Bool → ℕ → List Y
  alone b i = cond b (make i ∷ []) []

  one_more : (e i : ℕ) → listed e (i + 1) ≡ listed e i ++ alone (is_at e (place (get_or items i d))) i
  one_more e i =
      filter_of_map_range_with_len_more (λ (y : Y). is_at e (place (get_or items (number y) d))) make 0 i i
      (omega arith)
      ∙ ap (λ n. listed e i ++ alone (is_at e (place (get_or items n d))) i) (back i)

  -- if each list is empty, nothing is listed
  pub listed_none : (lists : List (Vec Y Global)) → All (λ v. v.items ≡ []) lists → AreListed 0 (lists_view lists)
  listed_none lists empty e within = All-get_or (λ ys. ys ≡ []) (lists_view lists) e [] within
      (All-map (λ ys. ys ≡ []) (λ (v : Vec Y Global). v.items) lists empty)

  -- one item more in the lists as they lie in memory
  pub item_listed : (n : ℕ) (old new : List (Vec Y Global)) (at : Option ℕ) (count : ℕ)
      → lists_view new ≡ add_to_list (lists_view old) at (make n) → at ≡ place (get_or items n d)
      → IfSome (place (get_or items n d)) (λ p. p < count) → length old ≡ count → AreListed n (lists_view old)
      → (length new ≡ count) × AreListed (n + 1) (lists_view new)
  item_listed n old new at count is at_is known many so_far =
      search (rules, length-map, append-nil, one_more, eqb_tells, get_or-set_same, get_or-set_other, length-set)

module _ {Y : Type 0} where
  -- an item is pushed to the list at a place
  pub lists_pushed : (lists : List (Vec Y Global)) (place : ℕ) (old new : Vec Y Global) (y : Y) → place < length lists
      → old ≡ get_or lists place old → new.items ≡ old.items ++ y ∷ []
      → lists_view (set lists place new) ≡ add_to_list (lists_view lists) (Some place) y
  lists_pushed lists place old new y known is pushed = search (rules, get_or, get_or-map, map-set)

-- ---- the places of a plan's rows and bindings

abbrev pub row_mode : DeviceRow → Option ℕ
row_mode row = mode_place row.owner

abbrev pub row_target : DeviceRow → Option ℕ
row_target row = option_map target_place (target_in row.settings)

abbrev pub binding_mode : Binding → Option ℕ
binding_mode b = mode_place b.owner

-- an owner is the machine, or a mode of the plan
owner_placed : (plan : PlanView) (o : Owner) → IsOwnerWithin plan o → IfSome (mode_place o) (λ p. p < length plan.modes)
owner_placed plan o h = search rules

pub rows_placed : (plan : PlanView) → IsValid plan
    → All (λ row. IfSome (row_mode row) (λ p. p < length plan.modes)) plan.rows
rows_placed plan valid =
    All-from_get_or (λ (row : DeviceRow). IfSome (row_mode row) (λ p. p < length plan.modes)) plan.rows no_row
    (λ n within.
    owner_placed plan (row_at plan (record { 0 = n })).owner (valid.entries.rows (record { 0 = n }) within).owner)

pub bindings_placed : (plan : PlanView) → IsValid plan
    → All (λ b. IfSome (binding_mode b) (λ p. p < length plan.modes)) plan.bindings
bindings_placed plan valid = search rules

pub target_within : (rows : ℕ) (t : BallTarget) → IsTargetThere rows t → target_place t < rows + 1
target_within rows t there = search rules

-- the target of a ball device is the playfield, or a row of the plan
target_found : (rows : ℕ) (o : Option BallTarget) → IsTargetThere rows (unwrap_or o Playfield)
    → IfSome (option_map target_place o) (λ p. p < rows + 1)
target_found rows o there = search rules

pub targets_placed : (plan : PlanView) → IsValid plan
    → All (λ row. IfSome (row_target row) (λ p. p < length plan.rows + 1)) plan.rows
targets_placed plan valid =
    All-from_get_or (λ (row : DeviceRow). IfSome (row_target row) (λ p. p < length plan.rows + 1)) plan.rows no_row
    (λ n within.
    target_found (length plan.rows) (target_in (row_at plan (record { 0 = n })).settings)
    (valid.entries.rows (record { 0 = n }) within).target)

-- ---- what the lists of a plan are

abbrev pub row_number : ℕ → RowId
row_number n = record { 0 = n }

abbrev pub binding_number : ℕ → BindingId
binding_number n = record { 0 = n }

abbrev pub RowsListed : (DeviceRow → Option ℕ) → List DeviceRow → ℕ → List (List RowId) → Type 0
RowsListed place rows i lists = AreListed row_number (λ r. r.0) (λ n. refl) place no_row rows i lists

abbrev pub BindingsListed : List Binding → ℕ → List (List BindingId) → Type 0
BindingsListed bindings i lists = AreListed binding_number (λ b. b.0) (λ n. refl) binding_mode no_binding bindings i
    lists

of_mode : (m : ℕ) (o : Owner) → is_at m (mode_place o) ≡ is_owner (Mode (record { 0 = m })) o
of_mode m o = search rules

-- the bindings of each mode
pub mode_bindings_whole : (plan : PlanView) (bindings : List Binding) → plan.bindings ≡ bindings
    → (lists : List (Vec BindingId Global)) → length lists ≡ length plan.modes
    → BindingsListed bindings (length bindings) (lists_view lists) → HasModeBindings plan lists
mode_bindings_whole plan bindings same lists count all =
    let long : length (lists_view lists) ≡ length plan.modes = length-map lists (λ (v : Vec BindingId Global). v.items)
    ∙ count in
    fill_by_all (λ m. bindings_of_owner plan (Mode (record { 0 = m }))) (lists_view lists) (length plan.modes) [] long
    (λ m within.
    let own : listed binding_number (λ b. b.0) (λ n. refl) binding_mode no_binding plan.bindings m
    (length plan.bindings) ≡ bindings_of_owner plan (Mode (record { 0 = m })) =
    λ i. filter (λ b. of_mode m (binding_at plan b).owner i) (binding_numbers plan) in
    all m (omega arith) ∙ sym (ap (λ (bs : List Binding). listed binding_number (λ b. b.0) (λ n. refl) binding_mode
    no_binding bs m (length bs)) same) ∙ own)

module _ (plan : PlanView) (rows : List DeviceRow) (same : plan.rows ≡ rows) (lists : List (Vec RowId Global)) where
  -- the rows of each mode
  pub mode_rows_whole : length lists ≡ length plan.modes → RowsListed row_mode rows (length rows) (lists_view lists)
      → HasModeRows plan lists
  mode_rows_whole count all =
      let long : length (lists_view lists) ≡ length plan.modes = length-map lists (λ (v : Vec RowId Global). v.items)
      ∙ count in
      fill_by_all (λ m. rows_of plan (Mode (record { 0 = m }))) (lists_view lists) (length plan.modes) [] long
      (λ m within.
      let own : listed row_number (λ r. r.0) (λ n. refl) row_mode no_row plan.rows m (length plan.rows)
      ≡ rows_of plan (Mode (record { 0 = m })) =
      λ i. filter (λ r. of_mode m (row_at plan r).owner i) (row_numbers plan) in
      all m (omega arith) ∙ sym (ap (λ (rs : List DeviceRow). listed row_number (λ r. r.0) (λ n. refl) row_mode no_row
      rs m (length rs)) same) ∙ own)

  of_target : (n : ℕ) (t : Option BallTarget)
      → is_at n (option_map target_place t) ≡ option_map_or (is_target (target_at n)) t false
  of_target n t = search rules

  -- the ball devices of each target
  pub feeders_whole : length lists ≡ length rows + 1 → RowsListed row_target rows (length rows) (lists_view lists)
      → HasFeeders plan lists
  feeders_whole count all =
      let long : length (lists_view lists) ≡ length plan.rows + 1 = length-map lists (λ (v : Vec RowId Global). v.items)
      ∙ count ∙ sym (ap (λ (rs : List DeviceRow). length rs + 1) same) in
      fill_by_all (λ n. feeders_of plan (target_at n)) (lists_view lists) (length plan.rows + 1) [] long (λ n within.
      let own : listed row_number (λ r. r.0) (λ k. refl) row_target no_row plan.rows n (length plan.rows)
      ≡ feeders_of plan (target_at n) =
      λ i. filter (λ r. of_target n (target_in (row_at plan r).settings) i) (row_numbers plan) in
      all n (omega arith) ∙ sym (ap (λ (rs : List DeviceRow). listed row_number (λ r. r.0) (λ k. refl) row_target no_row
      rs n (length rs)) same) ∙ own)

-- ---- reading them

module _ {Y : Type 0} (lists : List (Vec Y Global)) (f : ℕ → List Y) (count : ℕ)
    (are : lists_view lists ≡ map f (range_with_len 0 count)) where
  pub lists_count : length lists ≡ count
  lists_count = sym (length-map lists (λ (v : Vec Y Global). v.items)) ∙ ap length are
      ∙ length-map-range_with_len f 0 count

  pub list_at : (n : ℕ) (v : Vec Y Global) → n < count → v ≡ get_or lists n v → v.items ≡ f n
  list_at n v within at =
      ap (λ (w : Vec Y Global). w.items) at
      ∙ sym (get_or-map (λ (w : Vec Y Global). w.items) lists n v [] (omega (arith, within, lists_count)))
      ∙ ap (λ ls. get_or ls n []) are
      ∙ get_or-map-range_with_len f 0 count n n [] within (omega arith)

-- the list of a mode, and that of a target
module _ (inside plan : PlanView) (is : inside ≡ plan) where
  pub mode_bindings_read : (lists : List (Vec BindingId Global)) (m : ModeId) (v : Vec BindingId Global)
      → HasModeBindings inside lists → m.0 < length plan.modes → v ≡ get_or lists m.0 v
      → v.items ≡ bindings_of_owner plan (Mode m)
  mode_bindings_read lists m v has within at = search (rules, list_at)

  pub mode_rows_read : (lists : List (Vec RowId Global)) (m : ModeId) (v : Vec RowId Global) → HasModeRows inside lists
      → m.0 < length plan.modes → v ≡ get_or lists m.0 v → v.items ≡ rows_of plan (Mode m)
  mode_rows_read lists m v has within at = search (rules, list_at)

  pub feeders_read : (lists : List (Vec RowId Global)) (t : BallTarget) (place : ℕ) (v : Vec RowId Global)
      → HasFeeders inside lists → IsTargetThere (length plan.rows) t → place ≡ target_place t → v ≡ get_or lists place v
      → v.items ≡ feeders_of plan t
  feeders_read lists t place v has there placed at = search (rules, target_within, list_at)

-- each feeder is a row
pub feeders-within : (plan : PlanView) (target : BallTarget)
    → All (λ r. r.0 < length plan.rows) (feeders_of plan target)
feeders-within plan target = All-filter (λ r. feeds target (row_at plan r).settings) (λ r. r.0 < length plan.rows)
    (row_numbers plan) (row_numbers-within plan)

-- each binding of an owner is one of the plan
pub bindings_of_owner-within : (plan : PlanView) (owner : Owner)
    → All (λ b. b.0 < length plan.bindings) (bindings_of_owner plan owner)
bindings_of_owner-within plan owner =
    All-filter (λ b. is_owner owner (binding_at plan b).owner) (λ b. b.0 < length plan.bindings) (binding_numbers plan)
    (All-from_get_or (λ (b : BindingId). b.0 < length plan.bindings) (binding_numbers plan) (record { 0 = 0 })
    (λ n within.
    let inside : n < length plan.bindings =
    omega (arith, within, length-map-range_with_len binding_number 0 (length plan.bindings)) in
    subst (λ (b : BindingId). b.0 < length plan.bindings)
    (sym (get_or-map-range_with_len binding_number 0 (length plan.bindings) n n (record { 0 = 0 }) inside
    (omega arith))) inside))
