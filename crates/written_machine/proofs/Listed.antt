-- The actions of a plan, by their owners.
use Rattle.std.proofs.Common.{rules, ◌≡◌, ℕ, zero, suc, ◌<◌, Bool, true, List, [], ◌∷◌, length, if◌then◌else◌, refl}
use Rattle.std.proofs.{Common.{sym, ap, ◌∙◌, subst, arith}, lemmas.{Bool.eq-eqb, List.FromFn.get_or-map-range_with_len}}
use Rattle.std.specs.{Prelude.{Contains, ◌||◌}, List.{flat_map, list_any, range_with_len}}
use Rattle.std.proofs.lemmas.List.Elements.{Contains-append_left, Contains-append_right}
use Rattle.std.proofs.lemmas.List.FromFn.{length-range_with_len, get_or-range_with_len, length-map-range_with_len}
use Rattle.plan_tables.specs.{Devices.list_count, declared.devices.RowId.RowId}
use Rattle.plan_tables.specs.PlanView.{PlanView, actions_at, actions_of, actions_of_binding, actions_of_row}
use Rattle.plan_tables.specs.PlanView.{actions_of_target, is_enable_of, is_owner, list_of_row, row_at, row_numbers}
use Rattle.plan_tables.specs.declared.entries.{Action.{Action, TheVariants.Enable}, Binding.Binding, ListId.ListId}
use Rattle.plan_tables.specs.declared.entries.{CoilId.CoilId, Owner.Owner, Target.TheVariants.Run}

pub same-is_owner : (owner : Owner) → is_owner owner owner ≡ true
same-is_owner owner = search rules

-- ---- what is in lists

pub contains-flat_map : {X Y : Type 0} (f : X → List Y) (xs : List X) (x : X) (y : Y) → Contains xs x → Contains (f x) y
    → Contains (flat_map f xs) y
contains-flat_map f [] x y (i, within, is) has = absurd (omega arith)
contains-flat_map f (z ∷ xs) x y (zero, within, is) has =
    Contains-append_left (f z) (flat_map f xs) y (subst (λ w. Contains (f w) y) (sym is) has)
contains-flat_map f (z ∷ xs) x y (suc i, within, is) has =
    Contains-append_right (f z) (flat_map f xs) y (contains-flat_map f xs x y (i, omega arith, is) has)

range-contains : (count n : ℕ) → n < count → Contains (range_with_len 0 count) n
range-contains count n below =
    (n, omega (arith, below, length-range_with_len 0 count), get_or-range_with_len 0 count n n below ∙ omega arith)

pub contains-any : {X : Type 0} (p : X → Bool) (xs : List X) (x : X) → Contains xs x → p x ≡ true → list_any p xs ≡ true
contains-any p [] x (i, within, is) holds = absurd (omega arith)
contains-any p (y ∷ xs) x (zero, within, is) holds = ap (λ b. b || list_any p xs) (ap p is ∙ holds)
contains-any p (y ∷ xs) x (suc i, within, is) holds = search (rules, contains-any p xs x (i, omega arith, is) holds)

-- ---- the actions of an owner

module _ (plan : PlanView) where
  -- those of a binding, if it runs this list
  pub binding-among : (b : Binding) (l : ListId) (a : Action) → Contains plan.bindings b → b.target ≡ Run l
      → Contains (actions_at plan l) a → Contains (actions_of plan b.owner) a
  binding-among b l a listed is has =
      let own : actions_of_binding plan b.owner b ≡ actions_at plan l =
      ap (λ t. if t then actions_of_target plan b.target else []) (same-is_owner b.owner)
      ∙ ap (actions_of_target plan) is in
      Contains-append_left (flat_map (actions_of_binding plan b.owner) plan.bindings)
      (flat_map (actions_of_row plan b.owner) (row_numbers plan)) a
      (contains-flat_map (actions_of_binding plan b.owner) plan.bindings b a listed
      (subst (λ acts. Contains acts a) (sym own) has))

  -- those of a list of a row
  pub row-among : (r : RowId) (n : ℕ) (a : Action) → r.0 < length plan.rows → n < list_count (row_at plan r).settings
      → Contains (actions_at plan (list_of_row plan r n)) a
      → Contains (actions_of plan (row_at plan r).owner) a
  row-among r n a within below has =
      let owner = (row_at plan r).owner in
      let count = list_count (row_at plan r).settings in
      let of_lists : List Action = flat_map (λ j. actions_at plan (list_of_row plan r j)) (range_with_len 0 count) in
      let listed : Contains of_lists a = contains-flat_map (λ j. actions_at plan (list_of_row plan r j))
      (range_with_len 0 count) n a (range-contains count n below) has in
      let of_row : Contains (actions_of_row plan owner r) a =
      subst (λ t. Contains (if t then of_lists else []) a) (sym (same-is_owner owner)) listed in
      Contains-append_right (flat_map (actions_of_binding plan owner) plan.bindings)
      (flat_map (actions_of_row plan owner) (row_numbers plan)) a
      (contains-flat_map (actions_of_row plan owner) (row_numbers plan) r a (
        r.0,
        omega (arith, within, length-map-range_with_len {X = RowId} (λ i. record { 0 = i }) 0 (length plan.rows)),
        get_or-map-range_with_len (λ i. record { 0 = i }) 0 (length plan.rows) r.0 r.0 r within (omega arith),
      ) of_row)

  -- an action that enables a coil is found
  pub enable-listed : (owner : Owner) (coil : CoilId) (power : ℕ) → Contains (actions_of plan owner) (Enable coil power)
      → list_any (is_enable_of coil) (actions_of plan owner) ≡ true
  enable-listed owner coil power has = contains-any (is_enable_of coil) (actions_of plan owner) (Enable coil power) has
      (eq-eqb coil.0 coil.0 refl)
