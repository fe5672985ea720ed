-- A switch that has a name is the one that is found by the name, since no two switches have one name.
use Rattle.std.proofs.Common.{◌≡◌, ℕ, ◌<◌, Bool, true, false, List, [], length, get_or, Some, None, refl, ap, sym, ◌∙◌}
use Rattle.std.proofs.{Common.{arith, subst}, lemmas.List.{get_or-map, length-map, Sums.position_or_len_is}}
use Rattle.std.specs.{Str.bytes_eq, List.position, Option.option_map}
use Rattle.std.proofs.lemmas.{Bool.{cond-true, false_from_ne_true, lt-ltb}, Slice.Eq.bytes_eq-Decides}
use Rattle.plan_tables.specs.declared.{entries.SwitchId.SwitchId, table.Table.TheVariants.Switches}
use Rattle.plan_tables.specs.{PlanView.{PlanView, PlanSwitch, no_switch, switch_at, switch_named}, Valid.IsValid}

-- what passes is found, if nothing before it passes
first_found : {X : Type 0} (p : X → Bool) (xs : List X) (i : ℕ) (d : X) → i < length xs
    → ((k : ℕ) → k < i → p (get_or xs k d) ≡ false) → p (get_or xs i d) ≡ true → position p xs ≡ Some i
first_found p xs i d within fails passes =
    let at = position_or_len_is p xs i d (omega (arith, within)) fails (λ _. passes) in
    rw at (cond-true _ (Some i) None (lt-ltb i (length xs) within))

module _ (plan : PlanView) (valid : IsValid plan) (s : SwitchId) (within : s.0 < length plan.switches) where
  abbrev name_of : PlanSwitch → List ℕ
  name_of x = x.name

  earlier_differs : (k : ℕ) → k < s.0
      → bytes_eq (name_of (switch_at plan s)) (name_of (get_or plan.switches k no_switch)) ≡ false
  earlier_differs k before =
      let own = name_of (switch_at plan s) in
      let earlier = name_of (get_or plan.switches k no_switch) in
      false_from_ne_true (bytes_eq own earlier) (λ same.
      valid.names Switches k s.0 [] before (omega (arith, within, length-map plan.switches name_of))
      (get_or-map name_of plan.switches k no_switch [] (omega (arith, before, within))
      ∙ sym ((bytes_eq-Decides own earlier).0 same)
      ∙ sym (get_or-map name_of plan.switches s.0 no_switch [] within)))

  pub named_is : (name : List ℕ) → (switch_at plan s).name ≡ name → switch_named plan name ≡ Some s
  named_is name has =
      let own = name_of (switch_at plan s) in
      subst (λ (n : List ℕ). switch_named plan n ≡ Some s) has
      (ap (option_map (λ n. record { 0 = n }))
      (first_found (λ (x : PlanSwitch). bytes_eq own (name_of x)) plan.switches s.0 no_switch within earlier_differs
      ((bytes_eq-Decides own own).1 refl)))
