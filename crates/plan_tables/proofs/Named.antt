-- What the events, variables, switches and coils of a name are.
use Rattle.std.proofs.Common.{rules, ◌≡◌, ℕ, ◌<◌, List, [], length, slice_get, Option, Some, None, Contains, refl, ◌∙◌}
use Rattle.std.proofs.{Common.ap, lemmas.Option.slice_get-get_or}
use Rattle.std.specs.{Str.bytes_eq, List.position, Option.option_map}
use Rattle.plan_tables.specs.declared.entries.{EventId.EventId, VariableId.VariableId, SwitchId.SwitchId, CoilId.CoilId}
use Rattle.plan_tables.specs.PlanView.{PlanView, PlanSwitch, PlanCoil, event_named, variable_named, no_switch}
use Rattle.plan_tables.specs.PlanView.{switch_at, switch_named, no_coil, coil_at, coil_named}
use Rattle.plan_tables.proofs.Places.{found_at, found_within, absent}

module _ {X : Type 0} (number : ℕ → X) (place : X → ℕ) (back : (n : ℕ) → place (number n) ≡ n) where
  numbered : (o : Option ℕ) (x : X) → option_map number o ≡ Some x → o ≡ Some (place x)
  numbered o x e = search rules

  unnumbered : (o : Option ℕ) → option_map number o ≡ None → o ≡ None
  unnumbered o e = search rules

  -- among names at their numbers, what is found has the name
  found : (names : List (List ℕ)) (name : List ℕ) (x : X) → option_map number (position (bytes_eq name) names) ≡ Some x
      → slice_get names (place x) ≡ Some name
  found names name x named =
      let at = numbered (position (bytes_eq name) names) x named in
      let within = found_within (λ y. y) name names (place x) at in
      slice_get-get_or names (place x) [] within ∙ ap Some (found_at (λ y. y) name names (place x) [] at)

  -- and if nothing is found, nothing has it
  not_found : (names : List (List ℕ)) (name : List ℕ) → option_map number (position (bytes_eq name) names) ≡ None
      → ¬ (Contains names name)
  not_found names name none (i, within, is) =
      absent (λ y. y) name names (unnumbered (position (bytes_eq name) names) none) i name within is

module _ (plan : PlanView) (name : List ℕ) where
  -- the event of a name has it
  pub event_found : (e : EventId) → event_named plan name ≡ Some e → slice_get plan.events e.0 ≡ Some name
  event_found = found (λ n. record { 0 = n }) (λ (x : EventId). x.0) (λ n. refl) plan.events name

  -- if a name has no event, no event has the name
  pub event_absent : event_named plan name ≡ None → ¬ (Contains plan.events name)
  event_absent = not_found (λ n. record { 0 = n }) (λ (x : EventId). x.0) (λ n. refl) plan.events name

  -- the variable of a name has it
  pub variable_found : (v : VariableId) → variable_named plan name ≡ Some v → slice_get plan.variables v.0 ≡ Some name
  variable_found = found (λ n. record { 0 = n }) (λ (x : VariableId). x.0) (λ n. refl) plan.variables name

  -- if a name has no variable, no variable has the name
  pub variable_absent : variable_named plan name ≡ None → ¬ (Contains plan.variables name)
  variable_absent = not_found (λ n. record { 0 = n }) (λ (x : VariableId). x.0) (λ n. refl) plan.variables name

  switch_place : (s : SwitchId) → switch_named plan name ≡ Some s
      → position (λ s. bytes_eq name s.name) plan.switches ≡ Some s.0
  switch_place s = numbered (λ n. record { 0 = n }) (λ (x : SwitchId). x.0) (λ n. refl)
      (position (λ s. bytes_eq name s.name) plan.switches) s

  -- the switch of a name has it
  pub switch_found : (s : SwitchId) → switch_named plan name ≡ Some s → (switch_at plan s).name ≡ name
  switch_found s named = found_at (λ (x : PlanSwitch). x.name) name plan.switches s.0 no_switch (switch_place s named)

  pub switch_within : (s : SwitchId) → switch_named plan name ≡ Some s → s.0 < length plan.switches
  switch_within s named = found_within (λ (x : PlanSwitch). x.name) name plan.switches s.0 (switch_place s named)

  coil_place : (c : CoilId) → coil_named plan name ≡ Some c → position (λ c. bytes_eq name c.name) plan.coils ≡ Some c.0
  coil_place c = numbered (λ n. record { 0 = n }) (λ (x : CoilId). x.0) (λ n. refl)
      (position (λ c. bytes_eq name c.name) plan.coils) c

  -- the coil of a name has it
  pub coil_found : (c : CoilId) → coil_named plan name ≡ Some c → (coil_at plan c).name ≡ name
  coil_found c named = found_at (λ (x : PlanCoil). x.name) name plan.coils c.0 no_coil (coil_place c named)

  pub coil_within : (c : CoilId) → coil_named plan name ≡ Some c → c.0 < length plan.coils
  coil_within c named = found_within (λ (x : PlanCoil). x.name) name plan.coils c.0 (coil_place c named)
