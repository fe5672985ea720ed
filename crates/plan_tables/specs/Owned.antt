-- The bindings of an owner.
use Rattle.std.specs.{Prelude.{List, length, map, filter}, List.range_with_len}
use Rattle.plan_tables.specs.declared.entries.{BindingId.BindingId, Owner.Owner}
use Rattle.plan_tables.specs.PlanView.{PlanView, binding_at, is_owner}

-- the places of all bindings
abbrev pub binding_numbers : PlanView → List BindingId
binding_numbers plan = map (λ n. record { 0 = n }) (range_with_len 0 (length plan.bindings))

-- the places of an owner's bindings, in plan order
abbrev pub bindings_of_owner : PlanView → Owner → List BindingId
bindings_of_owner plan owner = filter (λ b. is_owner owner (binding_at plan b).owner) (binding_numbers plan)
