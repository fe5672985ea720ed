use Rattle.std.proofs.Common.{rules, ◌≡◌, Some, None, sym, ◌∙◌}
use Rattle.plan_tables.specs.PlanView.{variable_named}
use Rattle.plan_tables.proofs.{Places.position-map, Named.{variable_found, variable_absent}}
use Rattle.plan_tables.proofs.tables.Plan.find_variable.Goals as goal

-- the variable of the name, by the place that the set gives
named_in_err : (c : goal.After-from_residual) → variable_named c.args.self.now c.args.name.now ≡ None
named_in_err c = search (rules, position-map)

pub returns-in_err-place-clause-variable : goal.returns-in_err-place-clause-variable
returns-in_err-place-clause-variable c = c.from_residual.ensures ∙ sym (named_in_err c)

pub returns-in_err-place-clause-absent : goal.returns-in_err-place-clause-absent
returns-in_err-place-clause-absent c = rw c.from_residual.ensures
    (variable_absent c.args.self.now c.args.name.now (named_in_err c))

named_in_ok : (c : goal.In_ok-place) → variable_named c.args.self.now c.args.name.now
    ≡ Some (record { 0 = c.in_ok-place.place })
named_in_ok c = search (rules, position-map)

pub returns-clause-variable : goal.returns-clause-variable
returns-clause-variable c = sym (named_in_ok c)

pub returns-clause-found : goal.returns-clause-found
returns-clause-found c = variable_found c.args.self.now c.args.name.now (record { 0 = c.in_ok-place.place })
    (named_in_ok c)
