use Rattle.std.proofs.Common.{rules, ◌≡◌, Some, None, sym, ◌∙◌}
use Rattle.plan_tables.{specs.PlanView.event_named, proofs.{Places.position-map, Named.{event_found, event_absent}}}
use Rattle.plan_tables.proofs.tables.Plan.find_event.Goals as goal

-- the event of the name, by the place that the set gives
named_in_err : (c : goal.After-from_residual) → event_named c.args.self.now c.args.name.now ≡ None
named_in_err c = search (rules, position-map)

pub returns-in_err-place-clause-event : goal.returns-in_err-place-clause-event
returns-in_err-place-clause-event c = c.from_residual.ensures ∙ sym (named_in_err c)

pub returns-in_err-place-clause-absent : goal.returns-in_err-place-clause-absent
returns-in_err-place-clause-absent c = rw c.from_residual.ensures
    (event_absent c.args.self.now c.args.name.now (named_in_err c))

named_in_ok : (c : goal.In_ok-place) → event_named c.args.self.now c.args.name.now
    ≡ Some (record { 0 = c.in_ok-place.place })
named_in_ok c = search (rules, position-map)

pub returns-clause-event : goal.returns-clause-event
returns-clause-event c = sym (named_in_ok c)

pub returns-clause-found : goal.returns-clause-found
returns-clause-found c = event_found c.args.self.now c.args.name.now (record { 0 = c.in_ok-place.place })
    (named_in_ok c)
