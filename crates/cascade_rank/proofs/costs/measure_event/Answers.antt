use Rattle.cascade_rank.proofs.costs.measure_event.Goals as goal

pub returns-clause-cost : goal.returns-clause-cost
returns-clause-cost g c =
    c.both.ensures _ _ _ _ c.lines-line.ensures
    (c.both-rest.ensures _ _ _ _ c.measure_bound-bound.ensures.cost c.measure_work-work.ensures)
