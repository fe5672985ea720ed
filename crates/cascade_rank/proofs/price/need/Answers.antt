use Rattle.std.proofs.Common.{◌<◌, ◌^◌, arith}
use Rattle.plan_tables.specs.declared.entries.EventId.{EventId}
use Rattle.cascade_rank.{specs.Events.weight_of, proofs.Small.event-small}
use Rattle.cascade_rank.proofs.price.need.Goals as goal

pub returns : goal.returns
returns c =
    let light : (e : EventId) → weight_of c.args.weights.now e < 2 ^ 32 = λ e. omega (arith, c.type_inv.weights e.0) in
    omega (
      arith,
      event-small (weight_of c.args.weights.now) light c.args.plan.now c.measure_event.ensures.valid
          c.args.event,
      c.measure_event.ensures.cost.1,
    )
