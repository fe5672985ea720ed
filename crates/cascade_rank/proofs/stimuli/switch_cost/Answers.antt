use Rattle.std.proofs.Common.{rules, List, ℕ, ap, arith}
use Rattle.cascade_rank.{specs.{Events.weight_of, Cost.{price, cost_of_switch}}, proofs.Switches.switch-within_bound}
use Rattle.cascade_rank.proofs.stimuli.switch_cost.Goals as goal

pub overflow_cast-result : goal.overflow_cast-result
overflow_cast-result c = search (rules, switch-within_bound)

pub returns : goal.returns
returns c =
    let same = ap (λ (ws : List ℕ). price (weight_of ws) (cost_of_switch c.args.plan.now c.args.switch))
    c.as_slice-weights.ensures in
    let within = switch-within_bound c.args.plan.now 0 (weight_of c.args.weights.now) c.args.switch c.requires.switch in
    omega (arith, same, within, c.requires.limit.bound_within, c.measure_switch.ensures.1)
