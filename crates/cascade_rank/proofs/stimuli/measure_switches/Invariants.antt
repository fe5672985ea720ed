use Rattle.std.proofs.Common.{take}
use Rattle.cascade_rank.specs.Cost.{dearest_of, cost_of_switch, switches_of}
use Rattle.cascade_rank.proofs.stimuli.measure_switches.Given as goal

-- the dearest of the switches so far
abbrev pub invariant-loop-number : goal.invariant-loop-number
invariant-loop-number g l = g.M.Measure.Measures l.fn.measure
    (dearest_of (cost_of_switch l.plan) (take l.number (switches_of l.plan))) l.measure l.dearest
