use Rattle.std.proofs.Common.{take}
use Rattle.cascade_rank.specs.Cost.{each_of, cost_of_listener}
use Rattle.cascade_rank.proofs.stimuli.measure_listeners.Given as goal

-- the acts so far
abbrev pub invariant-loop-listener : goal.invariant-loop-listener
invariant-loop-listener g l = g.M.Measure.Measures l.fn.measure
    (each_of (cost_of_listener l.plan l.active) (take l.listener-index l.listeners)) l.measure l.total
