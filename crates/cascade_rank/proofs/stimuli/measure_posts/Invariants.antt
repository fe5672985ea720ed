use Rattle.std.proofs.Common.{take}
use Rattle.cascade_rank.specs.Cost.{each_of, cost_of_post}
use Rattle.cascade_rank.proofs.stimuli.measure_posts.Given as goal

-- the posts so far
abbrev pub invariant-loop-event : goal.invariant-loop-event
invariant-loop-event g l = g.M.Measure.Measures l.fn.measure (each_of cost_of_post (take l.event-index l.posts))
    l.measure l.total
