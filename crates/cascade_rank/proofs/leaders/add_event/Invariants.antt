use Rattle.std.proofs.Common.{take}
use Rattle.cascade_rank.specs.{Cost.{each_of, cost_of_post}, Leaders.AddsLeader}
use Rattle.cascade_rank.proofs.leaders.add_event.Given as goal

-- the event leads to each of those so far
abbrev pub invariant-loop-post : goal.invariant-loop-post
invariant-loop-post l = AddsLeader l.event (each_of cost_of_post (take l.post-index l.posts)) l.fn.leaders l.leaders
