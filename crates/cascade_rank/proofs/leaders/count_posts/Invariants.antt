use Rattle.cascade_rank.specs.Leaders.{HasLeaders}
use Rattle.cascade_rank.proofs.leaders.count_posts.Given as goal

abbrev pub invariant-loop-number : goal.invariant-loop-number
invariant-loop-number l = HasLeaders l.plan l.number l.leaders l.open_posts.items
