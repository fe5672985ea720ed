use Rattle.std.proofs.Common.{not, count_by}
use Rattle.cascade_rank.proofs.Walking.{WalkAt}
use Rattle.cascade_rank.proofs.walk.walk.Given as goal

abbrev pub invariant-loop-on_path : goal.invariant-loop-on_path
invariant-loop-on_path l = WalkAt l.plan l.fn.start l.on_path.items l.path.items l.at

abbrev pub decreases-loop-on_path : goal.decreases-loop-on_path
decreases-loop-on_path l = count_by not l.on_path.items
