use Rattle.std.proofs.Common.{take}
use Rattle.cascade_rank.specs.Marks.{AreMarked}
use Rattle.cascade_rank.proofs.releases.mark_actions.Given as goal

abbrev pub invariant-loop-action : goal.invariant-loop-action
invariant-loop-action l = AreMarked l.initial.marks (take l.action-index l.actions) l.marks
