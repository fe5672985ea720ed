use Rattle.std.{proofs.Common.take, specs.List.flat_map}
use Rattle.cascade_rank.{specs.Marks.AreMarked, proofs.Marked.actions_of_lists}
use Rattle.cascade_rank.proofs.releases.mark_rows.Given as goal

abbrev pub invariant-loop-row : goal.invariant-loop-row
invariant-loop-row l = AreMarked l.initial.marks (flat_map (actions_of_lists l.plan) (take l.row-index l.row-items))
    l.marks
