use Rattle.std.{proofs.Common.take, specs.List.flat_map}
use Rattle.cascade_rank.{specs.Marks.AreMarked, proofs.Marked.actions_at_place}
use Rattle.cascade_rank.proofs.releases.mark_bindings.Given as goal

abbrev pub invariant-loop-place : goal.invariant-loop-place
invariant-loop-place l = AreMarked l.initial.marks
    (flat_map (actions_at_place l.plan) (take l.place-index l.place-items)) l.marks
