use Rattle.std.{proofs.Common.take, specs.List.{flat_map, range_with_len}}
use Rattle.plan_tables.specs.{Devices.list_count, PlanView.{actions_at, list_of_row, row_at}}
use Rattle.cascade_rank.specs.Marks.{AreMarked}
use Rattle.cascade_rank.proofs.releases.mark_lists.Given as goal

abbrev pub invariant-loop-list : goal.invariant-loop-list
invariant-loop-list l = AreMarked l.initial.marks
    (flat_map (λ k. actions_at l.plan (list_of_row l.plan l.row k))
    (take l.list (range_with_len 0 (list_count (row_at l.plan l.row).settings)))) l.marks
