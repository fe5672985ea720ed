use Rattle.std.proofs.Common.{take}
use Rattle.mpf_plan.specs.Drafting.{AddsLists}
use Rattle.mpf_plan.proofs.fill.add_lists.Given as goal

abbrev pub invariant-loop-number : goal.invariant-loop-number
invariant-loop-number l = AddsLists l.initial.draft l.draft l.row (take l.number l.lists)
