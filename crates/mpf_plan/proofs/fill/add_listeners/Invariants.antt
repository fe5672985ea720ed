use Rattle.std.proofs.Common.{take}
use Rattle.plan_parts.specs.RowViews.{bytes_view}
use Rattle.mpf_plan.specs.Drafting.{AddsListeners}
use Rattle.mpf_plan.proofs.fill.add_listeners.Given as goal

abbrev pub invariant-loop-switch : goal.invariant-loop-switch
invariant-loop-switch l = AddsListeners l.initial.draft l.draft l.row (bytes_view (take l.switch l.listens))
