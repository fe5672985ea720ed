use Rattle.std.proofs.Common.{take}
use Rattle.plan_parts.specs.RowViews.{acts_view, whose_view}
use Rattle.mpf_plan.specs.Drafting.{AddsActs}
use Rattle.mpf_plan.proofs.fill.add_acts.Given as goal

abbrev pub invariant-loop-each : goal.invariant-loop-each
invariant-loop-each l = AddsActs l.initial.draft l.draft (whose_view l.whose) l.row
    (acts_view (take l.each-index l.event_acts))
