use Rattle.std.proofs.Common.{take}
use Rattle.plan_parts.specs.RowViews.{acts_view, whose_view}
use Rattle.mpf_plan.specs.Drafting.{Adds, seated_parts}
use Rattle.mpf_plan.proofs.fill.add_seated.Given as goal

abbrev pub invariant-loop-each : goal.invariant-loop-each
invariant-loop-each l = Adds l.initial.draft l.draft
    (seated_parts (whose_view l.whose) l.number (acts_view (take l.each-index l.event_acts)))
