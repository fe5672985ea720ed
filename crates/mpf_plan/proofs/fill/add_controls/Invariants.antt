use Rattle.std.proofs.Common.{take}
use Rattle.plan_parts.specs.RowViews.{control_parts, controls_view, whose_view}
use Rattle.mpf_plan.specs.Drafting.{Adds}
use Rattle.mpf_plan.proofs.fill.add_controls.Given as goal

abbrev pub invariant-loop-each : goal.invariant-loop-each
invariant-loop-each l = Adds l.initial.draft l.draft
    (control_parts (whose_view l.whose) l.number (controls_view (take l.each-index l.controls)))
