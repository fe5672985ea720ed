use Rattle.std.proofs.Common.{◌≡◌, ◌++◌, map, drop}
use Rattle.mpf_sections.specs.View.{handler_view}
use Rattle.plan_parts.specs.{Devices.acts, RowViews.acts_view}
use Rattle.plan_parts.proofs.collect_handled.collect_acts.Given as goal

abbrev pub invariant-loop-handler : goal.invariant-loop-handler
invariant-loop-handler l =
    acts_view l.event_acts.items ++ acts l.act (map handler_view (drop l.handler-index l.handlers))
    ≡ acts_view l.initial.event_acts.items ++ acts l.act (map handler_view l.handlers)
