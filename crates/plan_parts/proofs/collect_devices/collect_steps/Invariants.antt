use Rattle.std.proofs.Common.{◌≡◌, ◌++◌, map, drop}
use Rattle.mpf_sections.specs.View.{step_view}
use Rattle.plan_parts.specs.{DeviceEntries.step_acts, RowViews.acts_view}
use Rattle.plan_parts.proofs.collect_devices.collect_steps.Given as goal

abbrev pub invariant-loop-number : goal.invariant-loop-number
invariant-loop-number l =
    acts_view l.event_acts.items ++ step_acts l.number (map step_view (drop l.number l.steps))
    ≡ acts_view l.initial.event_acts.items ++ step_acts 0 (map step_view l.steps)
