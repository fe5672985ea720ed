use Rattle.std.proofs.Common.{◌≡◌, ◌++◌, map, drop}
use Rattle.mpf_sections.specs.{Typed.controls_of, View.fields_view}
use Rattle.plan_parts.specs.{DeviceEntries.act_of_control, RowViews.acts_view}
use Rattle.plan_parts.proofs.collect_devices.collect_timer_acts.Given as goal

abbrev pub invariant-loop-fields : goal.invariant-loop-fields
invariant-loop-fields l =
    acts_view l.event_acts.items ++ map act_of_control (controls_of (map fields_view (drop l.fields-index l.maps)))
    ≡ acts_view l.initial.event_acts.items ++ map act_of_control (controls_of (map fields_view l.maps))
