use Rattle.std.proofs.Common.{◌≡◌, ◌++◌, map, drop}
use Rattle.mpf_sections.specs.View.{name_view}
use Rattle.plan_parts.specs.{Devices.texts, RowViews.names_view}
use Rattle.plan_parts.proofs.collect_handled.collect_names.Given as goal

abbrev pub invariant-loop-name : goal.invariant-loop-name
invariant-loop-name l = names_view l.texts.items ++ texts (map name_view (drop l.name-index l.names))
    ≡ names_view l.initial.texts.items ++ texts (map name_view l.names)
