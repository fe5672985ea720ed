use Rattle.std.proofs.Common.{◌≡◌, ◌++◌, map, drop}
use Rattle.mpf_sections.specs.View.{name_view}
use Rattle.plan_parts.specs.{Parts.tag_event, RowViews.names_view}
use Rattle.plan_parts.proofs.collect.collect_tags.Given as goal

abbrev pub invariant-loop-tag : goal.invariant-loop-tag
invariant-loop-tag l = names_view l.active.items ++ map tag_event (map name_view (drop l.tag-index l.tags))
    ≡ names_view l.initial.active.items ++ map tag_event (map name_view l.tags)
