use Rattle.std.proofs.Common.{◌≡◌, map, drop}
use Rattle.mpf_sections.specs.View.{name_view}
use Rattle.plan_parts.specs.{Devices.texts, Effects.posts, Lists.with_last}
use Rattle.plan_parts.proofs.effects.post_each.Given as goal

abbrev pub invariant-loop-name : goal.invariant-loop-name
invariant-loop-name l =
    with_last (map posts (texts (map name_view (drop l.name-index l.names)))) l.lists
    ≡ with_last (map posts (texts (map name_view l.names))) l.initial.lists
