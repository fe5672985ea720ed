use Rattle.std.proofs.Common.{sym, ◌∙◌, rules, tests}
use Rattle.std.proofs.lemmas.Iterator.{YieldsList-from_slice, Search.any_from_yields_List}
use Rattle.mpf_sections.specs.{declared.section.Section.Section, View.section_view}
use Rattle.plan_parts.specs.BallEntries.{is_game}
use Rattle.plan_parts.proofs.collect_balls.has_game.Goals as goal
use Rattle.yaml_bytes.proofs.Each.{any_mapped}

pub returns : goal.returns
returns c =
    let sections = c.args.sections.now in
    any_from_yields_List (λ (s : Section). is_game (section_view s)) _ _ c.any.result c.any.ensures.ran
    (YieldsList-from_slice sections cc) (λ x b q k. search (rules, tests))
    ∙ sym (any_mapped is_game section_view sections)
