use Rattle.std.proofs.{Common.rules, lemmas.List.length-map}
use Rattle.section_tables.proofs.WrittenRows.{lacks-here, lacks-later}
use Rattle.section_tables.proofs.settings.first_lacking.Goals as goal

pub returns-then-lacks_at : goal.returns-then-lacks_at
returns-then-lacks_at c = search (rules, lacks-here, length-map)

pub loop-at-preserved : goal.loop-at-preserved
loop-at-preserved c = search (rules, lacks-later, length-map)
