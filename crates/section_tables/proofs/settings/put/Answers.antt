use Rattle.std.proofs.{Common.rules, lemmas.List.map-set}
use Rattle.section_tables.proofs.WrittenRows.{written-last}
use Rattle.section_tables.proofs.settings.put.Goals as goal

pub returns : goal.returns
returns c = search (rules, written-last, map-set)
