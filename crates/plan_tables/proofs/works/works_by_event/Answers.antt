use Rattle.std.proofs.{Common.rules, lemmas.List.take_at}
use Rattle.plan_tables.proofs.Overlaid.{works_whole}
use Rattle.plan_tables.proofs.works.works_by_event.Goals as goal

pub returns : goal.returns
returns c plan count modes game = search (rules, take_at, works_whole)
