use Rattle.std.proofs.{Common.rules, lemmas.List.{map-set, get_or-map, length-map}}
use Rattle.cascade_rank.proofs.leaders.Leaders.add.Goals as goal

pub returns : goal.returns
returns c = search (rules, length-map, get_or-map, map-set)
