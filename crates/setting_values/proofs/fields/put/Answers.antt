use Rattle.std.proofs.{Common.rules, lemmas.List.map-set}
use Rattle.setting_values.proofs.fields.put.Goals as goal

pub returns : goal.returns
returns c = search (rules, map-set)
