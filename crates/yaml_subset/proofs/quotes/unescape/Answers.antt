use Rattle.std.proofs.Common.{rules}
use Rattle.yaml_subset.proofs.quotes.unescape.Goals as goal

pub returns-in-92 : goal.returns-in-92
returns-in-92 c = search rules

pub returns-in-34 : goal.returns-in-34
returns-in-34 c = search rules

pub returns-in-110 : goal.returns-in-110
returns-in-110 c = search rules

pub returns-in-116 : goal.returns-in-116
returns-in-116 c = search rules

pub returns-in_default : goal.returns-in_default
returns-in_default c = search rules
