use Rattle.std.proofs.Common.{rules}
use Rattle.row_faults.proofs.Apart.{once-apart}
use Rattle.row_faults.proofs.once.listed_once.Goals as goal

pub returns-then-are_apart : goal.returns-then-are_apart
returns-then-are_apart c = search (rules, once-apart)
