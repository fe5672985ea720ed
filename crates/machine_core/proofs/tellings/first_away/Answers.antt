use Rattle.std.proofs.Common.{rules}
use Rattle.machine_core.proofs.Telling.{unless-some, none-away}
use Rattle.machine_core.proofs.tellings.first_away.Goals as goal

pub returns-then-is_none-clause-first : goal.returns-then-is_none-clause-first
returns-then-is_none-clause-first g c = search (rules, none-away, unless-some)
