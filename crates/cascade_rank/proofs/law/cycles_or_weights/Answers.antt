use Rattle.cascade_rank.proofs.{Cycles.{cycle-no_fit, cycle-open, open-cycle}, Finds.not_open-least}
use Rattle.cascade_rank.proofs.law.cycles_or_weights.Goals as goal

pub returns-clause-cycle : goal.returns-clause-cycle
returns-clause-cycle c = cycle-open

pub returns-clause-open : goal.returns-clause-open
returns-clause-open c = open-cycle

pub returns-clause-no_fit : goal.returns-clause-no_fit
returns-clause-no_fit c = cycle-no_fit

pub returns-clause-least : goal.returns-clause-least
returns-clause-least c = not_open-least
