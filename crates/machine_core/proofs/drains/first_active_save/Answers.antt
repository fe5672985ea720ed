use Rattle.std.proofs.Common.{rules}
use Rattle.machine_core.proofs.{Draining.{save-on, save-off}, Listing.{first-here, first-later, first-end}}
use Rattle.machine_core.proofs.drains.first_active_save.Goals as goal

pub loop-number-preserved : goal.loop-number-preserved
loop-number-preserved g c = search (rules, first-later)

pub returns-then-may_save-clause-first : goal.returns-then-may_save-clause-first
returns-then-may_save-clause-first g c = search (rules, first-here, save-on)

pub returns-clause-first : goal.returns-clause-first
returns-clause-first g c = search (rules, first-end, save-on)

pub returns-then-not-is_ball_on-clause-first : goal.returns-then-not-is_ball_on-clause-first
returns-then-not-is_ball_on-clause-first g c = search (rules, save-off)
