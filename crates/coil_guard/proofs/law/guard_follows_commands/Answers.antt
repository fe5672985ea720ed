use Rattle.coil_guard.proofs.Following.{new_follows, calls_follow, later_follows, followers_send_what_is_due}
use Rattle.coil_guard.proofs.law.guard_follows_commands.Goals as goal

pub returns-clause-at_first : goal.returns-clause-at_first
returns-clause-at_first c = new_follows

pub returns-clause-after_call : goal.returns-clause-after_call
returns-clause-after_call c = calls_follow

pub returns-clause-later : goal.returns-clause-later
returns-clause-later c = later_follows

pub returns-clause-due : goal.returns-clause-due
returns-clause-due c = followers_send_what_is_due
