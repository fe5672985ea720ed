use Rattle.switch_core.proofs.{Following.{levels_are_accepted, nothing_is_late}, DueMoments.changes_arm_later}
use Rattle.switch_core.proofs.law.levels_are_accepted.Goals as goal

pub returns-clause-levels : goal.returns-clause-levels
returns-clause-levels c = levels_are_accepted

pub returns-clause-never_late : goal.returns-clause-never_late
returns-clause-never_late c = nothing_is_late

pub returns-clause-later : goal.returns-clause-later
returns-clause-later c = changes_arm_later
