use Rattle.std.proofs.Common.{rules}
use Rattle.shot_groups.proofs.shots.hit.Goals as goal

pub returns-then-is_complete-clause-states : goal.returns-then-is_complete-clause-states
returns-then-is_complete-clause-states c = search rules

pub returns-then-is_complete-clause-outcome : goal.returns-then-is_complete-clause-outcome
returns-then-is_complete-clause-outcome c = search rules

pub returns-else-is_complete-clause-states : goal.returns-else-is_complete-clause-states
returns-else-is_complete-clause-states c = search rules

pub returns-else-is_complete-clause-outcome : goal.returns-else-is_complete-clause-outcome
returns-else-is_complete-clause-outcome c = search rules

pub returns-else-settings-clause-states : goal.returns-else-settings-clause-states
returns-else-settings-clause-states c = search rules

pub returns-else-settings-clause-outcome : goal.returns-else-settings-clause-outcome
returns-else-settings-clause-outcome c = search rules
