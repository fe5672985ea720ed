use Rattle.std.proofs.Common.{rules}
use Rattle.shot_groups.proofs.shots.rotate_right.Goals as goal

pub returns-then-settings-gt0 : goal.returns-then-settings-gt0
returns-then-settings-gt0 c = search rules

pub returns-else-settings-gt0 : goal.returns-else-settings-gt0
returns-else-settings-gt0 c = search rules
