use Rattle.std.proofs.Common.{rules}
use Rattle.machine_core.proofs.Homes.{home-here, home-other, home-end, counted-few}
use Rattle.machine_core.proofs.balls.home.Goals as goal
use Rattle.machine_core.proofs.balls.home.Goals.{then-is_home, else-is_home}

pub loop-number-preserved : goal.loop-number-preserved
loop-number-preserved c = search (rules, then-is_home, home-here, counted-few, else-is_home, home-other)

pub returns : goal.returns
returns c = search (rules, home-end)
