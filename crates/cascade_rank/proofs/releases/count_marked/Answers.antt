use Rattle.std.proofs.Common.{rules}
use Rattle.cascade_rank.proofs.{Marked.count-more, releases.count_marked.Goals.{then-marks-number, else-marks-number}}
use Rattle.cascade_rank.proofs.releases.count_marked.Goals as goal

pub loop-number-preserved : goal.loop-number-preserved
loop-number-preserved c = search (rules, then-marks-number, count-more, else-marks-number)
