use Rattle.row_faults.proofs.targets.+ends_of.Given as goal

abbrev pub decreases-ends_of : goal.decreases-ends_of
decreases-ends_of l = l.times
