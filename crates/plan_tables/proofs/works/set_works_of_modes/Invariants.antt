use Rattle.std.proofs.Common.{◌≤◌, length, map, drop}
use Rattle.plan_tables.specs.PlanFields.{mode_entry_view, AreWorksFrom}
use Rattle.plan_tables.proofs.works.set_works_of_modes.Given as goal

abbrev pub invariant-loop-number : goal.invariant-loop-number
invariant-loop-number l = record {
  within : l.number ≤ length l.modes;
  works : AreWorksFrom l.number (map mode_entry_view (drop l.number l.modes)) l.initial.works l.works;
}

abbrev pub decreases-loop-number : goal.decreases-loop-number
decreases-loop-number l = l.number
