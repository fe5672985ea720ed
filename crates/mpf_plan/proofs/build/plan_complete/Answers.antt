use Rattle.std.proofs.Common.{subst}
use Rattle.mpf_config.specs.{Rows.Rows, Short.AreListsShort, States.HaveStates, FewModes.AreFewModes}
use Rattle.mpf_plan.proofs.build.plan_complete.Goals as goal

pub plan_of_rows-requires-clause-short : goal.plan_of_rows-requires-clause-short
plan_of_rows-requires-clause-short c =
    subst AreListsShort c.config-config.ensures c.config-config.result.now.lists_short

pub plan_of_rows-requires-clause-states : goal.plan_of_rows-requires-clause-states
plan_of_rows-requires-clause-states c =
    subst HaveStates c.config-config.ensures c.config-config.result.now.have_states

pub plan_of_rows-requires-clause-modes : goal.plan_of_rows-requires-clause-modes
plan_of_rows-requires-clause-modes c =
    subst (λ (rows : Rows). AreFewModes rows.modes) c.config-config.ensures c.config-config.result.now.few_modes
