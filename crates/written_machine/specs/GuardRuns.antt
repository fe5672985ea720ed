-- In every run the guard of the coils follows the commands that were sent.
use Rattle.plan_tables.specs.{PlanView.PlanView, Valid.IsValid}
use Rattle.coil_guard.specs.{Asked.limits_of, Follows.Follows}
use Rattle.written_machine.specs.{CoilActions.ActionsKeepLimits, Run.InEveryRun, Sent.sendings}

-- If no action of a valid plan asks for more than its coil may, then in every run of the plan what the guard remembers
-- of each coil follows from the commands that were sent: whether the coil is on, who holds it, and when it is ready
-- again.
abbrev pub GuardsFollowCommands : Type 0
GuardsFollowCommands =
    (plan : PlanView) → ActionsKeepLimits plan → IsValid plan
    → InEveryRun plan (λ stimuli trace s. Follows (limits_of plan) (sendings trace) s.coils s.moment)
