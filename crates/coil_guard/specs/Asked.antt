-- Commands that are asked for: each is sent, or skipped.
use Rattle.std.specs.Prelude.{ℕ, List, map}
use Rattle.plan_tables.specs.{PlanView.PlanView, declared.entries.{Owner.Owner, CoilLimits.CoilLimits}}
use Rattle.coil_guard.specs.declared.{command.{Command.Command, Answer.Answer}, state.CoilState.CoilState}
use Rattle.coil_guard.specs.declared.command.Command.TheVariants as commands
use Rattle.coil_guard.specs.Coils.{after_pulse, answer_pulse, after_enable, answer_enable, after_disable}
use Rattle.coil_guard.specs.Coils.{answer_disable}

-- the limits of a plan's coils, by number
abbrev pub limits_of : PlanView → List CoilLimits
limits_of plan = map (λ c. c.limits) plan.coils

-- what an owner's asking for a command leads to
abbrev pub after_asking : Command → Owner → ℕ → List CoilState → List CoilState
after_asking (commands.Pulse coil ms power) owner now s = after_pulse coil ms power now s
after_asking (commands.Enable coil power) owner now s = after_enable coil power owner now s
after_asking (commands.Disable coil) owner now s = after_disable coil now s

abbrev pub answer_asking : Command → Owner → ℕ → List CoilState → Answer
answer_asking (commands.Pulse coil ms power) owner now s = answer_pulse coil ms power now s
answer_asking (commands.Enable coil power) owner now s = answer_enable coil power owner now s
answer_asking (commands.Disable coil) owner now s = answer_disable coil now s
