-- What the actions of an accepted plan ask of coils.
use Rattle.std.specs.List.{All}
use Rattle.plan_tables.specs.{PlanView.PlanView, declared.entries.Action.Action}
use Rattle.plan_tables.specs.declared.entries.Action.TheVariants.{Post, Pulse, Enable, Disable, Request, AddBalls}
use Rattle.plan_tables.specs.declared.entries.Action.TheVariants.{Change as ChangeVariable, Enter, Leave, Lose, Arrive}
use Rattle.coil_guard.specs.declared.command.Command.TheVariants as commands
use Rattle.coil_guard.specs.{Limits.IsWithin, Asked.limits_of}

-- The command to a coil that an action asks for, if it asks for one, is within the limits of the coil.
abbrev pub KeepsLimits : PlanView → Action → Type 0
KeepsLimits plan (Post e) = Unit {0}
KeepsLimits plan (Pulse coil ms power) = IsWithin (limits_of plan) (commands.Pulse coil ms power)
KeepsLimits plan (Enable coil power) = IsWithin (limits_of plan) (commands.Enable coil power)
KeepsLimits plan (Disable coil) = Unit {0}
KeepsLimits plan (ChangeVariable v action n e) = Unit {0}
KeepsLimits plan (Enter r e drain) = Unit {0}
KeepsLimits plan (Leave r) = Unit {0}
KeepsLimits plan (Lose r) = Unit {0}
KeepsLimits plan (Arrive r) = Unit {0}
KeepsLimits plan (Request n) = Unit {0}
KeepsLimits plan (AddBalls n) = Unit {0}

-- So it is for each action in the plan's effect lists.
abbrev pub ActionsKeepLimits : PlanView → Type 0
ActionsKeepLimits plan = All (All (KeepsLimits plan)) plan.lists
