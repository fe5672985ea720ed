-- What the functions inside this crate see: whether a stop was kept for a mode, and which actions are rare.
use Rattle.std.specs.Prelude.{Bool, false, Option, Some, None}
use Rattle.plan_tables.specs.declared.entries.Action.{Action, TheVariants.{Post, Change}}
use Rattle.plan_tables.specs.declared.entries.Work.{Work, TheVariants.{Nothing, Mode, Game}}
use Rattle.written_machine.specs.{EventStep.is_kept, Machine.Machine}

-- if there is work, whether a stop is kept for the mode that becomes active
abbrev pub kept_at : Work → Machine → Option Bool
kept_at Nothing s = None
kept_at (Mode m which) s = Some (is_kept (Mode m which) s)
kept_at (Game which) s = Some false

-- the action neither posts an event nor changes a variable
abbrev pub IsRare : Action → Type 0
IsRare (Post e) = ⊥
IsRare (Change v action n e) = ⊥
IsRare a = Unit {0}
