-- A mode that is stopped is silent.
use Rattle.std.specs.{Prelude.{◌≡◌, ◌<◌, List, ◌∷◌, ◌++◌, length}, List.All}
use Rattle.plan_tables.specs.PlanView.{PlanView, mode_event}
use Rattle.plan_tables.specs.declared.entries.{ModeId.ModeId, ModeEvent.{ModeEvent, TheVariants.{Started, Stopped}}}
use Rattle.plan_tables.specs.declared.entries.Owner.TheVariants as owners
use Rattle.written_machine.specs.declared.line.Line.{Line}
use Rattle.written_machine.specs.declared.line.Happening.TheVariants as lines

-- the line says that this event of the mode was taken
abbrev pub IsLineOf : PlanView → ModeId → ModeEvent → Line → Type 0
IsLineOf plan m which l = l.happening ≡ lines.Event (mode_event plan m which)

-- In these lines the mode has started, and has not stopped since.
pub record HasStarted (plan : PlanView) (m : ModeId) (trace : List Line) : Type 0 where
  pub early : List Line
  pub start : Line
  pub late : List Line
  pub parts : trace ≡ early ++ start ∷ late
  pub starts : IsLineOf plan m Started start
  pub no_stop : All (λ l. ¬ (IsLineOf plan m Stopped l)) late

-- Wherever a line of a mode stands in a trace, the mode has started in the lines before it, and has not stopped since.
abbrev pub IsSilent : PlanView → List Line → Type 0
IsSilent plan trace =
    (m : ModeId) → m.0 < length plan.modes → (before : List Line) (line : Line) (after : List Line)
    → trace ≡ before ++ line ∷ after → line.owner ≡ owners.Mode m → HasStarted plan m before
