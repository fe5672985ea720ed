-- A rig that plays the lines of a log, with the page of what is printed for them.
use Rattle.std.specs.Prelude.{◌≡◌, ℕ, Bool, false, List, []}
use Rattle.plan_tables.specs.PlanView.{PlanView}
use Rattle.written_machine.specs.CheckedView.{CheckedView}
use Rattle.coil_driver.specs.Board.{BoardView}
use Rattle.pin_rig.specs.{declared.input.StepFault.TheVariants.BoardFault, Rig.RigView, Steps.at_rest}
use Rattle.pinball_shell.specs.{declared.refusal.LogRefusal.{LogRefusal, TheVariants.Step}, Played.IsRigOf}

pub record PlayerView : Type 0 where
  -- what is printed is of this plan
  pub plan : PlanView
  pub rig : RigView
  pub page : List ℕ
  -- a line could not be played to its end, and no other is played
  pub has_stopped : Bool

-- as long as each line was played to its end, the rig is one of the plan, and is not halted
abbrev pub RunsUnlessStopped : PlanView → RigView → Bool → Type 0
RunsUnlessStopped plan rig has_stopped = has_stopped ≡ false → IsRigOf plan rig

-- as it begins
abbrev pub ready : CheckedView → BoardView → PlayerView
ready c board = record { plan = c.plan; rig = at_rest c board; page = []; has_stopped = false }

-- with another page
abbrev pub with_page : List ℕ → PlayerView → PlayerView
with_page page player = record { plan = player.plan; rig = player.rig; page = page; has_stopped = player.has_stopped }

-- why a line is refused if the board has not taken a command of it
abbrev pub board_refusal : LogRefusal
board_refusal = Step BoardFault
