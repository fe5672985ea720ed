-- What holds once the lines that a step lends are given back.
use Rattle.std.specs.Prelude.{◌≡◌, List, [], Result, MatchResult}
use Rattle.std.specs.{Borrow.{Bor, Fml, MutBor, RattleType}, Io.BufRead.Rests}
use mir.Syntax.{named}
use Rattle.coil_guard.specs.declared.board.Board.{Ghosts as BoardGhosts}
use Rattle.device_objects.specs.declared.device.Device.{Ghosts as DeviceGhosts}
use Rattle.written_machine.specs.declared.line.Line.{Line}
use Rattle.pin_rig.specs.{contracts.rig.Rig.the_row, Rig.{RigView, RigStep, HasFailed}}
use Rattle.pin_rig.specs.declared.input.{Input.Input, StepFault.StepFault}

-- after a step the lines are those of the new state
abbrev pub IsStepped : Input → RigView → RigView → Result (Bor (List Line)) StepFault → Type 0
IsStepped input old new r = MatchResult r (λ lines. RigStep input old new × (lines.now ≡ new.lines))
    (λ fault. HasFailed input old new fault)

-- The rig with which `step` was called has stepped, as `IsStepped` says, from the state before the call to the state
-- after it. The lines that `step` returns are lent out of the rig. So the rig can be used again only when they are
-- given back, and it is then that this holds. Its devices are of a type `D`, and its board is of a type `B`.
abbrev pub HasStepped : (D B : RattleType) (device : DeviceGhosts D.Denot) (board : BoardGhosts B.Denot) → Input
    → MutBor (the_row (record { mir = named 1; lft = [] }) D B device board).Denot → Result (Bor (List Line)) StepFault
    → Fml
HasStepped D B device board input rig result =
    Rests (the_row (record { mir = named 1; lft = [] }) D B device board) rig
    (λ new. IsStepped input rig.now new result)
