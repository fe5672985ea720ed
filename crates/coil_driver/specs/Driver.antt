-- A board, and what was sent to it.
use Rattle.std.specs.Prelude.{◌≡◌, ◌⊎◌, ℕ, suc, ◌<◌, ◌^◌, ◌||◌, ◌++◌, Bool, Option, Some, None, List, [], ◌∷◌, take}
use Rattle.std.specs.Prelude.{slice_get, if◌then◌else◌}
use Rattle.plan_tables.specs.declared.entries.CoilId.{CoilId}
use Rattle.coil_guard.specs.declared.{command.Command.{Command, TheVariants.Disable}, state.CoilState.CoilState}
use Rattle.coil_guard.specs.{CoilStep.{is_on_at, disable_coil}, Coils.coil_at, SentCommands.coil_of}
use Rattle.written_machine.specs.declared.line.{Line.Line, Happening.Happening}
use Rattle.written_machine.specs.declared.line.Happening.TheVariants as lines
use Rattle.coil_driver.specs.Board.{BoardView, HasTaken, HasTakenAll, HasNotTaken, commands_of, after_lines}
use Rattle.coil_driver.specs.ShutDown.{is_faulted}

pub record DriverView : Type 0 where
  pub board : BoardView
  pub guard : List CoilState
  pub faulted_coil : Option CoilId

-- the command of a line is to one of so many coils
abbrev pub IsToCoil : ℕ → Happening → Type 0
IsToCoil count (lines.Coil command) = (coil_of command).0 < count
IsToCoil count _ = Unit {0}

-- and the line is not too late
abbrev pub IsSendable : ℕ → Line → Type 0
IsSendable count l = IsToCoil count l.happening × (l.moment < 2 ^ 40)

-- the board has taken the commands of these lines, and the guard was asked for them
pub record HasSent (trace : List Line) (old new : DriverView) : Type 0 where
  pub board : HasTakenAll (commands_of trace) old.board new.board
  pub guard : new.guard ≡ after_lines trace old.guard
  pub faulted_coil : new.faulted_coil ≡ old.faulted_coil

-- the board has taken a command, and nothing else has changed
pub record HasSentAlone (command : Command) (old new : DriverView) : Type 0 where
  pub board : HasTaken command old.board new.board
  pub guard : new.guard ≡ old.guard
  pub faulted_coil : new.faulted_coil ≡ old.faulted_coil

-- The board has not taken a command.
pub record HasFaultedAt (command : Command) (old new : DriverView) : Type 0 where
  pub not_taken : HasNotTaken old.board new.board
  pub guard : new.guard ≡ old.guard
  pub faulted_coil : new.faulted_coil ≡ Some (coil_of command)

-- It has not taken the command of this line.
pub record HasNotSent (line : Line) (old new : DriverView) : Type 0 where
  pub command : Command
  pub line_is : line.happening ≡ lines.Coil command
  pub fault : HasFaultedAt command old new

-- The command of the line at this place is the first one that the board has not taken.
pub record HasStopped (trace : List Line) (place : ℕ) (old new : DriverView) : Type 0 where
  pub line : Line
  pub there : slice_get trace place ≡ Some line
  pub mid : DriverView
  pub earlier : HasSent (take place trace) old mid
  pub fault : HasNotSent line mid new

-- all commands of these lines were sent; or up to one that the board has not taken
abbrev pub IsServed : List Line → Option ℕ → DriverView → DriverView → Type 0
IsServed trace None old new = HasSent trace old new
IsServed trace (Some place) old new = HasStopped trace place old new

-- ---- at the end

-- whether the coil is to be turned off at a moment
abbrev pub is_due_off : ℕ → DriverView → CoilId → Bool
is_due_off now d coil = is_on_at now (coil_at d.guard coil) || is_faulted d.faulted_coil coil

-- a coil that is on at this moment is held for off; one that is off stays as it is
abbrev pub off_state : ℕ → CoilState → CoilState
off_state now c = if is_on_at now c then disable_coil c else c

-- a coil was sent a disable, which is reported
abbrev pub HasPutOff : CoilId → BoardView → List CoilId → ℕ → List CoilId → ℕ → BoardView → Type 0
HasPutOff coil old off faults now_off now_faults new =
    (HasTaken (Disable coil) old new × (now_off ≡ off ++ coil ∷ []) × (now_faults ≡ faults))
    ⊎ (HasNotTaken old new × (now_off ≡ off) × (now_faults ≡ suc faults))
