-- A mode, and what is done with it.
use Rattle.std.specs.Prelude.{Bool, true, false, not, ◌||◌, if◌then◌else◌}
use Rattle.mode_stack.specs.declared.phase.Phase.{Phase, TheVariants.{Idle, Starting, Active, Stopping}}
use Rattle.mode_stack.specs.declared.phase.ModeState.{ModeState}
use Rattle.mode_stack.specs.declared.phase.StopAnswer.{StopAnswer, TheVariants.{Post, Kept, Ignored}}

-- a mode in a phase, with no stop kept
abbrev pub in_phase : Phase → ModeState
in_phase phase = record { phase = phase; keeps_stop = false }

-- whether a mode's bindings handle events
abbrev pub is_running : Phase → Bool
is_running Idle = false
is_running Starting = false
is_running Active = true
is_running Stopping = true

-- ---- start

-- Whether a mode starts: it needs a game or not, and one goes on or not.
abbrev pub starts : Bool → Bool → Phase → Bool
starts needs game Idle = game || not needs
starts needs game Starting = false
starts needs game Active = false
starts needs game Stopping = false

abbrev pub after_start : Bool → Bool → ModeState → ModeState
after_start needs game s = if starts needs game s.phase then in_phase Starting else s

-- ---- stop

-- An active mode is stopping then, and for a starting one the stop is kept.
abbrev pub stopped_from : Phase → ModeState → ModeState
stopped_from Idle s = s
stopped_from Starting s = record { phase = Starting; keeps_stop = true }
stopped_from Active s = in_phase Stopping
stopped_from Stopping s = s

abbrev pub after_stop : ModeState → ModeState
after_stop s = stopped_from s.phase s

abbrev pub stop_answer : Phase → StopAnswer
stop_answer Idle = Ignored
stop_answer Starting = Kept
stop_answer Active = Post
stop_answer Stopping = Ignored

-- ---- entered and ended

-- The mode is active, and no stop is kept any more.
abbrev pub entered : ModeState → ModeState
entered s = in_phase Active

-- The mode is idle again, and no stop is kept.
abbrev pub ended : ModeState → ModeState
ended s = in_phase Idle
