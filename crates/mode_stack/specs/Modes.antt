-- All modes of a plan.
use Rattle.std.specs.Prelude.{◌≡◌, ℕ, Bool, List, length, map, replicate, slice_index_or, slice_set}
use Rattle.plan_tables.specs.{declared.entries.ModeId.ModeId, PlanView.{PlanView, mode_at}}
use Rattle.mode_stack.specs.declared.phase.{Phase.TheVariants.Idle, ModeState.ModeState}
use Rattle.mode_stack.specs.ModeStep.{in_phase, is_running, after_start, after_stop}

-- a plan, and the state of each of its modes, by number
pub record ModesView : Type 0 where
  pub plan : PlanView
  pub modes : List ModeState

-- Every mode of the plan has a state.
abbrev pub IsComplete : ModesView → Type 0
IsComplete s = length s.modes ≡ length s.plan.modes

-- whether a mode starts only in a game
abbrev pub needs_game : PlanView → ModeId → Bool
needs_game plan m = (mode_at plan m).mode.game

-- the state of a mode by its number
abbrev pub mode_state : List ModeState → ModeId → ModeState
mode_state modes m = slice_index_or modes m.0 (in_phase Idle)

-- so many modes, all idle, and no stop kept
abbrev pub all_idle : ℕ → List ModeState
all_idle count = replicate count (in_phase Idle)

-- At the beginning every mode of the plan is idle.
abbrev pub idle_modes : PlanView → ModesView
idle_modes plan = record { plan = plan; modes = all_idle (length plan.modes) }

-- ---- who runs

-- by mode, whether its bindings handle events
abbrev pub running_of : List ModeState → List Bool
running_of modes = map (λ s. is_running s.phase) modes

-- No mode begins or ceases to run by being told to start or to stop.
pub record StartingKeepsWhoRuns : Type 0 where
  pub start : (modes : List ModeState) (m : ModeId) (needs game : Bool)
      → running_of (slice_set modes m.0 (after_start needs game (mode_state modes m))) ≡ running_of modes
  pub stop : (modes : List ModeState) (m : ModeId)
      → running_of (slice_set modes m.0 (after_stop (mode_state modes m))) ≡ running_of modes
