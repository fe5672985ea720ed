-- How the parts that a core holds fit together.
use Rattle.std.specs.Prelude.{◌≡◌, ℕ, ◌<◌, ◌≤◌, ◌^◌, Bool, Option, List, length, map}
use Rattle.plan_tables.specs.{PlanView.PlanView, declared.devices.DeviceRow.DeviceRow}
use Rattle.device_objects.specs.{declared.state.DeviceState.DeviceState, DeviceStep.due_of}
use Rattle.mode_stack.specs.Modes.{ModesView}
use Rattle.event_queue.specs.{Handlers.HandlersView, Queue.QueueView}
use Rattle.player_game.specs.{GameStep.GameView, Players.PlayersView}
use Rattle.ball_devices.specs.Ledger.{Ledger}
use Rattle.machine_core.specs.Idle.{AreIdle}

-- The parts of a core fit together. Its devices have these rows and states.
pub record FitTogether (plan : PlanView) (modes : ModesView) (handlers : HandlersView) (players : PlayersView)
    (game : GameView) (ledger : Ledger) (rows : List DeviceRow) (states : List DeviceState)
    (alarms : List (Option ℕ)) (queue : QueueView) (most_lines : ℕ) (idle : List Bool) : Type 0 where
  -- The modes, the handlers, the players and the game are those of the plan.
  pub modes_are : modes.plan ≡ plan
  pub handlers_are : handlers.plan ≡ plan
  pub players_are : players.plan ≡ plan
  pub game_is : game.rules ≡ plan.game
  -- Each row of the plan has its device, and the ledger counts the balls in it.
  pub rows_are : rows ≡ plan.rows
  pub counted_are : length ledger.counted ≡ length plan.rows
  -- Fewer than 2^32 balls are known.
  pub balls_few : ledger.known < 2 ^ 32
  -- The alarm of a row is the moment at which its device is due.
  pub alarms_are : alarms ≡ map due_of states
  -- There is room for as many lines as for events that wait.
  pub lines_fit : queue.size ≤ most_lines
  -- At the events that are marked as idle nothing is done.
  pub idle_are : AreIdle plan idle
