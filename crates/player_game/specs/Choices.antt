-- What the events of the game can post, whatever the state of the game.
use Rattle.std.specs.Prelude.{◌≡◌, ℕ, ◌≤◌, Bool, true, false, Some, List, [], ◌∷◌, length, Contains}
use Rattle.plan_tables.specs.{PlanView.PlanView, declared.entries.GameRules.GameRules}
use Rattle.plan_tables.specs.declared.entries.GameEvent.{GameEvent, TheVariants.{PlayerTurnWillEnd, PlayerTurnEnding}}
use Rattle.plan_tables.specs.declared.entries.GameEvent.TheVariants.{SwStart, GameWillStart, GameStarting, PlayerAdded}
use Rattle.plan_tables.specs.declared.entries.GameEvent.TheVariants.{GameStarted, PlayerTurnWillStart, GameEnded}
use Rattle.plan_tables.specs.declared.entries.GameEvent.TheVariants.{PlayerTurnStarting, PlayerTurnStarted}
use Rattle.plan_tables.specs.declared.entries.GameEvent.TheVariants.{BallWillStart, BallStarting, BallStarted}
use Rattle.plan_tables.specs.declared.entries.GameEvent.TheVariants.{BallDrain, BallWillEnd, BallEnding, BallEnded}
use Rattle.plan_tables.specs.declared.entries.GameEvent.TheVariants.{PlayerTurnEnded, GameWillEnd, GameEnding}
use Rattle.player_game.specs.{Players.{PlayersState, most_players}, GameStep.{GameState, game_step}}

-- the events that it posts, by each way that it can go
abbrev pub choices : GameEvent → List (List GameEvent)
choices SwStart = (GameWillStart ∷ []) ∷ (PlayerAdded ∷ []) ∷ [] ∷ []
choices GameWillStart = (GameStarting ∷ []) ∷ []
choices GameStarting = (PlayerAdded ∷ GameStarted ∷ []) ∷ []
choices PlayerAdded = [] ∷ []
choices GameStarted = (PlayerTurnWillStart ∷ []) ∷ []
choices PlayerTurnWillStart = (PlayerTurnStarting ∷ []) ∷ []
choices PlayerTurnStarting = (PlayerTurnStarted ∷ []) ∷ []
choices PlayerTurnStarted = (BallWillStart ∷ []) ∷ []
choices BallWillStart = (BallStarting ∷ []) ∷ []
choices BallStarting = (BallStarted ∷ []) ∷ []
choices BallStarted = [] ∷ []
choices BallDrain = (BallWillEnd ∷ []) ∷ [] ∷ []
choices BallWillEnd = (BallEnding ∷ []) ∷ []
choices BallEnding = (BallEnded ∷ []) ∷ [] ∷ []
choices BallEnded = (PlayerTurnWillEnd ∷ []) ∷ []
choices PlayerTurnWillEnd = (PlayerTurnEnding ∷ []) ∷ []
choices PlayerTurnEnding = (PlayerTurnEnded ∷ []) ∷ []
choices PlayerTurnEnded = (GameWillEnd ∷ []) ∷ (PlayerTurnWillStart ∷ []) ∷ []
choices GameWillEnd = (GameEnding ∷ []) ∷ []
choices GameEnding = (GameEnded ∷ []) ∷ []
choices GameEnded = [] ∷ []

-- whether the scores of all players are told at it
abbrev pub tells_scores : GameEvent → Bool
tells_scores GameEnded = true
tells_scores _ = false

-- whether a ball is asked for at it
abbrev pub asks_for_ball : GameEvent → Bool
asks_for_ball BallStarting = true
asks_for_ball _ = false

-- whether it says that a ball has drained
abbrev pub is_drain : GameEvent → Bool
is_drain BallDrain = true
is_drain _ = false

-- ---- laws

-- what an event posts is one of its choices, or nothing; scores are told if it tells them, and a ball is asked for if
-- it asks for one
pub record StepsAreChoices : Type 0 where
  pub posts : (rules : GameRules) (plan : PlanView) (which : GameEvent) (home : ℕ) (g : GameState) (p : PlayersState)
      → Contains (choices which) (game_step (Some rules) plan which home g p).posts
  pub finals : (rules : GameRules) (plan : PlanView) (which : GameEvent) (home : ℕ) (g : GameState) (p : PlayersState)
      → (game_step (Some rules) plan which home g p).finals ≡ tells_scores which
  pub requests : (rules : GameRules) (plan : PlanView) (which : GameEvent) (home : ℕ) (g : GameState) (p : PlayersState)
      → (game_step (Some rules) plan which home g p).requests ≡ asks_for_ball which

-- The players are no more than there can be, and the current one is one of them.
pub record AreFew (plan : PlanView) (p : PlayersState) : Type 0 where
  pub few : length p.players ≤ most_players plan.game
  pub current : p.current ≤ length p.players

-- So it stays at each event of the game.
abbrev pub PlayersStayFew : Type 0
PlayersStayFew =
    (plan : PlanView) (which : GameEvent) (home : ℕ) (g : GameState) (p : PlayersState)
    → AreFew plan p → AreFew plan (game_step plan.game plan which home g p).players
