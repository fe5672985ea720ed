-- What the game itself does at its events. When a ball drains, ball saves are asked before it (`written_machine`).
use Rattle.std.specs.Prelude.{ℕ, ◌+◌, ◌-◌, ◌^◌, ◌==◌, nat_lt, nat_le, Bool, true, false, not, ◌&&◌, if◌then◌else◌, pos}
use Rattle.std.specs.Prelude.{Option, None, Some, List, [], ◌∷◌, length, replicate, slice_index_or, slice_set}
use Rattle.std.specs.{List.list_any, Ordering.int_eq}
use Rattle.plan_tables.specs.{PlanView.PlanView, declared.entries.{ModeId.ModeId, GameRules.GameRules}}
use Rattle.plan_tables.specs.declared.entries.GameEvent.{GameEvent, TheVariants.{PlayerTurnWillEnd, PlayerTurnEnding}}
use Rattle.plan_tables.specs.declared.entries.GameEvent.TheVariants.{SwStart, GameWillStart, GameStarting, PlayerAdded}
use Rattle.plan_tables.specs.declared.entries.GameEvent.TheVariants.{GameStarted, PlayerTurnWillStart, GameEnded}
use Rattle.plan_tables.specs.declared.entries.GameEvent.TheVariants.{PlayerTurnStarting, PlayerTurnStarted}
use Rattle.plan_tables.specs.declared.entries.GameEvent.TheVariants.{BallWillStart, BallStarting, BallStarted}
use Rattle.plan_tables.specs.declared.entries.GameEvent.TheVariants.{BallDrain, BallWillEnd, BallEnding, BallEnded}
use Rattle.plan_tables.specs.declared.entries.GameEvent.TheVariants.{PlayerTurnEnded, GameWillEnd, GameEnding}
use Rattle.player_game.specs.{declared.game.GamePhase.GamePhase, Players.next_ball}
use Rattle.player_game.specs.declared.game.GamePhase.TheVariants as phases
use Rattle.player_game.specs.Players.{PlayersState, no_players, ball_now, make_current, add_player, next_turn}

-- the game: its phase, how many games have begun, how many balls are in play, and for each mode, by number, whether it
-- holds the end of the ball
pub record GameState : Type 0 where
  pub phase : GamePhase
  pub begun : ℕ
  pub balls : ℕ
  pub holders : List Bool

-- the rules of a plan's game, and the game
pub record GameView : Type 0 where
  pub rules : Option GameRules
  pub state : GameState

-- no game, and no mode holds the end of a ball; a plan has at most 64 modes
abbrev pub no_game : GameState
no_game = record { phase = phases.None; begun = 0; balls = 0; holders = replicate 64 false }

-- what an event of the game leads to: the game and the players after it, the events that are posted, whether a ball is
-- requested, and whether the scores of all players are told
pub record GameStep : Type 0 where
  pub game : GameState
  pub players : PlayersState
  pub posts : List GameEvent
  pub requests : Bool
  pub finals : Bool

-- these are posted, and no more
abbrev pub leads_to : List GameEvent → GameState → PlayersState → GameStep
leads_to posts g p = record { game = g; players = p; posts = posts; requests = false; finals = false }

abbrev pub is_none : GamePhase → Bool
is_none phases.None = true
is_none phases.Between = false
is_none phases.Ball = false

abbrev pub is_ball_on : GamePhase → Bool
is_ball_on phases.None = false
is_ball_on phases.Between = false
is_ball_on phases.Ball = true

-- whether a game begins: none goes on, fewer than 2^32 have begun, and enough balls are at home
abbrev pub can_begin : GameRules → ℕ → GameState → Bool
can_begin rules home g = is_none g.phase && (nat_lt g.begun (2 ^ 32) && nat_le rules.min_balls home)

-- whether a player joins: a ball is on, the current player is at their first, and there can be one player more
abbrev pub can_join : GameRules → PlanView → GameState → PlayersState → Bool
can_join rules plan g p =
    is_ball_on g.phase && (int_eq (ball_now plan p) (pos 1) && nat_lt (length p.players) rules.max_players)

-- the start button
abbrev pub start_game : GameRules → PlanView → ℕ → GameState → PlayersState → GameStep
start_game rules plan home g p =
    if can_begin rules home g
    then leads_to (GameWillStart ∷ []) (record g { phase = phases.Between; begun = g.begun + 1 }) no_players
    else leads_to (if can_join rules plan g p then PlayerAdded ∷ [] else []) g p

-- a ball begins
abbrev pub ball_started : GameState → GameState
ball_started g = record g { phase = phases.Ball; balls = 1 }

-- how many balls are in play: none unless a ball is on
abbrev pub in_play : GameState → ℕ
in_play g = if is_ball_on g.phase then g.balls else 0

-- how many balls are missing, while a ball is on, for so many to be in play
abbrev pub missing : ℕ → GameState → ℕ
missing n g = if is_ball_on g.phase then n - g.balls else 0

-- those that are missing are in play from now on
abbrev pub more_balls : ℕ → GameState → GameState
more_balls n g = record g { balls = g.balls + missing n g }

-- a ball is lost: the last one ends the turn
abbrev pub drain : GameState → PlayersState → GameStep
drain g p =
    if is_ball_on g.phase
    then (if g.balls - 1 == 0
    then leads_to (BallWillEnd ∷ []) (record g { phase = phases.Between; balls = 0 }) p
    else leads_to [] (record g { balls = g.balls - 1 }) p)
    else leads_to [] g p

-- ---- the end of the ball

-- whether a mode holds the end of the ball
abbrev pub is_holder : ModeId → GameState → Bool
is_holder m g = slice_index_or g.holders m.0 false

-- whether any mode does
abbrev pub is_held : GameState → Bool
is_held g = list_any (λ holds. holds) g.holders

-- a mode holds the end of the ball from now on
abbrev pub hold : ModeId → GameState → GameState
hold m g = record g { holders = slice_set g.holders m.0 true }

-- the same, if the flag says so
abbrev pub held_if : Bool → ModeId → GameState → GameState
held_if true m g = hold m g
held_if false m g = g

-- a mode no longer holds the end of the ball
abbrev pub release : ModeId → GameState → GameState
release m g = record g { holders = slice_set g.holders m.0 false }

-- whether `ball_ended` is posted when a mode lets go of the end of the ball: it held that, and no other mode does
abbrev pub ends_ball : ModeId → GameState → Bool
ends_ball m g = is_holder m g && not (is_held (release m g))

-- what `ball_ending` leads to: `ball_ended`, unless a mode holds the end of the ball
abbrev pub ball_ending : GameState → List GameEvent
ball_ending g = if is_held g then [] else BallEnded ∷ []

-- ---- the end of the turn and of the game

-- whether the game is over: it was the last ball of the last player
abbrev pub is_over : GameRules → PlanView → PlayersState → Bool
is_over rules plan p =
    not (p.current == 0) && (p.current == length p.players && int_eq (ball_now plan p) (pos rules.balls_per_game))

abbrev pub turn_ended : GameRules → PlanView → GameState → PlayersState → GameStep
turn_ended rules plan g p =
    if is_over rules plan p then leads_to (GameWillEnd ∷ []) g p else leads_to (PlayerTurnWillStart ∷ []) g
    (next_turn p)

-- the game is over
abbrev pub end_game : GameState → GameState
end_game g = record g { phase = phases.None; balls = 0 }

-- what an event leads to in a game with these rules
abbrev pub step_by : GameRules → PlanView → GameEvent → ℕ → GameState → PlayersState → GameStep
step_by rules plan SwStart home g p = start_game rules plan home g p
step_by rules plan GameWillStart home g p = leads_to (GameStarting ∷ []) g p
step_by rules plan GameStarting home g p = leads_to (PlayerAdded ∷ GameStarted ∷ []) g p
step_by rules plan PlayerAdded home g p = leads_to [] g (add_player plan p)
step_by rules plan GameStarted home g p = leads_to (PlayerTurnWillStart ∷ []) g (make_current 1 p)
step_by rules plan PlayerTurnWillStart home g p = leads_to (PlayerTurnStarting ∷ []) g p
step_by rules plan PlayerTurnStarting home g p = leads_to (PlayerTurnStarted ∷ []) g p
step_by rules plan PlayerTurnStarted home g p = leads_to (BallWillStart ∷ []) g (next_ball plan p)
step_by rules plan BallWillStart home g p = leads_to (BallStarting ∷ []) g p
step_by rules plan BallStarting home g p =
    record (leads_to (BallStarted ∷ []) (ball_started g) p) { requests = true }
step_by rules plan BallStarted home g p = leads_to [] g p
step_by rules plan BallDrain home g p = drain g p
step_by rules plan BallWillEnd home g p = leads_to (BallEnding ∷ []) g p
step_by rules plan BallEnding home g p = leads_to (ball_ending g) g p
step_by rules plan BallEnded home g p = leads_to (PlayerTurnWillEnd ∷ []) g p
step_by rules plan PlayerTurnWillEnd home g p = leads_to (PlayerTurnEnding ∷ []) g p
step_by rules plan PlayerTurnEnding home g p = leads_to (PlayerTurnEnded ∷ []) g p
step_by rules plan PlayerTurnEnded home g p = turn_ended rules plan g p
step_by rules plan GameWillEnd home g p = leads_to (GameEnding ∷ []) g p
step_by rules plan GameEnding home g p = leads_to (GameEnded ∷ []) g p
step_by rules plan GameEnded home g p =
    record (leads_to [] (end_game g) (make_current 0 p)) { finals = true }

-- What an event of the game leads to, if so many balls are at home. Without a game it leads to nothing.
unfoldable pub game_step : Option GameRules → PlanView → GameEvent → ℕ → GameState → PlayersState → GameStep
game_step None plan which home g p = leads_to [] g p
game_step (Some rules) plan which home g p = step_by rules plan which home g p
