-- The events of the game, in their order.
use Rattle.std.specs.Prelude.{ℕ, List, [], ◌∷◌}
use Rattle.plan_tables.specs.declared.entries.GameEvent.{GameEvent, TheVariants.{PlayerTurnWillEnd, PlayerTurnEnding}}
use Rattle.plan_tables.specs.declared.entries.GameEvent.TheVariants.{SwStart, GameWillStart, GameStarting, PlayerAdded}
use Rattle.plan_tables.specs.declared.entries.GameEvent.TheVariants.{GameStarted, PlayerTurnWillStart, GameEnded}
use Rattle.plan_tables.specs.declared.entries.GameEvent.TheVariants.{PlayerTurnStarting, PlayerTurnStarted}
use Rattle.plan_tables.specs.declared.entries.GameEvent.TheVariants.{BallWillStart, BallStarting, BallStarted}
use Rattle.plan_tables.specs.declared.entries.GameEvent.TheVariants.{BallDrain, BallWillEnd, BallEnding, BallEnded}
use Rattle.plan_tables.specs.declared.entries.GameEvent.TheVariants.{PlayerTurnEnded, GameWillEnd, GameEnding}

abbrev pub game_events : List GameEvent
game_events =
    SwStart ∷ GameWillStart ∷ GameStarting ∷ PlayerAdded ∷ GameStarted ∷ PlayerTurnWillStart ∷ PlayerTurnStarting
    ∷ PlayerTurnStarted ∷ BallWillStart ∷ BallStarting ∷ BallStarted ∷ BallDrain ∷ BallWillEnd ∷ BallEnding ∷ BallEnded
    ∷ PlayerTurnWillEnd ∷ PlayerTurnEnding ∷ PlayerTurnEnded ∷ GameWillEnd ∷ GameEnding ∷ GameEnded ∷ []

-- an event's place in that order
abbrev pub order_of : GameEvent → ℕ
order_of SwStart = 0
order_of GameWillStart = 1
order_of GameStarting = 2
order_of PlayerAdded = 3
order_of GameStarted = 4
order_of PlayerTurnWillStart = 5
order_of PlayerTurnStarting = 6
order_of PlayerTurnStarted = 7
order_of BallWillStart = 8
order_of BallStarting = 9
order_of BallStarted = 10
order_of BallDrain = 11
order_of BallWillEnd = 12
order_of BallEnding = 13
order_of BallEnded = 14
order_of PlayerTurnWillEnd = 15
order_of PlayerTurnEnding = 16
order_of PlayerTurnEnded = 17
order_of GameWillEnd = 18
order_of GameEnding = 19
order_of GameEnded = 20
