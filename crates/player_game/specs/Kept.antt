-- What the fields of `Players` hold.
use Rattle.std.specs.{Prelude.{◌≡◌, ℕ, ◌<◌, ◌≤◌, List, length, take, IfSome}, List.All}
use Rattle.plan_tables.specs.PlanView.{PlanView}
use Rattle.player_game.specs.{declared.special.Special.Special, Special.special_of}
use Rattle.player_game.specs.Players.{PlayerState, PlayersView, most_players}

-- the first slots are those of the players
abbrev pub players_view : PlanView → List PlayerState → ℕ → ℕ → PlayersView
players_view plan slots count current =
    record { plan = plan; state = record { players = take count slots; current = current } }

-- a slot has a value of each variable of the plan
abbrev pub IsSlotOf : PlanView → PlayerState → Type 0
IsSlotOf plan p = length p.values ≡ length plan.variables

-- there is a slot for each player that there can be, of each variable of the plan
pub record IsKept (plan : PlanView) (special : Special) (slots : List PlayerState) (count current : ℕ) : Type 0 where
  pub most : length slots ≡ most_players plan.game
  pub few : length slots ≤ 4
  pub within : count ≤ length slots
  pub turn : current ≤ count
  pub values : All (IsSlotOf plan) slots
  pub names : special ≡ special_of plan
  pub score : IfSome special.score (λ v. v.0 < length plan.variables)
