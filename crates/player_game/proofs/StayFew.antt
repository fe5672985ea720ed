-- The players stay as few as there can be at each event of the game.
use Rattle.std.proofs.Common.{◌≡◌, ℕ, ◌≤◌, ◌-◌, ◌==◌, nat_le, nat_lt, Bool, true, false, if◌then◌else◌, Option, None}
use Rattle.std.proofs.Common.{Some, [], ◌∷◌, ◌++◌, length, refl, arith, zero-le}
use Rattle.std.proofs.lemmas.{Bool.{leb-true, ltb-true}, List.{length-append, length-set}}
use Rattle.plan_tables.specs.{PlanView.PlanView, declared.entries.{GameEvent.GameEvent, GameRules.GameRules}}
use Rattle.plan_tables.specs.declared.entries.GameEvent.TheVariants.{SwStart, PlayerAdded, GameStarted, GameEnded}
use Rattle.plan_tables.specs.declared.entries.GameEvent.TheVariants.{PlayerTurnStarted, BallDrain, PlayerTurnEnded}
use Rattle.player_game.specs.Players.{PlayerState, PlayersState, add_player, most_players, new_player, next_ball}
use Rattle.player_game.specs.Players.{no_players, player_at, make_current, with_current, with_next_ball}
use Rattle.player_game.specs.GameStep.{GameState, GameStep, can_begin, game_step, is_ball_on, is_over}
use Rattle.player_game.specs.Choices.{AreFew, PlayersStayFew}

-- ---- what is done with the players

none-few : (plan : PlanView) → AreFew plan no_players
none-few plan = record { few = zero-le; current = zero-le }

within : (n m : ℕ) (fits : Bool) → nat_le n m ≡ fits → (if fits then n else 0) ≤ m
within n m true is = leb-true n m is
within n m false is = zero-le

turned-few : (plan : PlanView) (n : ℕ) (p : PlayersState) → AreFew plan p → AreFew plan (make_current n p)
turned-few plan n p few =
    record { few = few.few; current = within n (length p.players) (nat_le n (length p.players)) refl }

added-by : (plan : PlanView) (p : PlayersState) (room : Bool)
    → nat_lt (length p.players) (most_players plan.game) ≡ room → AreFew plan p
    → AreFew plan (if room then record p { players = p.players ++ new_player plan ∷ [] } else p)
added-by plan p true is few =
    let less = ltb-true (length p.players) (most_players plan.game) is in
    let more = length-append p.players (new_player plan ∷ []) in
    record { few = omega (arith, less, more); current = omega (arith, few.current, more) }
added-by plan p false is few = few

added-few : (plan : PlanView) (p : PlayersState) → AreFew plan p → AreFew plan (add_player plan p)
added-few plan p few = added-by plan p (nat_lt (length p.players) (most_players plan.game)) refl few

with_current-few : (plan : PlanView) (change : PlayerState → PlayerState) (p : PlayersState) → AreFew plan p
    → AreFew plan (with_current plan change p)
with_current-few plan change p few =
    let same = length-set p.players (p.current - 1) (change (player_at plan p p.current)) in
    record { few = omega (arith, same, few.few); current = omega (arith, same, few.current) }

-- either way they are few
either : (plan : PlanView) (test : Bool) (p q : PlayersState) → AreFew plan p → AreFew plan q
    → AreFew plan (if test then p else q)
either plan true p q first second = first
either plan false p q first second = second

either_step : (plan : PlanView) (test : Bool) (x y : GameStep) → AreFew plan x.players → AreFew plan y.players
    → AreFew plan (if test then x else y).players
either_step plan true x y first second = first
either_step plan false x y first second = second

next_ball-few : (plan : PlanView) (p : PlayersState) → AreFew plan p → AreFew plan (next_ball plan p)
next_ball-few plan p few = either plan (p.current == 0) _ _ few (with_current-few plan with_next_ball p few)

-- ---- the events of the game

stay_few-in_game : (rules : GameRules) (plan : PlanView) (which : GameEvent) (home : ℕ) (g : GameState)
    (p : PlayersState)
    → AreFew plan p → AreFew plan (game_step (Some rules) plan which home g p).players
unfolding game_step
stay_few-in_game rules plan SwStart home g p few = either_step plan (can_begin rules home g) _ _ (none-few plan) few
stay_few-in_game rules plan PlayerAdded home g p few = added-few plan p few
stay_few-in_game rules plan GameStarted home g p few = turned-few plan 1 p few
stay_few-in_game rules plan PlayerTurnStarted home g p few = next_ball-few plan p few
stay_few-in_game rules plan BallDrain home g p few =
    either_step plan (is_ball_on g.phase) _ _ (either_step plan (g.balls - 1 == 0) _ _ few few) few
stay_few-in_game rules plan PlayerTurnEnded home g p few =
    either_step plan (is_over rules plan p) _ _ few (turned-few plan _ p few)
stay_few-in_game rules plan GameEnded home g p few = turned-few plan 0 p few
stay_few-in_game rules plan _ home g p few = few

stay_few : (game : Option GameRules) (plan : PlanView) (which : GameEvent) (home : ℕ) (g : GameState) (p : PlayersState)
    → AreFew plan p → AreFew plan (game_step game plan which home g p).players
unfolding game_step
stay_few None plan which home g p few = few
stay_few (Some rules) plan which home g p few = stay_few-in_game rules plan which home g p few

pub players_stay_few : PlayersStayFew
players_stay_few = λ plan which home g p few. stay_few plan.game plan which home g p few
