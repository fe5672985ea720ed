-- What follows when a ball drains, and when balls are added.
use Rattle.std.proofs.Common.{◌≡◌, ℕ, ◌-◌, ◌==◌, Bool, true, false, if◌then◌else◌, Option, None, Some, [], ◌∷◌, refl}
use Rattle.std.proofs.{Common.arith, lemmas.Bool.eqb-true}
use Rattle.plan_tables.specs.PlanView.{PlanView}
use Rattle.plan_tables.specs.declared.entries.{GameEvent.TheVariants.{BallDrain, BallWillEnd}, GameRules.GameRules}
use Rattle.player_game.specs.declared.game.GamePhase.TheVariants as phases
use Rattle.player_game.specs.{Players.PlayersState, GameStep.{GameState, game_step, in_play, is_ball_on, leads_to}}
use Rattle.player_game.proofs.Chosen.{steps_are_choices}

-- ---- a ball drains

nothing_posted : (is_on is_last : Bool) (g k : GameState) (p : PlayersState)
    → in_play (if is_on then (if is_last then leads_to (BallWillEnd ∷ [])
    (record g { phase = phases.Between; balls = 0 }) p else leads_to [] k p) else leads_to [] g p).game ≡ 1
    → (if is_on then (if is_last then leads_to (BallWillEnd ∷ []) (record g { phase = phases.Between; balls = 0 }) p
    else leads_to [] k p) else leads_to [] g p).posts ≡ []
nothing_posted true true g k p one = let none : 0 ≡ 1 = one in absurd (omega (arith, none))
nothing_posted _ _ g k p one = refl

-- if one is left in play, nothing is posted: the ball does not end
pub one-left : (rules : Option GameRules) (plan : PlanView) (home : ℕ) (g : GameState) (p : PlayersState)
    → in_play (game_step rules plan BallDrain home g p).game ≡ 1 → (game_step rules plan BallDrain home g p).posts ≡ []
unfolding game_step
one-left None plan home g p one = refl
one-left (Some rules) plan home g p one = nothing_posted (is_ball_on g.phase) (g.balls - 1 == 0) g
    (record g { balls = g.balls - 1 }) p one

-- the same by the test
pub tested-left : (rules : Option GameRules) (plan : PlanView) (home : ℕ) (g : GameState) (p : PlayersState)
    → (in_play (game_step rules plan BallDrain home g p).game == 1) ≡ true
    → (game_step rules plan BallDrain home g p).posts ≡ []
tested-left rules plan home g p one = one-left rules plan home g p
    (eqb-true (in_play (game_step rules plan BallDrain home g p).game) 1 one)

-- no ball is asked for, and no scores are told
pub drain-requests : (rules : Option GameRules) (plan : PlanView) (home : ℕ) (g : GameState) (p : PlayersState)
    → (game_step rules plan BallDrain home g p).requests ≡ false
unfolding game_step
drain-requests None plan home g p = refl
drain-requests (Some rules) plan home g p = steps_are_choices.requests rules plan BallDrain home g p

pub drain-finals : (rules : Option GameRules) (plan : PlanView) (home : ℕ) (g : GameState) (p : PlayersState)
    → (game_step rules plan BallDrain home g p).finals ≡ false
unfolding game_step
drain-finals None plan home g p = refl
drain-finals (Some rules) plan home g p = steps_are_choices.finals rules plan BallDrain home g p
