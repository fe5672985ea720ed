-- What the game's own step leads to when a ball has drained.
use Rattle.std.proofs.Common.{rules, ◌≡◌, ◌==◌, true, List, [], ◌∷◌, refl, ◌∙◌, ap}
use Rattle.plan_tables.specs.{PlanView.PlanView, declared.entries.GameEvent.{GameEvent, TheVariants.BallDrain}}
use Rattle.player_game.{specs.GameStep.in_play, proofs.Draining.{tested-left, drain-requests, drain-finals}}
use Rattle.written_machine.specs.{Machine.{Machine, all_do, post_game, step_game}, Moves.{Stepped, step_now, do_move}}

module _ (plan : PlanView) where
  -- to post changes no game
  pub posts-game : (posts : List GameEvent) (s : Machine) → (all_do (post_game plan) posts s).game ≡ s.game
  posts-game [] s = refl
  posts-game (which ∷ posts) s = posts-game posts (post_game plan which s)

  -- a ball that has drained asks for no ball, and tells no scores
  pub drain-step : (s : Machine) → step_game plan BallDrain s
      ≡ all_do (post_game plan) (step_now plan BallDrain s).posts (do_move plan (Stepped BallDrain) s)
  drain-step s = search (rules, drain-requests, drain-finals)

  pub drain-game : (s : Machine) → (step_game plan BallDrain s).game ≡ (step_now plan BallDrain s).game
  drain-game s = ap (λ (t : Machine). t.game) (drain-step s)
      ∙ posts-game (step_now plan BallDrain s).posts (do_move plan (Stepped BallDrain) s)

  -- if one ball is left in play, nothing is posted
  pub last-posts : (s : Machine) → (in_play (step_game plan BallDrain s).game == 1) ≡ true
      → (step_now plan BallDrain s).posts ≡ []
  last-posts s one = search (rules, tested-left, drain-game)
