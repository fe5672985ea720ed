-- What the events of the game post is among their choices.
use Rattle.std.proofs.Common.{◌≡◌, ℕ, Bool, true, false, if◌then◌else◌, List, [], ◌∷◌, ◌==◌, ◌-◌, Contains, Some, refl}
use Rattle.std.proofs.Common.{zero-le, suc-le-suc}
use Rattle.plan_tables.specs.{PlanView.PlanView, declared.entries.{GameEvent.GameEvent, GameRules.GameRules}}
use Rattle.plan_tables.specs.declared.entries.GameEvent.TheVariants.{SwStart, GameWillStart, PlayerAdded, GameWillEnd}
use Rattle.plan_tables.specs.declared.entries.GameEvent.TheVariants.{PlayerTurnWillStart, BallDrain, BallWillEnd}
use Rattle.plan_tables.specs.declared.entries.GameEvent.TheVariants.{BallEnding, BallEnded, PlayerTurnEnded}
use Rattle.player_game.specs.{Players.PlayersState, GameStep.{is_over, leads_to}}
use Rattle.player_game.specs.Choices.{StepsAreChoices, choices, tells_scores, asks_for_ball}
use Rattle.player_game.specs.GameStep.{GameState, GameStep, can_begin, can_join, game_step, is_ball_on, is_held}
use Rattle.yaml_bytes.proofs.Each.{here}

-- ---- places in a list

second : {X : Type 0} (y x : X) (xs : List X) → Contains (y ∷ x ∷ xs) x
second y x xs = (1, suc-le-suc (suc-le-suc zero-le), refl)

third : {X : Type 0} (z y x : X) (xs : List X) → Contains (z ∷ y ∷ x ∷ xs) x
third z y x xs = (2, suc-le-suc (suc-le-suc (suc-le-suc zero-le)), refl)

-- ---- the ways that an event can go

starts : (begins joins : Bool) (g h : GameState) (p q : PlayersState)
    → Contains (choices SwStart) (if begins then leads_to (GameWillStart ∷ []) h q else leads_to
    (if joins then PlayerAdded ∷ [] else []) g p).posts
starts true joins g h p q = here (GameWillStart ∷ []) ((PlayerAdded ∷ []) ∷ [] ∷ [])
starts false true g h p q = second (GameWillStart ∷ []) (PlayerAdded ∷ []) ([] ∷ [])
starts false false g h p q = third (GameWillStart ∷ []) (PlayerAdded ∷ []) [] []

drains : (is_on is_last : Bool) (g h k : GameState) (p : PlayersState)
    → Contains (choices BallDrain) (if is_on then (if is_last then leads_to (BallWillEnd ∷ []) h p else leads_to [] k p)
    else leads_to [] g p).posts
drains true true g h k p = here (BallWillEnd ∷ []) ([] ∷ [])
drains _ _ g h k p = second (BallWillEnd ∷ []) [] []

held_back : (held : Bool) → Contains (choices BallEnding) (if held then [] else BallEnded ∷ [])
held_back true = second (BallEnded ∷ []) [] []
held_back false = here (BallEnded ∷ []) ([] ∷ [])

ends : (over : Bool) (g : GameState) (p q : PlayersState)
    → Contains (choices PlayerTurnEnded) (if over then leads_to (GameWillEnd ∷ []) g p else leads_to
    (PlayerTurnWillStart ∷ []) g q).posts
ends true g p q = here (GameWillEnd ∷ []) ((PlayerTurnWillStart ∷ []) ∷ [])
ends false g p q = second (GameWillEnd ∷ []) (PlayerTurnWillStart ∷ []) []

-- either way a flag is not set
unset : (flag : GameStep → Bool) (test : Bool) (x y : GameStep) → flag x ≡ false → flag y ≡ false
    → flag (if test then x else y) ≡ false
unset flag true x y is is' = is
unset flag false x y is is' = is'

posted : (rules : GameRules) (plan : PlanView) (which : GameEvent) (home : ℕ) (g : GameState) (p : PlayersState)
    → Contains (choices which) (game_step (Some rules) plan which home g p).posts
unfolding game_step
posted rules plan SwStart home g p = starts (can_begin rules home g) (can_join rules plan g p) _ _ _ _
posted rules plan BallDrain home g p = drains (is_ball_on g.phase) (g.balls - 1 == 0) _ _ _ _
posted rules plan BallEnding home g p = held_back (is_held g)
posted rules plan PlayerTurnEnded home g p = ends (is_over rules plan p) _ _ _
posted rules plan _ home g p = here _ []

told : (rules : GameRules) (plan : PlanView) (which : GameEvent) (home : ℕ) (g : GameState) (p : PlayersState)
    → (game_step (Some rules) plan which home g p).finals ≡ tells_scores which
unfolding game_step
told rules plan SwStart home g p = unset (λ step. step.finals) (can_begin rules home g) _ _ refl refl
told rules plan BallDrain home g p = unset (λ step. step.finals) (is_ball_on g.phase) _ _
    (unset (λ step. step.finals) (g.balls - 1 == 0) _ _ refl refl) refl
told rules plan PlayerTurnEnded home g p = unset (λ step. step.finals) (is_over rules plan p) _ _ refl refl
told rules plan _ home g p = refl

asked : (rules : GameRules) (plan : PlanView) (which : GameEvent) (home : ℕ) (g : GameState) (p : PlayersState)
    → (game_step (Some rules) plan which home g p).requests ≡ asks_for_ball which
unfolding game_step
asked rules plan SwStart home g p = unset (λ step. step.requests) (can_begin rules home g) _ _ refl refl
asked rules plan BallDrain home g p = unset (λ step. step.requests) (is_ball_on g.phase) _ _
    (unset (λ step. step.requests) (g.balls - 1 == 0) _ _ refl refl) refl
asked rules plan PlayerTurnEnded home g p = unset (λ step. step.requests) (is_over rules plan p) _ _ refl refl
asked rules plan _ home g p = refl

pub steps_are_choices : StepsAreChoices
steps_are_choices = record { posts = posted; finals = told; requests = asked }
