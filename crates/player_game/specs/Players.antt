-- The players of a game: their variables, and whose turn it is.
use Rattle.std.specs.Prelude.{ℕ, ◌+◌, ◌-◌, ◌==◌, nat_lt, nat_le, Bool, true, false, not, ◌&&◌, ◌||◌, if◌then◌else◌, ℤ}
use Rattle.std.specs.Prelude.{pos, ◌+ℤ◌, Option, None, Some, List, [], ◌∷◌, ◌++◌, length, replicate, slice_index_or}
use Rattle.std.specs.{Prelude.{slice_set, codes}, Ordering.int_eq, Option.option_map_or}
use Rattle.mpf_values.specs.Comparing.{compares}
use Rattle.plan_tables.specs.PlanView.{PlanView, variable_named}
use Rattle.plan_tables.specs.declared.entries.{VariableId.VariableId, Condition.Condition, GameRules.GameRules}
use Rattle.machine_settings.specs.declared.words.VariableAction.{VariableAction, TheVariants.{Add, Set}}
use Rattle.device_objects.specs.Values.{clamp_value}

-- which ball a player is at, from 1 on and 0 before the first; and the value of each variable, by number
pub record PlayerState : Type 0 where
  pub ball : ℤ
  pub values : List ℤ

-- the players, the first one first, and the number of the current one, from 1 on; 0 if there is none
pub record PlayersState : Type 0 where
  pub players : List PlayerState
  pub current : ℕ

-- a plan, and the players of its game
pub record PlayersView : Type 0 where
  pub plan : PlanView
  pub state : PlayersState

abbrev pub no_players : PlayersState
no_players = record { players = []; current = 0 }

-- before the first ball all variables, so many, are 0
abbrev pub fresh_player : ℕ → PlayerState
fresh_player variables = record { ball = pos 0; values = replicate variables (pos 0) }

abbrev pub new_player : PlanView → PlayerState
new_player plan = fresh_player (length plan.variables)

-- a player by their number, from 1 on
abbrev pub player_at : PlanView → PlayersState → ℕ → PlayerState
player_at plan s n = slice_index_or s.players (n - 1) (new_player plan)

-- how many players there can be: none without a game
abbrev pub most_players : Option GameRules → ℕ
most_players None = 0
most_players (Some rules) = rules.max_players

-- ---- variables

-- whether it is this variable, if there is one
abbrev pub is_that : Option VariableId → VariableId → Bool
is_that this v = option_map_or (λ w. w.0 == v.0) this false

-- whether it is the variable of this name
abbrev pub is_variable : PlanView → List ℕ → VariableId → Bool
is_variable plan name v = is_that (variable_named plan name) v

-- the number of the ball, and of the player, are variables that the game alone sets
abbrev pub is_ball : PlanView → VariableId → Bool
is_ball plan v = is_variable plan (codes "ball") v

abbrev pub is_number : PlanView → VariableId → Bool
is_number plan v = is_variable plan (codes "number") v

-- the value that is kept of a variable
abbrev pub value_at : VariableId → PlayerState → ℤ
value_at v p = slice_index_or p.values v.0 (pos 0)

-- a variable of the player of this number
abbrev pub value_of : PlanView → PlayersState → ℕ → VariableId → ℤ
value_of plan s n v =
    if is_ball plan v then (player_at plan s n).ball
    else (if is_number plan v then pos n
    else value_at v (player_at plan s n))

-- a variable of the current player; 0 without one
abbrev pub value_now : PlanView → PlayersState → VariableId → ℤ
value_now plan s v = if s.current == 0 then pos 0 else value_of plan s s.current v

-- the score of a player: the variable of this name, and 0 if there is none
abbrev pub score_of : PlanView → PlayersState → ℕ → ℤ
score_of plan s n = option_map_or (value_of plan s n) (variable_named plan (codes "score")) (pos 0)

-- whether a condition is met: without a current player none is, and if there is no condition, there is none to meet
abbrev pub is_met : PlanView → PlayersState → Option Condition → Bool
is_met plan s None = true
is_met plan s (Some c) = not (s.current == 0) && compares c.comparison (value_now plan s c.variable) c.number

-- ---- changes

-- what an action makes of a value
abbrev pub act_on : VariableAction → ℤ → ℤ → ℤ
act_on Add number value = clamp_value (value +ℤ number)
act_on Set number value = clamp_value number

-- whether an action may change the variable: there is a current player, and it is not one of the two that the game sets
abbrev pub may_change : PlanView → PlayersState → VariableId → Bool
may_change plan s v = not (s.current == 0) && not (is_ball plan v || is_number plan v)

-- the new value, if it is another one
abbrev pub if_new : ℤ → ℤ → Option ℤ
if_new old new = if int_eq old new then None else Some new

-- what becomes of the variable: its new value, if an action changes it
abbrev pub changed_to : PlanView → VariableId → VariableAction → ℤ → PlayersState → Option ℤ
changed_to plan v action number s =
    if may_change plan s v then if_new (value_now plan s v) (act_on action number (value_now plan s v)) else None

abbrev pub with_value : VariableId → ℤ → PlayerState → PlayerState
with_value v value p = record p { values = slice_set p.values v.0 value }

-- the current player is changed so
abbrev pub with_current : PlanView → (PlayerState → PlayerState) → PlayersState → PlayersState
with_current plan change s = record s {
  players = slice_set s.players (s.current - 1)
      (change (player_at plan s s.current));
}

abbrev pub after_change : PlanView → VariableId → Option ℤ → PlayersState → PlayersState
after_change plan v None s = s
after_change plan v (Some value) s = with_current plan (with_value v value) s

-- ---- turns

-- the player of this number becomes the current one; none, if there is no such player
abbrev pub make_current : ℕ → PlayersState → PlayersState
make_current n s = record s { current = if nat_le n (length s.players) then n else 0 }

-- one player more, if there can be one
abbrev pub add_player : PlanView → PlayersState → PlayersState
add_player plan s =
    if nat_lt (length s.players) (most_players plan.game) then record s { players = s.players ++ new_player plan ∷ [] }
    else s

-- the next player, after the last the first
abbrev pub next_turn : PlayersState → PlayersState
next_turn s = make_current (if s.current == length s.players then 1 else s.current + 1) s

-- the current player's next ball
abbrev pub with_next_ball : PlayerState → PlayerState
with_next_ball p = record p { ball = clamp_value (p.ball +ℤ pos 1) }

abbrev pub next_ball : PlanView → PlayersState → PlayersState
next_ball plan s = if s.current == 0 then s else with_current plan with_next_ball s

-- the ball at which the current player is; 0 without one
abbrev pub ball_now : PlanView → PlayersState → ℤ
ball_now plan s = if s.current == 0 then pos 0 else (player_at plan s s.current).ball
