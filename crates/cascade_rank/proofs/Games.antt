-- The events of a plan's game, and what they can post.
use Rattle.std.proofs.Common.{◌≡◌, ℕ, suc, ◌<◌, ◌≤◌, nat_le, Bool, true, List, [], ◌∷◌, length, Option, rules}
use Rattle.std.{specs.{Prelude.IfSome, List.{All, list_all}}, proofs.lemmas.Bool.{cases_lt, leb-true}}
use Rattle.std.proofs.lemmas.List.{get_or_past, Sums.AllPass-from_list_all, Elements.{All-get_or, All-from_get_or}}
use Rattle.plan_tables.specs.PlanView.{PlanMode, PlanView, event_of_game, game_event, which_event, work_from, work_of}
use Rattle.plan_tables.specs.{PlanView.work_or, Valid.{HasEntries, IsGameWithin}}
use Rattle.plan_tables.specs.declared.entries.{EventId.EventId, ModeEvent.ModeEvent, Work.Work}
use Rattle.plan_tables.specs.declared.entries.{GameEvent.GameEvent, GameRules.GameRules}
use Rattle.plan_tables.specs.declared.entries.Work.TheVariants as works
use Rattle.player_game.specs.Choices.{choices}

-- ---- events of the game are events of the plan

event_of_game-below : (n : ℕ) (game : Option GameRules) → IfSome game (IsGameWithin n) → 0 < n → (which : GameEvent)
    → (event_of_game game which).0 < n
event_of_game-below n game within some which = search (rules, cases_lt, All-get_or, get_or_past)

-- ---- if there is work in the game, the plan has an event

-- whether the work is not in the game
abbrev IsOfMode : Work → Type 0
IsOfMode (works.Game which) = ⊥
IsOfMode _ = Unit {0}

mode_or : (n : ℕ) (o : Option ModeEvent) (rest : Work) → IsOfMode rest → IsOfMode (work_or n o rest)
mode_or n o rest h = search rules

of_mode : (n : ℕ) (modes : List PlanMode) (e : EventId) → IsOfMode (work_from n modes e)
of_mode n [] e = tt
of_mode n (m ∷ ms) e = mode_or n (which_event m.mode.events e) (work_from (suc n) ms e) (of_mode (suc n) ms e)

-- whether there is an event, where the work is in the game
abbrev IsSomeEvent : ℕ → Work → Type 0
IsSomeEvent n (works.Game which) = 0 < n
IsSomeEvent n _ = Unit {0}

module _ (plan : PlanView) (valid : HasEntries plan) where
  pub game_event-below : 0 < length plan.events → (which : GameEvent) → (game_event plan which).0 < length plan.events
  game_event-below some which = event_of_game-below (length plan.events) plan.game valid.game some which

  pub game_has-event : (e : EventId) (which : GameEvent) → work_of plan e ≡ works.Game which → 0 < length plan.events
  game_has-event e which is = search (rules, of_mode)

-- ---- what an event of the game can post

-- whether none of these has more than two events
abbrev are_few : List (List GameEvent) → Bool
are_few ways = list_all (λ posts. nat_le (length posts) 2) ways

choices_are_few : (which : GameEvent) → are_few (choices which) ≡ true
choices_are_few which = search rules

-- by none of its ways does it post more than two events
pub choices-few : (which : GameEvent) → All (λ posts. length posts ≤ 2) (choices which)
choices-few which = search (rules, choices_are_few, AllPass-from_list_all, All-from_get_or, leb-true)
