-- What an event of the game leads to.
use Rattle.std.proofs.Common.{rules, ◌≡◌, ℕ, ◌+◌, ◌-◌, ◌<◌, Bool, true, false, if◌then◌else◌, Option, None, Some, List}
use Rattle.std.{proofs.Common.{◌∷◌, refl, ap, sym, ◌∙◌, subst, arith}, specs.List.range_with_len}
use Rattle.plan_tables.specs.{PlanView.{PlanView, game_event}, Valid.HasGame}
use Rattle.plan_tables.specs.declared.entries.GameEvent.{GameEvent, TheVariants.BallDrain}
use Rattle.plan_tables.specs.declared.devices.{Act.TheVariants.Save, RowId.RowId}
use Rattle.device_objects.specs.declared.device.Call.TheVariants as calls
use Rattle.player_game.specs.{Choices.is_drain, declared.game.GameWork.GameWork, GameStep.GameStep}
use Rattle.plan_tables.specs.declared.entries.Owner.TheVariants as owners
use Rattle.mode_stack.specs.{declared.phase.ModeState.ModeState, Modes.running_of}
use Rattle.written_machine.specs.Machine.{Machine, all_do, ask_ball, do_game, drain_ball, end_multiballs}
use Rattle.written_machine.specs.Machine.{first_active_save, post_game, step_game, write_finals}
use Rattle.machine_core.specs.{Core.{CoreView, CanCall, IsWithin, IsWorkOfGame, after, play_event, step_at}, Goes.Goes}
use Rattle.machine_core.proofs.Going.{goes-none, goes-then, goes-can, goes-all, goes-post, goes-write, goes-call}
use Rattle.machine_core.proofs.{Going.{goes-ask, goes-end, goes-set}, Room.room-before}

-- ---- what is told, asked and posted

module _ (plan : PlanView) where
  goes-finals : (tells : Bool) (s : Machine) → Goes plan s (write_finals plan tells s)
  goes-finals true s = search (rules, goes-all, goes-write)
  goes-finals false s = goes-none plan s

  goes-events : (events : List GameEvent) (s : Machine) → Goes plan s (all_do (post_game plan) events s)
  goes-events events s = goes-all plan (post_game plan) (λ e t. goes-post plan owners.Machine (game_event plan e) t)
      events s

  pub goes-step : (which : GameEvent) (s : Machine) → Goes plan s (step_game plan which s)
  goes-step which s =
      let step = step_at plan which s in
      let gone = play_event plan which s in
      let told = write_finals plan step.finals gone in
      let asked = ask_ball plan step.requests told in
      goes-then plan s asked (step_game plan which s)
      (goes-then plan s told asked
      (goes-then plan s gone told (goes-set plan step.players step.game s) (goes-finals step.finals gone))
      (goes-ask plan step.requests told))
      (goes-events step.posts asked)

  -- a ball drains
  goes-drained : (save : Option RowId) (s : Machine) → Goes plan s (drain_ball plan save s)
  goes-drained None s =
      let stepped = step_game plan BallDrain s in
      goes-then plan s stepped (end_multiballs plan stepped) (goes-step BallDrain s) (goes-end plan stepped)
  goes-drained (Some r) s = goes-call plan (calls.Act Save) r s

  goes-game_work : (which : GameEvent) (s : Machine) → Goes plan s (do_game plan which s)
  goes-game_work which s = by (is_drain which)
    where
      by : (drains : Bool) → Goes plan s (if drains then drain_ball plan (first_active_save plan s) s else step_game
          plan which s)
      by true = goes-drained (first_active_save plan s) s
      by false = goes-step which s

  -- the same modes run
  pub game-still : (which : GameEvent) (s : Machine) → running_of (do_game plan which s).modes ≡ running_of s.modes
  game-still which s = ap (λ (states : List ModeState). running_of states) (goes-game_work which s).modes

-- ---- scores, one player after another

pub finals-first : (place count : ℕ) → place < count
    → range_with_len (place + 1) (count - place) ≡ (place + 1) ∷ range_with_len (place + 1 + 1) (count - (place + 1))
finals-first place count there = search rules

-- ---- the game goes on, scores are told, a ball is asked for, and events are posted

module _ (which : GameEvent) (old next : CoreView) (next_is : next ≡ after (play_event old.plan which) old)
    (work : GameWork) (work_is : IsWorkOfGame old.plan which old.machine work) where
  abbrev step : GameStep
  step = step_at old.plan which old.machine

  abbrev gone : Machine
  gone = play_event old.plan which old.machine

  abbrev scored : Machine
  scored = write_finals old.plan step.finals gone

  abbrev asked_machine : Machine
  asked_machine = ask_ball old.plan step.requests scored

  pub scores-room : IsWithin old.room (step_game old.plan which old.machine)
      → IsWithin next.room (write_finals next.plan work.finals next.machine)
  scores-room room = search (rules, room-before, goes-ask, goes-events)

  -- once scores are told
  module _ (told : CoreView) (told_is : told ≡ after (write_finals next.plan work.finals) next) where
    told-is : told ≡ after (λ s. scored) old
    told-is = told_is ∙ (λ i. after (write_finals (next_is i).plan (work_is.finals i)) (next_is i))

    pub told-calls : CanCall old → CanCall told
    told-calls h =
        subst CanCall (sym told-is)
        (goes-can (after (play_event old.plan which) old) (λ s. scored) (goes-finals old.plan step.finals gone)
        (record { devices = h.devices; coils = h.coils; early = h.early }))

    pub ask-room : IsWithin old.room (step_game old.plan which old.machine)
        → IsWithin told.room (ask_ball told.plan work.requests told.machine)
    ask-room room = search (rules, told-is, room-before, goes-events)

    -- and a ball is asked for
    module _ (asked : CoreView) (asked_is : asked ≡ after (ask_ball told.plan work.requests) told) where
      asked-is : asked ≡ after (λ s. asked_machine) old
      asked-is = asked_is ∙ (λ i. after (ask_ball (told-is i).plan (work_is.requests i)) (told-is i))

      pub asked-game : HasGame old.plan → HasGame asked.plan
      asked-game game = subst (λ (v : CoreView). HasGame v.plan) (sym asked-is) game

      module _ (posts : List GameEvent) (posts_is : posts ≡ work.posts.items) where
        pub events-room : IsWithin old.room (step_game old.plan which old.machine)
            → IsWithin asked.room (all_do (post_game asked.plan) posts asked.machine)
        events-room room = search rules

        pub game-done : (last : CoreView) → last ≡ after (all_do (post_game asked.plan) posts) asked
            → last ≡ after (step_game old.plan which) old
        game-done last last_is = last_is ∙ (λ i. after
            (all_do (post_game (asked-is i).plan) ((posts_is ∙ work_is.posts) i)) (asked-is i))
