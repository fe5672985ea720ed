-- What is done in a state costs its lines and posts, and its steps besides.
use Rattle.std.proofs.Common.{rules, ◌≡◌, ℕ, zero, suc, ◌+◌, ◌==◌, ◌&&◌, Bool, true, false, if◌then◌else◌, Option, None}
use Rattle.std.{proofs.Common.{Some, List, [], ◌∷◌, arith}, specs.List.range_with_len}
use Rattle.plan_tables.specs.PlanView.{PlanView, act_of_listener, act_told, actions_at, binding_at, coil_numbers}
use Rattle.plan_tables.specs.PlanView.{game_event, list_of_row, listeners_of, multiball_rows, posts_of, row_at, rows_of}
use Rattle.plan_tables.specs.{PlanView.switch_at, declared.entries.Target.{Target, TheVariants.{Run, Act}}}
use Rattle.plan_tables.specs.declared.entries.{EventId.EventId, ModeId.ModeId, Work.{Work, TheVariants.{Mode, Game}}}
use Rattle.plan_tables.specs.declared.entries.{ListId.ListId, BindingId.BindingId, Owner.Owner}
use Rattle.plan_tables.specs.declared.entries.Action.{Action, TheVariants.{Enter, AddBalls, Request}}
use Rattle.plan_tables.specs.declared.entries.GameEvent.{GameEvent, TheVariants.BallDrain}
use Rattle.plan_tables.specs.declared.entries.Owner.TheVariants as owners
use Rattle.plan_tables.specs.declared.entries.ModeEvent.TheVariants.{Started, Stopping}
use Rattle.plan_tables.specs.declared.devices.{Act.TheVariants.{End, Save}, RowId.RowId}
use Rattle.plan_tables.specs.declared.devices.BallTarget.TheVariants.{Playfield, Device}
use Rattle.plan_tables.specs.declared.devices.Telling.{Telling, TheVariants.{Arrived, Wanted}}
use Rattle.ball_devices.specs.{declared.booking.Origin.{Origin, TheVariants.Awaited}, Ledger.origin_of}
use Rattle.ball_devices.specs.Bookings as calls_of_ledger
use Rattle.coil_guard.specs.{CoilStep.is_held_by, Coils.coil_at}
use Rattle.device_objects.specs.declared.device.Call.{Call}
use Rattle.device_objects.specs.declared.device.Call.TheVariants as calls
use Rattle.mode_stack.specs.{ModeStep.entered, Modes.mode_state}
use Rattle.player_game.specs.{Choices.is_drain, GameStep.{in_play, missing, more_balls}, Players.is_met}
use Rattle.switch_core.specs.declared.change.Change.{Change}
use Rattle.switch_core.specs.Switches.{accept, after_change, report_change, reported_by_change}
use Rattle.cascade_rank.specs.Cost.{Cost, Lines, Step, Both, price_at, each_of, cost_of_drain, cost_of_post}
use Rattle.cascade_rank.specs.Cost.{cost_if_led, led_by, cost_of_choice}
use Rattle.written_machine.specs.declared.line.Happening.TheVariants as lines
use Rattle.written_machine.specs.Machine.{Machine, write, post, book, do_action_by, do_list_by, do_handler, call_device}
use Rattle.written_machine.specs.Machine.{call_row, set_device, set_game, set_mode, set_switches, release_coil}
use Rattle.written_machine.specs.Machine.{tell_first, tell_listener, tell_listeners, tell_nobody, told_device}
use Rattle.written_machine.specs.Machine.{step_game, first_active_save, write_finals, call_devices}
use Rattle.written_machine.specs.{Moves.{Stepped, do_move, step_now}, Steps.steps_at}
use Rattle.written_machine.specs.Run.{switch, device, Stimulus, SwitchChange, Alarm, Wait, arrive}
use Rattle.written_machine.specs.Spent.{each_now, wanted_now, entry_now, action_now_by, list_now_by, answer_now_by}
use Rattle.written_machine.specs.Spent.{call_now_by, nobody_now, told_now, telling_now, call_now, target_now}
use Rattle.written_machine.specs.Spent.{handler_now, calls_now, listener_now, accepted_now, if_accepted_now}
use Rattle.written_machine.specs.Spent.{stimulus_now, release_now, releases_now, before_now, finals_now, request_now}
use Rattle.written_machine.specs.Spent.{step_game_now, ends_now, drained_now, game_now, after_now}

abbrev pub IsSplit : Cost → Type 0
IsSplit c = (k : ℕ) (w : EventId → ℕ) → price_at k w c ≡ price_at 0 w c + steps_at k c

each_of-split : {X : Type 0} (f : X → Cost) → ((x : X) → IsSplit (f x)) → (xs : List X) → IsSplit (each_of f xs)
each_of-split f each [] = λ k w. omega arith
each_of-split f each (x ∷ xs) = λ k w. omega (arith, each x k w, each_of-split f each xs k w)

each_now-split : {X : Type 0} (f : X → Machine → Machine) (now : X → Machine → Cost)
    → ((x : X) (s : Machine) → IsSplit (now x s)) → (xs : List X) (s : Machine) → IsSplit (each_now f now xs s)
each_now-split f now each [] s = λ k w. omega arith
each_now-split f now each (x ∷ xs) s = λ k w. omega (arith, each x s k w, each_now-split f now each xs (f x s) k w)

led-split : (o : Option EventId) → IsSplit (cost_if_led o)
led-split None = λ k w. omega arith
led-split (Some e) = λ k w. omega arith

module _ (plan : PlanView) where
  drain-split : (drain : Bool) → IsSplit (cost_of_drain plan drain)
  drain-split true = λ k w. omega arith
  drain-split false = λ k w. omega arith

  module _ (tell : Telling → Machine → Machine) (now : Telling → Machine → Cost)
      (told : (telling : Telling) (s : Machine) → IsSplit (now telling s)) where
    wanted-split : (n : ℕ) (s : Machine) → IsSplit (wanted_now plan tell now n s)
    wanted-split zero s = λ k w. omega arith
    wanted-split (suc n) s = told (Wanted (suc n)) s

    entry-split : (r : RowId) (drain : Bool) (origin : Origin) (s : Machine)
        → IsSplit (entry_now plan tell now r drain origin s)
    entry-split r drain Awaited s = told (Arrived (Device r)) s
    entry-split r drain _ s = drain-split drain

    action-split : (owner : Owner) (a : Action) (s : Machine) → IsSplit (action_now_by plan tell now owner a s)
    action-split owner (Enter r e drain) s =
        λ k w. omega
        (arith, entry-split r drain (origin_of r s.ledger) (post owner e (book owner (calls_of_ledger.Enter r) s)) k w)
    action-split owner (Request n) s = told (Wanted n) s
    action-split owner (AddBalls n) s = λ k w. omega
        (arith, wanted-split (missing n s.game) (set_game (more_balls n s.game) s) k w)
    action-split owner _ s = λ k w. omega arith

    list-split_by : (owner : Owner) (l : ListId) (s : Machine) → IsSplit (list_now_by plan tell now owner l s)
    list-split_by owner l s = each_now-split (do_action_by plan tell owner) (action_now_by plan tell now owner)
        (action-split owner) (actions_at plan l) s

    answer-split_by : (r : RowId) (lists : List ℕ) (s : Machine) → IsSplit (answer_now_by plan tell now r lists s)
    answer-split_by r lists s =
        each_now-split (λ n. do_list_by plan tell (row_at plan r).owner (list_of_row plan r n))
        (λ n. list_now_by plan tell now (row_at plan r).owner (list_of_row plan r n))
        (λ n t. list-split_by (row_at plan r).owner (list_of_row plan r n) t) lists s

    call-split_by : (call : Call) (r : RowId) (s : Machine) → IsSplit (call_now_by plan tell now call r s)
    call-split_by call r s =
        λ k w. omega
        (arith, answer-split_by r (call_row plan call r s).1 (set_device r (call_row plan call r s).0 s) k w)

  told-split : (telling : Telling) (o : Option RowId) (s : Machine) → IsSplit (told_now plan telling o s)
  told-split telling None s = λ k w. omega arith
  told-split telling (Some r) s = call-split_by tell_nobody (nobody_now plan) (λ other t k w. omega arith)
      (calls.Act (act_told telling)) r s

  telling-split : (telling : Telling) (s : Machine) → IsSplit (telling_now plan telling s)
  telling-split telling s = told-split telling (told_device plan telling s) s

  call-split : (call : Call) (r : RowId) (s : Machine) → IsSplit (call_now plan call r s)
  call-split = call-split_by (tell_first plan) (telling_now plan) telling-split

  -- ---- handlers

  target-split : (owner : Owner) (t : Target) (s : Machine) → IsSplit (target_now plan owner t s)
  target-split owner (Run l) s = list-split_by (tell_first plan) (telling_now plan) telling-split owner l s
  target-split owner (Act r act) s = call-split (calls.Act act) r s
  target-split owner _ s = λ k w. omega arith

  if_met-split : (met : Bool) (does : Cost) → IsSplit does → IsSplit (Both Step (if met then does else Lines 0))
  if_met-split true does split = λ k w. omega (arith, split k w)
  if_met-split false does split = λ k w. omega arith

  handler-split : (place : BindingId) (s : Machine) → IsSplit (handler_now plan place s)
  handler-split place s =
      if_met-split (is_met plan s.players (binding_at plan place).condition)
      (target_now plan (binding_at plan place).owner (binding_at plan place).target s)
      (target-split (binding_at plan place).owner (binding_at plan place).target s)

  pub handlers-split : (order : List BindingId) (s : Machine)
      → IsSplit (each_now (do_handler plan) (handler_now plan) order s)
  handlers-split order s = each_now-split (do_handler plan) (handler_now plan) handler-split order s

  -- ---- the machine's work

  calls-split : (call : Call) (m : ModeId) (s : Machine) → IsSplit (calls_now plan call m s)
  calls-split call m s = each_now-split (call_device plan call) (call_now plan call) (call-split call)
      (rows_of plan (owners.Mode m)) s

  pub before-split : (work : Work) (s : Machine) → IsSplit (before_now plan work s)
  before-split (Mode m Started) s = λ k w. omega
      (arith, calls-split calls.ModeStart m (set_mode m (entered (mode_state s.modes m)) s) k w)
  before-split work s = λ k w. search (rules, arith)

  release-split : (held : Bool) → IsSplit (if held then Lines 1 else Lines 0)
  release-split true = λ k w. omega arith
  release-split false = λ k w. omega arith

  releases-split : (m : ModeId) (s : Machine) → IsSplit (releases_now plan m s)
  releases-split m s =
      each_now-split (release_coil (owners.Mode m)) (release_now plan m)
      (λ coil t. release-split (is_held_by (owners.Mode m) (coil_at t.coils coil))) (coil_numbers plan) s

  finals-split : (told : Bool) (s : Machine) → IsSplit (finals_now plan told s)
  finals-split true s = each_of-split (λ player. Lines 1) (λ player k w. omega arith) (range_with_len 1 _)
  finals-split false s = λ k w. omega arith

  request-split : (asks : Bool) (s : Machine) → IsSplit (request_now plan asks s)
  request-split true s = telling-split (Wanted 1) s
  request-split false s = λ k w. omega arith

  choice-split : (posts : List GameEvent) → IsSplit (cost_of_choice plan posts)
  choice-split posts = each_of-split (λ which. cost_of_post (game_event plan which)) (λ which k w. omega arith) posts

  step_game-split : (which : GameEvent) (s : Machine) → IsSplit (step_game_now plan which s)
  step_game-split which s = λ k w.
      let step = step_now plan which s in
      let stepped = do_move plan (Stepped which) s in
      omega (
        arith,
        finals-split step.finals stepped k w,
        request-split step.requests (write_finals plan step.finals stepped) k w,
        choice-split step.posts k w,
      )

  ends-split : (s : Machine) → IsSplit (ends_now plan s)
  ends-split s = by (in_play s.game == 1)
    where
      by : (b : Bool) → IsSplit (if b then each_now (call_device plan (calls.Act End)) (call_now plan (calls.Act End))
          (multiball_rows plan) s else Lines 0)
      by true = each_now-split (call_device plan (calls.Act End)) (call_now plan (calls.Act End))
          (call-split (calls.Act End)) (multiball_rows plan) s
      by false = λ k w. omega arith

  drained-split : (o : Option RowId) (s : Machine) → IsSplit (drained_now plan o s)
  drained-split None s =
      λ k w. omega (arith, step_game-split BallDrain s k w, ends-split (step_game plan BallDrain s) k w)
  drained-split (Some r) s = call-split (calls.Act Save) r s

  game-split : (which : GameEvent) (s : Machine) → IsSplit (game_now plan which s)
  game-split which s = by (is_drain which)
    where
      by : (b : Bool) → IsSplit (if b then drained_now plan (first_active_save plan s) s else step_game_now plan which
          s)
      by true = drained-split (first_active_save plan s) s
      by false = step_game-split which s

  pub after-split : (work : Work) (s : Machine) → IsSplit (after_now plan work s)
  after-split (Mode m Stopping) s = λ k w.
      omega (
        arith,
        calls-split calls.ModeStop m s k w,
        releases-split m (call_devices plan calls.ModeStop m s) k w,
        led-split (led_by plan (Mode m Stopping)) k w,
      )
  after-split (Game which) s = game-split which s
  after-split work s = led-split (led_by plan work)

  -- ---- stimuli

  accepted-split : (a : Change) (s : Machine) → IsSplit (accepted_now plan a s)
  accepted-split a s = λ k w.
      let begun = write owners.Machine (lines.Switch a.switch a.active) s in
      omega (
        arith,
        each_now-split (tell_listener plan a.active) (listener_now plan a.active)
            (λ l t. call-split (calls.Act (act_of_listener a.active l)) l.row t) (listeners_of plan a.switch) begun k w,
        playfield (a.active && (switch_at plan a.switch).confirms_playfield) (tell_listeners plan a begun) k w,
        each_of-split cost_of_post (λ e k w. omega arith) (posts_of plan a.switch a.active) k w,
      )
    where
      playfield : (b : Bool) (t : Machine) → IsSplit (if b then telling_now plan (Arrived Playfield) t else Lines 0)
      playfield true t = telling-split (Arrived Playfield) t
      playfield false t = λ k w. omega arith

  if_accepted-split : (o : Option Change) (s : Machine) → IsSplit (if_accepted_now plan o s)
  if_accepted-split None s = λ k w. omega arith
  if_accepted-split (Some a) s = accepted-split a s

  pub stimulus-split : (stimulus : Stimulus) (s : Machine) → IsSplit (stimulus_now plan stimulus s)
  stimulus-split (SwitchChange at n level) s =
      if_accepted-split (reported_by_change n level at s.switches)
      (set_switches (after_change n level at s.switches) (arrive at s))
  stimulus-split (Alarm at (switch n)) s =
      accepted-split (report_change (accept n s.switches) n) (set_switches (accept n s.switches) (arrive at s))
  stimulus-split (Alarm at (device r)) s = call-split calls.Fire r (arrive at s)
  stimulus-split (Wait at) s = λ k w. omega arith
