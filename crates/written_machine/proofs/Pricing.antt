-- What things cost in a state is within what they cost in any, if each device has a state of its shape.
use Rattle.std.proofs.Common.{rules, ◌≡◌, ℕ, ℤ, ◌+◌, ◌<◌, ◌≤◌, Bool, true, false, if◌then◌else◌, cond, filter, Option}
use Rattle.std.proofs.Common.{None, Some, List, [], ◌∷◌, length, refl, ap, sym, subst, arith, ◌==◌}
use Rattle.std.specs.{Prelude.{◌&&◌, IsSome, Contains}, List.{All, list_any}}
use Rattle.std.proofs.lemmas.{Bool.cases_lt, List.{get_or_past, FromFn.length-range_with_len}}
use Rattle.std.proofs.lemmas.List.Elements.{All-get_or, All-head, All-nil, All-tail}
use Rattle.plan_tables.specs.PlanView.{PlanView, act_of_listener, actions_at, actions_of, coil_numbers, feeders_of}
use Rattle.plan_tables.specs.PlanView.{first_trough, is_enable_of, list_of_row, listeners_of, row_at, row_numbers}
use Rattle.plan_tables.specs.PlanView.{rows_of, switch_at, target_of, multiball_rows, save_rows, act_told, work_of}
use Rattle.plan_tables.specs.declared.entries.Action.{Action, TheVariants.{Request, AddBalls}}
use Rattle.plan_tables.specs.declared.entries.{ListId.ListId, ModeId.ModeId, SwitchId.SwitchId, EventId.EventId}
use Rattle.plan_tables.specs.declared.entries.{CoilId.CoilId, Owner.Owner, VariableId.VariableId}
use Rattle.plan_tables.specs.declared.entries.Action.TheVariants.{Change as ChangeVariable, Enter, Leave, Lose, Arrive}
use Rattle.plan_tables.specs.declared.entries.{GameRules.GameRules, BindingId.BindingId}
use Rattle.plan_tables.specs.declared.entries.GameEvent.{GameEvent, TheVariants.BallDrain}
use Rattle.plan_tables.{specs.declared.devices.{Act.TheVariants.{Save, End}, RowId.RowId}, proofs.Owners.rows_of-within}
use Rattle.plan_tables.specs.declared.devices.BallTarget.TheVariants.{Playfield, Device}
use Rattle.plan_tables.specs.{Valid.HasEntries, declared.entries.Target.{Target, TheVariants.{Run, Act}}}
use Rattle.ball_devices.specs.declared.booking.Origin.{Origin, TheVariants.Awaited}
use Rattle.ball_devices.specs.Bookings as calls_of_ledger
use Rattle.coil_guard.specs.declared.command.Command.TheVariants as commands
use Rattle.coil_guard.specs.{CoilStep.is_held_by, Coils.coil_at}
use Rattle.switch_core.specs.{declared.change.Change.Change, Switches.{accept, report_change}}
use Rattle.written_machine.specs.declared.line.Happening.TheVariants as lines
use Rattle.plan_tables.specs.declared.entries.ModeEvent.TheVariants.{WillStart, Starting, Started, Stopping, Stopped}
use Rattle.plan_tables.specs.declared.entries.Owner.TheVariants as owners
use Rattle.plan_tables.specs.declared.entries.Work.{Work, TheVariants.{Nothing, Mode, Game}}
use Rattle.player_game.specs.{Players.most_players, Choices.{choices, tells_scores, AreFew}}
use Rattle.player_game.specs.GameStep.{GameStep, game_step, in_play}
use Rattle.player_game.proofs.{StayFew.players_stay_few, DrainEvent.drain-is}
use Rattle.device_objects.specs.declared.{device.Call.Call, state.DeviceState.DeviceState}
use Rattle.device_objects.{specs.{DeviceStep.outcomes, Laws.MayCome}, proofs.Lawful.answers_are_outcomes}
use Rattle.device_objects.specs.declared.device.Call.TheVariants as calls
use Rattle.mode_stack.specs.{ModeStep.entered, Modes.mode_state}
use Rattle.cascade_rank.specs.Cost.{Cost, Lines, Greater, price_at, each_of, dearest_of, cost_of_acceptance}
use Rattle.cascade_rank.specs.Cost.{cost_of_action_by, cost_of_list_by, cost_of_answer_by, cost_of_call_by}
use Rattle.cascade_rank.specs.Cost.{cost_of_nobody, cost_of_told, cost_of_telling, cost_of_arrival, cost_of_scores}
use Rattle.cascade_rank.specs.Cost.{cost_of_devices, cost_of_drain, cost_of_list, cost_of_call, cost_of_choice}
use Rattle.cascade_rank.specs.Cost.{cost_of_trough, cost_of_request, cost_of_playfield_switch, cost_of_game}
use Rattle.cascade_rank.specs.Cost.{cost_of_listener, cost_of_releases, cost_of_target, cost_of_starts, cost_of_stops}
use Rattle.cascade_rank.specs.{Cost.{led_by, cost_if_led}, Weights.bound_at}
use Rattle.cascade_rank.proofs.{Prices.price-dearest, Rows.{length-rows, row_of}}
use Rattle.plan_tables.specs.declared.devices.Telling.{Telling, TheVariants.{Arrived, Wanted}}
use Rattle.written_machine.specs.Machine.{Machine, write, set_switches, set_mode, set_device, all_do, ask_coil}
use Rattle.written_machine.specs.Machine.{release_coil, tell_change, after_entry, do_action_by, do_list_by}
use Rattle.written_machine.specs.Machine.{do_answer_by, call_device_by, first_away, tell_nobody, tell_device}
use Rattle.written_machine.specs.Machine.{tell_first, step_game, first_active_save, world_of, device_at, call_row}
use Rattle.written_machine.specs.Machine.{call_device, call_devices, tell_listener, tell_listeners, home_of, do_handler}
use Rattle.written_machine.specs.{Devices.HasDevices, Moves.{Turned, Booked, step_now}, Spent.{game_now, after_now}}
use Rattle.written_machine.specs.Run.{switch, device, source_due, Stimulus, SwitchChange, Alarm, Wait, arrive}
use Rattle.written_machine.specs.StimulusCost.{cost_if_accepted, cost_of_stimulus}
use Rattle.written_machine.proofs.Does.{has_devices-does, has_devices-move, HasCoils, asked-has_coils}
use Rattle.written_machine.proofs.Feeding.{first_away-is, first_trough-is, multiballs-within, first_active_save-is}
use Rattle.written_machine.proofs.{Drains.last-posts, Resting.stops-turn}
use Rattle.written_machine.specs.Spent.{each_now, entry_now, action_now_by, list_now_by, answer_now_by, call_now_by}
use Rattle.written_machine.specs.Spent.{nobody_now, told_now, telling_now, list_now, call_now, target_now, handler_now}
use Rattle.written_machine.specs.Spent.{listener_now, playfield_now, accepted_now, if_accepted_now, release_now}
use Rattle.written_machine.specs.Spent.{stimulus_now, before_now, finals_now, request_now, step_game_now, drained_now}
use Rattle.written_machine.proofs.Parts.{IsThere, target-there, cost_of_handler, does-handler, does-finals, does-step}

module _ (plan : PlanView) (entries : HasEntries plan) (unit : ℕ) (w : EventId → ℕ) where
  dearest-of : {X : Type 0} (f : X → Cost) (xs : List X) (x : X) → Contains xs x
      → price_at unit w (f x) ≤ price_at unit w (dearest_of f xs)
  dearest-of f xs x (i, within, is) = subst (λ y. price_at unit w (f y) ≤ price_at unit w (dearest_of f xs)) is
      (price-dearest unit w f xs i x within)

  -- one after another
  each-priced : {X : Type 0} (f : X → Machine → Machine) (now : X → Machine → Cost) (cost : X → Cost) (P : X → Type 0)
      → ((x : X) (s : Machine) → P x → HasDevices plan s.devices
      → (price_at unit w (now x s) ≤ price_at unit w (cost x)) × HasDevices plan (f x s).devices)
      → (xs : List X) → All P xs → (s : Machine) → HasDevices plan s.devices
      → (price_at unit w (each_now f now xs s) ≤ price_at unit w (each_of cost xs))
      × HasDevices plan (all_do f xs s).devices
  each-priced f now cost P one [] all s has = (omega arith, has)
  each-priced f now cost P one (x ∷ xs) all s has =
      let here = one x s (All-head P x xs all) has in
      let rest = each-priced f now cost P one xs (All-tail P x xs all) (f x s) here.1 in
      (omega (arith, here.0, rest.0), rest.1)

  -- ---- actions

  told-devices : (owner : Owner) (player : ℕ) (v : VariableId) (e : EventId) (value : Option ℤ) (s : Machine)
      → HasDevices plan s.devices → HasDevices plan (tell_change owner player v e value s).devices
  told-devices owner player v e value s has = search rules

  -- if each telling is within its cost, and more balls cost the same to ask for
  module _ (tell : Telling → Machine → Machine) (now : Telling → Machine → Cost) (cost : Telling → Cost)
      (tells : (telling : Telling) (s : Machine) → HasDevices plan s.devices
      → (price_at unit w (now telling s) ≤ price_at unit w (cost telling))
      × HasDevices plan (tell telling s).devices)
      (alike : (m n : ℕ) → price_at unit w (cost (Wanted m)) ≡ price_at unit w (cost (Wanted n))) where
    entry-devices : (owner : Owner) (r : RowId) (drain : Bool) (origin : Origin) (s : Machine)
        → HasDevices plan s.devices → HasDevices plan (after_entry plan tell owner r drain origin s).devices
    entry-devices owner r drain origin s has = search rules

    entry-priced : (owner : Owner) (r : RowId) (drain : Bool) (origin : Origin) (s : Machine)
        → HasDevices plan s.devices
        → price_at unit w (entry_now plan tell now r drain origin s)
        ≤ price_at unit w (Greater (cost_of_drain plan drain) (cost (Arrived (Device r))))
    entry-priced owner r drain Awaited s has = let told = tells (Arrived (Device r)) s has in omega (arith, told.0)
    entry-priced owner r drain _ s has = omega arith

    action-priced : (owner : Owner) (a : Action) (s : Machine) → HasDevices plan s.devices
        → (price_at unit w (action_now_by plan tell now owner a s) ≤ price_at unit w (cost_of_action_by plan cost a))
        × HasDevices plan (do_action_by plan tell owner a s).devices
    action-priced owner (ChangeVariable v action n e) s has = search (rules, told-devices)
    action-priced owner (Enter r e drain) s has = search (rules, has_devices-move, entry-devices, entry-priced)
    action-priced owner (Leave r) s has =
        (omega arith, has_devices-move plan (Booked owner (calls_of_ledger.Leave r (target_of plan r))) s has)
    action-priced owner (Lose r) s has =
        (omega arith, has_devices-move plan (Booked owner (calls_of_ledger.Lose r)) s has)
    action-priced owner (Arrive r) s has =
        (omega arith, has_devices-move plan (Booked owner (calls_of_ledger.Arrive (target_of plan r))) s has)
    action-priced owner (Request n) s has = tells (Wanted n) s has
    action-priced owner (AddBalls n) s has = search rules
    action-priced owner _ s has = (omega arith, has)

    list-priced_by : (owner : Owner) (l : ListId) (s : Machine) → HasDevices plan s.devices
        → (price_at unit w (list_now_by plan tell now owner l s) ≤ price_at unit w (cost_of_list_by plan cost l))
        × HasDevices plan (do_list_by plan tell owner l s).devices
    list-priced_by owner l s has =
        each-priced (do_action_by plan tell owner) (action_now_by plan tell now owner) (cost_of_action_by plan cost)
        (λ a. Unit {0}) (λ a t h k. action-priced owner a t k) (actions_at plan l) (λ i d there. tt) s has

    answer-priced_by : (r : RowId) (lists : List ℕ) (s : Machine) → HasDevices plan s.devices
        → (price_at unit w (answer_now_by plan tell now r lists s)
        ≤ price_at unit w (cost_of_answer_by plan cost r lists))
        × HasDevices plan (do_answer_by plan tell r lists s).devices
    answer-priced_by r lists s has =
        each-priced (λ k. do_list_by plan tell (row_at plan r).owner (list_of_row plan r k))
        (λ k. list_now_by plan tell now (row_at plan r).owner (list_of_row plan r k))
        (λ k. cost_of_list_by plan cost (list_of_row plan r k)) (λ k. Unit {0})
        (λ k t h d. list-priced_by (row_at plan r).owner (list_of_row plan r k) t d) lists (λ i d there. tt) s has

    -- a device that is called
    call-priced_by : (call : Call) (r : RowId) (s : Machine) → r.0 < length plan.rows → HasDevices plan s.devices
        → MayCome call (device_at s r)
        → (price_at unit w (call_now_by plan tell now call r s) ≤ price_at unit w (cost_of_call_by plan cost r call))
        × HasDevices plan (call_device_by plan tell call r s).devices
    call-priced_by call r s there has may =
        let settings = (row_at plan r).settings in
        let lists = (call_row plan call r s).1 in
        let done = answer-priced_by r lists (set_device r (call_row plan call r s).0 s)
        (has_devices-move plan (Turned call r) s has) in (
          omega (
            arith,
            done.0,
            dearest-of (cost_of_answer_by plan cost r) (outcomes settings call) lists
                (answers_are_outcomes settings call s.moment (world_of s) (device_at s r) (has.shapes r there) may),
          ),
          done.1,
        )

  -- ---- what ball devices are told

  -- a device that is told something tells nobody
  told-priced : (telling : Telling) (r : RowId) (s : Machine) → r.0 < length plan.rows → HasDevices plan s.devices
      → (price_at unit w (told_now plan telling (Some r) s) ≤ price_at unit w (cost_of_told plan telling r))
      × HasDevices plan (tell_device plan telling (Some r) s).devices
  told-priced telling r s there has =
      call-priced_by tell_nobody (nobody_now plan) cost_of_nobody (λ other t k. (omega arith, k)) (λ m n. refl)
      (calls.Act (act_told telling)) r s there has tt

  -- the device that is told is one of those that may be
  telling-priced : (telling : Telling) (s : Machine) → HasDevices plan s.devices
      → (price_at unit w (telling_now plan telling s) ≤ price_at unit w (cost_of_telling plan telling))
      × HasDevices plan (tell_first plan telling s).devices
  telling-priced (Arrived target) s has = by (first_away plan target s) refl
    where
      by : (o : Option RowId) → first_away plan target s ≡ o
          → (price_at unit w (told_now plan (Arrived target) o s) ≤ price_at unit w (cost_of_arrival plan target))
          × HasDevices plan (tell_device plan (Arrived target) o s).devices
      by None is = (omega arith, has)
      by (Some r) is =
          let first = first_away-is plan target s r is in
          let priced = told-priced (Arrived target) r s first.there has in (
            omega (
              arith,
              priced.0,
              dearest-of (cost_of_told plan (Arrived target)) (feeders_of plan target) r
                  first.membership,
            ),
            priced.1,
          )
  telling-priced (Wanted n) s has = by (first_trough plan) refl
    where
      by : (o : Option RowId) → first_trough plan ≡ o
          → (price_at unit w (told_now plan (Wanted n) o s) ≤ price_at unit w (cost_of_trough plan n o))
          × HasDevices plan (tell_device plan (Wanted n) o s).devices
      by None is = (omega arith, has)
      by (Some r) is = told-priced (Wanted n) r s (first_trough-is plan r is).there has

  -- to ask for more balls costs the same
  wanted-alike : (m n : ℕ) → price_at unit w (cost_of_telling plan (Wanted m))
      ≡ price_at unit w (cost_of_telling plan (Wanted n))
  wanted-alike m n = search rules

  -- ---- devices

  list-priced : (owner : Owner) (l : ListId) (s : Machine) → HasDevices plan s.devices
      → price_at unit w (list_now plan owner l s) ≤ price_at unit w (cost_of_list plan l)
  list-priced owner l s has = (list-priced_by (tell_first plan) (telling_now plan) (cost_of_telling plan) telling-priced
      wanted-alike owner l s has).0

  call-priced : (call : Call) (r : RowId) (s : Machine) → r.0 < length plan.rows → HasDevices plan s.devices
      → MayCome call (device_at s r)
      → (price_at unit w (call_now plan call r s) ≤ price_at unit w (cost_of_call plan r call))
      × HasDevices plan (call_device plan call r s).devices
  call-priced = call-priced_by (tell_first plan) (telling_now plan) (cost_of_telling plan) telling-priced wanted-alike

  -- the devices of a mode
  devices-priced : (call : Call) (m : ModeId) (s : Machine) → ((state : DeviceState) → MayCome call state)
      → HasDevices plan s.devices
      → price_at unit w (each_now (call_device plan call) (call_now plan call) (rows_of plan (owners.Mode m)) s)
      ≤ price_at unit w (cost_of_devices plan call m)
  devices-priced call m s may has =
      (each-priced (call_device plan call) (call_now plan call) (λ r. cost_of_call plan r call)
      (λ r. r.0 < length plan.rows)
      (λ r t there d. call-priced call r t there d (may (device_at t r))) (rows_of plan (owners.Mode m))
      (rows_of-within plan (owners.Mode m)) s has).0

  -- ---- handlers

  target-priced : (owner : Owner) (t : Target) (s : Machine) → IsThere plan t → HasDevices plan s.devices
      → price_at unit w (target_now plan owner t s) ≤ price_at unit w (cost_of_target plan t)
  target-priced owner (Run l) s there has = list-priced owner l s has
  target-priced owner (Act r act) s there has = (call-priced (calls.Act act) r s there has tt).0
  target-priced owner _ s there has = omega arith

  handler-priced : (place : BindingId) (s : Machine) → HasDevices plan s.devices
      → price_at unit w (handler_now plan place s) ≤ price_at unit w (cost_of_handler plan place)
  handler-priced place s has = search (rules, target_now, target-priced, target-there)

  pub handlers-priced : (order : List BindingId) (s : Machine) → HasDevices plan s.devices
      → price_at unit w (each_now (do_handler plan) (handler_now plan) order s)
      ≤ price_at unit w (each_of (cost_of_handler plan) order)
  handlers-priced order s has =
      (each-priced (do_handler plan) (handler_now plan) (cost_of_handler plan) (λ p. Unit {0})
      (λ p t h k. (handler-priced p t k, has_devices-does plan (does-handler plan (λ owner. Unit {0}) ⊥ tt p t tt) k))
      order (λ i d there. tt) s has).0

  -- ---- the machine's work

  pub before-priced : (work : Work) (s : Machine) → HasDevices plan s.devices
      → price_at unit w (before_now plan work s) ≤ price_at unit w (cost_of_starts plan work)
  before-priced Nothing s has = omega arith
  before-priced (Mode m WillStart) s has = omega arith
  before-priced (Mode m Starting) s has = omega arith
  before-priced (Mode m Started) s has =
      omega (arith, devices-priced calls.ModeStart m (set_mode m (entered (mode_state s.modes m)) s) (λ state. tt) has)
  before-priced (Mode m Stopping) s has = omega arith
  before-priced (Mode m Stopped) s has = omega arith
  before-priced (Game which) s has = omega arith

  -- the coils that a mode holds are some of those that it may hold
  releases-priced : (m : ModeId) (cs : List CoilId) (s : Machine) → HasCoils plan s.coils
      → price_at unit w (each_now (release_coil (owners.Mode m)) (release_now plan m) cs s)
      ≤ length (filter (λ c. list_any (is_enable_of c) (actions_of plan (owners.Mode m))) cs)
  releases-priced m [] s has = omega arith
  releases-priced m (c ∷ cs) s has = by (λ t h. releases-priced m cs t h)
      (is_held_by (owners.Mode m) (coil_at s.coils c)) refl
    where
      owner : Owner
      owner = owners.Mode m

      enabled : CoilId → Bool
      enabled x = list_any (is_enable_of x) (actions_of plan owner)

      fewer : (b : Bool) → length (filter enabled cs) ≤ length (cond b (c ∷ filter enabled cs) (filter enabled cs))
      fewer true = omega arith
      fewer false = omega arith

      by : ((t : Machine) → HasCoils plan t.coils
          → price_at unit w (each_now (release_coil owner) (release_now plan m) cs t) ≤ length (filter enabled cs))
          → (held : Bool) → is_held_by owner (coil_at s.coils c) ≡ held
          → price_at unit w (if held then Lines 1 else Lines 0) + price_at unit w
          (each_now (release_coil owner) (release_now plan m) cs
          (if held then ask_coil owner (commands.Disable c) s else s))
          ≤ length (cond (enabled c) (c ∷ filter enabled cs) (filter enabled cs))
      by later true is =
          let rest = later (ask_coil owner (commands.Disable c) s)
          (asked-has_coils plan owner (commands.Disable c) s.moment s.coils tt has) in
          let found = ap (λ b. length (cond b (c ∷ filter enabled cs) (filter enabled cs))) (has.holding owner c is) in
          omega (arith, rest, found)
      by later false is = omega (arith, later s has, fewer (enabled c))

  -- ---- the game

  lines-each : (players : List ℕ) → price_at unit w (each_of (λ player. Lines 1) players) ≡ length players
  lines-each [] = refl
  lines-each (x ∷ players) = omega (arith, lines-each players)

  -- a line for each player is within a line for each that there can be
  finals-priced : (told : Bool) (s : Machine) → AreFew plan s.players
      → price_at unit w (finals_now plan told s) ≤ price_at unit w (Lines (if told then most_players plan.game else 0))
  finals-priced told s few = search (rules, lines-each, length-range_with_len)

  request-priced : (asks : Bool) (s : Machine) → HasDevices plan s.devices
      → price_at unit w (request_now plan asks s)
      ≤ price_at unit w (if asks then cost_of_telling plan (Wanted 1) else Lines 0)
  request-priced true s has = (telling-priced (Wanted 1) s has).0
  request-priced false s has = omega arith

  -- scores are told and a ball is asked for only if the event says so, and the posts are one of its choices, or none
  record IsChosen (which : GameEvent) (step : GameStep) : Type 0 where
    told : (k : ℕ) → (if step.finals then k else 0) ≤ (if tells_scores which then k else 0)
    requests : price_at unit w (if step.requests then cost_of_telling plan (Wanted 1) else Lines 0)
        ≤ price_at unit w (cost_of_request plan which)
    posts : price_at unit w (cost_of_choice plan step.posts)
        ≤ price_at unit w (dearest_of (cost_of_choice plan) (choices which))

  chosen : (game : Option GameRules) (which : GameEvent) (s : Machine)
      → IsChosen which (game_step game plan which (home_of plan s) s.game s.players)
  unfolding game_step
  chosen game which s = search rules

  -- the game's own step, with the posts that it makes
  step-priced : (which : GameEvent) (s : Machine) → HasDevices plan s.devices → AreFew plan s.players
      → price_at unit w (step_game_now plan which s)
      ≤ price_at unit w (cost_of_scores plan which)
      + (price_at unit w (cost_of_request plan which) + price_at unit w
      (cost_of_choice plan (step_now plan which s).posts))
  step-priced which s has few =
      search (rules, chosen, finals-priced, players_stay_few, request-priced, has_devices-does, does-finals)

  -- each multiball ends
  each_end-priced : (s : Machine) → HasDevices plan s.devices
      → price_at unit w (each_now (call_device plan (calls.Act End)) (call_now plan (calls.Act End))
      (multiball_rows plan) s) ≤ price_at unit w
      (each_of (λ r. cost_of_call plan r (calls.Act End)) (multiball_rows plan))
  each_end-priced s has =
      (each-priced (call_device plan (calls.Act End)) (call_now plan (calls.Act End))
      (λ r. cost_of_call plan r (calls.Act End)) (λ r. r.0 < length plan.rows)
      (λ r t there k. call-priced (calls.Act End) r t there k tt) (multiball_rows plan) (multiballs-within plan) s
      has).0

  -- A ball has drained that is not saved. If multiballs end, the game posts nothing.
  counted-priced : (e : EventId) → work_of plan e ≡ Game BallDrain → (s : Machine) → HasDevices plan s.devices
      → AreFew plan s.players → price_at unit w (drained_now plan None s)
      ≤ price_at unit w (cost_of_game plan (Game BallDrain))
  counted-priced e is s has few = by (in_play after.game == 1) refl
    where
      after : Machine
      after = step_game plan BallDrain s

      posts : price_at unit w (cost_of_choice plan (step_now plan BallDrain s).posts)
          ≤ price_at unit w (dearest_of (cost_of_choice plan) (choices BallDrain))
      posts = (chosen plan.game BallDrain s).posts

      by : (b : Bool) → (in_play after.game == 1) ≡ b
          → price_at unit w (step_game_now plan BallDrain s) + price_at unit w
          (if b then each_now (call_device plan (calls.Act End)) (call_now plan (calls.Act End))
          (multiball_rows plan) after else Lines 0) ≤ price_at unit w (cost_of_game plan (Game BallDrain))
      by x1 x2 = search (rules, last-posts, each_end-priced, after, has_devices-does, does-step, step-priced, posts)

  -- the first ball save that is active is one of those that may save it
  drained-priced : (e : EventId) → work_of plan e ≡ Game BallDrain → (s : Machine) → HasDevices plan s.devices
      → AreFew plan s.players
      → (o : Option RowId) → first_active_save plan s ≡ o
      → price_at unit w (drained_now plan o s) ≤ price_at unit w (cost_of_game plan (Game BallDrain))
  drained-priced e work s has few None is = counted-priced e work s has few
  drained-priced e work s has few (Some r) is =
      let first = first_active_save-is plan s r is in
      let saved = call-priced (calls.Act Save) r s first.there has tt in
      omega (arith, saved.0, dearest-of (λ q. cost_of_call plan q (calls.Act Save)) (save_rows plan) r first.membership)

  game-priced : (which : GameEvent) (e : EventId) → work_of plan e ≡ Game which → (s : Machine)
      → HasDevices plan s.devices → AreFew plan s.players
      → price_at unit w (game_now plan which s) ≤ price_at unit w (cost_of_game plan (Game which))
  game-priced which e work s has few = search
      (rules, drained_now, step_game_now, drain-is, drained-priced, chosen, step-priced)

  pub after-priced : (e : EventId) (work : Work) → work_of plan e ≡ work → (s : Machine) → HasDevices plan s.devices
      → HasCoils plan s.coils → AreFew plan s.players
      → price_at unit w (after_now plan work s)
      ≤ price_at unit w (cost_of_stops plan work)
      + (price_at unit w (cost_of_releases plan work)
      + (price_at unit w (cost_if_led (led_by plan work)) + price_at unit w (cost_of_game plan work)))
  after-priced e Nothing is s devices has few = omega arith
  after-priced e (Mode m WillStart) is s devices has few = omega arith
  after-priced e (Mode m Starting) is s devices has few = omega arith
  after-priced e (Mode m Started) is s devices has few = omega arith
  after-priced e (Mode m Stopping) is s devices has few =
      let turned = stops-turn plan (rows_of plan (owners.Mode m)) s in
      let same : (call_devices plan calls.ModeStop m s).coils ≡ s.coils = ap (λ (t : Machine). t.coils) turned.1 in
      let released = releases-priced m (coil_numbers plan) (call_devices plan calls.ModeStop m s)
      (subst (HasCoils plan) (sym same) has) in
      omega (arith, devices-priced calls.ModeStop m s (λ state. tt) devices, released)
  after-priced e (Mode m Stopped) is s devices has few = omega arith
  after-priced e (Game which) is s devices has few = let priced = game-priced which e is s devices few
      in omega (arith, priced)

  -- ---- stimuli

  -- if a device fires, it is one of the plan, and due
  abbrev pub IsFired : Machine → Stimulus → Type 0
  IsFired s (SwitchChange at n level) = Unit {0}
  IsFired s (Alarm at (switch n)) = Unit {0}
  IsFired s (Alarm at (device r)) = (r.0 < length plan.rows) × (source_due s (device r) ≡ Some at)
  IsFired s (Wait at) = Unit {0}

  -- the devices that listen to a switch, and its acceptance
  accepted-priced : (a : Change) (s : Machine) → HasDevices plan s.devices
      → price_at unit w (accepted_now plan a s) ≤ price_at unit w (cost_of_acceptance plan a.switch a.active)
  accepted-priced a s has =
      let begun = write owners.Machine (lines.Switch a.switch a.active) s in
      let listeners = each-priced (tell_listener plan a.active) (listener_now plan a.active)
      (cost_of_listener plan a.active) (λ l. l.row.0 < length plan.rows)
      (λ l t there k. call-priced (calls.Act (act_of_listener a.active l)) l.row t there k tt)
      (listeners_of plan a.switch) (listeners-within a.switch) begun has in
      omega (arith, listeners.0, playfield (tell_listeners plan a begun) listeners.1)
    where
      playfield : (t : Machine) → HasDevices plan t.devices
          → price_at unit w (playfield_now plan a t) ≤ price_at unit w (cost_of_playfield_switch plan a.switch a.active)
      playfield t k = by (a.active && (switch_at plan a.switch).confirms_playfield)
        where
          by : (b : Bool) → price_at unit w (if b then telling_now plan (Arrived Playfield) t else Lines 0)
              ≤ price_at unit w (if b then cost_of_telling plan (Arrived Playfield) else Lines 0)
          by true = (telling-priced (Arrived Playfield) t k).0
          by false = omega arith

      listeners-within : (n : SwitchId) → All (λ l. l.row.0 < length plan.rows) (listeners_of plan n)
      listeners-within n = search (rules, cases_lt, All-get_or, get_or_past, All-nil)

  if_accepted-priced : (o : Option Change) (s : Machine) → HasDevices plan s.devices
      → price_at unit w (if_accepted_now plan o s) ≤ price_at unit w (cost_if_accepted plan o)
  if_accepted-priced o s has = search (rules, accepted-priced)

  pub stimulus-priced : (stimulus : Stimulus) (s : Machine) → IsFired s stimulus → HasDevices plan s.devices
      → price_at unit w (stimulus_now plan stimulus s) ≤ price_at unit w (cost_of_stimulus plan s stimulus)
  stimulus-priced (SwitchChange at n level) s fired has = search (rules, if_accepted-priced)
  stimulus-priced (Alarm at (switch n)) s fired has =
      accepted-priced (report_change (accept n s.switches) n) (set_switches (accept n s.switches) (arrive at s)) has
  stimulus-priced (Alarm at (device r)) s fired has =
      (call-priced calls.Fire r (arrive at s) fired.0 has (subst IsSome (sym fired.1) refl)).0
  stimulus-priced (Wait at) s fired has = omega arith

  -- the alarm of a device of the plan is no dearer than the dearest stimulus
  pub fire-within_bound : (r : RowId) → r.0 < length plan.rows
      → price_at unit w (cost_of_call plan r calls.Fire) ≤ bound_at unit plan w
  fire-within_bound r there =
      let listed : r.0 < length (row_numbers plan) = omega (arith, there, length-rows plan) in
      let here = ap (λ (q : RowId). price_at unit w (cost_of_call plan q calls.Fire)) (row_of plan r.0 r there) in
      omega (arith, price-dearest unit w (λ q. cost_of_call plan q calls.Fire) (row_numbers plan) r.0 r listed, here)
