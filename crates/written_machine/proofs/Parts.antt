-- What each part of the machine does, and by which licence.
use Rattle.std.proofs.Common.{rules, ◌≡◌, ℕ, ℤ, ◌<◌, ◌≤◌, get_or, if◌then◌else◌, Bool, true, false, Option, Some, None}
use Rattle.std.proofs.Common.{List, length, refl, sym, subst, inl, inr, arith, suc, zero, ◌==◌}
use Rattle.std.specs.{List.{All, range_with_len}, Prelude.{◌&&◌, Contains}}
use Rattle.std.proofs.lemmas.{Bool.cases_lt, List.{get_or_past, Sorted.All-permutation}}
use Rattle.std.proofs.lemmas.List.Elements.{All-get_or, All-nil, filter_passes, Contains-get_or}
use Rattle.plan_tables.specs.PlanView.{PlanView, act_of_listener, actions_of, coil_numbers, listeners_of, no_row}
use Rattle.plan_tables.specs.PlanView.{no_switch, no_binding, switch_at, posts_of, actions_at, binding_at, is_owner}
use Rattle.plan_tables.specs.PlanView.{list_of_row, game_event, may_hold_ball_end, mode_event, row_at, row_numbers}
use Rattle.plan_tables.specs.PlanView.{rows_of, target_of, work_of, act_told, multiball_rows}
use Rattle.plan_tables.specs.Valid.{HasEntries, HasGame, IsEventWithin, IsActionWithin, IsTargetWithin, IsWorkAt}
use Rattle.plan_tables.specs.declared.entries.{EventId.EventId, ModeId.ModeId, ListId.ListId, CoilId.CoilId}
use Rattle.plan_tables.specs.{declared.entries.{SwitchId.SwitchId, BindingId.BindingId}, Devices.list_count}
use Rattle.plan_tables.specs.declared.entries.{Owner.Owner, Action.Action, VariableId.VariableId}
use Rattle.plan_tables.specs.declared.entries.ModeEvent.TheVariants.{WillStart, Starting, Started, Stopping, Stopped}
use Rattle.plan_tables.specs.declared.entries.Work.{Work, TheVariants.{Nothing, Mode, Game}}
use Rattle.plan_tables.specs.declared.entries.GameEvent.{GameEvent, TheVariants.{BallDrain, BallEnded}}
use Rattle.player_game.specs.GameStep.{ends_ball, is_ball_on, in_play, missing, more_balls}
use Rattle.player_game.specs.Players.{is_met, changed_to, after_change as players_after_change, score_of}
use Rattle.plan_tables.specs.declared.entries.Owner.TheVariants as owners
use Rattle.plan_tables.specs.declared.entries.Action.TheVariants.{Post, Pulse, Enable, Disable, AddBalls, Request}
use Rattle.plan_tables.specs.declared.entries.Action.TheVariants.{Change as ChangeVariable, Enter, Leave, Lose, Arrive}
use Rattle.plan_tables.specs.declared.entries.Target.{Target, TheVariants.{Run, Start, Stop, Act}}
use Rattle.plan_tables.specs.declared.devices.{RowId.RowId, Act.TheVariants.{End, Save}}
use Rattle.plan_tables.specs.declared.devices.BallTarget.TheVariants.{Playfield, Device}
use Rattle.ball_devices.specs.{declared.booking.Origin.{Origin, TheVariants.Awaited}, Ledger.origin_of}
use Rattle.ball_devices.specs.Bookings as calls_of_ledger
use Rattle.coil_guard.specs.declared.command.Command.TheVariants as commands
use Rattle.coil_guard.specs.{CoilStep.is_held_by, Coils.coil_at}
use Rattle.device_objects.{proofs.Lawful.lists_are_of_the_row, specs.declared.device.Call.Call}
use Rattle.device_objects.specs.declared.device.Call.TheVariants as calls
use Rattle.plan_tables.proofs.{Owners.is_owner-same, Worked.work_found}
use Rattle.switch_core.specs.{declared.change.Change.Change, SwitchStep.{change_level, fire_change}}
use Rattle.switch_core.specs.Switches.{kind_at, state_at, after_change, reported_by_change, accept, report_change}
use Rattle.mode_stack.specs.{ModeStep.{entered, ended}, Modes.mode_state}
use Rattle.written_machine.specs.declared.line.Happening.TheVariants as lines
use Rattle.cascade_rank.specs.Cost.{Cost, Lines, Both, each_of, cost_of_post, cost_of_drain, cost_of_binding}
use Rattle.cascade_rank.specs.Cost.{led_by_stopped, cost_if_led}
use Rattle.cascade_rank.proofs.{Games.{game_event-below, game_has-event}, Within.{posts-below, mode_event-within}}
use Rattle.event_queue.specs.Handlers.{IsHandlerOrder}
use Rattle.plan_tables.specs.declared.devices.Telling.{Telling, TheVariants.{Arrived, Wanted}}
use Rattle.written_machine.specs.Machine.{Machine, write, post, post_if, release_ball_end, drop_hold, ask_coil}
use Rattle.written_machine.specs.Machine.{release_coil, release_coils, set_switches, set_mode, set_device, set_players}
use Rattle.written_machine.specs.Machine.{all_do, tell_change, post_game, write_final, write_finals, do_game, book}
use Rattle.written_machine.specs.Machine.{drain_if, after_entry, do_action_by, do_list_by, do_answer_by, call_device_by}
use Rattle.written_machine.specs.Machine.{tell_nobody, told_device, tell_device, tell_first, do_list, do_answer}
use Rattle.written_machine.specs.Machine.{world_of, device_at, call_row, call_device, call_devices, tell_listener}
use Rattle.written_machine.specs.Machine.{tell_listeners, confirm_on_playfield, ask_ball, do_target, do_handler}
use Rattle.written_machine.specs.Machine.{do_accepted, do_if_accepted, want_balls, step_game, end_multiballs}
use Rattle.written_machine.specs.{Machine.{drain_ball, set_game}, Spent.{game_now, after_now, entry_now}}
use Rattle.written_machine.specs.EventStep.{do_before, do_after, handlers_in}
use Rattle.written_machine.specs.Run.{switch, device, Stimulus, SwitchChange, Alarm, Wait, moment_of, arrive, begin}
use Rattle.written_machine.specs.CoilActions.{KeepsLimits, ActionsKeepLimits}
use Rattle.written_machine.specs.Devices.{ActsAreOwn, IsOwnAct, IsOwnListener}
use Rattle.written_machine.specs.FreePosts.{IsFree, IsFreeAction, IsFreeSwitch, PostsAreFree}
use Rattle.written_machine.proofs.{Feeding.told_device-is, Does.{all_do-does, all_do-does_now, does-weaker}}
use Rattle.written_machine.proofs.Listed.{binding-among, row-among, enable-listed}
use Rattle.written_machine.specs.Spent.{each_now, wanted_now, action_now_by, list_now_by, answer_now_by, call_now_by}
use Rattle.written_machine.specs.Spent.{nobody_now, told_now, telling_now, list_now, answer_now, call_now, target_now}
use Rattle.written_machine.specs.Spent.{handler_now, calls_now, listener_now, listeners_now, playfield_now}
use Rattle.written_machine.specs.Spent.{accepted_now, if_accepted_now, stimulus_now, release_now, releases_now}
use Rattle.written_machine.specs.Spent.{before_now, finals_now, request_now, step_game_now, ends_now, drained_now}
use Rattle.written_machine.specs.Moves.{Move, Wrote, Sent, Switched, Began, Ended, Marked, Released, Turned, Asked}
use Rattle.written_machine.specs.Moves.{Booked, Varied, Stepped, AddedBalls, step_now, do_move, MayHold, Licence, MayDo}
use Rattle.written_machine.specs.Moves.{IsFreeThere, Does, quiet, one_move, both, less, IsMachine, ordinary, MayHandle}
use Rattle.written_machine.specs.Moves.{Begins, MayBegin, working, MayWork}
use Rattle.player_game.proofs.DrainEvent.{drain-is}

-- ---- what is in a plan

module _ (plan : PlanView) where
  -- what holds of every list holds of that of a number, as it holds of none
  of_list : (P : Action → Type 0) → All (All P) plan.lists → (l : ListId) → All P (actions_at plan l)
  of_list P all l = search (rules, cases_lt, All-get_or, get_or_past, All-nil)

  -- a switch posts events at which the machine itself does nothing
  posts-free : PostsAreFree plan → (n : SwitchId) (active : Bool) → All (IsFree plan) (posts_of plan n active)
  posts-free free n active = by active (elim (cases_lt n.0 (length plan.switches)) [
    | inl there ↦ All-get_or (IsFreeSwitch plan) plan.switches n.0 no_switch there free.switches
    | inr past ↦ subst (IsFreeSwitch plan) (sym (get_or_past plan.switches n.0 no_switch past))
        (All-nil (IsFree plan), All-nil (IsFree plan))
  ])
    where
      by : (a : Bool) → IsFreeSwitch plan (switch_at plan n) → All (IsFree plan) (posts_of plan n a)
      by x1 h = search rules

  -- if a binding starts or stops a mode or acts on a device, it is one of the plan
  abbrev pub IsThere : Target → Type 0
  IsThere (Run l) = Unit {0}
  IsThere (Start m) = m.0 < length plan.modes
  IsThere (Stop m) = m.0 < length plan.modes
  IsThere (Act r act) = r.0 < length plan.rows

  is_there : (t : Target) → IsTargetWithin plan t → IsThere t
  is_there t h = search rules

  pub target-there : HasEntries plan → (place : BindingId) → IsThere (binding_at plan place).target
  target-there entries place = search (rules, cases_lt, is_there, All-get_or, get_or_past)

  -- and the device is of the binding's owner
  target-own : ActsAreOwn plan → (place : BindingId)
      → IsOwnAct plan (binding_at plan place).owner (binding_at plan place).target
  target-own own place = search (rules, cases_lt, All-get_or, get_or_past)

  -- a device that listens to a switch is the machine's
  listener-own : ActsAreOwn plan → (n : SwitchId) → All (IsOwnListener plan) (listeners_of plan n)
  listener-own own n = search (rules, cases_lt, All-get_or, get_or_past, All-nil)

  -- ---- the actions of an owner

  -- if it is a mode, the action is among its own
  abbrev pub IsItsOwn : Owner → Action → Type 0
  IsItsOwn owners.Machine a = Unit {0}
  IsItsOwn (owners.Mode m) a = Contains (actions_of plan (owners.Mode m)) a

  its-own : (owner : Owner) (a : Action) → Contains (actions_of plan owner) a → IsItsOwn owner a
  its-own owner a there = search rules

  -- of a binding, those of the list that it runs
  binding-own : (place : BindingId) (l : ListId) → (binding_at plan place).target ≡ Run l
      → All (IsItsOwn (binding_at plan place).owner) (actions_at plan l)
  binding-own place l is k d there =
      elim (cases_lt place.0 (length plan.bindings)) [
        | inl within ↦
            its-own (binding_at plan place).owner (get_or (actions_at plan l) k d)
            (binding-among plan (binding_at plan place) l (get_or (actions_at plan l) k d)
            (Contains-get_or plan.bindings place.0 no_binding within) is
            (Contains-get_or (actions_at plan l) k d there))
        | inr past ↦ subst (λ b. IsItsOwn b.owner (get_or (actions_at plan l) k d))
            (sym (get_or_past plan.bindings place.0 no_binding past)) tt
      ]

  -- of a row, those of its lists
  row-own : (r : RowId) (n : ℕ) → n < list_count (row_at plan r).settings
      → All (IsItsOwn (row_at plan r).owner) (actions_at plan (list_of_row plan r n))
  row-own r n below k d there =
      elim (cases_lt r.0 (length plan.rows)) [
        | inl within ↦
            its-own (row_at plan r).owner (get_or (actions_at plan (list_of_row plan r n)) k d)
            (row-among plan r n (get_or (actions_at plan (list_of_row plan r n)) k d) within below
            (Contains-get_or (actions_at plan (list_of_row plan r n)) k d there))
        | inr past ↦ subst (λ row. IsItsOwn row.owner (get_or (actions_at plan (list_of_row plan r n)) k d))
            (sym (get_or_past plan.rows r.0 no_row past)) tt
      ]

  abbrev pub cost_of_handler : BindingId → Cost
  cost_of_handler place = cost_of_binding plan (binding_at plan place)

  -- what may be done by these owners, if the machine is one of them: ball devices are its own
  module _ (by : Owner → Type 0) (switches : Type 0) (machine : by owners.Machine) where
    abbrev May : Move → Type 0
    May = MayDo plan (ordinary plan by switches)

    -- ---- handlers

    record IsFit (owner : Owner) (a : Action) : Type 0 where
      within : HasEntries plan → IsActionWithin plan a
      free : PostsAreFree plan → IsFreeAction plan a
      limits : ActionsKeepLimits plan → KeepsLimits plan a
      own : IsItsOwn owner a

    may-hold : (owner : Owner) (coil : CoilId) (power : ℕ) → IsItsOwn owner (Enable coil power)
        → MayHold plan coil owner
    may-hold owners.Machine coil power is = tt
    may-hold (owners.Mode m) coil power is = enable-listed plan (owners.Mode m) coil power is

    -- a variable that has changed is told
    does-told : (owner : Owner) → (ActsAreOwn plan → by owner) → (player : ℕ) (v : VariableId) (e : EventId)
        → (HasEntries plan → e.0 < length plan.events) → IsFreeThere plan e → (value : Option ℤ) (s : Machine)
        → Does plan May (Both (Lines 1) (cost_of_post e)) s (tell_change owner player v e value s)
    does-told owner may player v e within free None s = less quiet (λ w. omega arith)
    does-told owner may player v e within free (Some value) s =
        both (one_move (Wrote owner (lines.Player player v value)) s (may, tt, tt, tt))
        (one_move (Sent owner e) (write owner (lines.Player player v value) s) (may, within, free))

    -- a ball that may have drained
    does-drain : (owner : Owner) → (ActsAreOwn plan → by owner) → (drain : Bool)
        → (HasEntries plan → 0 < length plan.events) → (HasEntries plan → drain ≡ true → HasGame plan) → (s : Machine)
        → Does plan May (cost_of_drain plan drain) s (drain_if plan owner drain s)
    does-drain owner may false some game s = quiet
    does-drain owner may true some game s = by_phase (is_ball_on s.game.phase)
      where
        by_phase : (b : Bool) → Does plan May (cost_of_drain plan true) s
            (if b then post owner (game_event plan BallDrain) s else s)
        by_phase true =
            one_move (Sent owner (game_event plan BallDrain)) s (
              may,
              (λ entries. game_event-below plan entries (some entries) BallDrain),
              λ valid free. inr (valid.game_works BallDrain (game valid.entries refl)),
            )
        by_phase false = less quiet (λ w. omega arith)

    module _ (tell : Telling → Machine → Machine) (now : Telling → Machine → Cost)
        (tells : (telling : Telling) (s : Machine) → Does plan May (now telling s) s (tell telling s)) where
      -- a ball that has entered a device
      does-entry : (owner : Owner) → (ActsAreOwn plan → by owner) → (r : RowId) (drain : Bool)
          → (HasEntries plan → 0 < length plan.events) → (HasEntries plan → drain ≡ true → HasGame plan)
          → (origin : Origin) (s : Machine)
          → Does plan May (entry_now plan tell now r drain origin s) s (after_entry plan tell owner r drain origin s)
      does-entry owner may r drain some game Awaited s = tells (Arrived (Device r)) s
      does-entry owner may r drain some game _ s = does-drain owner may drain some game s

      -- balls that are wanted, if any
      does-want : (n : ℕ) (s : Machine) → Does plan May (wanted_now plan tell now n s) s (want_balls tell n s)
      does-want zero s = quiet
      does-want (suc n) s = tells (Wanted (suc n)) s

      does-action_by : (owner : Owner) → (ActsAreOwn plan → by owner) → (a : Action) (s : Machine) → IsFit owner a
          → Does plan May (action_now_by plan tell now owner a s) s (do_action_by plan tell owner a s)
      does-action_by owner may (Post e) s h = one_move (Sent owner e) s (may, h.within, λ valid free. inl (h.free free))
      does-action_by owner may (Pulse coil ms power) s h =
          one_move (Asked owner (commands.Pulse coil ms power)) s (may, h.limits, tt)
      does-action_by owner may (Enable coil power) s h =
          one_move (Asked owner (commands.Enable coil power)) s (may, h.limits, may-hold owner coil power h.own)
      does-action_by owner may (Disable coil) s h = one_move (Asked owner (commands.Disable coil)) s (may, h.limits, tt)
      does-action_by owner may (ChangeVariable v action n e) s h =
          let value = changed_to plan v action n s.players in
          less (both (one_move (Varied v value) s tt)
          (does-told owner may s.players.current v e (λ entries. (h.within entries).1) (λ valid free. inl (h.free free))
          value (set_players (players_after_change plan v value s.players) s))) (λ w. omega arith)
      does-action_by owner may (Enter r e drain) s h =
          let booked = book owner (calls_of_ledger.Enter r) s in
          both (one_move (Booked owner (calls_of_ledger.Enter r)) s may)
          (both (one_move (Sent owner e) booked
          (may, (λ entries. (h.within entries).1), λ valid free. inl (h.free free)))
          (does-entry owner may r drain (λ entries. let there = (h.within entries).1 in omega (arith, there))
          (λ entries. (h.within entries).2) (origin_of r s.ledger) (post owner e booked)))
      does-action_by owner may (Leave r) s h =
          one_move (Booked owner (calls_of_ledger.Leave r (target_of plan r))) s may
      does-action_by owner may (Lose r) s h = one_move (Booked owner (calls_of_ledger.Lose r)) s may
      does-action_by owner may (Arrive r) s h =
          one_move (Booked owner (calls_of_ledger.Arrive (target_of plan r))) s may
      does-action_by owner may (Request n) s h = tells (Wanted n) s
      does-action_by owner may (AddBalls n) s h =
          both (one_move (AddedBalls n) s tt) (does-want (missing n s.game) (set_game (more_balls n s.game) s))

      does-list_by : (owner : Owner) → (ActsAreOwn plan → by owner) → (l : ListId)
          → All (IsItsOwn owner) (actions_at plan l) → (s : Machine)
          → Does plan May (list_now_by plan tell now owner l s) s (do_list_by plan tell owner l s)
      does-list_by owner may l own s =
          all_do-does_now plan May (do_action_by plan tell owner) (action_now_by plan tell now owner) (IsFit owner)
          (does-action_by owner may) (actions_at plan l)
          (λ k d there. record {
            within = λ entries. of_list (IsActionWithin plan) entries.lists l k d there;
            free = λ free. of_list (IsFreeAction plan) free.lists l k d there;
            limits = λ limits. of_list (KeepsLimits plan) limits l k d there;
            own = own k d there;
          }) s

      does-answer_by : (r : RowId) → (ActsAreOwn plan → by (row_at plan r).owner) → (lists : List ℕ)
          → All (λ k. k < list_count (row_at plan r).settings) lists → (s : Machine)
          → Does plan May (answer_now_by plan tell now r lists s) s (do_answer_by plan tell r lists s)
      does-answer_by r may lists below s = search (rules, all_do-does_now, does-list_by, row-own)

      does-call_by : (call : Call) (r : RowId) → (ActsAreOwn plan → by (row_at plan r).owner) → (s : Machine)
          → Does plan May (call_now_by plan tell now call r s) s (call_device_by plan tell call r s)
      does-call_by call r may s =
          both (one_move (Turned call r) s may)
          (does-answer_by r may (call_row plan call r s).1
          (lists_are_of_the_row (row_at plan r).settings call s.moment (world_of s) (device_at s r))
          (set_device r (call_row plan call r s).0 s))

    -- a device that is told something tells nobody
    does-told_call : (call : Call) (r : RowId) → (ActsAreOwn plan → by (row_at plan r).owner) → (s : Machine)
        → Does plan May (call_now_by plan tell_nobody (nobody_now plan) call r s) s
        (call_device_by plan tell_nobody call r s)
    does-told_call = does-call_by tell_nobody (nobody_now plan) (λ telling s. quiet)

    pub does-telling : (telling : Telling) (s : Machine)
        → Does plan May (telling_now plan telling s) s (tell_first plan telling s)
    does-telling telling s = by_first (told_device plan telling s) refl
      where
        by_first : (o : Option RowId) → told_device plan telling s ≡ o
            → Does plan May (told_now plan telling o s) s (tell_device plan telling o s)
        by_first None is = quiet
        by_first (Some r) is = does-told_call (calls.Act (act_told telling)) r
            (λ own. subst by (sym ((told_device-is plan telling s r is).owner own)) machine) s

    does-list : (owner : Owner) → (ActsAreOwn plan → by owner) → (l : ListId) → All (IsItsOwn owner) (actions_at plan l)
        → (s : Machine) → Does plan May (list_now plan owner l s) s (do_list plan owner l s)
    does-list = does-list_by (tell_first plan) (telling_now plan) does-telling

    -- what a device answers
    pub does-answer : (r : RowId) → (ActsAreOwn plan → by (row_at plan r).owner) → (lists : List ℕ)
        → All (λ k. k < list_count (row_at plan r).settings) lists → (s : Machine)
        → Does plan May (answer_now plan r lists s) s (do_answer plan r lists s)
    does-answer = does-answer_by (tell_first plan) (telling_now plan) does-telling

    -- a device of an owner by whom it may be
    pub does-call : (call : Call) (r : RowId) → (ActsAreOwn plan → by (row_at plan r).owner) → (s : Machine)
        → Does plan May (call_now plan call r s) s (call_device plan call r s)
    does-call = does-call_by (tell_first plan) (telling_now plan) does-telling

    does-target : (owner : Owner) → (ActsAreOwn plan → by owner) → (t : Target) → (HasEntries plan → IsThere t)
        → (ActsAreOwn plan → IsOwnAct plan owner t)
        → ((l : ListId) → t ≡ Run l → All (IsItsOwn owner) (actions_at plan l)) → (s : Machine)
        → Does plan May (target_now plan owner t s) s (do_target plan owner t s)
    does-target owner may (Run l) there own ran s = does-list owner may l (ran l refl) s
    does-target owner may (Start m) there own ran s = one_move (Began m) s there
    does-target owner may (Stop m) there own ran s = one_move (Ended m) s there
    does-target owner may (Act r act) there own ran s =
        does-call (calls.Act act) r (λ acts. subst by (sym (own acts)) (may acts)) s

    pub does-handler : (place : BindingId) (s : Machine) → by (binding_at plan place).owner
        → Does plan May (handler_now plan place s) s (do_handler plan place s)
    does-handler place s may = both (less quiet (λ w. omega arith))
        (if_met (is_met plan s.players (binding_at plan place).condition))
      where
        met : Does plan May (target_now plan (binding_at plan place).owner (binding_at plan place).target s) s
            (do_target plan (binding_at plan place).owner (binding_at plan place).target s)
        met = does-target (binding_at plan place).owner (λ own. may) (binding_at plan place).target
            (λ entries. target-there entries place) (λ own. target-own own place) (binding-own place) s

        if_met : (b : Bool) → Does plan May
            (if b then target_now plan (binding_at plan place).owner (binding_at plan place).target s else Lines 0) s
            (if b then do_target plan (binding_at plan place).owner (binding_at plan place).target s else s)
        if_met true = met
        if_met false = quiet

    pub does-handlers : (order : List BindingId) → All (λ p. by (binding_at plan p).owner) order → (s : Machine)
        → Does plan May (each_now (do_handler plan) (handler_now plan) order s) s (all_do (do_handler plan) order s)
    does-handlers order may s = all_do-does_now plan May (do_handler plan) (handler_now plan)
        (λ p. by (binding_at plan p).owner) does-handler order may s

    -- ---- switches

    does-posts : (owner : Owner) → (ActsAreOwn plan → by owner) → (es : List EventId)
        → (HasEntries plan → All (IsEventWithin (length plan.events)) es) → (PostsAreFree plan → All (IsFree plan) es)
        → (s : Machine) → Does plan May (each_of cost_of_post es) s (all_do (post owner) es s)
    does-posts owner may es within free s =
        all_do-does plan May (post owner) cost_of_post
        (λ e. (HasEntries plan → IsEventWithin (length plan.events) e) × IsFreeThere plan e)
        (λ e t h. one_move (Sent owner e) t (may, h.0, h.1)) es
        (λ k d there. (λ entries. within entries k d there, λ valid none. inl (free none k d there))) s

    -- the devices that listen
    does-listeners : (a : Change) (s : Machine) → Does plan May (listeners_now plan a s) s (tell_listeners plan a s)
    does-listeners a s =
        all_do-does_now plan May (tell_listener plan a.active) (listener_now plan a.active)
        (λ l. ActsAreOwn plan → IsOwnListener plan l)
        (λ l t h. does-call (calls.Act (act_of_listener a.active l)) l.row (λ own. subst by (sym (h own)) machine) t)
        (listeners_of plan a.switch)
        (λ k d there own. listener-own own a.switch k d there) s

    -- a ball that may have arrived on the playfield
    does-playfield : (a : Change) (s : Machine)
        → Does plan May (playfield_now plan a s) s (confirm_on_playfield plan a s)
    does-playfield a s = by_switch (a.active && (switch_at plan a.switch).confirms_playfield)
      where
        by_switch : (b : Bool) → Does plan May (if b then telling_now plan (Arrived Playfield) s else Lines 0) s
            (if b then tell_first plan (Arrived Playfield) s else s)
        by_switch true = does-telling (Arrived Playfield) s
        by_switch false = quiet

    -- an acceptance
    pub does-accepted : (a : Change) (s : Machine) → Does plan May (accepted_now plan a s) s (do_accepted plan a s)
    does-accepted a s =
        let begun = write owners.Machine (lines.Switch a.switch a.active) s in
        let heard = tell_listeners plan a begun in
        both (one_move (Wrote owners.Machine (lines.Switch a.switch a.active)) s (λ own. machine, tt, tt, tt))
        (both (does-listeners a begun)
        (both (does-playfield a heard)
        (does-posts owners.Machine (λ own. machine) (posts_of plan a.switch a.active)
        (λ entries. posts-below plan entries a.switch a.active) (λ free. posts-free free a.switch a.active)
        (confirm_on_playfield plan a heard))))

    pub does-if_accepted : (o : Option Change) (s : Machine)
        → Does plan May (if_accepted_now plan o s) s (do_if_accepted plan o s)
    does-if_accepted None s = quiet
    does-if_accepted (Some a) s = does-accepted a s

  -- the handlers of an event, from the state before them on
  pub does-order : (s : Machine) (e : EventId) (order : List BindingId)
      → IsHandlerOrder plan (handlers_in plan s e) order
      → Does plan (MayHandle plan s) (each_now (do_handler plan) (handler_now plan) order s) s
      (all_do (do_handler plan) order s)
  does-order s e order h = search (rules, does-handlers, All-permutation, filter_passes)

  -- what a stimulus does once it has arrived
  pub does-begin : (stimulus : Stimulus) (s : Machine)
      → Does plan (MayBegin plan stimulus) (stimulus_now plan stimulus s) (arrive (moment_of stimulus) s)
      (begin plan stimulus s)
  does-begin (SwitchChange at n level) s =
      less (both (one_move (Switched n (change_level (kind_at s.switches n) at level (state_at s.switches n)))
      (arrive at s) tt)
      (does-if_accepted IsMachine (Unit {0}) refl (reported_by_change n level at s.switches)
      (set_switches (after_change n level at s.switches) (arrive at s)))) (λ w. omega arith)
  does-begin (Alarm at (switch n)) s =
      less (both (one_move (Switched n (fire_change (kind_at s.switches n) (state_at s.switches n))) (arrive at s) tt)
      (does-accepted IsMachine (Unit {0}) refl (report_change (accept n s.switches) n)
      (set_switches (accept n s.switches) (arrive at s)))) (λ w. omega arith)
  does-begin (Alarm at (device r)) s = does-call (Begins plan (Alarm at (device r))) (Unit {0}) (inr refl) calls.Fire r
      (λ own. inl refl) (arrive at s)
  does-begin (Wait at) s = quiet

  -- ---- the machine's work

  -- the coils that a mode holds are released
  pub does-releases : (l : Licence) (m : ModeId) → (ActsAreOwn plan → l.by (owners.Mode m)) → (s : Machine)
      → Does plan (MayDo plan l) (releases_now plan m s) s (release_coils plan (owners.Mode m) s)
  does-releases l m may s =
      all_do-does_now plan (MayDo plan l) (release_coil (owners.Mode m)) (release_now plan m) (λ coil. Unit {0})
      (λ coil t h. one coil t (is_held_by (owners.Mode m) (coil_at t.coils coil))) (coil_numbers plan) (λ k d there. tt)
      s
    where
      one : (coil : CoilId) (t : Machine) (held : Bool)
          → Does plan (MayDo plan l) (if held then Lines 1 else Lines 0) t
          (if held then ask_coil (owners.Mode m) (commands.Disable coil) t else t)
      one coil t true = one_move (Asked (owners.Mode m) (commands.Disable coil)) t (may, (λ allowed. tt), tt)
      one coil t false = quiet

  -- the devices of a mode, of events at which the machine does nothing
  pub does-calls : (by : Owner → Type 0) → by owners.Machine → (call : Call) (m : ModeId) → by (owners.Mode m)
      → (s : Machine) → Does plan (MayDo plan (ordinary plan by ⊥)) (calls_now plan call m s) s
      (call_devices plan call m s)
  does-calls by machine call m may s =
      all_do-does_now plan (MayDo plan (ordinary plan by ⊥)) (call_device plan call) (call_now plan call)
      (λ r. is_owner (owners.Mode m) (row_at plan r).owner ≡ true)
      (λ r t h. does-call by ⊥ machine call r
      (λ own. subst by (is_owner-same (owners.Mode m) (row_at plan r).owner h) may) t)
      (rows_of plan (owners.Mode m)) (filter_passes (λ r. is_owner (owners.Mode m) (row_at plan r).owner)
      (row_numbers plan)) s

  -- what handlers may do, the machine may as its work
  works : {c : Cost} {s t : Machine} → Does plan (MayDo plan (ordinary plan (λ owner. Unit {0}) ⊥)) c s t
      → Does plan (MayWork plan) c s t
  works = search (rules, does-weaker)

  works-calls : (call : Call) (m : ModeId) (s : Machine)
      → Does plan (MayWork plan) (calls_now plan call m s) s (call_devices plan call m s)
  works-calls call m s = works (does-calls (λ owner. Unit {0}) tt call m tt s)

  pub does-before : (w : Work) (s : Machine) → Does plan (MayWork plan) (before_now plan w s) s (do_before plan w s)
  does-before Nothing s = quiet
  does-before (Mode m WillStart) s = quiet
  does-before (Mode m Starting) s = quiet
  does-before (Mode m Started) s = both (one_move (Marked m (entered (mode_state s.modes m))) s tt)
      (works-calls calls.ModeStart m (set_mode m (entered (mode_state s.modes m)) s))
  does-before (Mode m Stopping) s = quiet
  does-before (Mode m Stopped) s = quiet
  does-before (Game which) s = quiet

  -- the scores of all players are told, if this holds
  pub does-finals : (told : Bool) (s : Machine)
      → Does plan (MayWork plan) (finals_now plan told s) s (write_finals plan told s)
  does-finals true s =
      all_do-does plan (MayWork plan) (write_final plan) (λ player. Lines 1) (λ player. Unit {0})
      (λ player t h. one_move (Wrote owners.Machine (lines.Final player (score_of plan t.players player))) t
      (λ own. tt, tt, tt, tt))
      (range_with_len 1 (length s.players.players)) (λ k d there. tt) s
  does-finals false s = quiet

  pub does-request : (by : Owner → Type 0) → by owners.Machine → (asks : Bool) (s : Machine)
      → Does plan (MayDo plan (ordinary plan by ⊥)) (request_now plan asks s) s (ask_ball plan asks s)
  does-request by machine true s = does-telling by ⊥ machine (Wanted 1) s
  does-request by machine false s = quiet

  -- the game goes on by an event that has this work
  pub does-step : (which : GameEvent) (e : EventId) → work_of plan e ≡ Game which → (s : Machine)
      → Does plan (MayWork plan) (step_game_now plan which s) s (step_game plan which s)
  does-step which e is s =
      let step = step_now plan which s in
      let stepped = do_move plan (Stepped which) s in
      let written = write_finals plan step.finals stepped in
      both (one_move (Stepped which) s tt) (both (does-finals step.finals stepped)
      (both (works (does-request (λ owner. Unit {0}) tt step.requests written))
      (all_do-does plan (MayWork plan) (post_game plan) (λ other. cost_of_post (game_event plan other))
      (λ other. Unit {0})
      (λ other t h. one_move (Sent owners.Machine (game_event plan other)) t
      (λ own. tt, λ entries. game_event-below plan entries (game_has-event plan entries e which is) other, tt))
      step.posts (λ k d there. tt) (ask_ball plan step.requests written))))

  -- devices of any owners are told by the machine's work
  works-call : (call : Call) (r : RowId) (s : Machine)
      → Does plan (MayWork plan) (call_now plan call r s) s (call_device plan call r s)
  works-call call r s = works (does-call (λ owner. Unit {0}) ⊥ tt call r (λ own. tt) s)

  -- the multiballs end, if only one ball is left
  does-ends : (s : Machine) → Does plan (MayWork plan) (ends_now plan s) s (end_multiballs plan s)
  does-ends s = by (in_play s.game == 1)
    where
      by : (b : Bool) → Does plan (MayWork plan)
          (if b then each_now (call_device plan (calls.Act End)) (call_now plan (calls.Act End)) (multiball_rows plan) s
          else Lines 0) s
          (if b then all_do (call_device plan (calls.Act End)) (multiball_rows plan) s else s)
      by true = all_do-does_now plan (MayWork plan) (call_device plan (calls.Act End)) (call_now plan (calls.Act End))
          (λ r. Unit {0}) (λ r t h. works-call (calls.Act End) r t) (multiball_rows plan) (λ k d there. tt) s
      by false = quiet

  -- a ball has drained, which a ball save may save
  does-drained : (e : EventId) → work_of plan e ≡ Game BallDrain → (o : Option RowId) (s : Machine)
      → Does plan (MayWork plan) (drained_now plan o s) s (drain_ball plan o s)
  does-drained e is None s = both (does-step BallDrain e is s) (does-ends (step_game plan BallDrain s))
  does-drained e is (Some r) s = works-call (calls.Act Save) r s

  does-game : (which : GameEvent) (e : EventId) → work_of plan e ≡ Game which → (s : Machine)
      → Does plan (MayWork plan) (game_now plan which s) s (do_game plan which s)
  does-game which e is s = search (rules, does-drained, drain-is, does-step)

  -- a mode has stopped, and the ball may end
  does-release : (m : ModeId) (s : Machine) → m.0 < length plan.modes
      → Does plan (MayWork plan) (cost_if_led (led_by_stopped plan m)) s (release_ball_end plan m s)
  does-release m s there = by (may_hold_ball_end plan m)
    where
      some_event : HasEntries plan → 0 < length plan.events
      some_event entries = omega (arith, mode_event-within plan entries m Stopped there)

      ends : (b : Bool) (t : Machine) → Does plan (MayWork plan) (cost_of_post (game_event plan BallEnded)) t
          (post_if b (game_event plan BallEnded) t)
      ends true t = one_move (Sent owners.Machine (game_event plan BallEnded)) t
          (λ own. tt, λ entries. game_event-below plan entries (some_event entries) BallEnded, tt)
      ends false t = less quiet (λ w. omega arith)

      by : (holds : Bool) → Does plan (MayWork plan)
          (cost_if_led (if holds then Some (game_event plan BallEnded) else None)) s
          (if holds then post_if (ends_ball m s.game) (game_event plan BallEnded) (drop_hold m s) else s)
      by true = less (both (one_move (Released m) s tt) (ends (ends_ball m s.game) (drop_hold m s))) (λ w. omega arith)
      by false = quiet

  does-after_work : (kept : Bool) (w : Work) (e : EventId) → work_of plan e ≡ w → IsWorkAt plan e w → (s : Machine)
      → Does plan (MayWork plan) (after_now plan w s) s (do_after plan kept w s)
  does-after_work kept Nothing e is at s = quiet
  does-after_work kept (Mode m WillStart) e is at s =
      one_move (Sent owners.Machine (mode_event plan m Starting)) s
      (λ own. tt, λ entries. mode_event-within plan entries m Starting at.0, tt)
  does-after_work kept (Mode m Starting) e is at s =
      one_move (Sent owners.Machine (mode_event plan m Started)) s
      (λ own. tt, λ entries. mode_event-within plan entries m Started at.0, tt)
  does-after_work true (Mode m Started) e is at s = one_move (Ended m) s (λ entries. at.0)
  does-after_work false (Mode m Started) e is at s = less quiet (λ w. omega arith)
  does-after_work kept (Mode m Stopping) e is at s =
      let stopped = call_devices plan calls.ModeStop m s in
      let released = release_coils plan (owners.Mode m) stopped in
      both (works-calls calls.ModeStop m s)
      (both (does-releases working m (λ own. tt) stopped)
      (both (one_move (Marked m (ended (mode_state s.modes m))) released tt)
      (one_move (Sent owners.Machine (mode_event plan m Stopped)) (set_mode m (ended (mode_state s.modes m)) released)
      (λ own. tt, λ entries. mode_event-within plan entries m Stopped at.0, tt))))
  does-after_work kept (Mode m Stopped) e is at s = does-release m s at.0
  does-after_work kept (Game which) e is at s = does-game which e is s

  -- whether a stop was kept or not
  pub does-after : (kept : Bool) (e : EventId) (s : Machine)
      → Does plan (MayWork plan) (after_now plan (work_of plan e) s) s (do_after plan kept (work_of plan e) s)
  does-after kept e s = does-after_work kept (work_of plan e) e refl (work_found plan e) s

  -- there is no work beyond the events of the plan
  pub no_work-past : HasEntries plan → (e : EventId) → length plan.events ≤ e.0 → Nothing ≡ work_of plan e
  no_work-past entries e past = search (rules, work_found, game_event-below, game_has-event, mode_event-within)
