-- What the parts of the machine do with balls: a ball device is called, a ball has arrived on the playfield, or nothing
-- that concerns balls happens.
use Rattle.std.proofs.Common.{rules, ◌≡◌, ℕ, ℤ, ◌<◌, ◌==◌, ◌&&◌, inl, inr, ◌⊎◌, if◌then◌else◌, Bool, true, false}
use Rattle.std.proofs.Common.{Option, Some, None, List, [], ◌∷◌, ◌++◌, length, refl, ap, subst}
use Rattle.std.specs.List.{All, range_with_len}
use Rattle.std.proofs.lemmas.List.{append-nil, get_or_past, Sorted.All-permutation, Concat.flat_map-append}
use Rattle.std.proofs.lemmas.{Bool.cases_lt, List.FromFn.{length-range_with_len, get_or-range_with_len}}
use Rattle.std.proofs.lemmas.List.Elements.{All-contains, All-from_get_or, filter_passes}
use Rattle.std.proofs.lemmas.List.Elements.{All-head, All-tail, All-get_or, All-nil, All-map, All-filter}
use Rattle.plan_tables.specs.PlanView.{PlanView, act_of_listener, actions_at, binding_at, coil_numbers, game_event}
use Rattle.plan_tables.specs.PlanView.{is_owner, list_of_row, listeners_of, mode_event, places_of, posts_of, row_at}
use Rattle.plan_tables.specs.PlanView.{row_numbers, rows_of, switch_at, work_of, is_multiball, is_save, multiball_rows}
use Rattle.plan_tables.specs.{PlanView.save_rows, Devices.list_count, BallRows.{BookingsAreRight, IsPlain}}
use Rattle.plan_tables.specs.Valid.{HasEntries, IsListenerWithin, IsTargetWithin}
use Rattle.plan_tables.specs.declared.devices.BallTarget.TheVariants.{Playfield}
use Rattle.plan_tables.specs.declared.devices.Act.TheVariants as acts
use Rattle.plan_tables.specs.declared.devices.{BallSettings.BallSettings, RowId.RowId, Settings.Settings}
use Rattle.plan_tables.specs.declared.devices.Settings.TheVariants as kinds
use Rattle.plan_tables.specs.declared.entries.Action.{Action, TheVariants.{Post, Pulse, Enable, Disable}}
use Rattle.plan_tables.specs.declared.entries.{CoilId.CoilId, Owner.Owner, VariableId.VariableId}
use Rattle.plan_tables.specs.declared.entries.{ListId.ListId, EventId.EventId, Listener.Listener, ModeId.ModeId}
use Rattle.plan_tables.specs.declared.entries.Action.TheVariants.{Change as ChangeVariable, Request, AddBalls}
use Rattle.plan_tables.specs.declared.entries.{BindingId.BindingId, SwitchId.SwitchId}
use Rattle.plan_tables.specs.declared.entries.ModeEvent.TheVariants.{WillStart, Starting, Started, Stopping, Stopped}
use Rattle.plan_tables.specs.declared.entries.Owner.TheVariants as owners
use Rattle.plan_tables.specs.declared.entries.Target.{Target, TheVariants.{Run, Start, Stop, Act as ActOn}}
use Rattle.plan_tables.specs.declared.entries.Work.{Work, TheVariants.{Nothing, Mode, Game}}
use Rattle.cascade_rank.proofs.Rows.{rows-within}
use Rattle.coil_guard.specs.declared.command.{Answer.Answer, Command.Command}
use Rattle.coil_guard.specs.declared.command.Command.TheVariants as commands
use Rattle.coil_guard.specs.{Asked.{after_asking, answer_asking}, CoilStep.is_held_by, Coils.coil_at}
use Rattle.device_objects.proofs.Lawful.{lists_are_of_the_row}
use Rattle.device_objects.specs.declared.{device.Call.Call, state.DeviceState.DeviceState}
use Rattle.device_objects.specs.declared.device.Call.TheVariants as calls
use Rattle.event_queue.specs.{declared.queue.Posted.Posted, Handlers.{runs_at, handlers, IsHandlerOrder}}
use Rattle.mode_stack.specs.{ModeStep.{entered, ended}, Modes.{mode_state, running_of}}
use Rattle.player_game.specs.{Players.{is_met, score_of}, GameStep.{GameStep, missing, more_balls, in_play}}
use Rattle.plan_tables.specs.declared.entries.GameEvent.{GameEvent, TheVariants.BallDrain}
use Rattle.switch_core.specs.declared.change.Change.{Change}
use Rattle.written_machine.specs.{declared.line.Happening.Happening, EventStep.handlers_in}
use Rattle.written_machine.specs.{Devices.ActsAreOwn, Moves.step_now, SwitchLines.{change_at, changes_of}}
use Rattle.written_machine.specs.declared.line.Happening.TheVariants as lines
use Rattle.plan_tables.specs.BallRows.{BooksNothing, actions_in, BooksRightly, IsNoBallDevice, IsOffBalls}
use Rattle.written_machine.specs.EventStep.{take_event, do_before, do_after, is_kept, before_handlers, after_event}
use Rattle.plan_tables.specs.declared.devices.Telling.{Telling, TheVariants.{Arrived, Wanted}}
use Rattle.written_machine.specs.Machine.{Machine, write, post, set_mode, set_device, set_coils, set_players, set_game}
use Rattle.written_machine.specs.Machine.{all_do, release_ball_end, start_mode, stop_mode, answer_happening}
use Rattle.written_machine.specs.Machine.{ask_coil, release_coil, want_balls, step_game, drain_ball, do_game}
use Rattle.written_machine.specs.Machine.{release_coils, tell_change, do_action_by, do_list_by, world_of, device_at}
use Rattle.written_machine.specs.Machine.{call_row, tell_first, call_device, call_devices, do_target, do_handler}
use Rattle.written_machine.specs.Machine.{write_final, write_finals, ask_ball, do_step, tell_listener, tell_listeners}
use Rattle.written_machine.specs.Machine.{confirm_on_playfield, do_action, do_list, end_multiballs, first_active_save}
use Rattle.written_machine.proofs.Feeding.{multiballs-within, first_active_save-is}

-- ---- what does not concern balls

-- The ledger, the moment and each ball device are the same, no line of a switch is written, and nothing is left out.
pub record IsOther (plan : PlanView) (s t : Machine) : Type 0 where
  pub ledger : t.ledger ≡ s.ledger
  pub moment : t.moment ≡ s.moment
  pub count : length t.devices ≡ length s.devices
  pub balls : (r : RowId) (d : BallSettings) → (row_at plan r).settings ≡ kinds.BallDevice d
      → device_at t r ≡ device_at s r
  pub changes : (n : SwitchId) → changes_of n t.lines ≡ changes_of n s.lines
  pub kept : t.bookings_left_out ≡ s.bookings_left_out

-- The machine goes on by what does not concern balls, by such calls of ball devices, by arrivals on the playfield, and
-- by requests for balls.
pub data Plays (plan : PlanView) (may : Call → Type 0) : Machine → Machine → Type 0 where
  still : {s t : Machine} → IsOther plan s t → Plays plan may s t
  ball : (call : Call) (r : RowId) (d : BallSettings) (s : Machine) → r.0 < length plan.rows
      → (row_at plan r).settings ≡ kinds.BallDevice d → may call → Plays plan may s (call_device plan call r s)
  arrival : (s : Machine) → Plays plan may s (tell_first plan (Arrived Playfield) s)
  request : (n : ℕ) (s : Machine) → Plays plan may s (tell_first plan (Wanted n) s)
  both : {s m t : Machine} → Plays plan may s m → Plays plan may m t → Plays plan may s t

-- no ball device is called but by what it is told
abbrev pub IsNoCall : Call → Type 0
IsNoCall call = ⊥

-- the line is not that of a switch
abbrev pub IsNoChange : Happening → Type 0
IsNoChange (lines.Switch n active) = ⊥
IsNoChange _ = Unit {0}

no_change : (n : SwitchId) (moment : ℕ) (what : Happening) → IsNoChange what → change_at n moment what ++ [] ≡ []
no_change n moment what none = search rules

told-no_change : (command : Command) (answer : Answer) → IsNoChange (answer_happening command answer)
told-no_change command answer = search rules

-- whether a row is a ball device
pub is_ball : (settings : Settings) → ((d : BallSettings) × (settings ≡ kinds.BallDevice d)) ⊎ IsNoBallDevice settings
is_ball settings = search rules

save-no_ball : (settings : Settings) → is_save settings ≡ true → IsNoBallDevice settings
save-no_ball settings is = search rules

multiball-no_ball : (settings : Settings) → is_multiball settings ≡ true → IsNoBallDevice settings
multiball-no_ball settings is = search rules

pub not_both : (settings : Settings) (d : BallSettings) → settings ≡ kinds.BallDevice d → IsNoBallDevice settings → ⊥
not_both settings d is not = subst IsNoBallDevice is not

module _ (plan : PlanView) where
  -- two rows of one number are one
  pub one_row : (q r : RowId) → q.0 ≡ r.0 → (row_at plan q).settings ≡ (row_at plan r).settings
  one_row q r is = ap (λ (k : ℕ). (row_at plan (record { 0 = k })).settings) is

  pub nothing-other : (s : Machine) → IsOther plan s s
  nothing-other s =
      record { ledger = refl; moment = refl; count = refl; balls = λ r d is. refl; changes = λ n. refl; kept = refl }

  pub then-other : {s m t : Machine} → IsOther plan s m → IsOther plan m t → IsOther plan s t
  then-other a b = search rules

  pub same-other : (s t : Machine) → t.ledger ≡ s.ledger → t.moment ≡ s.moment → t.devices ≡ s.devices
      → t.lines ≡ s.lines
      → t.bookings_left_out ≡ s.bookings_left_out → IsOther plan s t
  same-other s t ledger moment devices lines_are kept = search rules

  pub write-other : (owner : Owner) (what : Happening) (s : Machine) → IsNoChange what
      → IsOther plan s (write owner what s)
  write-other owner what s none = search (rules, flat_map-append, no_change, append-nil)

  pub post-other : (owner : Owner) (e : EventId) (s : Machine) → IsOther plan s (post owner e s)
  post-other owner e s = same-other s (post owner e s) refl refl refl refl refl

  -- one after another
  pub all-other : {X : Type 0} (f : X → Machine → Machine) (Q : X → Type 0)
      → ((x : X) (s : Machine) → Q x → IsOther plan s (f x s))
      → (xs : List X) → All Q xs → (s : Machine) → IsOther plan s (all_do f xs s)
  all-other f Q each [] all s = nothing-other s
  all-other f Q each (x ∷ xs) all s =
      then-other (each x s (All-head Q x xs all)) (all-other f Q each xs (All-tail Q x xs all) (f x s))

  -- ---- actions

  ask-other : (owner : Owner) (command : Command) (s : Machine) → IsOther plan s (ask_coil owner command s)
  ask-other owner command s =
      let after = set_coils (after_asking command owner s.moment s.coils) s in
      then-other (same-other s after refl refl refl refl refl)
      (write-other owner (answer_happening command (answer_asking command owner s.moment s.coils)) after
      (told-no_change command (answer_asking command owner s.moment s.coils)))

  change-other : (owner : Owner) (player : ℕ) (v : VariableId) (e : EventId) (value : Option ℤ) (s : Machine)
      → IsOther plan s (tell_change owner player v e value s)
  change-other owner player v e None s = nothing-other s
  change-other owner player v e (Some value) s =
      then-other (write-other owner (lines.Player player v value) s tt)
      (post-other owner e (write owner (lines.Player player v value) s))

  -- an action that books nothing, and tells no other device anything
  pub action-other : (tell : Telling → Machine → Machine) (owner : Owner) (a : Action) (s : Machine) → IsPlain a
      → IsOther plan s (do_action_by plan tell owner a s)
  action-other confirm owner (Post e) s none = post-other owner e s
  action-other confirm owner (Pulse coil ms power) s none = ask-other owner (commands.Pulse coil ms power) s
  action-other confirm owner (Enable coil power) s none = ask-other owner (commands.Enable coil power) s
  action-other confirm owner (Disable coil) s none = ask-other owner (commands.Disable coil) s
  action-other confirm owner (ChangeVariable v action n e) s none = search (rules, then-other, same-other, change-other)
  action-other confirm owner _ s none = absurd none

  pub list-other : (tell : Telling → Machine → Machine) (owner : Owner) (l : ListId) → All IsPlain (actions_at plan l)
      → (s : Machine) → IsOther plan s (do_list_by plan tell owner l s)
  list-other tell owner l none s = search (rules, all-other, action-other)

  -- one after another
  pub all-play : {X : Type 0} {may : Call → Type 0} (f : X → Machine → Machine) (Q : X → Type 0)
      → ((x : X) (s : Machine) → Q x → Plays plan may s (f x s))
      → (xs : List X) → All Q xs → (s : Machine) → Plays plan may s (all_do f xs s)
  all-play f Q each [] all s = still (nothing-other s)
  all-play f Q each (x ∷ xs) all s = search
      (rules, both, All-head, All-tail, all-play f Q each xs (All-tail Q x xs all) (f x s))

  module _ (may : Call → Type 0) where
    -- balls that are wanted, if any
    want-plays : (n : ℕ) (s : Machine) → Plays plan may s (want_balls (tell_first plan) n s)
    want-plays x1 s = search (rules, still, nothing-other, request)

    -- an action that books nothing may ask for balls
    action-plays : (owner : Owner) (a : Action) (s : Machine) → BooksNothing a
        → Plays plan may s (do_action plan owner a s)
    action-plays owner (Post e) s none = still (action-other (tell_first plan) owner (Post e) s tt)
    action-plays owner (Pulse coil ms power) s none =
        still (action-other (tell_first plan) owner (Pulse coil ms power) s tt)
    action-plays owner (Enable coil power) s none =
        still (action-other (tell_first plan) owner (Enable coil power) s tt)
    action-plays owner (Disable coil) s none = still (action-other (tell_first plan) owner (Disable coil) s tt)
    action-plays owner (ChangeVariable v action n e) s none =
        still (action-other (tell_first plan) owner (ChangeVariable v action n e) s tt)
    action-plays owner (Request n) s none = request n s
    action-plays owner (AddBalls n) s none =
        let more = set_game (more_balls n s.game) s in
        both (still (same-other s more refl refl refl refl refl)) (want-plays (missing n s.game) more)
    action-plays owner _ s none = absurd none

    list-plays : (owner : Owner) (l : ListId) → All BooksNothing (actions_at plan l) → (s : Machine)
        → Plays plan may s (do_list plan owner l s)
    list-plays owner l none s = all-play (do_action plan owner) BooksNothing (action-plays owner) (actions_at plan l)
        none s

  -- ---- devices

  -- a device that is no ball device goes on to another state
  turned-other : (r : RowId) (state : DeviceState) (s : Machine) → IsNoBallDevice (row_at plan r).settings
      → IsOther plan s (set_device r state s)
  turned-other r state s not = search rules

  -- what such a row books
  books-nothing : (r : RowId) (settings : Settings) → IsNoBallDevice settings
      → BooksRightly r settings (actions_in plan r) → (k : ℕ) → k < list_count settings
      → All BooksNothing (actions_in plan r k)
  books-nothing r settings not books k below = search rules

  module _ (entries : HasEntries plan) (own : ActsAreOwn plan) (right : BookingsAreRight plan) where
    -- a device that is no ball device
    pub other-plays : (may : Call → Type 0) (call : Call) (r : RowId) (s : Machine) → r.0 < length plan.rows
        → IsNoBallDevice (row_at plan r).settings → Plays plan may s (call_device plan call r s)
    other-plays may call r s within not =
        let next = call_row plan call r s in
        both (still (turned-other r next.0 s not))
        (all-play (λ k. do_list plan (row_at plan r).owner (list_of_row plan r k))
        (λ k. k < list_count (row_at plan r).settings)
        (λ k t below. list-plays may (row_at plan r).owner (list_of_row plan r k)
        (books-nothing r (row_at plan r).settings not (right.rows r within) k below) t) next.1
        (lists_are_of_the_row (row_at plan r).settings call s.moment (world_of s) (device_at s r))
        (set_device r next.0 s))

    -- a ball device is the machine's
    no_mode_has_balls : (m : ModeId) (r : RowId) → r.0 < length plan.rows
        → is_owner (owners.Mode m) (row_at plan r).owner ≡ true
        → IsNoBallDevice (row_at plan r).settings
    no_mode_has_balls m r within its = search rules

    -- what a row of a mode is
    record IsOfMode (m : ModeId) (r : RowId) : Type 0 where
      its : is_owner (owners.Mode m) (row_at plan r).owner ≡ true
      within : r.0 < length plan.rows

    -- ---- targets

    start-other : (m : ModeId) (s : Machine) → IsOther plan s (start_mode plan m s)
    start-other m s = search rules

    stop-other : (m : ModeId) (s : Machine) → IsOther plan s (stop_mode plan m s)
    stop-other m s = search rules

    release-other : (m : ModeId) (s : Machine) → IsOther plan s (release_ball_end plan m s)
    release-other m s = search rules

    -- the places of handlers are those of bindings
    numbers-below : (n : ℕ) → All (λ k. k < n) (range_with_len 0 n)
    numbers-below n = search (rules, All-from_get_or, length-range_with_len, get_or-range_with_len)

    places-within : (e : EventId) → All (λ (p : BindingId). p.0 < length plan.bindings) (places_of plan e)
    places-within e = search (rules, All-map, All-filter, numbers-below)

    -- ---- the machine's work

    releases-other : (owner : Owner) (s : Machine) → IsOther plan s (release_coils plan owner s)
    releases-other owner s =
        all-other (release_coil owner) (λ coil. Unit {0})
        (λ coil t h. one coil t (is_held_by owner (coil_at t.coils coil)))
        (coil_numbers plan) (λ k d there. tt) s
      where
        one : (coil : CoilId) (t : Machine) (held : Bool)
            → IsOther plan t (if held then ask_coil owner (commands.Disable coil) t else t)
        one coil t true = ask-other owner (commands.Disable coil) t
        one coil t false = nothing-other t

    finals-other : (b : Bool) (s : Machine) → IsOther plan s (write_finals plan b s)
    finals-other true s =
        all-other (write_final plan) (λ player. Unit {0})
        (λ player t h. write-other owners.Machine (lines.Final player (score_of plan t.players player)) t tt)
        (range_with_len 1 (length s.players.players)) (λ k d there. tt) s
    finals-other false s = nothing-other s

    posts-other : {X : Type 0} (f : X → EventId) (xs : List X) (s : Machine)
        → IsOther plan s (all_do (λ x. post owners.Machine (f x)) xs s)
    posts-other f xs s =
        all-other (λ x. post owners.Machine (f x)) (λ x. Unit {0}) (λ x t h. post-other owners.Machine (f x) t) xs
        (λ k d there. tt) s

    module _ (may : Call → Type 0) where
      -- a device of the plan
      pub call-plays : (call : Call) (r : RowId) (s : Machine) → r.0 < length plan.rows → may call
          → Plays plan may s (call_device plan call r s)
      call-plays call r s within allowed =
          elim (is_ball (row_at plan r).settings) [
            | inl is ↦ ball call r is.0 s within is.1 allowed
            | inr not ↦ other-plays may call r s within not
          ]

      -- ---- switches

      listeners-within : (n : SwitchId) → All (IsListenerWithin (length plan.rows)) (listeners_of plan n)
      listeners-within n = search (rules, cases_lt, All-get_or, get_or_past, All-nil)

      pub listeners-play : (a : Change) (s : Machine) → ((l : Listener) → may (calls.Act (act_of_listener a.active l)))
          → Plays plan may s (tell_listeners plan a s)
      listeners-play a s allowed =
          all-play (tell_listener plan a.active) (IsListenerWithin (length plan.rows))
          (λ l t within. call-plays (calls.Act (act_of_listener a.active l)) l.row t within (allowed l))
          (listeners_of plan a.switch) (listeners-within a.switch) s

      -- what follows when the devices that listen have been told
      pub accepted-plays : (a : Change) (s : Machine)
          → Plays plan may s (all_do (post owners.Machine) (posts_of plan a.switch a.active)
          (confirm_on_playfield plan a s))
      accepted-plays a s =
          both (confirms (a.active && (switch_at plan a.switch).confirms_playfield))
          (still (posts-other (λ e. e) (posts_of plan a.switch a.active) (confirm_on_playfield plan a s)))
        where
          confirms : (b : Bool) → Plays plan may s (if b then tell_first plan (Arrived Playfield) s else s)
          confirms x1 = search (rules, arrival, still, nothing-other)

      -- ---- what is bound to events

      target-plays : (owner : Owner) (t : Target) (s : Machine) → IsOffBalls plan t → IsTargetWithin plan t
          → Plays plan may s (do_target plan owner t s)
      target-plays owner (Run l) s off within = list-plays may owner l off s
      target-plays owner (Start m) s off within = still (start-other m s)
      target-plays owner (Stop m) s off within = still (stop-other m s)
      target-plays owner (ActOn r act) s off within = other-plays may (calls.Act act) r s within off

      handler-plays : (place : BindingId) (s : Machine) → place.0 < length plan.bindings
          → Plays plan may s (do_handler plan place s)
      handler-plays place s within = by (is_met plan s.players (binding_at plan place).condition)
        where
          by : (met : Bool) → Plays plan may s
              (if met then do_target plan (binding_at plan place).owner (binding_at plan place).target s else s)
          by x1 = search (rules, target-plays, All-get_or, within, still, nothing-other)

      handlers-play : (s : Machine) (e : EventId) (order : List BindingId)
          → IsHandlerOrder plan (handlers_in plan s e) order
          → Plays plan may s (all_do (do_handler plan) order s)
      handlers-play s e order h =
          let within : BindingId → Type 0 = λ p. p.0 < length plan.bindings in
          all-play (do_handler plan) within handler-plays order
          (All-permutation within (handlers plan (running_of s.modes) e) order h.permutation
          (All-filter (runs_at plan (running_of s.modes)) within (places_of plan e) (places-within e))) s

      -- ---- modes

      devices-play : (call : Call) (m : ModeId) (s : Machine) → Plays plan may s (call_devices plan call m s)
      devices-play call m s =
          let test : RowId → Bool = λ r. is_owner (owners.Mode m) (row_at plan r).owner in
          let passes = filter_passes test (row_numbers plan) in
          let within = All-filter test (λ r. r.0 < length plan.rows) (row_numbers plan) (rows-within plan) in
          all-play (call_device plan call) (IsOfMode m)
          (λ r t of. other-plays may call r t of.within (no_mode_has_balls m r of.within of.its))
          (rows_of plan (owners.Mode m)) (λ k d there. record { its = passes k d there; within = within k d there }) s

      before-plays : (w : Work) (s : Machine) → Plays plan may s (do_before plan w s)
      before-plays Nothing s = still (nothing-other s)
      before-plays (Mode m WillStart) s = still (nothing-other s)
      before-plays (Mode m Starting) s = still (nothing-other s)
      before-plays (Mode m Started) s =
          let active = set_mode m (entered (mode_state s.modes m)) s in
          both (still (same-other s active refl refl refl refl refl)) (devices-play calls.ModeStart m active)
      before-plays (Mode m Stopping) s = still (nothing-other s)
      before-plays (Mode m Stopped) s = still (nothing-other s)
      before-plays (Game which) s = still (nothing-other s)

      -- ---- the game, and events

      ask-plays : (b : Bool) (s : Machine) → Plays plan may s (ask_ball plan b s)
      ask-plays x1 s = search (rules, request, still, nothing-other)

      step-plays : (step : GameStep) (s : Machine) → Plays plan may s (do_step plan step s)
      step-plays step s =
          let stepped = set_players step.players (set_game step.game s) in
          let finals = write_finals plan step.finals stepped in
          both (still (then-other (same-other s stepped refl refl refl refl refl) (finals-other step.finals stepped)))
          (both (ask-plays step.requests finals)
          (still (posts-other (game_event plan) step.posts (ask_ball plan step.requests finals))))

      -- ball saves and multiballs are no ball devices
      saves-play : (r : RowId) → r.0 < length plan.rows → is_save (row_at plan r).settings ≡ true → (s : Machine)
          → Plays plan may s (call_device plan (calls.Act acts.Save) r s)
      saves-play r within is s = other-plays may (calls.Act acts.Save) r s within
          (save-no_ball (row_at plan r).settings is)

      record IsMultiball (r : RowId) : Type 0 where
        within : r.0 < length plan.rows
        is : is_multiball (row_at plan r).settings ≡ true

      ends-play : (s : Machine) → Plays plan may s (end_multiballs plan s)
      ends-play s = by (in_play s.game == 1)
        where
          by : (b : Bool) → Plays plan may s
              (if b then all_do (call_device plan (calls.Act acts.End)) (multiball_rows plan) s else s)
          by true =
              let passes = filter_passes (λ r. is_multiball (row_at plan r).settings) (row_numbers plan) in
              all-play (call_device plan (calls.Act acts.End)) IsMultiball
              (λ r t of. other-plays may (calls.Act acts.End) r t of.within
              (multiball-no_ball (row_at plan r).settings of.is))
              (multiball_rows plan) (λ k d there.
              record { within = multiballs-within plan k d there; is = passes k d there }) s
          by false = still (nothing-other s)

      drained-plays : (s : Machine) (o : Option RowId) → first_active_save plan s ≡ o
          → Plays plan may s (drain_ball plan o s)
      drained-plays s None is = both (step-plays (step_now plan BallDrain s) s) (ends-play (step_game plan BallDrain s))
      drained-plays s (Some r) is =
          let first = first_active_save-is plan s r is in
          let saves = All-contains (λ q. is_save (row_at plan q).settings ≡ true) (save_rows plan) r
          (filter_passes (λ q. is_save (row_at plan q).settings) (row_numbers plan)) first.membership in
          saves-play r first.there saves s

      game-plays : (which : GameEvent) (s : Machine) → Plays plan may s (do_game plan which s)
      game-plays which s = search (rules, drained-plays, step-plays)

      after-plays : (kept : Bool) (w : Work) (s : Machine) → Plays plan may s (do_after plan kept w s)
      after-plays kept Nothing s = still (nothing-other s)
      after-plays kept (Mode m WillStart) s = still (post-other owners.Machine (mode_event plan m Starting) s)
      after-plays kept (Mode m Starting) s = still (post-other owners.Machine (mode_event plan m Started) s)
      after-plays true (Mode m Started) s = still (stop-other m s)
      after-plays false (Mode m Started) s = still (nothing-other s)
      after-plays kept (Mode m Stopping) s =
          let over = call_devices plan calls.ModeStop m s in
          let released = release_coils plan (owners.Mode m) over in
          let idle = set_mode m (ended (mode_state s.modes m)) released in
          both (devices-play calls.ModeStop m s) (still (then-other (releases-other (owners.Mode m) over)
          (then-other (same-other released idle refl refl refl refl refl)
          (post-other owners.Machine (mode_event plan m Stopped) idle))))
      after-plays kept (Mode m Stopped) s = still (release-other m s)
      after-plays kept (Game which) s = game-plays which s

      -- an event step
      pub event-plays : (first : Posted) (rest : List Posted) (order : List BindingId) (s : Machine)
          → IsHandlerOrder plan (handlers_in plan (before_handlers plan first rest s) first.event) order
          → Plays plan may s (after_event plan first rest order s)
      event-plays first rest order s in_order =
          let fewer : Machine = record s { waiting = rest } in
          let begun = take_event first rest s in
          let ready = before_handlers plan first rest s in
          let done = all_do (do_handler plan) order ready in
          both (still (then-other (same-other s fewer refl refl refl refl refl)
          (write-other first.owner (lines.Event first.event) fewer tt)))
          (both (before-plays (work_of plan first.event) begun)
          (both (handlers-play ready first.event order in_order)
          (after-plays (is_kept (work_of plan first.event) s) (work_of plan first.event) done)))
