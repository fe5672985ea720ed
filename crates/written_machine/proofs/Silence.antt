-- A mode that is stopped is silent, in every run: what the moves of handlers, the machine's works and the beginning of
-- a stimulus keep.
use Rattle.std.proofs.Common.{◌≡◌, ℕ, ◌<◌, ◌⊎◌, if◌then◌else◌, inl, inr, Some, Bool, true, false, ◌==◌, cond, List, []}
use Rattle.std.proofs.Common.{◌∷◌, ◌++◌, length, refl, ap, sym, subst, ◌∙◌, rules, Option, All, None}
use Rattle.std.{specs.List.range_with_len, proofs.lemmas.Bool.{cases_eq, eq-eqb, ne_eqb, cases_lt}}
use Rattle.std.proofs.lemmas.List.{get_or-replicate, length-replicate, length-set, get_or_past, get_or-map, length-map}
use Rattle.plan_tables.specs.PlanView.{PlanView, coil_numbers, game_event, may_hold_ball_end, is_owner, mode_event}
use Rattle.plan_tables.specs.PlanView.{row_at, rows_of, work_of, is_multiball, multiball_rows}
use Rattle.plan_tables.specs.Valid.{HasGame, IsValid, IsWorkAt}
use Rattle.plan_tables.specs.declared.{entries.{EventId.EventId, ModeId.ModeId}, devices.RowId.RowId}
use Rattle.plan_tables.specs.declared.entries.{ModeEvent.ModeEvent, Owner.Owner, CoilId.CoilId}
use Rattle.plan_tables.specs.declared.entries.ModeEvent.TheVariants.{WillStart, Starting, Started, Stopping, Stopped}
use Rattle.plan_tables.specs.declared.entries.Owner.TheVariants as owners
use Rattle.plan_tables.specs.declared.entries.Work.{Work, TheVariants.{Nothing, Mode, Game}}
use Rattle.plan_tables.specs.declared.entries.GameEvent.{GameEvent, TheVariants.{BallDrain, BallEnded}}
use Rattle.player_game.specs.{GameStep.{ends_ball, in_play}, Players.score_of, Choices.is_drain}
use Rattle.plan_tables.proofs.{Owners.rows_of-there, Holding.holds-game, Worked.work_found}
use Rattle.device_objects.specs.declared.{device.Call.Call, state.DeviceState.DeviceState}
use Rattle.device_objects.specs.declared.device.Call.TheVariants as calls
use Rattle.mode_stack.{specs.declared.phase.{Phase.Phase, ModeState.ModeState}, proofs.WhoRuns.starting_keeps_who_runs}
use Rattle.mode_stack.specs.declared.phase.Phase.TheVariants as phases
use Rattle.mode_stack.specs.{ModeStep.{in_phase, is_running, entered, ended}, Modes.{mode_state, running_of}}
use Rattle.cascade_rank.specs.Cost.{Cost}
use Rattle.event_queue.specs.{declared.queue.Posted.Posted, Handlers.takes_part, PlanOrder.by_priority}
use Rattle.event_queue.proofs.Sort.{by_priority-is_order}
use Rattle.written_machine.specs.{declared.line.Line.Line, Devices.ActsAreOwn}
use Rattle.written_machine.specs.declared.line.Happening.TheVariants as lines
use Rattle.written_machine.specs.{FreePosts.{IsFreeWork, PostsAreFree}, Silent.{HasStarted, IsSilent}}
use Rattle.written_machine.specs.Machine.{Machine, initial, post, set_mode, post_if, release_ball_end, drop_hold}
use Rattle.written_machine.specs.Machine.{post_game, write_final, write_finals, ask_ball, release_coil, release_coils}
use Rattle.written_machine.specs.Machine.{stop_mode, all_do, do_game, device_state, call_devices, do_handler, device_at}
use Rattle.written_machine.specs.Machine.{drain_ball, end_multiballs, step_game, first_active_save, call_device}
use Rattle.written_machine.specs.EventStep.{take_event, before_handlers, handlers_in, do_before, do_after}
use Rattle.written_machine.specs.Run.{device, source_due, Stimulus, moment_of, IsAllowed, arrive, begin, IsRun}
use Rattle.written_machine.specs.Moves.{Move, Wrote, Sent, Began, Ended, Marked, Released, Asked, Booked, do_move}
use Rattle.written_machine.specs.Moves.{MayDo, Does, TakesPart, IsMachine, Begins, ordinary, MayHandle}
use Rattle.written_machine.proofs.Does.{start-by, stop-by, book-by, does-keeps, off-has_coils}
use Rattle.written_machine.proofs.Parts.{does-calls, does-releases, does-request, does-order, does-begin, does-call}
use Rattle.written_machine.proofs.{Keeps.{step-keeps, run-keeps}, Feeding.first_active_save-is}
use Rattle.written_machine.proofs.Cycles.{mine, waiting_of, IsTurn, idle, turn-will_start, turn-starting, turn-started}
use Rattle.written_machine.proofs.Cycles.{turn-stopping, turn-stopped, stopping-runs}
use Rattle.written_machine.proofs.Hearing.{Said, written, all_written, awaited, all_awaited, heard_at, heard_after}
use Rattle.written_machine.proofs.Hearing.{heard, IsFine, heard-push, fine-push, heard-started, fine-silent}
use Rattle.written_machine.proofs.Speaking.{Holds, HoldsIn, heard_in, phase_in, IsRunning, takes-runs, runs-takes}
use Rattle.written_machine.proofs.Speaking.{own_state, other_state, wrote-holds, asked-holds, booked-holds}
use Rattle.written_machine.proofs.Speaking.{posted-holds, gamed-holds, own_post, own_set, own_change, other_post}
use Rattle.written_machine.proofs.Speaking.{other_set, start-holds, stop-holds, lines-push}
use Rattle.written_machine.proofs.{Inactive.{is_on, active-on, end-still}, Resting.{move-rests, IsQuietState}}
use Rattle.written_machine.proofs.{Alarms.{initial-devices, initial-quiet}, Held.{IsHolding, off-not, released-none}}
use Rattle.written_machine.proofs.Resting.{stops-turn, stops-quiet, Rests, running-rests, runs-rests, quiet-rests}
use Rattle.plan_tables.specs.declared.devices.Act.TheVariants as acts
use Rattle.std.proofs.lemmas.List.Elements.{All-tail, All-head, filter_passes}

-- ---- who runs does not change while handlers run

release-devices : (owner : Owner) (cs : List CoilId) (s : Machine)
    → (all_do (release_coil owner) cs s).devices ≡ s.devices
release-devices owner [] s = refl
release-devices owner (c ∷ cs) s = search (rules, release-devices owner cs (release_coil owner c s))

module _ (plan : PlanView) (by : Owner → Type 0) (switches : Type 0) where
  still-move : (x : Move) (s : Machine) → MayDo plan (ordinary plan by switches) x
      → running_of (do_move plan x s).modes ≡ running_of s.modes
  still-move x s may = search (rules, starting_keeps_who_runs, start-by, stop-by, book-by)

  pub still-does : {c : Cost} {s t : Machine} → Does plan (MayDo plan (ordinary plan by switches)) c s t
      → running_of t.modes ≡ running_of s.modes
  still-does {c} {s} {t} d =
      does-keeps plan (MayDo plan (ordinary plan by switches)) (λ u. running_of u.modes ≡ running_of s.modes)
      (λ x u may h. still-move x u may ∙ h) d refl

module _ (plan : PlanView) where
  -- nor does it while they run in plan order, nor at the beginning of a stimulus
  pub handlers-still : (s : Machine) (e : EventId)
      → running_of (all_do (do_handler plan) (by_priority plan (handlers_in plan s e)) s).modes ≡ running_of s.modes
  handlers-still s e = still-does plan (TakesPart s) ⊥
      (does-order plan s e (by_priority plan (handlers_in plan s e)) (by_priority-is_order plan (handlers_in plan s e)))

  pub begin-still : (stimulus : Stimulus) (s : Machine) → running_of (begin plan stimulus s).modes ≡ running_of s.modes
  begin-still stimulus s = still-does plan (Begins plan stimulus) (Unit {0}) (does-begin plan stimulus s)

-- an event of the mode is being handled until its work is done
abbrev pub still_due : ModeEvent → List ModeEvent
still_due WillStart = WillStart ∷ []
still_due Starting = Starting ∷ []
still_due Started = []
still_due Stopping = Stopping ∷ []
still_due Stopped = Stopped ∷ []

abbrev pub handled : ModeId → Work → List ModeEvent
handled m (Mode k which) = cond (k.0 == m.0) (still_due which) []
handled m _ = []

-- an event that may be posted is none of a mode's
free-mine : (m : ModeId) (w : Work) → IsFreeWork w ⊎ (w ≡ Game BallDrain) → mine m w [] ≡ []
free-mine m w x1 = search rules

module _ (plan : PlanView) (valid : IsValid plan) (free : PostsAreFree plan) (own : ActsAreOwn plan) (m : ModeId)
    (within : m.0 < length plan.modes) where
  -- the mode is heard only when it may be, and no device of it is due unless it runs
  abbrev Stays : List Line → List ModeEvent → Machine → Type 0
  Stays before front s = HoldsIn plan m before front s × Rests plan m s

  abbrev IsTaking : Machine → Type 0
  IsTaking s = takes_part (running_of s.modes) (owners.Mode m) ≡ true

  -- ---- moves

  module _ (before : List Line) (by : Owner → Type 0) (switches : Type 0) (running : List Bool)
      (runs : by (owners.Mode m) → takes_part running (owners.Mode m) ≡ true) where
    record IsKept (front : List ModeEvent) (s : Machine) : Type 0 where
      kept : HoldsIn plan m before front s
      rests : Rests plan m s
      still : running_of s.modes ≡ running

    takes : (front : List ModeEvent) (s : Machine) → IsKept front s → by (owners.Mode m) → IsTaking s
    takes front s h may = subst (λ (bs : List Bool). takes_part bs (owners.Mode m) ≡ true) (sym h.still) (runs may)

    own_runs : (front : List ModeEvent) (s : Machine) → IsKept front s → by (owners.Mode m) → IsRunning m s
    own_runs front s h may = takes-runs m s (length plan.modes) h.kept.count within (takes front s h may)

    move-holds : (front : List ModeEvent) (x : Move) (s : Machine) → MayDo plan (ordinary plan by switches) x
        → IsKept front s → HoldsIn plan m before front (do_move plan x s)
    move-holds front (Wrote owner what) s may h =
        wrote-holds plan valid m within before front owner what s may.1
        (λ is. own_runs front s h (subst by is (may.0 own))) h.kept
    move-holds front (Sent owner e) s may h =
        posted-holds plan valid m within before front owner e s (free-mine m (work_of plan e) (may.2 valid free))
        (λ is. own_runs front s h (subst by is (may.0 own))) h.kept
    move-holds front (Began k) s may h = start-holds plan valid m within before front k s (may valid.entries) h.kept
    move-holds front (Ended k) s may h = stop-holds plan valid m within before front k s (may valid.entries) h.kept
    move-holds front (Marked k state) s may h = absurd may
    move-holds front (Released k) s may h = absurd may
    move-holds front (Booked owner call) s may h =
        booked-holds plan valid m within before front owner call s (λ is. own_runs front s h (subst by is (may own)))
        h.kept
    move-holds front (Asked owner command) s may h =
        asked-holds plan valid m within before front owner command s
        (λ is. own_runs front s h (subst by is (may.0 own))) h.kept
    move-holds front _ s may h = record { count = h.kept.count; fine = h.kept.fine; holds = h.kept.holds }

    moves-hold : (front : List ModeEvent) (c : Cost) (s t : Machine)
        → Does plan (MayDo plan (ordinary plan by switches)) c s t → running_of s.modes ≡ running → Stays before front s
        → Stays before front t
    moves-hold front c s t d now h =
        let kept = does-keeps plan (MayDo plan (ordinary plan by switches)) (IsKept front)
        (λ x u may k. record {
          kept = move-holds front x u may k;
          rests = move-rests plan valid own m by switches x u may (takes front u k) k.rests;
          still = still-move plan by switches x u may ∙ k.still;
        }) d (record { kept = h.0; rests = h.1; still = now }) in
        (kept.kept, kept.rests)

  -- ---- single changes

  -- another mode has another state
  other_set-rests : (k : ModeId) (x : ModeState) (s : Machine) → length s.modes ≡ length plan.modes → (k.0 ≡ m.0 → ⊥)
      → Rests plan m s → Rests plan m (set_mode k x s)
  other_set-rests k x s count other h = record {
    devices = h.devices;
    rests = λ r due is armed. still (h.rests r due is armed);
    acts = λ r is on. still (h.acts r is on);
    count = h.count;
    holds = λ coil is. still (h.holds coil is);
  }
    where
      still : IsTaking s → IsTaking (set_mode k x s)
      still runs =
          runs-takes m (set_mode k x s) (length plan.modes) (length-set s.modes k.0 x ∙ count) within
          (subst (λ (y : ModeState). is_running y.phase ≡ true) (sym (other_state plan valid m within [] k x s other))
          (takes-runs m s (length plan.modes) count within runs))

  stop-rests : (k : ModeId) (s : Machine) → Rests plan m s → Rests plan m (stop_mode plan k s)
  stop-rests k s h = search (rules, starting_keeps_who_runs, stop-by, running-rests)

  post-rests : (e : EventId) (s : Machine) → Rests plan m s → Rests plan m (post owners.Machine e s)
  post-rests e s h = running-rests plan valid own m s (post owners.Machine e s) refl refl refl h

  -- the devices of a mode are called, of which the lines are not those of this one or may be heard
  calls-hold : (before : List Line) (front : List ModeEvent) (call : Call) (k : ModeId) (s : Machine)
      → (k.0 ≡ m.0 → IsTaking s) → Stays before front s → Stays before front (call_devices plan call k s)
  calls-hold before front call k s runs h =
      moves-hold before (λ owner. (owner ≡ owners.Mode k) ⊎ IsMachine owner) ⊥ (running_of s.modes) mode_runs front _ s
      (call_devices plan call k s)
      (does-calls plan (λ owner. (owner ≡ owners.Mode k) ⊎ IsMachine owner) (inr refl) call k (inl refl) s) refl h
    where
      number_of : Owner → ℕ
      number_of owners.Machine = 0
      number_of (owners.Mode i) = i.0

      mode_runs : (owners.Mode m ≡ owners.Mode k) ⊎ IsMachine (owners.Mode m) → IsTaking s
      mode_runs x1 = search (rules, runs, number_of)

  -- ---- the work after the handlers

  -- the devices of a mode stop, and the coils that it holds are released
  abbrev let_go : ModeId → Machine → Machine
  let_go k s = release_coils plan (owners.Mode k) (call_devices plan calls.ModeStop k s)

  let_go-devices : (k : ModeId) (s : Machine) → (let_go k s).devices ≡ (call_devices plan calls.ModeStop k s).devices
  let_go-devices k s = release-devices (owners.Mode k) (coil_numbers plan) (call_devices plan calls.ModeStop k s)

  let_go-holds : (before : List Line) (front : List ModeEvent) (k : ModeId) (s : Machine) → (k.0 ≡ m.0 → IsTaking s)
      → Stays before front s → Stays before front (let_go k s)
  let_go-holds before front k s runs h =
      let stopped = call_devices plan calls.ModeStop k s in
      let called = calls-hold before front calls.ModeStop k s runs h in
      let modes : stopped.modes ≡ s.modes =
      ap (λ (t : Machine). t.modes) (stops-turn plan (rows_of plan (owners.Mode k)) s).1 in
      moves-hold before (λ owner. owner ≡ owners.Mode k) ⊥ (running_of stopped.modes)
      (λ is. subst (λ (ms : List ModeState). takes_part (running_of ms) (owners.Mode m) ≡ true) (sym modes)
      (runs (sym (owner_number is)))) front _ stopped (let_go k s)
      (does-releases plan (ordinary plan (λ owner. owner ≡ owners.Mode k) ⊥) k (λ own. refl) stopped) refl called
    where
      number_of : Owner → ℕ
      number_of owners.Machine = 0
      number_of (owners.Mode i) = i.0

      owner_number : owners.Mode m ≡ owners.Mode k → m.0 ≡ k.0
      owner_number is = ap number_of is

  own_ended : (before : List Line) (s : Machine) → Stays before (Stopping ∷ []) s
      → Stays before [] (do_after plan true (Mode m Stopping) s)
  own_ended before s h =
      let runs = runs-takes m s (length plan.modes) h.0.count within
      (stopping-runs (phase_in m s) (waiting_of plan m s.waiting) h.0.holds.turns) in
      let gone = let_go m s in
      let kept = let_go-holds before (Stopping ∷ []) m s (λ same. runs) h in
      let devices = let_go-devices m s in (
        own_change plan valid m within before (Stopping ∷ []) [] Stopped (in_phase phases.Idle) gone kept.0
            (turn-stopping (phase_in m gone) (waiting_of plan m gone.waiting) kept.0.holds.turns)
            (λ r. absurd (search rules)),
        quiet-rests plan valid own m (do_after plan true (Mode m Stopping) s) kept.1.devices
            (λ r there is.
            subst (λ (ds : List DeviceState). IsQuietState plan (device_state ds r)) (sym devices)
            (stops-quiet plan (rows_of plan (owners.Mode m)) r s there h.1.devices
            (inl (rows_of-there plan (owners.Mode m) r there
            (subst (λ (o : Owner). is_owner (owners.Mode m) o ≡ true) (sym is) (eq-eqb m.0 m.0 refl))))))
            kept.1.count (λ coil. released-none (owners.Mode m) plan (call_devices plan calls.ModeStop m s)
            (ap (λ (t : Machine). length t.coils) (stops-turn plan (rows_of plan (owners.Mode m)) s).1 ∙ h.1.count)
            coil),
      )

  other_ended : (before : List Line) (k : ModeId) (s : Machine) → k.0 < length plan.modes → (k.0 ≡ m.0 → ⊥)
      → Stays before [] s → Stays before [] (do_after plan true (Mode k Stopping) s)
  other_ended before k s there other h =
      let gone = let_go k s in
      let kept = let_go-holds before [] k s (λ same. absurd (other same)) h in (
        other_post plan valid m within before [] k Stopped (set_mode k (ended (mode_state s.modes k)) gone) there other
            (other_set plan valid m within before [] k (ended (mode_state s.modes k)) gone other kept.0),
        post-rests (mode_event plan k Stopped) (set_mode k (ended (mode_state s.modes k)) gone)
            (other_set-rests k (ended (mode_state s.modes k)) gone kept.0.count other kept.1),
      )

  -- an event of the game is posted, which is none of the mode's
  post-stays : (before : List Line) → HasGame plan → (which : GameEvent) (s : Machine) → Stays before [] s
      → Stays before [] (post_game plan which s)
  post-stays before has which s h = (
    posted-holds plan valid m within before [] owners.Machine (game_event plan which) s
        (ap (λ (w : Work). mine m w []) (valid.game_works which has)) (λ is. absurd (search (rules, is))) h.0,
    post-rests (game_event plan which) s h.1,
  )

  -- a mode lets go of the end of the ball
  release-stays : (before : List Line) (k : ModeId) (s : Machine) → Stays before [] s
      → Stays before [] (release_ball_end plan k s)
  release-stays before k s h = by (may_hold_ball_end plan k) refl
    where
      gone : Stays before [] (drop_hold k s)
      gone = (
        gamed-holds plan valid m within before [] (drop_hold k s).game s h.0,
        running-rests plan valid own m s (drop_hold k s) refl refl refl h.1,
      )

      ends : HasGame plan → (b : Bool) → Stays before [] (post_if b (game_event plan BallEnded) (drop_hold k s))
      ends has true = post-stays before has BallEnded (drop_hold k s) gone
      ends has false = gone

      by : (holds : Bool) → may_hold_ball_end plan k ≡ holds
          → Stays before [] (if holds then post_if (ends_ball k s.game) (game_event plan BallEnded) (drop_hold k s) else
          s)
      by x1 is = search (rules, ends, holds-game)

  own_after : (before : List Line) (kept : Bool) (which : ModeEvent) (s : Machine) → Stays before (still_due which) s
      → Stays before [] (do_after plan kept (Mode m which) s)
  own_after before kept WillStart s h = (
    own_post plan valid m within before (WillStart ∷ []) [] Starting s h.0
        (turn-will_start (phase_in m s) (waiting_of plan m s.waiting) h.0.holds.turns),
    post-rests (mode_event plan m Starting) s h.1,
  )
  own_after before kept Starting s h = (
    own_post plan valid m within before (Starting ∷ []) [] Started s h.0
        (turn-starting (phase_in m s) (waiting_of plan m s.waiting) h.0.holds.turns),
    post-rests (mode_event plan m Started) s h.1,
  )
  own_after before true Started s h = (stop-holds plan valid m within before [] m s within h.0, stop-rests m s h.1)
  own_after before false Started s h = h
  own_after before kept Stopping s h = own_ended before s h
  own_after before kept Stopped s h = search (rules, release-stays, turn-stopped, phase_in, waiting_of)

  other_after : (before : List Line) (kept : Bool) (k : ModeId) (which : ModeEvent) (s : Machine)
      → k.0 < length plan.modes → (k.0 ≡ m.0 → ⊥) → Stays before [] s
      → Stays before [] (do_after plan kept (Mode k which) s)
  other_after before kept k WillStart s there other h = (
    other_post plan valid m within before [] k Starting s there other h.0,
    post-rests (mode_event plan k Starting) s h.1,
  )
  other_after before kept k Starting s there other h = (
    other_post plan valid m within before [] k Started s there other h.0,
    post-rests (mode_event plan k Started) s h.1,
  )
  other_after before true k Started s there other h =
      (stop-holds plan valid m within before [] k s there h.0, stop-rests k s h.1)
  other_after before false k Started s there other h = h
  other_after before kept k Stopping s there other h = other_ended before k s there other h
  other_after before kept k Stopped s there other h = release-stays before k s h

  -- ---- the game

  -- scores are told
  final-stays : (before : List Line) (player : ℕ) (s : Machine) → Stays before [] s
      → Stays before [] (write_final plan player s)
  final-stays before player s h = (
    wrote-holds plan valid m within before [] owners.Machine (lines.Final player (score_of plan s.players player)) s tt
        (λ is. absurd (search (rules, is))) h.0,
    running-rests plan valid own m s (write_final plan player s) refl refl refl h.1,
  )

  finals-stay : (before : List Line) (told : Bool) (s : Machine) → Stays before [] s
      → Stays before [] (write_finals plan told s)
  finals-stay before true s h = all_stay (range_with_len 1 (length s.players.players)) s h
    where
      all_stay : (players : List ℕ) (t : Machine) → Stays before [] t
          → Stays before [] (all_do (write_final plan) players t)
      all_stay [] t k = k
      all_stay (player ∷ players) t k = all_stay players (write_final plan player t) (final-stays before player t k)
  finals-stay before false s h = h

  -- the game's events are posted, none of which is the mode's
  posts-stay : (before : List Line) → HasGame plan → (posts : List GameEvent) (s : Machine) → Stays before [] s
      → Stays before [] (all_do (post_game plan) posts s)
  posts-stay before has [] s h = h
  posts-stay before has (which ∷ posts) s h =
      posts-stay before has posts (post_game plan which s) (post-stays before has which s h)

  -- a trough is asked for a ball
  request-stays : (before : List Line) (asks : Bool) (s : Machine) → Stays before [] s
      → Stays before [] (ask_ball plan asks s)
  request-stays before asks s h =
      moves-hold before IsMachine ⊥ (running_of s.modes) (λ is. absurd (search (rules, is))) [] _ s
      (ask_ball plan asks s) (does-request plan IsMachine refl asks s) refl h

  step-stays : (before : List Line) (which : GameEvent) (s : Machine) → HasGame plan → Stays before [] s
      → Stays before [] (step_game plan which s)
  step-stays before which s has h = search (rules, posts-stay, request-stays, finals-stay, running-rests)

  -- a ball save that is active is told to save, or a multiball that is running to end: if it is the mode's, that runs
  call-stays : (before : List Line) (call : Call) (r : RowId) (s : Machine) → is_on (device_at s r) ≡ true
      → Stays before [] s → Stays before [] (call_device plan call r s)
  call-stays before call r s on h =
      moves-hold before (λ owner. (owner ≡ (row_at plan r).owner) ⊎ IsMachine owner) ⊥ (running_of s.modes) runs [] _ s
      (call_device plan call r s)
      (does-call plan (λ owner. (owner ≡ (row_at plan r).owner) ⊎ IsMachine owner) ⊥ (inr refl) call r
      (λ owns. inl refl) s) refl h
    where
      runs : (owners.Mode m ≡ (row_at plan r).owner) ⊎ IsMachine (owners.Mode m) → IsTaking s
      runs x1 = search rules

  -- a multiball that is not running does nothing
  end-stays : (before : List Line) (r : RowId) → is_multiball (row_at plan r).settings ≡ true → (s : Machine)
      → Stays before [] s → Stays before [] (call_device plan (calls.Act acts.End) r s)
  end-stays before r is s h = search (rules, is_on, call-stays, end-still)

  ends-stay : (before : List Line) (s : Machine) → Stays before [] s → Stays before [] (end_multiballs plan s)
  ends-stay before s h = by (in_play s.game == 1)
    where
      all_stay : (rs : List RowId) → All (λ r. is_multiball (row_at plan r).settings ≡ true) rs → (t : Machine)
          → Stays before [] t → Stays before [] (all_do (call_device plan (calls.Act acts.End)) rs t)
      all_stay [] all t k = k
      all_stay (r ∷ rs) all t k =
          all_stay rs (All-tail (λ q. is_multiball (row_at plan q).settings ≡ true) r rs all)
          (call_device plan (calls.Act acts.End) r t)
          (end-stays before r (All-head (λ q. is_multiball (row_at plan q).settings ≡ true) r rs all) t k)

      by : (b : Bool) → Stays before [] (if b then all_do (call_device plan (calls.Act acts.End)) (multiball_rows plan)
          s else s)
      by x1 = search (rules, all_stay, filter_passes)

  drained-stays : (before : List Line) (s : Machine) → HasGame plan → (o : Option RowId) → first_active_save plan s ≡ o
      → Stays before [] s → Stays before [] (drain_ball plan o s)
  drained-stays before s has None is h = ends-stay before (step_game plan BallDrain s)
      (step-stays before BallDrain s has h)
  drained-stays before s has (Some r) is h =
      call-stays before (calls.Act acts.Save) r s (active-on (device_at s r) (first_active_save-is plan s r is).active)
      h

  game-stays : (before : List Line) (which : GameEvent) (s : Machine) → HasGame plan → Stays before [] s
      → Stays before [] (do_game plan which s)
  game-stays before which s has h = by (is_drain which)
    where
      by : (b : Bool) → Stays before [] (if b then drain_ball plan (first_active_save plan s) s else step_game plan
          which s)
      by true = drained-stays before s has (first_active_save plan s) refl h
      by false = step-stays before which s has h

  abbrev numbered : ℕ → ModeId
  numbered n = record { 0 = n }

  after_work : (before : List Line) (kept : Bool) (e : EventId) (w : Work) (s : Machine) → IsWorkAt plan e w
      → Stays before (handled m w) s → Stays before [] (do_after plan kept w s)
  after_work before kept e Nothing s at h = h
  after_work before kept e (Game which) s at h = game-stays before which s at.0 h
  after_work before kept e (Mode k which) s at h =
      elim (cases_eq k.0 m.0) [
        | inl same ↦
            subst (λ (n : ℕ). Stays before [] (do_after plan kept (Mode (numbered n) which) s)) (sym same)
            (own_after before kept which s
            (subst (λ (b : Bool). Stays before (cond b (still_due which) []) s) (eq-eqb k.0 m.0 same) h))
        | inr other ↦
            other_after before kept k which s at.0 other
            (subst (λ (b : Bool). Stays before (cond b (still_due which) []) s) (ne_eqb k.0 m.0 other) h)
      ]

  closes : (before : List Line) (first : Posted) (kept : Bool) (s : Machine)
      → Stays before (handled m (work_of plan first.event)) s
      → Stays before [] (do_after plan kept (work_of plan first.event) s)
  closes before first kept s h = after_work before kept first.event (work_of plan first.event) s
      (work_found plan first.event) h

  -- ---- the taking of an event, and the work before its handlers

  speaks_after : (which : ModeEvent) (p : Phase) (q : List ModeEvent) (on : Bool) → IsTurn p (which ∷ q)
      → (is_running p ≡ true → on ≡ true) → is_running p ≡ true → heard_at which on ≡ true
  speaks_after which p q on c h r = search rules

  own_before : (before : List Line) (which : ModeEvent) (s : Machine) (on : Bool)
      → heard_in plan m before s ≡ heard_at which on → Stays before (which ∷ []) s
      → Stays before (still_due which) (do_before plan (Mode m which) s)
  own_before before Started s on is h =
      let active = set_mode m (in_phase phases.Active) s in
      let holds = own_set plan valid m within before (Started ∷ []) [] (in_phase phases.Active) s h.0
      (turn-started (phase_in m s) (waiting_of plan m s.waiting) h.0.holds.turns) (λ r. is) in
      let runs : IsTaking active = runs-takes m active (length plan.modes) holds.count within
      (ap (λ (x : ModeState). is_running x.phase)
      (own_state plan valid m within before (in_phase phases.Active) s h.0.count)) in
      calls-hold before [] calls.ModeStart m active (λ same. runs)
      (holds, runs-rests plan valid own m active h.1.devices h.1.count runs)
  own_before before _ s on is h = h

  other_before : (before : List Line) (k : ModeId) (which : ModeEvent) (s : Machine) → (k.0 ≡ m.0 → ⊥)
      → Stays before [] s → Stays before [] (do_before plan (Mode k which) s)
  other_before before k Started s other h =
      let active = set_mode k (entered (mode_state s.modes k)) s in
      calls-hold before [] calls.ModeStart k active (λ same. absurd (other same)) (
        other_set plan valid m within before [] k (entered (mode_state s.modes k)) s other h.0,
        other_set-rests k (entered (mode_state s.modes k)) s h.0.count other h.1,
      )
  other_before before k _ s other h = h

  before_work : (before : List Line) (w : Work) (s : Machine) (on : Bool) → length s.modes ≡ length plan.modes
      → Rests plan m s → IsFine m false (all_written plan (before ++ s.lines))
      → heard_in plan m before s ≡ heard_after m on w
      → IsFine m (heard_after m on w) (all_awaited plan s.waiting)
      → IsTurn (phase_in m s) (mine m w (waiting_of plan m s.waiting)) → (IsRunning m s → on ≡ true)
      → Stays before (handled m w) (do_before plan w s)
  before_work before Nothing s on count rests fine is waits turns speaks = search rules
  before_work before (Game which) s on count rests fine is waits turns speaks = search rules
  before_work before (Mode k which) s on count rests fine is waits turns speaks =
      elim (cases_eq k.0 m.0) [
        | inl same ↦
            let now : heard_in plan m before s ≡ heard_at which on = is
            ∙ ap (λ (b : Bool). cond b (heard_at which on) on) (eq-eqb k.0 m.0 same) in
            let own_turn : IsTurn (phase_in m s) (which ∷ waiting_of plan m s.waiting) =
            subst (λ (b : Bool). IsTurn (phase_in m s)
            (cond b (which ∷ waiting_of plan m s.waiting) (waiting_of plan m s.waiting))) (eq-eqb k.0 m.0 same)
            turns in
            let here : HoldsIn plan m before (which ∷ []) s = record {
              count = count;
              fine = fine;
              holds = search (rules, all_awaited, speaks_after, phase_in, waiting_of);
            } in
            subst (λ (b : Bool). Stays before (cond b (still_due which) []) (do_before plan (Mode k which) s))
            (sym (eq-eqb k.0 m.0 same))
            (subst (λ (n : ℕ). Stays before (still_due which) (do_before plan (Mode (numbered n) which) s)) (sym same)
            (own_before before which s on now (here, rests)))
        | inr other ↦
            let now : heard_in plan m before s ≡ on = is
            ∙ ap (λ (b : Bool). cond b (heard_at which on) on) (ne_eqb k.0 m.0 other) in
            let here : HoldsIn plan m before [] s = record {
              count = count;
              fine = fine;
              holds = search (rules, all_awaited, phase_in, waiting_of, ne_eqb);
            } in
            subst (λ (b : Bool). Stays before (cond b (still_due which) []) (do_before plan (Mode k which) s))
            (sym (ne_eqb k.0 m.0 other)) (other_before before k which s other (here, rests))
      ]

  opens : (before : List Line) (first : Posted) (rest : List Posted) (s : Machine) → s.waiting ≡ first ∷ rest
      → Stays before [] s → Stays before (handled m (work_of plan first.event)) (before_handlers plan first rest s)
  opens before first rest s is h =
      let l : Line = record { moment = s.moment; owner = first.owner; happening = lines.Event first.event } in
      let on = heard_in plan m before s in
      let pushed = lines-push plan valid m within before s.lines l in
      let waits : IsFine m on (awaited plan first ∷ all_awaited plan rest) =
      subst (λ (q : List Posted). IsFine m on (all_awaited plan q)) is h.0.holds.waits in
      let turns : IsTurn (phase_in m s) (mine m (work_of plan first.event) (waiting_of plan m rest)) =
      subst (λ (q : List Posted). IsTurn (phase_in m s) (waiting_of plan m q)) is h.0.holds.turns in
      before_work before (work_of plan first.event) (take_event first rest s) on h.0.count
      (running-rests plan valid own m s (take_event first rest s) refl refl refl h.1)
      (subst (λ (xs : List Said). IsFine m false xs) (sym pushed)
      (fine-push m false (all_written plan (before ++ s.lines)) (written plan l) h.0.fine waits.0))
      (ap (heard m false) pushed ∙ heard-push m false (all_written plan (before ++ s.lines)) (written plan l)) waits.1
      turns h.0.holds.speaks

  handlers-hold : (before : List Line) (first : Posted) (c : Cost) (s t : Machine) → Does plan (MayHandle plan s) c s t
      → Stays before (handled m (work_of plan first.event)) s → Stays before (handled m (work_of plan first.event)) t
  handlers-hold before first c s t d h = moves-hold before (TakesPart s) ⊥ (running_of s.modes) (λ may. may)
      (handled m (work_of plan first.event)) c s t d refl h

  -- ---- stimuli, and runs

  arrived-holds : (before : List Line) (at : ℕ) (s : Machine) → HoldsIn plan m before [] s
      → HoldsIn plan m (before ++ s.lines) [] (arrive at s)
  arrived-holds before at s h = search rules

  -- if the mode speaks at the beginning of a stimulus, it runs: a device of it is due
  begins-runs : (stimulus : Stimulus) (s : Machine) → IsAllowed plan s stimulus → Rests plan m s
      → Begins plan stimulus (owners.Mode m) → IsTaking s
  begins-runs stimulus s allowed h x1 = search rules

  begins : (before : List Line) (stimulus : Stimulus) (s : Machine) → IsAllowed plan s stimulus → s.waiting ≡ []
      → Stays before [] s → Stays (before ++ s.lines) [] (begin plan stimulus s)
  begins before stimulus s allowed empty h =
      moves-hold (before ++ s.lines) (Begins plan stimulus) (Unit {0}) (running_of s.modes)
      (begins-runs stimulus s allowed h.1) [] _ (arrive (moment_of stimulus) s) (begin plan stimulus s)
      (does-begin plan stimulus s) refl (
        arrived-holds before (moment_of stimulus) s h.0,
        running-rests plan valid own m s (arrive (moment_of stimulus) s) refl refl refl h.1,
      )

  -- at first no ball save is active, and no multiball is running
  initial-off : (r : RowId) → is_on (device_at (initial plan) r) ≡ false
  initial-off r = search (rules, cases_lt, is_on, get_or-map, length-map, get_or_past)

  stays-initial : Stays [] [] (initial plan)
  stays-initial = (
    record {
      count = length-replicate (length plan.modes) (in_phase phases.Idle);
      fine = tt;
      holds = subst (λ (x : ModeState). Holds plan m false [] [] x.phase)
          (sym (get_or-replicate (length plan.modes) m.0 (in_phase phases.Idle) (in_phase phases.Idle) within))
          (record { waits = tt; turns = idle; speaks = λ r. absurd (search rules) });
    },
    quiet-rests plan valid own m (initial plan) (initial-devices plan)
        (λ r there is. (initial-quiet plan r, initial-off r)) (off-has_coils plan).count
        (λ coil. off-not plan (owners.Mode m) coil),
  )

  -- at the end of every run
  stays-run : (stimuli : List (Stimulus × ℕ)) (trace : List Line) (s : Machine)
      → IsRun plan stimuli (initial plan) trace s
      → (earlier : List Line) × Stays earlier [] s × (earlier ++ s.lines ≡ trace)
  stays-run stimuli trace s run =
      run-keeps plan (λ before. Stays before [])
      (λ before. step-keeps plan (λ earlier. Stays earlier [])
      (λ first earlier. Stays earlier (handled m (work_of plan first.event))) opens handlers-hold closes before)
      begins [] stimuli (initial plan) trace s run stays-initial

  silent-run : (stimuli : List (Stimulus × ℕ)) (trace : List Line) (s : Machine)
      → IsRun plan stimuli (initial plan) trace s
      → (before : List Line) (line : Line) (after : List Line) → trace ≡ before ++ line ∷ after
      → line.owner ≡ owners.Mode m → HasStarted plan m before
  silent-run stimuli trace s run = search (rules, stays-run, fine-silent, all_written)

  resting-run : (stimuli : List (Stimulus × ℕ)) (trace : List Line) (s : Machine)
      → IsRun plan stimuli (initial plan) trace s
      → (r : RowId) (due : ℕ) → (row_at plan r).owner ≡ owners.Mode m → source_due s (device r) ≡ Some due
      → HasStarted plan m trace
  resting-run stimuli trace s run r due is armed = search (rules, stays-run, takes-runs, heard-started, all_written)

  holding-run : (stimuli : List (Stimulus × ℕ)) (trace : List Line) (s : Machine)
      → IsRun plan stimuli (initial plan) trace s
      → (coil : CoilId) → IsHolding (owners.Mode m) s.coils coil → HasStarted plan m trace
  holding-run stimuli trace s run coil is = search (rules, stays-run, takes-runs, heard-started, all_written)

-- in every run of a valid plan that posts no event with work, but that of the start button, a stopped mode is silent
pub stopped_is_silent : (plan : PlanView) → IsValid plan → PostsAreFree plan → ActsAreOwn plan
    → (stimuli : List (Stimulus × ℕ)) (trace : List Line) (s : Machine) → IsRun plan stimuli (initial plan) trace s
    → IsSilent plan trace
stopped_is_silent plan valid free own stimuli trace s run m within =
    silent-run plan valid free own m within stimuli trace s run

-- and no device of it is due
pub stopped_is_resting : (plan : PlanView) → IsValid plan → PostsAreFree plan → ActsAreOwn plan
    → (stimuli : List (Stimulus × ℕ)) (trace : List Line) (s : Machine) → IsRun plan stimuli (initial plan) trace s
    → (m : ModeId) (r : RowId) (due : ℕ) → r.0 < length plan.rows → (row_at plan r).owner ≡ owners.Mode m
    → source_due s (device r) ≡ Some due → HasStarted plan m trace
stopped_is_resting plan valid free own stimuli trace s run m r due there is armed = search (rules, resting-run)

-- nor does it hold a coil
pub stopped_holds_nothing : (plan : PlanView) → IsValid plan → PostsAreFree plan → ActsAreOwn plan
    → (stimuli : List (Stimulus × ℕ)) (trace : List Line) (s : Machine) → IsRun plan stimuli (initial plan) trace s
    → (m : ModeId) (coil : CoilId) → m.0 < length plan.modes → IsHolding (owners.Mode m) s.coils coil
    → HasStarted plan m trace
stopped_holds_nothing plan valid free own stimuli trace s run m coil within is =
    holding-run plan valid free own m within stimuli trace s run coil is
