-- What one cost pays for: single changes of the machine, one after another, each by a licence.
use Rattle.std.proofs.Common.{rules, ◌≡◌, ◌&&◌, ℕ, ℤ, ◌+◌, ◌≤◌, ◌<◌, inl, inr, Option, Some, Bool, true, List, [], ◌∷◌}
use Rattle.std.proofs.Common.{◌++◌, length, length-append, slice_index_or, slice_set, if◌then◌else◌, map, refl, ap, sym}
use Rattle.std.proofs.{Common.{subst, ◌∙◌, arith}, lemmas.List.{set_past, Elements.{All-head, All-tail}}}
use Rattle.std.proofs.lemmas.{Bool.{cases_eq, cases_lt, false≢true}, Option.none-some}
use Rattle.std.specs.List.{All, AllByRecursion}
use Rattle.std.proofs.lemmas.List.{length-map, length-set, get_or-map, get_or_past, get_or-set_same, get_or-set_other}
use Rattle.plan_tables.specs.PlanView.{PlanView, may_hold_ball_end, mode_event, no_row, row_at}
use Rattle.plan_tables.specs.{Valid.HasEntries, declared.entries.{EventId.EventId, ModeId.ModeId}}
use Rattle.plan_tables.specs.declared.entries.ModeEvent.TheVariants.{WillStart, Stopping}
use Rattle.plan_tables.{specs.declared.devices.{RowId.RowId, BallTarget.BallTarget}, proofs.Owners.is_owner-same}
use Rattle.plan_tables.specs.declared.entries.{Owner.Owner, CoilId.CoilId, VariableId.VariableId}
use Rattle.plan_tables.specs.declared.entries.Owner.TheVariants as owners
use Rattle.device_objects.specs.declared.{device.Call.Call, state.DeviceState.DeviceState}
use Rattle.device_objects.specs.{DeviceStep.{due_of, first_state}, Laws.HasShape}
use Rattle.device_objects.proofs.Lawful.{states_keep_their_shape}
use Rattle.mode_stack.specs.{declared.phase.ModeState.ModeState, Modes.{needs_game, mode_state}}
use Rattle.mode_stack.specs.ModeStep.{starts, after_start, after_stop, stop_answer}
use Rattle.player_game.{specs.GameStep.{GameState, held_if, release, more_balls}, proofs.StayFew.players_stay_few}
use Rattle.player_game.specs.{Players.{PlayersState, after_change}, Choices.AreFew}
use Rattle.cascade_rank.{proofs.Within.mode_event-within, specs.Cost.{Cost, price, each_of}}
use Rattle.switch_core.specs.Switches.{all_idle}
use Rattle.event_queue.specs.declared.queue.Posted.{Posted}
use Rattle.coil_guard.specs.declared.{command.Command.Command, state.CoilState.CoilState}
use Rattle.coil_guard.specs.declared.command.Command.TheVariants as commands
use Rattle.coil_guard.specs.CoilStep.{off, is_held_by, takes_enable, enabled}
use Rattle.coil_guard.specs.{Coils.{all_off, coil_at, set_coil}, Limits.no_limits, Asked.{limits_of, after_asking}}
use Rattle.ball_devices.specs.{declared.booking.Origin.Origin, Ledger.{Ledger, set_transit}}
use Rattle.ball_devices.specs.Ledger as ledgers
use Rattle.ball_devices.specs.Bookings.{LedgerCall, after_call, booking_of, can_book}
use Rattle.written_machine.specs.declared.line.Happening.TheVariants as lines
use Rattle.written_machine.specs.Machine.{Machine, write, post, set_ledger, counts_of, leave_out, book, set_mode}
use Rattle.written_machine.specs.Machine.{set_game, has_game, is_post, post_if, start_mode, stop_mode, all_do, world_of}
use Rattle.written_machine.specs.Machine.{device_state, device_at, call_row}
use Rattle.written_machine.specs.{Devices.HasDevices, Spent.each_now, StimulusCost.weigh}
use Rattle.written_machine.specs.Moves.{Move, Wrote, Sent, Switched, Began, Ended, Marked, Released, Turned, Asked}
use Rattle.written_machine.specs.Moves.{Booked, Varied, Stepped, AddedBalls, do_move, cost_of_move, MayHold, IsListed}
use Rattle.written_machine.specs.Moves.{Licence, MayDo, Does, quiet, one_move, both, less, Grows}

module _ (plan : PlanView) (may : Move → Type 0) where
  -- what each allowed move keeps, they all keep
  pub does-keeps : (Inv : Machine → Type 0) → ((x : Move) (s : Machine) → may x → Inv s → Inv (do_move plan x s))
      → {c : Cost} {s t : Machine} → Does plan may c s t → Inv s → Inv t
  does-keeps Inv moves quiet h = h
  does-keeps Inv moves (one_move x s allowed) h = moves x s allowed h
  does-keeps Inv moves (both a b) h = does-keeps Inv moves b (does-keeps Inv moves a h)
  does-keeps Inv moves (less a fewer) h = does-keeps Inv moves a h

  -- what is allowed by one licence may be by another
  pub does-weaker : (other : Move → Type 0) → ((x : Move) → may x → other x) → {c : Cost} {s t : Machine}
      → Does plan may c s t → Does plan other c s t
  does-weaker other weaker quiet = quiet
  does-weaker other weaker (one_move x s allowed) = one_move x s (weaker x allowed)
  does-weaker other weaker (both a b) = both (does-weaker other weaker a) (does-weaker other weaker b)
  does-weaker other weaker (less a fewer) = less (does-weaker other weaker a) fewer

  -- if each does its own cost, all do the costs together
  pub all_do-does : {X : Type 0} (f : X → Machine → Machine) (cost : X → Cost) (P : X → Type 0)
      → ((x : X) (s : Machine) → P x → Does plan may (cost x) s (f x s)) → (xs : List X) → All P xs → (s : Machine)
      → Does plan may (each_of cost xs) s (all_do f xs s)
  all_do-does f cost P each [] h s = quiet
  all_do-does f cost P each (x ∷ xs) h s =
      both (each x s (All-head P x xs h)) (all_do-does f cost P each xs (All-tail P x xs h) (f x s))

  -- if what each costs depends on the state that it finds
  pub all_do-does_now : {X : Type 0} (f : X → Machine → Machine) (cost : X → Machine → Cost) (P : X → Type 0)
      → ((x : X) (s : Machine) → P x → Does plan may (cost x s) s (f x s)) → (xs : List X) → All P xs → (s : Machine)
      → Does plan may (each_now f cost xs s) s (all_do f xs s)
  all_do-does_now f cost P each [] h s = quiet
  all_do-does_now f cost P each (x ∷ xs) h s =
      both (each x s (All-head P x xs h)) (all_do-does_now f cost P each xs (All-tail P x xs h) (f x s))

-- what holds whether an event is posted or not
pub post_if-by : (P : Machine → Type 0) (e : EventId) (s : Machine) → P (post owners.Machine e s) → P s → (b : Bool)
    → P (post_if b e s)
post_if-by P e s posted not b = search rules

module _ (plan : PlanView) (m : ModeId) (s : Machine) where
  -- a mode that is told to start, and its event
  abbrev pub begun_mode : Machine
  begun_mode =
      set_game (held_if (starts (needs_game plan m) (has_game s) (mode_state s.modes m).phase
      && may_hold_ball_end plan m) m s.game)
      (set_mode m (after_start (needs_game plan m) (has_game s) (mode_state s.modes m)) s)

  pub start-by : (P : Machine → Type 0) → P (post owners.Machine (mode_event plan m WillStart) begun_mode)
      → P begun_mode → P (start_mode plan m s)
  start-by P posted not = post_if-by P (mode_event plan m WillStart) begun_mode posted not
      (starts (needs_game plan m) (has_game s) (mode_state s.modes m).phase)

  -- or to stop
  abbrev pub ended_mode : Machine
  ended_mode = set_mode m (after_stop (mode_state s.modes m)) s

  pub stop-by : (P : Machine → Type 0) → P (post owners.Machine (mode_event plan m Stopping) ended_mode) → P ended_mode
      → P (stop_mode plan m s)
  stop-by P posted not = post_if-by P (mode_event plan m Stopping) ended_mode posted not
      (is_post (stop_answer (mode_state s.modes m).phase))

module _ (owner : Owner) (call : LedgerCall) (s : Machine) where
  -- something is booked, if it may be, and there is a line
  abbrev pub booked_now : Machine
  booked_now = write owner (lines.Balls (booking_of call s.ledger) (counts_of (after_call call s.ledger)))
      (set_ledger (after_call call s.ledger) s)

  pub book-by : (P : Machine → Type 0) → (can_book call s.ledger ≡ true → P booked_now) → P (leave_out s)
      → P (book owner call s)
  book-by P here not = search rules

-- as many balls are known after a booking, or more
transit-known : (target : BallTarget) (n : ℕ) (l : Ledger) → (set_transit target n l).known ≡ l.known
transit-known x1 n l = search rules

entered-known : (d : RowId) (o : Origin) (l : Ledger) → l.known ≤ (ledgers.take_ball d o l).known
entered-known d x2 l = search rules

call-known : (call : LedgerCall) (l : Ledger) → l.known ≤ (after_call call l).known
call-known x1 l = search (rules, transit-known, entered-known)

pub none-grows : (s : Machine) → Grows s s
none-grows s = record { lines = omega arith; waiting = omega arith; known = omega arith; bookings = omega arith }

pub then-grows : {s t u : Machine} → Grows s t → Grows t u → Grows s u
then-grows g h = record {
  lines = let a = g.lines in let b = h.lines in omega (arith, a, b);
  waiting = let a = g.waiting in let b = h.waiting in omega (arith, a, b);
  known = let a = g.known in let b = h.known in omega (arith, a, b);
  bookings = let a = g.bookings in let b = h.bookings in omega (arith, a, b);
}

-- ---- the potential grows by no more than the cost

-- lines so far, and the weights of the waiting events
abbrev pub potential : (EventId → ℕ) → Machine → ℕ
potential w s = length s.lines + weigh w s.waiting

pub weigh-append : (w : EventId → ℕ) (ps qs : List Posted) → weigh w (ps ++ qs) ≡ weigh w ps + weigh w qs
weigh-append w [] qs = omega arith
weigh-append w (p ∷ ps) qs = omega (arith, weigh-append w ps qs)

module _ (plan : PlanView) where
  potential-move : (w : EventId → ℕ) (x : Move) (s : Machine)
      → potential w (do_move plan x s) ≤ potential w s + price w (cost_of_move plan x)
  potential-move w x s = search (rules, length-append, weigh-append, start-by, stop-by, book-by)

  pub potential-does : {may : Move → Type 0} (w : EventId → ℕ) {c : Cost} {s t : Machine} → Does plan may c s t
      → potential w t ≤ potential w s + price w c
  potential-does w quiet = omega arith
  potential-does w (one_move x s allowed) = potential-move w x s
  potential-does w (both a b) = omega (arith, potential-does w a, potential-does w b)
  potential-does w (less a fewer) = omega (arith, potential-does w a, fewer w)

  -- ---- what moves keep

  -- each waiting event is one of the plan's
  abbrev pub AreOfPlan : List Posted → Type 0
  AreOfPlan ps = AllByRecursion (λ p. p.event.0 < length plan.events) ps

  abbrev pub WaitsInPlan : Machine → Type 0
  WaitsInPlan s = AreOfPlan s.waiting

  of_plan-push : (ps : List Posted) (p : Posted) → AreOfPlan ps → p.event.0 < length plan.events
      → AreOfPlan (ps ++ p ∷ [])
  of_plan-push [] p h k = (k, tt)
  of_plan-push (q ∷ ps) p h k = (h.0, of_plan-push ps p h.1 k)

  pub grows-move : (x : Move) (s : Machine) → Grows s (do_move plan x s)
  grows-move x s = search (rules, length-append, start-by, stop-by, book-by, call-known)

  pub moment-move : (x : Move) (s : Machine) → (do_move plan x s).moment ≡ s.moment
  moment-move x s = search rules

  -- each coil of the plan has a state, and a mode holds only what its actions enable
  pub record HasCoils (coils : List CoilState) : Type 0 where
    pub count : length coils ≡ length plan.coils
    pub holding : (owner : Owner) (coil : CoilId) → is_held_by owner (coil_at coils coil) ≡ true
        → MayHold plan coil owner

  set-has_coils : (coil : CoilId) (x : CoilState) (coils : List CoilState) → HasCoils coils
      → ((owner : Owner) → is_held_by owner x ≡ true → MayHold plan coil owner) → HasCoils (set_coil coil x coils)
  set-has_coils coil x coils h own = record { count = length-set coils coil.0 x ∙ h.count; holding = holding }
    where
      holding : (owner : Owner) (c : CoilId) → is_held_by owner (coil_at (set_coil coil x coils) c) ≡ true
          → MayHold plan c owner
      holding owner c is =
          elim (cases_lt coil.0 (length coils)) [
            | inl within ↦
                elim (cases_eq c.0 coil.0) [
                  | inl same ↦
                      subst (λ (n : ℕ). MayHold plan (record { 0 = n }) owner) (sym same)
                      (own owner (sym (ap (is_held_by owner)
                      (ap (λ (n : ℕ). coil_at (set_coil coil x coils) (record { 0 = n })) same
                      ∙ get_or-set_same coils coil.0 x (off no_limits) within)) ∙ is))
                  | inr other ↦ h.holding owner c
                      (sym (ap (is_held_by owner) (get_or-set_other coils coil.0 c.0 x (off no_limits) other)) ∙ is)
                ]
            | inr past ↦ h.holding owner c
                (sym (ap (λ (cs : List CoilState). is_held_by owner (coil_at cs c)) (set_past coils coil.0 x past))
                ∙ is)
          ]

  either-has_coils : (b : Bool) (x y : List CoilState) → HasCoils x → HasCoils y → HasCoils (if b then x else y)
  either-has_coils b x y one other = search rules

  pub asked-has_coils : (owner : Owner) (command : Command) (now : ℕ) (coils : List CoilState)
      → IsListed plan owner command → HasCoils coils → HasCoils (after_asking command owner now coils)
  asked-has_coils owner (commands.Pulse coil ms power) now coils may h = search (rules, either-has_coils, set-has_coils)
  asked-has_coils owner (commands.Enable coil power) now coils may h =
      let c = coil_at coils coil in
      either-has_coils (takes_enable power c) (set_coil coil (enabled owner c) coils) coils
      (set-has_coils coil (enabled owner c) coils h (λ o is. subst (MayHold plan coil) (is_owner-same owner o is) may))
      h
  asked-has_coils owner (commands.Disable coil) now coils may h = search (rules, either-has_coils, set-has_coils)

  pub off-has_coils : HasCoils (all_off (limits_of plan))
  off-has_coils = record {
    count = length-map (limits_of plan) off ∙ length-map plan.coils (λ c. c.limits);
    holding = λ owner coil is.
        elim (cases_lt coil.0 (length (limits_of plan))) [
          | inl within ↦ absurd (false≢true
              (sym (ap (is_held_by owner) (get_or-map off (limits_of plan) coil.0 no_limits (off no_limits) within))
              ∙ is))
          | inr past ↦
              let count = length-map (limits_of plan) off in
              absurd
              (false≢true (sym (ap (is_held_by owner)
              (get_or_past (map off (limits_of plan)) coil.0 (off no_limits) (omega (arith, past, count)))) ∙ is))
        ];
  }

  -- there are as many players as before when a variable changes
  varied-few : (v : VariableId) (value : Option ℤ) (p : PlayersState) → AreFew plan p
      → AreFew plan (after_change plan v value p)
  varied-few v value p h = search rules

  -- the switches are read as the plan says, and each has a state, as each mode, each device and each coil has, and
  -- there are no more players than there can be
  pub record HasStates (s : Machine) : Type 0 where
    pub kinds : s.switches.kinds ≡ (all_idle plan).kinds
    pub switches : length s.switches.states ≡ length plan.switches
    pub modes : length s.modes ≡ length plan.modes
    pub devices : HasDevices plan s.devices
    pub coils : HasCoils s.coils
    pub players : AreFew plan s.players

  turned-has_devices : (call : Call) (r : RowId) (s : Machine) → HasDevices plan s.devices
      → HasDevices plan (slice_set s.devices r.0 (call_row plan call r s).0)
  turned-has_devices call r s h = record { count = length-set s.devices r.0 new ∙ h.count; shapes = shapes }
    where
      new : DeviceState
      new = (call_row plan call r s).0

      shapes : (q : RowId) → q.0 < length plan.rows
          → HasShape (row_at plan q).settings (device_state (slice_set s.devices r.0 new) q)
      shapes q there =
          elim (cases_eq q.0 r.0) [
            | inl same ↦
                let within : r.0 < length plan.rows = omega (arith, there, same) in
                let devices : r.0 < length s.devices = let count = h.count in omega (arith, within, count) in
                subst (λ (n : ℕ). HasShape (slice_index_or plan.rows n no_row).settings
                (slice_index_or (slice_set s.devices r.0 new) n (first_state no_row.settings))) (sym same)
                (subst (HasShape (row_at plan r).settings)
                (sym (get_or-set_same s.devices r.0 new (first_state no_row.settings) devices))
                (states_keep_their_shape.step (row_at plan r).settings call s.moment (world_of s) (device_at s r)
                (h.shapes r within)))
            | inr other ↦ subst (HasShape (row_at plan q).settings)
                (sym (get_or-set_other s.devices r.0 q.0 new (first_state no_row.settings) other)) (h.shapes q there)
          ]

  marked-has_states : (m : ModeId) (state : ModeState) (s : Machine) → HasStates s → HasStates (set_mode m state s)
  marked-has_states m state s h =
      record {
        kinds = h.kinds;
        switches = h.switches;
        modes = length-set s.modes m.0 state
            ∙ h.modes;
        devices = h.devices;
        coils = h.coils;
        players = h.players;
      }

  gamed-has_states : (g : GameState) (s : Machine) → HasStates s → HasStates (set_game g s)
  gamed-has_states g s h =
      record {
        kinds = h.kinds;
        switches = h.switches;
        modes = h.modes;
        devices = h.devices;
        coils = h.coils;
        players = h.players;
      }

  posted-has_states : (owner : Owner) (e : EventId) (s : Machine) → HasStates s → HasStates (post owner e s)
  posted-has_states owner e s h =
      record {
        kinds = h.kinds;
        switches = h.switches;
        modes = h.modes;
        devices = h.devices;
        coils = h.coils;
        players = h.players;
      }

  has_states-move : (l : Licence) (x : Move) (s : Machine) → MayDo plan l x → HasStates s → HasStates (do_move plan x s)
  has_states-move l (Wrote owner what) s may h =
      record {
        kinds = h.kinds;
        switches = h.switches;
        modes = h.modes;
        devices = h.devices;
        coils = h.coils;
        players = h.players;
      }
  has_states-move l (Sent owner e) s may h = posted-has_states owner e s h
  has_states-move l (Switched n switch) s may h =
      record {
        kinds = h.kinds;
        switches = length-set s.switches.states n.0 switch
            ∙ h.switches;
        modes = h.modes;
        devices = h.devices;
        coils = h.coils;
        players = h.players;
      }
  has_states-move l (Began m) s may h =
      let begun = gamed-has_states _ _ (marked-has_states m _ s h) in
      start-by plan m s HasStates (posted-has_states owners.Machine (mode_event plan m WillStart) (begun_mode plan m s)
      begun) begun
  has_states-move l (Ended m) s may h =
      let marked = marked-has_states m _ s h in
      stop-by plan m s HasStates (posted-has_states owners.Machine (mode_event plan m Stopping) (ended_mode plan m s)
      marked) marked
  has_states-move l (Marked m state) s may h = marked-has_states m state s h
  has_states-move l (Released m) s may h = gamed-has_states (release m s.game) s h
  has_states-move l (Turned call r) s may h =
      record {
        kinds = h.kinds;
        switches = h.switches;
        modes = h.modes;
        devices = turned-has_devices call r s h.devices;
        coils = h.coils;
        players = h.players;
      }
  has_states-move l (Asked owner command) s may h =
      record {
        kinds = h.kinds;
        switches = h.switches;
        modes = h.modes;
        devices = h.devices;
        coils = asked-has_coils owner command s.moment s.coils may.2 h.coils;
        players = h.players;
      }
  has_states-move l (Booked owner call) s may h = search rules
  has_states-move l (Varied v value) s may h =
      record {
        kinds = h.kinds;
        switches = h.switches;
        modes = h.modes;
        devices = h.devices;
        coils = h.coils;
        players = varied-few v value s.players h.players;
      }
  has_states-move l (AddedBalls n) s may h = gamed-has_states (more_balls n s.game) s h
  has_states-move l (Stepped which) s may h = search (rules, players_stay_few)

  -- a device that is due is one of the plan
  pub due-row : (s : Machine) (r : RowId) (due : ℕ) → HasDevices plan s.devices → due_of (device_at s r) ≡ Some due
      → r.0 < length plan.rows
  due-row s r due has is = search (rules, cases_lt, none-some, get_or_past)

  pub has_devices-move : (x : Move) (s : Machine) → HasDevices plan s.devices
      → HasDevices plan (do_move plan x s).devices
  has_devices-move (Turned call r) s h = turned-has_devices call r s h
  has_devices-move x s h = search (rules, start-by, stop-by, book-by)

  module _ {may : Move → Type 0} {c : Cost} {s t : Machine} where
    pub has_devices-does : Does plan may c s t → HasDevices plan s.devices → HasDevices plan t.devices
    has_devices-does d h = does-keeps plan may (λ u. HasDevices plan u.devices)
        (λ x u allowed k. has_devices-move x u k) d h

    pub grows-does : Does plan may c s t → Grows s t
    grows-does d =
        does-keeps plan may (Grows s) (λ x u allowed h. then-grows h (grows-move x u)) d (none-grows s)

    pub moment-does : Does plan may c s t → t.moment ≡ s.moment
    moment-does d = does-keeps plan may (λ u. u.moment ≡ s.moment) (λ x u allowed h. moment-move x u ∙ h) d refl

  module _ (l : Licence) where
    pub has_states-does : {c : Cost} {s t : Machine} → Does plan (MayDo plan l) c s t → HasStates s → HasStates t
    has_states-does d h = does-keeps plan (MayDo plan l) HasStates (has_states-move l) d h

    waits-move : HasEntries plan → (x : Move) (s : Machine) → MayDo plan l x → WaitsInPlan s
        → WaitsInPlan (do_move plan x s)
    waits-move entries x s may h = search (rules, of_plan-push, start-by, mode_event-within, stop-by, book-by)

    pub waits-does : HasEntries plan → {c : Cost} {s t : Machine} → Does plan (MayDo plan l) c s t → WaitsInPlan s
        → WaitsInPlan t
    waits-does entries d h = does-keeps plan (MayDo plan l) WaitsInPlan (waits-move entries) d h

    -- if no switch may change
    switches-move : (l.switches → ⊥) → (x : Move) (s : Machine) → MayDo plan l x
        → (do_move plan x s).switches ≡ s.switches
    switches-move none x s may = search rules

    pub switches-does : (l.switches → ⊥) → {c : Cost} {s t : Machine} → Does plan (MayDo plan l) c s t
        → t.switches ≡ s.switches
    switches-does none {c} {s} {t} d = does-keeps plan (MayDo plan l) (λ u. u.switches ≡ s.switches)
        (λ x u may h. switches-move none x u may ∙ h) d refl
