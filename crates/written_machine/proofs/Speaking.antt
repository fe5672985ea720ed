-- What holds of a mode at every moment of a run: which of its events wait, and that nothing of it waits to be written
-- when it must not be heard.
use Rattle.std.proofs.Common.{◌≡◌, ◌&&◌, ℕ, ◌<◌, inl, inr, Bool, true, false, cond, if◌then◌else◌, List, [], ◌∷◌, ◌++◌}
use Rattle.std.proofs.Common.{length, refl, ap, sym, subst, ◌∙◌, append_assoc, arith, rules}
use Rattle.std.{specs.List.AllByRecursion, proofs.lemmas.Bool.{cases_eq, eq-eqb, ne_eqb}}
use Rattle.std.proofs.lemmas.List.{append-nil, get_or-set_same, get_or-set_other, get_or-map, length-set}
use Rattle.plan_tables.specs.PlanView.{PlanView, may_hold_ball_end, mode_event, work_of}
use Rattle.plan_tables.specs.{Valid.IsValid, declared.entries.Work.{Work, TheVariants.Nothing}}
use Rattle.plan_tables.specs.declared.entries.{EventId.EventId, ModeId.ModeId, Owner.Owner}
use Rattle.plan_tables.specs.declared.entries.ModeEvent.{ModeEvent, TheVariants.{WillStart, Stopping}}
use Rattle.plan_tables.specs.declared.entries.Owner.TheVariants as owners
use Rattle.player_game.specs.GameStep.{GameState, held_if}
use Rattle.mode_stack.specs.declared.phase.{Phase.Phase, ModeState.ModeState}
use Rattle.mode_stack.specs.declared.phase.Phase.TheVariants as phases
use Rattle.mode_stack.specs.ModeStep.{in_phase, is_running, starts, after_start, stopped_from, stop_answer}
use Rattle.mode_stack.specs.Modes.{needs_game, mode_state, running_of}
use Rattle.event_queue.specs.declared.queue.Posted.{Posted}
use Rattle.written_machine.{specs.declared.line.{Line.Line, Happening.Happening}, proofs.Does.{begun_mode, book-by}}
use Rattle.written_machine.specs.{Moves.IsNoEvent, Machine.{answer_happening, ask_coil}}
use Rattle.written_machine.specs.declared.line.Happening.TheVariants as lines
use Rattle.coil_guard.specs.{declared.command.{Command.Command, Answer.Answer}, Asked.{after_asking, answer_asking}}
use Rattle.ball_devices.specs.Bookings.{LedgerCall, after_call, booking_of}
use Rattle.written_machine.specs.Machine.{Machine, write, post, set_ledger, counts_of, book, set_coils}
use Rattle.written_machine.specs.Machine.{set_mode, set_game, has_game, is_post, post_if, start_mode, stop_mode}
use Rattle.written_machine.proofs.Cycles.{mine, waiting_of, IsTurn, waiting_of-push, turn-start, turn-stop, IsNoEnd}
use Rattle.written_machine.proofs.Hearing.{Said, work_written, written, all_written, all_awaited, heard_after, heard}
use Rattle.written_machine.proofs.Hearing.{IsFine, written-push, awaited-push, heard-push, fine-push}

-- Of the mode's events: the one that is being handled, as long as its work is still to come, and those that wait. And
-- whether it may be heard now.
pub record Holds (plan : PlanView) (m : ModeId) (on : Bool) (front : List ModeEvent) (waiting : List Posted)
    (phase : Phase) : Type 0 where
  pub waits : IsFine m on (all_awaited plan waiting)
  pub turns : IsTurn phase (front ++ waiting_of plan m waiting)
  pub speaks : is_running phase ≡ true → on ≡ true

module _ (plan : PlanView) (m : ModeId) where
  goes_on : (w : Work) (c : List ModeEvent) (xs : List Said) → (AllByRecursion IsNoEnd c → heard m true xs ≡ true)
      → AllByRecursion IsNoEnd (mine m w c) → heard m (heard_after m true w) xs ≡ true
  goes_on w c xs next h = search rules

  -- if its last event does not wait, a mode that may be heard may still be heard after all that waits
  heard_on : (q : List Posted) → AllByRecursion IsNoEnd (waiting_of plan m q) → heard m true (all_awaited plan q) ≡ true
  heard_on [] h = refl
  heard_on (p ∷ q) h = goes_on (work_of plan p.event) (waiting_of plan m q) (all_awaited plan q) (heard_on q) h

  no_end-rest : (front rest : List ModeEvent) → AllByRecursion IsNoEnd (front ++ rest) → AllByRecursion IsNoEnd rest
  no_end-rest [] rest h = h
  no_end-rest (x ∷ front) rest h = no_end-rest front rest h.1

  -- one event more waits, and the mode is in another phase
  holds-push : (on : Bool) (front after : List ModeEvent) (q : List Posted) (p next : Phase) (x : Posted)
      → Holds plan m on front q p
      → IsTurn next (after ++ (waiting_of plan m q ++ mine m (work_of plan x.event) []))
      → (x.owner ≡ owners.Mode m → is_running p ≡ true) → (is_running next ≡ true → on ≡ true)
      → Holds plan m on after (q ++ x ∷ []) next
  holds-push on front after q p next x h turns runs speaks =
      search (rules, awaited-push, fine-push, all_awaited, heard_on, no_end-rest, waiting_of, waiting_of-push)

-- whether the mode may be heard after all that was written
abbrev pub heard_in : PlanView → ModeId → List Line → Machine → Bool
heard_in plan m before s = heard m false (all_written plan (before ++ s.lines))

abbrev pub phase_in : ModeId → Machine → Phase
phase_in m s = (mode_state s.modes m).phase

abbrev pub IsRunning : ModeId → Machine → Type 0
IsRunning m s = is_running (phase_in m s) ≡ true

pub record HoldsIn (plan : PlanView) (m : ModeId) (before : List Line) (front : List ModeEvent) (s : Machine) : Type
    0 where
  pub count : length s.modes ≡ length plan.modes
  pub fine : IsFine m false (all_written plan (before ++ s.lines))
  pub holds : Holds plan m (heard_in plan m before s) front s.waiting (phase_in m s)

-- of an owner that takes part the mode runs
pub takes-runs : (m : ModeId) (s : Machine) (n : ℕ) → length s.modes ≡ n → m.0 < n
    → Rattle.event_queue.specs.Handlers.takes_part (running_of s.modes) (owners.Mode m) ≡ true → IsRunning m s
takes-runs m s n count within h = sym (get_or-map (λ (x : ModeState). is_running x.phase) s.modes m.0
    (in_phase phases.Idle) false (omega (arith, count, within))) ∙ h

pub runs-takes : (m : ModeId) (s : Machine) (n : ℕ) → length s.modes ≡ n → m.0 < n → IsRunning m s
    → Rattle.event_queue.specs.Handlers.takes_part (running_of s.modes) (owners.Mode m) ≡ true
runs-takes m s n count within runs = get_or-map (λ (x : ModeState). is_running x.phase) s.modes m.0
    (in_phase phases.Idle) false (omega (arith, count, within)) ∙ runs

module _ (plan : PlanView) (valid : IsValid plan) (m : ModeId) (within : m.0 < length plan.modes)
    (before : List Line) where
  pub own_state : (x : ModeState) (s : Machine) → length s.modes ≡ length plan.modes
      → mode_state (set_mode m x s).modes m ≡ x
  own_state x s count = get_or-set_same s.modes m.0 x (in_phase phases.Idle) (omega (arith, within, count))

  pub other_state : (k : ModeId) (x : ModeState) (s : Machine) → (k.0 ≡ m.0 → ⊥)
      → mode_state (set_mode k x s).modes m ≡ mode_state s.modes m
  other_state k x s other = get_or-set_other s.modes k.0 m.0 x (in_phase phases.Idle) (λ is. other (sym is))

  own_mine : (which : ModeEvent) → mine m (work_of plan (mode_event plan m which)) [] ≡ which ∷ []
  own_mine which = ap (λ (w : Work). mine m w []) (valid.works m which within)
      ∙ ap (λ (b : Bool). cond b (which ∷ []) []) (eq-eqb m.0 m.0 refl)

  other_mine : (k : ModeId) (which : ModeEvent) → k.0 < length plan.modes → (k.0 ≡ m.0 → ⊥)
      → mine m (work_of plan (mode_event plan k which)) [] ≡ []
  other_mine k which there other = ap (λ (w : Work). mine m w []) (valid.works k which there)
      ∙ ap (λ (b : Bool). cond b (which ∷ []) []) (ne_eqb k.0 m.0 other)

  -- ---- one change each

  pub lines-push : (ls : List Line) (l : Line)
      → all_written plan (before ++ (ls ++ l ∷ [])) ≡ all_written plan (before ++ ls) ++ written plan l ∷ []
  lines-push ls l = ap (all_written plan) (sym (append_assoc before ls (l ∷ []))) ∙ written-push plan (before ++ ls) l

  -- a line of no work
  quiet-holds : (front : List ModeEvent) (owner : Owner) (what : Happening) (s : Machine)
      → work_written plan what ≡ Nothing → (owner ≡ owners.Mode m → IsRunning m s) → HoldsIn plan m before front s
      → HoldsIn plan m before front (write owner what s)
  quiet-holds front owner what s quiet runs h = search (rules, lines-push, all_written, heard-push, fine-push)

  -- a line that is not that of an event
  pub wrote-holds : (front : List ModeEvent) (owner : Owner) (what : Happening) (s : Machine) → IsNoEvent what
      → (owner ≡ owners.Mode m → IsRunning m s) → HoldsIn plan m before front s
      → HoldsIn plan m before front (write owner what s)
  wrote-holds front owner (lines.Switch n active) s quiet runs h =
      quiet-holds front owner (lines.Switch n active) s refl runs h
  wrote-holds front owner (lines.Coil command) s quiet runs h =
      quiet-holds front owner (lines.Coil command) s refl runs h
  wrote-holds front owner (lines.Skip command) s quiet runs h =
      quiet-holds front owner (lines.Skip command) s refl runs h
  wrote-holds front owner (lines.Player player v value) s quiet runs h =
      quiet-holds front owner (lines.Player player v value) s refl runs h
  wrote-holds front owner (lines.Balls booking counts) s quiet runs h =
      quiet-holds front owner (lines.Balls booking counts) s refl runs h
  wrote-holds front owner (lines.Final player score) s quiet runs h =
      quiet-holds front owner (lines.Final player score) s refl runs h
  wrote-holds front owner (lines.Event e) s quiet runs h = absurd quiet

  -- an owner asks for a command to a coil
  pub asked-holds : (front : List ModeEvent) (owner : Owner) (command : Command) (s : Machine)
      → (owner ≡ owners.Mode m → IsRunning m s) → HoldsIn plan m before front s
      → HoldsIn plan m before front (ask_coil owner command s)
  asked-holds front owner command s runs h =
      quiet-holds front owner (answer_happening command answer)
      (set_coils (after_asking command owner s.moment s.coils) s)
      (told-quiet answer) runs (record { count = h.count; fine = h.fine; holds = h.holds })
    where
      answer : Answer
      answer = answer_asking command owner s.moment s.coils

      told-quiet : (a : Answer) → work_written plan (answer_happening command a) ≡ Nothing
      told-quiet x1 = search rules

  -- the ledger books something
  pub booked-holds : (front : List ModeEvent) (owner : Owner) (call : LedgerCall) (s : Machine)
      → (owner ≡ owners.Mode m → IsRunning m s) → HoldsIn plan m before front s
      → HoldsIn plan m before front (book owner call s)
  booked-holds front owner call s runs h =
      book-by owner call s (HoldsIn plan m before front)
      (λ is.
      quiet-holds front owner (lines.Balls (booking_of call s.ledger) (counts_of (after_call call s.ledger)))
      (set_ledger (after_call call s.ledger) s) refl runs
      (record { count = h.count; fine = h.fine; holds = h.holds }))
      (record { count = h.count; fine = h.fine; holds = h.holds })

  -- an event that is none of the mode's is posted
  pub posted-holds : (front : List ModeEvent) (owner : Owner) (e : EventId) (s : Machine)
      → mine m (work_of plan e) [] ≡ [] → (owner ≡ owners.Mode m → IsRunning m s) → HoldsIn plan m before front s
      → HoldsIn plan m before front (post owner e s)
  posted-holds front owner e s free runs h = record {
    count = h.count;
    fine = h.fine;
    holds = holds-push plan m (heard_in plan m before s) front front s.waiting (phase_in m s) (phase_in m s)
        (record { event = e; owner = owner }) h.holds
        (subst (λ (l : List ModeEvent). IsTurn (phase_in m s) (front ++ l))
        (sym (ap (λ (l : List ModeEvent). waiting_of plan m s.waiting ++ l) free
        ∙ append-nil (waiting_of plan m s.waiting))) h.holds.turns)
        runs h.holds.speaks;
  }

  -- one of the mode's is
  pub own_post : (front after : List ModeEvent) (which : ModeEvent) (s : Machine) → HoldsIn plan m before front s
      → IsTurn (phase_in m s) (after ++ (waiting_of plan m s.waiting ++ which ∷ []))
      → HoldsIn plan m before after (post owners.Machine (mode_event plan m which) s)
  own_post front after which s h turns = record {
    count = h.count;
    fine = h.fine;
    holds = holds-push plan m (heard_in plan m before s) front after s.waiting (phase_in m s) (phase_in m s)
        (record { event = mode_event plan m which; owner = owners.Machine }) h.holds
        (subst (λ (l : List ModeEvent). IsTurn (phase_in m s) (after ++ (waiting_of plan m s.waiting ++ l)))
        (sym (own_mine which)) turns)
        (λ is. absurd (search rules)) h.holds.speaks;
  }

  -- the mode has another state
  pub own_set : (front after : List ModeEvent) (x : ModeState) (s : Machine) → HoldsIn plan m before front s
      → IsTurn x.phase (after ++ waiting_of plan m s.waiting)
      → (is_running x.phase ≡ true → heard_in plan m before s ≡ true)
      → HoldsIn plan m before after (set_mode m x s)
  own_set front after x s h turns speaks = search rules

  -- and its event is posted
  pub own_change : (front after : List ModeEvent) (which : ModeEvent) (x : ModeState) (s : Machine)
      → HoldsIn plan m before front s → IsTurn x.phase (after ++ (waiting_of plan m s.waiting ++ which ∷ []))
      → (is_running x.phase ≡ true → heard_in plan m before s ≡ true)
      → HoldsIn plan m before after (post owners.Machine (mode_event plan m which) (set_mode m x s))
  own_change front after which x s h turns speaks = record {
    count = length-set s.modes m.0 x ∙ h.count;
    fine = h.fine;
    holds = subst (λ (y : ModeState). Holds plan m (heard_in plan m before s) after
        (s.waiting ++ record { event = mode_event plan m which; owner = owners.Machine } ∷ []) y.phase)
        (sym (own_state x s h.count))
        (holds-push plan m (heard_in plan m before s) front after s.waiting (phase_in m s) x.phase
        (record { event = mode_event plan m which; owner = owners.Machine }) h.holds
        (subst (λ (l : List ModeEvent). IsTurn x.phase (after ++ (waiting_of plan m s.waiting ++ l)))
        (sym (own_mine which)) turns)
        (λ is. absurd (search rules)) speaks);
  }

  -- another mode has another state
  pub other_set : (front : List ModeEvent) (k : ModeId) (x : ModeState) (s : Machine) → (k.0 ≡ m.0 → ⊥)
      → HoldsIn plan m before front s → HoldsIn plan m before front (set_mode k x s)
  other_set front k x s other h = search rules

  -- its event is posted
  pub other_post : (front : List ModeEvent) (k : ModeId) (which : ModeEvent) (s : Machine) → k.0 < length plan.modes
      → (k.0 ≡ m.0 → ⊥) → HoldsIn plan m before front s
      → HoldsIn plan m before front (post owners.Machine (mode_event plan k which) s)
  other_post front k which s there other h =
      posted-holds front owners.Machine (mode_event plan k which) s (other_mine k which there other)
      (λ is. absurd (search rules)) h

  -- the game goes on
  pub gamed-holds : (front : List ModeEvent) (g : GameState) (s : Machine) → HoldsIn plan m before front s
      → HoldsIn plan m before front (set_game g s)
  gamed-holds front g s h = record { count = h.count; fine = h.fine; holds = h.holds }

  -- ---- starts and stops

  same_holds : (front : List ModeEvent) (s : Machine) → HoldsIn plan m before front s
      → HoldsIn plan m before front (set_mode m (mode_state s.modes m) s)
  same_holds front s h = own_set front front (mode_state s.modes m) s h h.holds.turns h.holds.speaks

  idle_starts : (needs game : Bool) (p : Phase) → starts needs game p ≡ true → p ≡ phases.Idle
  idle_starts needs game p is = search rules

  own_start : (front : List ModeEvent) (s : Machine) (b : Bool) → (b ≡ true → phase_in m s ≡ phases.Idle)
      → HoldsIn plan m before front s
      → HoldsIn plan m before front (post_if b (mode_event plan m WillStart)
      (set_mode m (if b then in_phase phases.Starting else mode_state s.modes m) s))
  own_start front s false is h = same_holds front s h
  own_start front s true is h =
      own_change front front WillStart (in_phase phases.Starting) s h
      (subst (IsTurn phases.Starting) (append_assoc front (waiting_of plan m s.waiting) (WillStart ∷ []))
      (turn-start (front ++ waiting_of plan m s.waiting)
      (subst (λ (p : Phase). IsTurn p (front ++ waiting_of plan m s.waiting)) (is refl) h.holds.turns)))
      (λ r. absurd (search rules))

  own_stop : (front : List ModeEvent) (p : Phase) (s : Machine) → phase_in m s ≡ p → HoldsIn plan m before front s
      → HoldsIn plan m before front (post_if (is_post (stop_answer p)) (mode_event plan m Stopping)
      (set_mode m (stopped_from p (mode_state s.modes m)) s))
  own_stop front phases.Idle s is h = same_holds front s h
  own_stop front phases.Starting s is h = search rules
  own_stop front phases.Active s is h =
      own_change front front Stopping (in_phase phases.Stopping) s h
      (subst (IsTurn phases.Stopping) (append_assoc front (waiting_of plan m s.waiting) (Stopping ∷ []))
      (turn-stop (front ++ waiting_of plan m s.waiting)
      (subst (λ (p : Phase). IsTurn p (front ++ waiting_of plan m s.waiting)) is h.holds.turns)))
      (λ r. h.holds.speaks (ap is_running is))
  own_stop front phases.Stopping s is h = same_holds front s h

  other_if : (front : List ModeEvent) (k : ModeId) (which : ModeEvent) (b : Bool) (s : Machine)
      → k.0 < length plan.modes → (k.0 ≡ m.0 → ⊥) → HoldsIn plan m before front s
      → HoldsIn plan m before front (post_if b (mode_event plan k which) s)
  other_if front k which false s there other h = h
  other_if front k which true s there other h = other_post front k which s there other h

  pub start-holds : (front : List ModeEvent) (k : ModeId) (s : Machine) → k.0 < length plan.modes
      → HoldsIn plan m before front s → HoldsIn plan m before front (start_mode plan k s)
  start-holds front k s there h =
      elim (cases_eq k.0 m.0) [
        | inl is ↦
            let needs = needs_game plan m in
            subst (λ (n : ℕ). HoldsIn plan m before front (start_mode plan (record { 0 = n }) s)) (sym is)
            (own_start front (held_for m) (starts (needs_game plan m) (has_game s) (phase_in m s))
            (idle_starts needs (has_game s) (phase_in m s)) (gamed-holds front (held_for m).game s h))
        | inr other ↦
            other_if front k WillStart (starts (needs_game plan k) (has_game s) (phase_in k s)) (begun_mode plan k s)
            there other
            (other_set front k (after_start (needs_game plan k) (has_game s) (mode_state s.modes k)) (held_for k) other
            (gamed-holds front (held_for k).game s h))
      ]
    where
      -- the end of the ball may wait for the mode
      held_for : ModeId → Machine
      held_for n = set_game (held_if (starts (needs_game plan n) (has_game s) (phase_in n s)
          && may_hold_ball_end plan n) n s.game) s

  pub stop-holds : (front : List ModeEvent) (k : ModeId) (s : Machine) → k.0 < length plan.modes
      → HoldsIn plan m before front s → HoldsIn plan m before front (stop_mode plan k s)
  stop-holds front k s there h =
      elim (cases_eq k.0 m.0) [
        | inl is ↦ subst (λ (n : ℕ). HoldsIn plan m before front (stop_mode plan (record { 0 = n }) s)) (sym is)
            (own_stop front (phase_in m s) s refl h)
        | inr other ↦
            other_if front k Stopping (is_post (stop_answer (phase_in k s)))
            (set_mode k (stopped_from (phase_in k s) (mode_state s.modes k)) s) there other
            (other_set front k (stopped_from (phase_in k s) (mode_state s.modes k)) s other h)
      ]
