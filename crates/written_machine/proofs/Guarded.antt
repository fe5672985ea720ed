-- What is sent to coils is within their limits, and nothing is skipped for a limit, in every run.
use Rattle.std.proofs.Common.{rules, ◌≡◌, ℕ, ◌≤◌, Bool, true, false, List, [], ◌∷◌, ◌++◌, refl, sym, ap, ◌∙◌, subst}
use Rattle.std.proofs.{Common.{append_assoc, arith}, lemmas.{Grind.flat_map-append, List.append-nil}}
use Rattle.plan_tables.specs.{PlanView.{PlanView, work_of}, Valid.IsValid}
use Rattle.plan_tables.specs.declared.entries.{CoilId.CoilId, Owner.Owner, CoilLimits.CoilLimits}
use Rattle.coil_guard.specs.declared.{command.{Command.Command, Answer.Answer}, state.CoilState.CoilState}
use Rattle.coil_guard.specs.declared.command.Command.TheVariants as commands
use Rattle.coil_guard.specs.declared.command.Answer.TheVariants as answers
use Rattle.coil_guard.specs.{Limits.{limits_at, IsWithin}, Follows.Follows}
use Rattle.coil_guard.specs.SentCommands.{Sending, is_held_for, IsOnThroughout}
use Rattle.coil_guard.specs.Calls.{CoilCall, after_call, sent_by, sent_if, due_by}
use Rattle.coil_guard.specs.Calls as calls_of
use Rattle.coil_guard.specs.Asked.{limits_of, after_asking, answer_asking}
use Rattle.coil_guard.proofs.Following.{new_follows, calls_follow}
use Rattle.cascade_rank.specs.Cost.{Cost}
use Rattle.written_machine.specs.declared.line.{Line.Line, Happening.Happening}
use Rattle.written_machine.specs.declared.line.Happening.TheVariants as lines
use Rattle.ball_devices.specs.Bookings.{after_call as after_booking, booking_of}
use Rattle.written_machine.specs.Machine.{Machine, initial, write, answer_happening, ask_coil, set_ledger, counts_of}
use Rattle.written_machine.specs.{EventStep.{take_event, EventStep}, CoilActions.ActionsKeepLimits}
use Rattle.written_machine.specs.Run.{Stimulus, moment_of, IsAllowed, IsNothingLate, arrive, begin, IsRun}
use Rattle.written_machine.specs.Sent.{sent_at, sent_in, sendings, IsIdle, AreSkippedIdle}
use Rattle.written_machine.specs.Moves.{Move, Wrote, Began, Ended, Asked, Booked, do_move, Licence, MayDo, Does}
use Rattle.written_machine.specs.Moves.{IsNoCommand, TakesPart, Begins, ordinary, working}
use Rattle.written_machine.proofs.{Does.{book-by, does-keeps}, Held.IsHolding, Keeps.{step-keeps, run-keeps}}
use Rattle.written_machine.proofs.Parts.{does-before, does-after, does-begin}
use Rattle.written_machine.proofs.Alarms.{not_late-steps, not_late-begin, not_late-initial, allowed-first, forward}

-- ---- the call that asks for a command

abbrev call_for : Command → Owner → ℕ → CoilCall
call_for (commands.Pulse coil ms power) owner now = calls_of.Pulse coil ms power now
call_for (commands.Enable coil power) owner now = calls_of.Enable coil power owner now
call_for (commands.Disable coil) owner now = calls_of.Disable coil now

call-moment : (command : Command) (owner : Owner) (now : ℕ) → calls_of.moment_of (call_for command owner now) ≡ now
call-moment command owner now = search rules

call-after : (command : Command) (owner : Owner) (now : ℕ) (s : List CoilState)
    → after_call (call_for command owner now) s ≡ after_asking command owner now s
call-after command owner now s = search rules

-- its line has what the call sends
asked-sent : (command : Command) (owner : Owner) (now : ℕ) (s : List CoilState)
    → sent_at now owner (answer_happening command (answer_asking command owner now s))
    ≡ sent_by (call_for command owner now) s
asked-sent command owner now s = search rules

-- ---- skipped commands, line by line

abbrev IsFineSkip : List Sending → Line → Type 0
IsFineSkip sent l = (command : Command) → l.happening ≡ lines.Skip command → IsIdle sent l.moment command

abbrev AreFineSkips : List Sending → List Line → Type 0
AreFineSkips sent [] = Unit {0}
AreFineSkips sent (l ∷ ls) = IsFineSkip sent l × AreFineSkips (sent ++ sent_in l) ls

fine-push : (sent : List Sending) (ls : List Line) (l : Line) → AreFineSkips sent ls
    → IsFineSkip (sent ++ sendings ls) l → AreFineSkips sent (ls ++ l ∷ [])
fine-push sent [] l h last = (subst (λ ss. IsFineSkip ss l) (append-nil sent) last, tt)
fine-push sent (x ∷ ls) l h last = (
  h.0,
  fine-push (sent ++ sent_in x) ls l h.1
      (subst (λ ss. IsFineSkip ss l) (sym (append_assoc sent (sent_in x) (sendings ls))) last),
)

fine-at : (sent : List Sending) (before : List Line) (line : Line) (after : List Line)
    → AreFineSkips sent (before ++ line ∷ after) → IsFineSkip (sent ++ sendings before) line
fine-at sent [] line after h = subst (λ ss. IsFineSkip ss line) (sym (append-nil sent)) h.0
fine-at sent (x ∷ before) line after h = subst (λ ss. IsFineSkip ss line)
    (append_assoc sent (sent_in x) (sendings before)) (fine-at (sent ++ sent_in x) before line after h.1)

fine-idle : (trace : List Line) → AreFineSkips [] trace → AreSkippedIdle trace
fine-idle trace h before line after command is skips =
    fine-at [] before line after (subst (AreFineSkips []) is h) command skips

sendings-push : (ls : List Line) (l : Line) → sendings (ls ++ l ∷ []) ≡ sendings ls ++ sent_in l
sendings-push ls l = flat_map-append sent_in ls (l ∷ []) ∙ ap (λ ss. sendings ls ++ ss) (append-nil (sent_in l))

-- ---- a skipped command is idle

module _ (limits : List CoilLimits) (sent : List Sending) (s : List CoilState) (now : ℕ) (f : Follows limits sent s now)
    (owner : Owner) where
  skipped-idle : (command : Command) → IsWithin limits command → answer_asking command owner now s ≡ answers.Skipped
      → IsIdle sent now command
  skipped-idle command within skipped = search rules

-- ---- what a line says

abbrev is_skip : Happening → Bool
is_skip (lines.Skip command) = true
is_skip _ = false

abbrev skip_of : Command → Happening → Command
skip_of other (lines.Skip command) = command
skip_of other _ = other

told-skip : (command : Command) (a : Answer) (c : Command) → answer_happening command a ≡ lines.Skip c
    → a ≡ answers.Skipped
told-skip command a c is = search rules

told-same : (command : Command) (a : Answer) (c : Command) → answer_happening command a ≡ lines.Skip c → command ≡ c
told-same command a c is = search rules

-- ---- every move

module _ (plan : PlanView) (allowed : ActionsKeepLimits plan) where
  abbrev limits : List CoilLimits
  limits = limits_of plan

  -- the coils follow what was sent, and what was skipped was idle
  record IsGuarded (before : List Line) (s : Machine) : Type 0 where
    follows : Follows limits (sendings (before ++ s.lines)) s.coils s.moment
    idle : AreFineSkips [] (before ++ s.lines)

  -- one line more
  line-more : (before : List Line) (ls : List Line) (l : Line) → before ++ (ls ++ l ∷ []) ≡ (before ++ ls) ++ l ∷ []
  line-more before ls l = sym (append_assoc before ls (l ∷ []))

  quiet-guarded : (before : List Line) (owner : Owner) (what : Happening) (s : Machine) → IsNoCommand what
      → IsGuarded before s → IsGuarded before (write owner what s)
  quiet-guarded before owner what s none h = search (rules, line-more, sendings-push, append-nil, fine-push)

  asked-guarded : (before : List Line) (owner : Owner) (command : Command) (s : Machine) → IsWithin limits command
      → IsGuarded before s → IsGuarded before (ask_coil owner command s)
  asked-guarded before owner command s within h =
      let answer = answer_asking command owner s.moment s.coils in
      let l : Line = record { moment = s.moment; owner = owner; happening = answer_happening command answer } in
      let more = line-more before s.lines l in
      let sent = sendings (before ++ s.lines) in
      let call = call_for command owner s.moment in
      let when = call-moment command owner s.moment in
      let followed = calls_follow limits sent s.coils s.moment call (omega (arith, when)) h.follows in
      let all : sendings (before ++ (s.lines ++ l ∷ [])) ≡ sent ++ sent_by call s.coils =
      ap sendings more ∙ sendings-push (before ++ s.lines) l
      ∙ ap (λ ss. sent ++ ss) (asked-sent command owner s.moment s.coils) in
      record {
        follows =
            subst (λ ss. Follows limits ss (after_asking command owner s.moment s.coils) s.moment) (sym all)
            (subst (λ cs. Follows limits (sent ++ sent_by call s.coils) cs s.moment)
            (call-after command owner s.moment s.coils)
            (subst (λ n. Follows limits (sent ++ sent_by call s.coils) (after_call call s.coils) n) when followed));
        idle =
            subst (AreFineSkips []) (sym more)
            (fine-push [] (before ++ s.lines) l h.idle
            (λ c is. subst (IsIdle sent s.moment) (told-same command answer c is)
            (skipped-idle limits sent s.coils s.moment h.follows owner command within
            (told-skip command answer c is))));
      }

  guarded-move : (licence : Licence) (before : List Line) (x : Move) (s : Machine) → MayDo plan licence x
      → IsGuarded before s → IsGuarded before (do_move plan x s)
  guarded-move licence before (Wrote owner what) s may h = quiet-guarded before owner what s may.2 h
  guarded-move licence before (Began m) s may h = search rules
  guarded-move licence before (Ended m) s may h = search rules
  guarded-move licence before (Booked owner call) s may h =
      book-by owner call s (IsGuarded before)
      (λ is. quiet-guarded before owner (lines.Balls (booking_of call s.ledger)
      (counts_of (after_booking call s.ledger))) (set_ledger (after_booking call s.ledger) s) tt
      (record { follows = h.follows; idle = h.idle })) (record { follows = h.follows; idle = h.idle })
  guarded-move licence before (Asked owner command) s may h = asked-guarded before owner command s (may.1 allowed) h
  guarded-move licence before _ s may h = record { follows = h.follows; idle = h.idle }

  guarded-does : (licence : Licence) (before : List Line) {c : Cost} {s t : Machine}
      → Does plan (MayDo plan licence) c s t → IsGuarded before s → IsGuarded before t
  guarded-does licence before d h = does-keeps plan (MayDo plan licence) (IsGuarded before)
      (guarded-move licence before) d h

  -- ---- every run

  module _ (valid : IsValid plan) where
    step-guarded : (before : List Line) (s t : Machine) → EventStep plan s t → IsGuarded before s → IsGuarded before t
    step-guarded before =
        step-keeps plan IsGuarded (λ first. IsGuarded)
        (λ earlier first rest s is h.
        guarded-does working earlier (does-before plan (work_of plan first.event) (take_event first rest s))
        (quiet-guarded earlier first.owner (lines.Event first.event) (record s { waiting = rest }) tt
        (record { follows = h.follows; idle = h.idle })))
        (λ earlier first c s t d h. guarded-does (ordinary plan (TakesPart s) ⊥) earlier d h)
        (λ earlier first kept s h. guarded-does working earlier (does-after plan kept first.event s) h) before

    arrived-guarded : (before : List Line) (at : ℕ) (s : Machine) → s.moment ≤ at → IsGuarded before s
        → IsGuarded (before ++ s.lines) (arrive at s)
    arrived-guarded before at s later h = search rules

    abbrev IsKept : List Line → Machine → Type 0
    IsKept before s = IsGuarded before s × IsNothingLate s

    begins : (before : List Line) (stimulus : Stimulus) (s : Machine) → IsAllowed plan s stimulus → s.waiting ≡ []
        → IsKept before s → IsKept (before ++ s.lines) (begin plan stimulus s)
    begins before stimulus s may empty h = (
      guarded-does (ordinary plan (Begins plan stimulus) (Unit {0})) (before ++ s.lines) (does-begin plan stimulus s)
          (arrived-guarded before (moment_of stimulus) s (forward plan valid stimulus s h.1 may) h.0),
      not_late-begin plan valid stimulus s (allowed-first plan valid stimulus s may),
    )

    first-guarded : IsKept [] (initial plan)
    first-guarded = (record { follows = new_follows limits; idle = tt }, not_late-initial plan valid)

    guarded-run : (stimuli : List (Stimulus × ℕ)) (trace : List Line) (s : Machine)
        → IsRun plan stimuli (initial plan) trace s
        → (earlier : List Line) × IsKept earlier s × (earlier ++ s.lines ≡ trace)
    guarded-run stimuli trace s run =
        run-keeps plan IsKept (λ before m u one h.
        (step-guarded before m u one h.0, not_late-steps plan valid 1 m u (u, one, refl) h.1)) begins [] stimuli
        (initial plan) trace s run first-guarded

    pub follows-run : (stimuli : List (Stimulus × ℕ)) (trace : List Line) (s : Machine)
        → IsRun plan stimuli (initial plan) trace s → Follows limits (sendings trace) s.coils s.moment
    follows-run stimuli trace s run = search (rules, guarded-run)

    pub skips-run : (stimuli : List (Stimulus × ℕ)) (trace : List Line) (s : Machine)
        → IsRun plan stimuli (initial plan) trace s → AreSkippedIdle trace
    skips-run stimuli trace s run = search (rules, guarded-run, fine-idle)

    pub stretches-run : (stimuli : List (Stimulus × ℕ)) (trace : List Line) (s : Machine)
        → IsRun plan stimuli (initial plan) trace s
        → (coil : CoilId) → (limits_at limits coil).may_hold ≡ false → (first count : ℕ)
        → IsOnThroughout (sendings trace) coil first count → count ≤ (limits_at limits coil).max_pulse_ms
    stretches-run stimuli trace s run coil may first count on =
        (((follows-run stimuli trace s run).each coil).apart may).runs first count on

    pub holder-run : (stimuli : List (Stimulus × ℕ)) (trace : List Line) (s : Machine)
        → IsRun plan stimuli (initial plan) trace s
        → (owner : Owner) (coil : CoilId) → is_held_for (sendings trace) owner coil ≡ true
        → IsHolding owner s.coils coil
    holder-run stimuli trace s run owner coil is = sym (((follows-run stimuli trace s run).each coil).held_for owner)
        ∙ is
