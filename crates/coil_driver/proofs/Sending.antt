-- The lines of a cascade have just the commands that its guard has sent.
use Rattle.std.proofs.Common.{◌≡◌, ℕ, ◌<◌, ◌^◌, inl, inr, Bool, true, false, cond, if◌then◌else◌, List, [], ◌∷◌, ◌++◌}
use Rattle.std.{proofs.Common.{length, refl, sym, ap, ◌∙◌, subst, arith}, specs.List.All}
use Rattle.std.proofs.lemmas.{Bool.{cases_lt, cond_both}, List.{get_or_past, Elements.All-cons}}
use Rattle.plan_tables.specs.{PlanView.{PlanView, work_of}, declared.entries.{Owner.Owner, CoilId.CoilId}}
use Rattle.coil_guard.specs.declared.{command.{Command.Command, Answer.Answer}, state.CoilState.CoilState}
use Rattle.coil_guard.specs.declared.command.Command.TheVariants as commands
use Rattle.coil_guard.specs.declared.command.Answer.TheVariants as answers
use Rattle.coil_guard.specs.{Limits.no_limits, SentCommands.coil_of}
use Rattle.coil_guard.specs.CoilStep.{off, is_on_at, takes_pulse, pulse_coil, takes_enable, enabled, disable_coil}
use Rattle.coil_guard.specs.{Coils.{coil_at, set_coil}, Asked.{after_asking, answer_asking}}
use Rattle.ball_devices.specs.Bookings.{LedgerCall, after_call, booking_of, can_book}
use Rattle.cascade_rank.specs.Cost.{Cost}
use Rattle.written_machine.specs.declared.line.{Line.Line, Happening.Happening}
use Rattle.written_machine.specs.declared.line.Happening.TheVariants as lines
use Rattle.written_machine.specs.Machine.{Machine, write, set_ledger, answer_happening, ask_coil, leave_out}
use Rattle.written_machine.specs.{Machine.{book, counts_of}, Run.{Stimulus, begin}}
use Rattle.written_machine.specs.EventStep.{take_event, EventStep, EventSteps}
use Rattle.written_machine.specs.Moves.{Move, Wrote, Began, Ended, Asked, Booked, do_move, Licence, MayDo, Does}
use Rattle.written_machine.specs.Moves.{IsNoCommand, TakesPart, Begins, ordinary, working}
use Rattle.written_machine.proofs.{Does.{start-by, stop-by, does-keeps}, Parts.{does-before, does-after, does-begin}}
use Rattle.written_machine.proofs.{Held.asked-count, Keeps.{step-keeps, steps-keep}}
use Rattle.coil_driver.specs.Board.{after_happening, after_line, after_lines}
use Rattle.coil_driver.specs.{Driver.{IsToCoil, IsSendable}, Agrees.{IsSent, AreSent, Agrees}}
use Rattle.coil_guard.proofs.Following.{never-pulsed, never-enabled, never-on}

-- ---- one command

-- what a command that is asked for leads to, its line says
record IsTold (s : List CoilState) (owner : Owner) (now : ℕ) (command : Command) : Type 0 where
  leads : after_happening owner now (answer_happening command (answer_asking command owner now s)) s
      ≡ after_asking command owner now s
  sent : IsSent s owner now (answer_happening command (answer_asking command owner now s))

told-by : (b : Bool) (x s : List CoilState) (owner : Owner) (now : ℕ) (command : Command)
    → after_asking command owner now s ≡ cond b x s
    → answer_asking command owner now s ≡ cond b (answers.Sent command) answers.Skipped → IsTold s owner now command
told-by true x s owner now command next answer = record {
  leads = ap (λ (a : Answer). after_happening owner now (answer_happening command a) s) answer;
  sent = subst (λ (a : Answer). IsSent s owner now (answer_happening command a)) (sym answer) answer;
}
told-by false x s owner now command next answer = record {
  leads = ap (λ (a : Answer). after_happening owner now (answer_happening command a) s) answer ∙ sym next;
  sent = subst (λ (a : Answer). IsSent s owner now (answer_happening command a)) (sym answer) tt;
}

is-told : (s : List CoilState) (owner : Owner) (now : ℕ) (command : Command) → IsTold s owner now command
is-told s owner now (commands.Pulse coil ms power) =
    told-by (takes_pulse ms power now (coil_at s coil)) (set_coil coil (pulse_coil ms now (coil_at s coil)) s) s owner
    now (commands.Pulse coil ms power) refl refl
is-told s owner now (commands.Enable coil power) =
    told-by (takes_enable power (coil_at s coil)) (set_coil coil (enabled owner (coil_at s coil)) s) s owner now
    (commands.Enable coil power) refl refl
is-told s owner now (commands.Disable coil) =
    told-by (is_on_at now (coil_at s coil)) (set_coil coil (disable_coil (coil_at s coil)) s) s owner now
    (commands.Disable coil) refl refl

-- what is sent is sent to a coil that there is
sent-there : (s : List CoilState) (coil : CoilId) (test : CoilState → Bool) (command : Command)
    → (test (off no_limits) ≡ true → ⊥)
    → cond (test (coil_at s coil)) (answers.Sent command) answers.Skipped ≡ answers.Sent command → coil.0 < length s
sent-there s coil test command none =
    cond_both (test (coil_at s coil)) (answers.Sent command) answers.Skipped
    (λ (a : Answer). a ≡ answers.Sent command → coil.0 < length s)
    (λ yes_ h. elim (cases_lt coil.0 (length s)) [
      | inl there ↦ there
      | inr past ↦ absurd (none (sym (ap test (get_or_past s coil.0 (off no_limits) past)) ∙ yes_))
    ])
    (λ no_ h. cc)

to-coil : (s : List CoilState) (owner : Owner) (now : ℕ) (command : Command)
    → answer_asking command owner now s ≡ answers.Sent command → (coil_of command).0 < length s
to-coil s owner now (commands.Pulse coil ms power) h =
    sent-there s coil (takes_pulse ms power now) (commands.Pulse coil ms power) (never-pulsed ms power now) h
to-coil s owner now (commands.Enable coil power) h =
    sent-there s coil (takes_enable power) (commands.Enable coil power) (never-enabled power) h
to-coil s owner now (commands.Disable coil) h =
    sent-there s coil (is_on_at now) (commands.Disable coil) (never-on now) h

-- ---- lines

sent-push : (moment : ℕ) (s : List CoilState) (ls : List Line) (l : Line) → AreSent moment s ls → l.moment ≡ moment
    → IsSent (after_lines ls s) l.owner l.moment l.happening → AreSent moment s (ls ++ l ∷ [])
sent-push moment s [] l h at last = (at, last, tt)
sent-push moment s (x ∷ ls) l h at last = (h.0, h.1, sent-push moment (after_line x s) ls l h.2 at last)

pub after_lines-append : (ls more : List Line) (s : List CoilState)
    → after_lines (ls ++ more) s ≡ after_lines more (after_lines ls s)
after_lines-append [] more s = refl
after_lines-append (l ∷ ls) more s = after_lines-append ls more (after_line l s)

count-happening : (owner : Owner) (now : ℕ) (what : Happening) (s : List CoilState)
    → length (after_happening owner now what s) ≡ length s
count-happening owner now (lines.Coil command) s = asked-count owner command now s
count-happening owner now _ s = refl

sendable-one : (s : List CoilState) (owner : Owner) (now : ℕ) (what : Happening) → IsSent s owner now what
    → IsToCoil (length s) what
sendable-one s owner now (lines.Coil command) h = to-coil s owner now command h
sendable-one s owner now _ h = tt

pub sent-sendable : (moment : ℕ) (s : List CoilState) (count : ℕ) (ls : List Line) → moment < 2 ^ 40 → length s ≡ count
    → AreSent moment s ls → All (IsSendable count) ls
sent-sendable moment s count [] early counted h = λ k d within. absurd (omega (arith, within))
sent-sendable moment s count (l ∷ ls) early counted h =
    All-cons (IsSendable count) l ls (
      subst (λ n. IsToCoil n l.happening) counted (sendable-one s l.owner l.moment l.happening h.1),
      (let at = h.0 in omega (arith, early, at)),
    )
    (sent-sendable moment (after_line l s) count ls early (count-happening l.owner l.moment l.happening s ∙ counted)
    h.2)

-- ---- the machine

module _ (plan : PlanView) (start : List CoilState) where
  wrote-agrees : (owner : Owner) (what : Happening) (s : Machine) → IsNoCommand what → Agrees start s
      → Agrees start (write owner what s)
  wrote-agrees owner what s none h =
      let l : Line = record { moment = s.moment; owner = owner; happening = what } in
      record {
        coils = h.coils ∙ same what none (after_lines s.lines start) ∙ sym (after_lines-append s.lines (l ∷ []) start);
        commands = sent-push s.moment start s.lines l h.commands refl (quiet what none);
      }
    where
      same : (w : Happening) → IsNoCommand w → (cs : List CoilState) → cs ≡ after_happening owner s.moment w cs
      same (lines.Switch n active) is cs = refl
      same (lines.Event e) is cs = refl
      same (lines.Coil command) is cs = absurd is
      same (lines.Skip command) is cs = absurd is
      same (lines.Player player v value) is cs = refl
      same (lines.Balls booking counts) is cs = refl
      same (lines.Final player score) is cs = refl

      quiet : (w : Happening) → IsNoCommand w → IsSent (after_lines s.lines start) owner s.moment w
      quiet (lines.Coil command) is = absurd is
      quiet (lines.Skip command) is = absurd is
      quiet _ is = tt

  asked-agrees : (owner : Owner) (command : Command) (s : Machine) → Agrees start s
      → Agrees start (ask_coil owner command s)
  asked-agrees owner command s h =
      let what = answer_happening command (answer_asking command owner s.moment s.coils) in
      let l : Line = record { moment = s.moment; owner = owner; happening = what } in
      let asked = is-told s.coils owner s.moment command in
      record {
        coils = sym asked.leads ∙ ap (after_happening owner s.moment what) h.coils
            ∙ sym (after_lines-append s.lines (l ∷ []) start);
        commands = sent-push s.moment start s.lines l h.commands refl
            (subst (λ cs. IsSent cs owner s.moment what) h.coils asked.sent);
      }

  -- a booking is no command
  booked-agrees : (owner : Owner) (call : LedgerCall) (s : Machine) → Agrees start s → Agrees start (book owner call s)
  booked-agrees owner call s h = by (can_book call s.ledger)
    where
      by : (b : Bool) → Agrees start (if b then write owner
          (lines.Balls (booking_of call s.ledger) (counts_of (after_call call s.ledger)))
          (set_ledger (after_call call s.ledger) s) else leave_out s)
      by true =
          wrote-agrees owner (lines.Balls (booking_of call s.ledger) (counts_of (after_call call s.ledger)))
          (set_ledger (after_call call s.ledger) s) tt
          (record { coils = h.coils; commands = h.commands })
      by false = record { coils = h.coils; commands = h.commands }

  agrees-move : (licence : Licence) (x : Move) (s : Machine) → MayDo plan licence x → Agrees start s
      → Agrees start (do_move plan x s)
  agrees-move licence (Wrote owner what) s may h = wrote-agrees owner what s may.2 h
  agrees-move licence (Began m) s may h = start-by plan m s (Agrees start)
      (record { coils = h.coils; commands = h.commands })
      (record { coils = h.coils; commands = h.commands })
  agrees-move licence (Ended m) s may h = stop-by plan m s (Agrees start)
      (record { coils = h.coils; commands = h.commands })
      (record { coils = h.coils; commands = h.commands })
  agrees-move licence (Asked owner command) s may h = asked-agrees owner command s h
  agrees-move licence (Booked owner call) s may h = booked-agrees owner call s h
  agrees-move licence _ s may h = record { coils = h.coils; commands = h.commands }

  agrees-does : (licence : Licence) {c : Cost} {s t : Machine} → Does plan (MayDo plan licence) c s t → Agrees start s
      → Agrees start t
  agrees-does licence d h = does-keeps plan (MayDo plan licence) (Agrees start) (agrees-move licence) d h

  step-agrees : (s t : Machine) → EventStep plan s t → Agrees start s → Agrees start t
  step-agrees =
      step-keeps plan (λ before. Agrees start) (λ first before. Agrees start)
      (λ earlier first rest s is h.
      agrees-does working (does-before plan (work_of plan first.event) (take_event first rest s))
      (wrote-agrees first.owner (lines.Event first.event) (record s { waiting = rest }) tt
      (record { coils = h.coils; commands = h.commands })))
      (λ earlier first c s t d h. agrees-does (ordinary plan (TakesPart s) ⊥) d h)
      (λ earlier first kept s h. agrees-does working (does-after plan kept first.event s) h) []

-- a stimulus and its event steps
pub cascade-agrees : (plan : PlanView) (stimulus : Stimulus) (s : Machine) (n : ℕ) (t : Machine)
    → EventSteps plan n (begin plan stimulus s) t → Agrees s.coils t
cascade-agrees plan stimulus s n t steps =
    steps-keep plan (λ before. Agrees s.coils) (λ before. step-agrees plan s.coils) [] n (begin plan stimulus s) t steps
    (agrees-does plan s.coils (ordinary plan (Begins plan stimulus) (Unit {0})) (does-begin plan stimulus s)
    (record { coils = refl; commands = tt }))
