-- In every run all that the ledger books is in the trace, with the counts that follow from it.
use Rattle.std.proofs.Common.{rules, ◌≡◌, ℕ, ◌<◌, ◌⊎◌, inl, inr, true, List, [], ◌∷◌, ◌++◌, length, length-append}
use Rattle.std.proofs.Common.{get_or, drop, refl, sym, ap, ◌∙◌, subst, append_assoc, arith}
use Rattle.std.proofs.lemmas.List.{append-nil, length-replicate, Concat.flat_map-append}
use Rattle.plan_tables.specs.{PlanView.{PlanView, work_of}, declared.{devices.RowId.RowId, entries.Owner.Owner}}
use Rattle.ball_devices.specs.declared.booking.{Booking.{Booking, TheVariants.Entered}, Origin.Origin}
use Rattle.ball_devices.specs.Ledger.{Ledger, no_balls, origin_of, IsBalanced, IsLedger}
use Rattle.ball_devices.specs.Bookings.{LedgerCall, Enter, MayBook, MayBookAll, after_call, after_calls, booking_of}
use Rattle.ball_devices.specs.Bookings.{booked_by, can_book, HasBooked, origin_after}
use Rattle.ball_devices.proofs.Ledgers.{new-is, calls-are, call-is}
use Rattle.ball_devices.proofs.Booked.{call-told, balls_are_somewhere, ledgers_follow_bookings, origins_are_by_bookings}
use Rattle.cascade_rank.specs.Cost.{Cost}
use Rattle.written_machine.specs.declared.line.{BallCounts.BallCounts, Happening.Happening, Line.Line}
use Rattle.written_machine.specs.declared.line.Happening.TheVariants as lines
use Rattle.written_machine.specs.Counted.{booked_at, bookings, IsLedgerOf, AreOriginsRight, AreCountsRight}
use Rattle.written_machine.specs.{EventStep.{take_event, EventStep}, Moves.working}
use Rattle.written_machine.specs.Machine.{Machine, initial, write, answer_happening, counts_of}
use Rattle.written_machine.specs.Moves.{Move, do_move, Licence, MayDo, Does, IsNoBooking, TakesPart, Begins, ordinary}
use Rattle.written_machine.specs.Run.{Stimulus, IsAllowed, begin, IsRun, InEveryRun}
use Rattle.written_machine.proofs.Does.{start-by, stop-by, book-by, does-keeps}
use Rattle.written_machine.proofs.{Parts.{does-before, does-after, does-begin}, Keeps.{step-keeps, run-keeps}}
use Rattle.coil_guard.specs.declared.command.{Answer.Answer, Command.Command}

-- ---- one call more

calls-more : (cs : List LedgerCall) (c : LedgerCall) (l : Ledger)
    → after_calls (cs ++ c ∷ []) l ≡ after_call c (after_calls cs l)
calls-more [] c l = refl
calls-more (b ∷ cs) c l = calls-more cs c (after_call b l)

may-more : (cs : List LedgerCall) (c : LedgerCall) (l : Ledger) → MayBookAll cs l → MayBook c (after_calls cs l)
    → MayBookAll (cs ++ c ∷ []) l
may-more [] c l may one = (one, tt)
may-more (b ∷ cs) c l may one = (may.0, may-more cs c (after_call b l) may.1 one)

booked-more : (cs : List LedgerCall) (c : LedgerCall) (l : Ledger)
    → booked_by (cs ++ c ∷ []) l ≡ booked_by cs l ++ booking_of c (after_calls cs l) ∷ []
booked-more [] c l = refl
booked-more (b ∷ cs) c l = ap (λ bs. booking_of b l ∷ bs) (booked-more cs c (after_call b l))

may-can : (c : LedgerCall) (l : Ledger) → can_book c l ≡ true → MayBook c l
may-can c l is = search rules

-- ---- one line more

-- if a list with one more is parted, that is its last line, or a line of the list
parted : (ls : List Line) (l : Line) (before : List Line) (line : Line) (after : List Line)
    → ls ++ l ∷ [] ≡ before ++ line ∷ after
    → ((before ≡ ls) × (line ≡ l)) ⊎ ((rest : List Line) × (ls ≡ before ++ line ∷ rest))
parted [] l [] line after is = inl (refl, ap (λ (xs : List Line). get_or xs 0 l) (sym is))
parted [] l (b ∷ bs) line after is =
    let size : length (bs ++ line ∷ after) ≡ 0 = ap (λ (xs : List Line). length (drop 1 xs)) (sym is) in
    absurd (omega (arith, size, length-append bs (line ∷ after)))
parted (x ∷ xs) l [] line after is = search rules
parted (x ∷ xs) l (b ∷ bs) line after is =
    let head : x ≡ b = ap (λ (ys : List Line). get_or ys 0 x) is in
    let tail : xs ++ l ∷ [] ≡ bs ++ line ∷ after = ap (λ (ys : List Line). drop 1 ys) is in
    elim (parted xs l bs line after tail) [
      | inl last ↦ inl (ap (λ (ys : List Line). b ∷ ys) last.0 ∙ ap (λ (y : Line). y ∷ xs) (sym head), last.1)
      | inr more ↦ inr (more.0, ap (λ (y : Line). y ∷ xs) head ∙ ap (λ (ys : List Line). b ∷ ys) more.1)
    ]

bookings-push : (ls : List Line) (l : Line) → bookings (ls ++ l ∷ []) ≡ bookings ls ++ booked_at l.happening
bookings-push ls l = search (rules, flat_map-append, append-nil)

origins-push : (ls : List Line) (l : Line) → AreOriginsRight ls
    → ((r : RowId) (origin : Origin) (told : BallCounts) → l.happening ≡ lines.Balls (Entered r origin) told
    → origin ≡ origin_after (bookings ls) r)
    → AreOriginsRight (ls ++ l ∷ [])
origins-push ls l h here before line after r origin told parts is = search (rules, parted)

-- these are the counts of a ledger that has booked this
abbrev IsCounted : PlanView → List Booking → BallCounts → Type 0
IsCounted plan bs counts =
    (l : Ledger) × IsLedgerOf plan bs l × (counts ≡ counts_of l)

told-push : (plan : PlanView) (ls : List Line) (l : Line) → AreCountsRight plan ls
    → ((booking : Booking) (told : BallCounts) → l.happening ≡ lines.Balls booking told
    → IsCounted plan (bookings ls ++ booking ∷ []) told)
    → AreCountsRight plan (ls ++ l ∷ [])
told-push plan ls l h here before line after booking told parts is =
    elim (parted ls l before line after parts) [
      | inl last ↦
          subst (λ (xs : List Line). IsCounted plan (bookings xs ++ booking ∷ []) told) (sym last.0)
          (here booking told (ap (λ (x : Line). x.happening) (sym last.1) ∙ is))
      | inr more ↦ h before line more.0 booking told more.1 is
    ]

-- ---- what a trace and a ledger have booked

module _ (plan : PlanView) where
  -- The ledger is what these calls made of the first one, and the trace has what they booked.
  pub record IsTold (ls : List Line) (l : Ledger) : Type 0 where
    pub calls : List LedgerCall
    pub may : MayBookAll calls (no_balls plan)
    pub is : after_calls calls (no_balls plan) ≡ l
    pub booked_is : booked_by calls (no_balls plan) ≡ bookings ls
    pub rows : length l.counted ≡ length plan.rows
    pub origins : AreOriginsRight ls
    pub told : AreCountsRight plan ls

  first-told : IsTold [] (no_balls plan)
  first-told = record {
    calls = [];
    may = tt;
    is = refl;
    booked_is = refl;
    rows = length-replicate (length plan.rows) 0;
    origins = λ before line after r origin counts parts is.
        let size : 0 ≡ length (before ++ line ∷ after) = ap (λ (xs : List Line). length xs) parts in
        absurd (omega (arith, size, length-append before (line ∷ after)));
    told = λ before line after booking counts parts is.
        let size : 0 ≡ length (before ++ line ∷ after) = ap (λ (xs : List Line). length xs) parts in
        absurd (omega (arith, size, length-append before (line ∷ after)));
  }

  -- a line that tells of no booking
  nothing_at : (what : Happening) → IsNoBooking what → booked_at what ≡ []
  nothing_at what none = search rules

  not_balls : (what : Happening) (booking : Booking) (told : BallCounts) → IsNoBooking what
      → what ≡ lines.Balls booking told → ⊥
  not_balls what booking told none is = subst IsNoBooking is none

  quiet-told : (ls : List Line) (x : Line) (l : Ledger) → IsNoBooking x.happening → IsTold ls l
      → IsTold (ls ++ x ∷ []) l
  quiet-told ls x l none h = record {
    calls = h.calls;
    may = h.may;
    is = h.is;
    booked_is = h.booked_is ∙ sym (bookings-push ls x
        ∙ (ap (λ bs. bookings ls ++ bs) (nothing_at x.happening none) ∙ append-nil (bookings ls)));
    rows = h.rows;
    origins = origins-push ls x h.origins (λ r origin told is. absurd
        (not_balls x.happening (Entered r origin) told none is));
    told = told-push plan ls x h.told (λ booking told is. absurd (not_balls x.happening booking told none is));
  }

  -- a line of a booking, with its counts
  module _ (ls : List Line) (x : Line) (l : Ledger) (c : LedgerCall) (can : can_book c l ≡ true)
      (is : x.happening ≡ lines.Balls (booking_of c l) (counts_of (after_call c l))) (h : IsTold ls l) where
    may_now : MayBook c (after_calls h.calls (no_balls plan))
    may_now = subst (MayBook c) (sym h.is) (may-can c l can)

    next_may : MayBookAll (h.calls ++ c ∷ []) (no_balls plan)
    next_may = may-more h.calls c (no_balls plan) h.may may_now

    next_is : after_calls (h.calls ++ c ∷ []) (no_balls plan) ≡ after_call c l
    next_is = calls-more h.calls c (no_balls plan) ∙ ap (after_call c) h.is

    next_booked : booked_by (h.calls ++ c ∷ []) (no_balls plan) ≡ bookings ls ++ booking_of c l ∷ []
    next_booked = search (rules, booked-more)

    ledger-is : IsLedger l
    ledger-is = subst IsLedger h.is (calls-are h.calls (no_balls plan) (new-is plan) h.may)

    next_rows : length (after_call c l).counted ≡ length plan.rows
    next_rows = let tells = call-told l ledger-is.rows c (may-can c l can) in tells.rows ∙ h.rows

    -- the line tells of this booking
    its_booking : (booking : Booking) (told : BallCounts) → x.happening ≡ lines.Balls booking told
        → booking_of c l ≡ booking
    its_booking booking told other = cc

    its_counts : (booking : Booking) (told : BallCounts) → x.happening ≡ lines.Balls booking told
        → counts_of (after_call c l) ≡ told
    its_counts booking told other = cc

    origin_now : (d : LedgerCall) → d ≡ c → (r : RowId) (origin : Origin) → booking_of d l ≡ Entered r origin
        → origin ≡ origin_after (bookings ls) r
    origin_now (Enter e) same r origin entered =
        let from : origin_of e l ≡ origin = cc in
        let row : e ≡ r = cc in
        let may : MayBook (Enter e) l = subst (λ (d : LedgerCall). MayBook d l) (sym same) (may-can c l can) in
        let within : e.0 < length plan.rows = let rows = h.rows in omega (arith, may.0, rows) in
        sym from ∙ (ap (origin_of e) (sym h.is) ∙ (origins_are_by_bookings plan h.calls e h.may within
        ∙ (ap (λ bs. origin_after bs e) h.booked_is ∙ ap (λ (q : RowId). origin_after (bookings ls) q) row)))
    origin_now _ same r origin entered = absurd (cc)

    booking-told : IsTold (ls ++ x ∷ []) (after_call c l)
    booking-told = record {
      calls = h.calls ++ c ∷ [];
      may = next_may;
      is = next_is;
      booked_is = next_booked ∙ sym (bookings-push ls x ∙ ap (λ (what : Happening). bookings ls ++ booked_at what) is);
      rows = next_rows;
      origins = origins-push ls x h.origins
          (λ r origin told other. origin_now c refl r origin (its_booking (Entered r origin) told other));
      told = told-push plan ls x h.told (λ booking told other.
          let follows : HasBooked (bookings ls ++ booking ∷ []) (after_call c l) =
          subst (λ (b : Booking). HasBooked (bookings ls ++ b ∷ []) (after_call c l)) (its_booking booking told other)
          (subst (λ bs. HasBooked bs (after_call c l)) next_booked
          (subst (HasBooked (booked_by (h.calls ++ c ∷ []) (no_balls plan))) next_is
          (ledgers_follow_bookings plan (h.calls ++ c ∷ []) next_may))) in
          let still = call-is c l ledger-is (may-can c l can) in (
            after_call c l,
            record { rows = next_rows; targets = still.rows ∙ next_rows; history = follows },
            sym (its_counts booking told other),
          ));
    }

  -- ---- moves

  abbrev pub IsToldSoFar : List Line → Machine → Type 0
  IsToldSoFar before s = IsTold (before ++ s.lines) s.ledger

  write-told : (before : List Line) (owner : Owner) (what : Happening) (s : Machine) → IsNoBooking what
      → IsToldSoFar before s → IsToldSoFar before (write owner what s)
  write-told before owner what s none h = search (rules, append_assoc, quiet-told)

  no_booking : (command : Command) (answer : Answer) → IsNoBooking (answer_happening command answer)
  no_booking command answer = search rules

  told-move : (licence : Licence) (before : List Line) (x : Move) (s : Machine) → MayDo plan licence x
      → IsToldSoFar before s → IsToldSoFar before (do_move plan x s)
  told-move licence before x s may h = search
      (rules, write-told, start-by, stop-by, no_booking, book-by, append_assoc, booking-told)

  told-does : (licence : Licence) (before : List Line) {c : Cost} {s t : Machine} → Does plan (MayDo plan licence) c s t
      → IsToldSoFar before s → IsToldSoFar before t
  told-does licence before d h = does-keeps plan (MayDo plan licence) (IsToldSoFar before) (told-move licence before) d
      h

  -- ---- every run

  step-told : (before : List Line) (s t : Machine) → EventStep plan s t → IsToldSoFar before s → IsToldSoFar before t
  step-told before =
      step-keeps plan IsToldSoFar (λ first. IsToldSoFar)
      (λ earlier first rest s is h.
      told-does working earlier (does-before plan (work_of plan first.event) (take_event first rest s))
      (write-told earlier first.owner (lines.Event first.event) (record s { waiting = rest }) tt h))
      (λ earlier first c s t d h. told-does (ordinary plan (TakesPart s) ⊥) earlier d h)
      (λ earlier first kept s h. told-does working earlier (does-after plan kept first.event s) h) before

  begin-told : (before : List Line) (stimulus : Stimulus) (s : Machine) → IsAllowed plan s stimulus → s.waiting ≡ []
      → IsToldSoFar before s
      → IsToldSoFar (before ++ s.lines) (begin plan stimulus s)
  begin-told before stimulus s may empty h =
      told-does (ordinary plan (Begins plan stimulus) (Unit {0})) (before ++ s.lines) (does-begin plan stimulus s)
      (subst (λ (ls : List Line). IsTold ls s.ledger) (sym (append-nil (before ++ s.lines))) h)

  pub told-run : InEveryRun plan (λ stimuli trace s. IsTold trace s.ledger)
  told-run stimuli trace s run =
      let end = run-keeps plan IsToldSoFar step-told begin-told [] stimuli (initial plan) trace s run first-told in
      subst (λ (ls : List Line). IsTold ls s.ledger) end.2 end.1

  -- what follows of every run
  module _ (stimuli : List (Stimulus × ℕ)) (trace : List Line) (s : Machine)
      (run : IsRun plan stimuli (initial plan) trace s) where
    now : IsTold trace s.ledger
    now = told-run stimuli trace s run

    pub booked-run : IsLedgerOf plan (bookings trace) s.ledger
    booked-run = search (rules, now, calls-are, new-is, ledgers_follow_bookings)

    pub somewhere-run : IsBalanced s.ledger
    somewhere-run = subst IsBalanced now.is (balls_are_somewhere plan now.calls now.may)
