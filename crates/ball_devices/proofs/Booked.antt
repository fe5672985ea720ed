-- What a ledger says follows from what it has booked.
use Rattle.std.{specs.List.count_by, proofs.lemmas.Bool.{cases_eq, cases_lt, eq-eqb, ne_eqb, lt-ltb, le-ltb}}
use Rattle.std.proofs.Common.{rules, ◌≡◌, ℕ, ◌+◌, ◌-◌, ◌<◌, ◌==◌, nat_lt, Bool, cond, List, [], ◌∷◌, ◌++◌, length}
use Rattle.std.proofs.Common.{slice_index_or, slice_set, refl, ap, ap₂, sym, subst, ◌∙◌, inl, inr, append-nil}
use Rattle.std.proofs.{Common.{append_assoc, arith}, lemmas.List.{get_or-replicate, Sums.sum_by_push}}
use Rattle.std.proofs.lemmas.List.{length-set, length-replicate, get_or_past, get_or-set_same, get_or-set_other}
use Rattle.plan_tables.specs.declared.devices.{RowId.RowId, BallTarget.{BallTarget, TheVariants.{Playfield, Device}}}
use Rattle.plan_tables.specs.{PlanView.{PlanView, is_target}, Valid.IsTargetThere}
use Rattle.ball_devices.specs.declared.booking.Origin.{Origin, TheVariants.{Awaited, Found, New}}
use Rattle.ball_devices.specs.declared.booking.Booking.{Booking, TheVariants.{Entered, Left, Lost, Arrived}}
use Rattle.ball_devices.specs.Ledger.{Ledger, no_balls, counted_in, transit_to, set_counted, origin_of, take_ball, left}
use Rattle.ball_devices.specs.Ledger.{lost, arrived, IsLedger}
use Rattle.ball_devices.specs.Bookings.{LedgerCall, Enter, Leave, Lose, Arrive, after_call, booking_of, MayBook, one}
use Rattle.ball_devices.specs.Bookings.{after_calls, booked_by, MayBookAll, is_new_entry, is_found_entry, is_entry_into}
use Rattle.ball_devices.specs.Bookings.{is_exit_from, is_start_for, is_end_for, is_loose, HasBooked, origin_after, Says}
use Rattle.ball_devices.specs.Laws.{BallsAreSomewhere, LedgersFollowBookings, OriginsFollowBookings}
use Rattle.ball_devices.proofs.Ledgers.{origin-says, new-is, call-is, calls-are}

-- ---- one number more, and one less

one-same : (i j : ℕ) → i ≡ j → one (i == j) ≡ 1
one-same i j same = ap one (eq-eqb i j same)

one-other : (i j : ℕ) → (i ≡ j → ⊥) → one (i == j) ≡ 0
one-other i j other = ap one (ne_eqb i j other)

read-more : (xs : List ℕ) (i j : ℕ) → j < length xs
    → slice_index_or (slice_set xs j (slice_index_or xs j 0 + 1)) i 0 ≡ slice_index_or xs i 0 + one (i == j)
read-more xs i j within =
    search (rules, cases_eq, get_or-set_same, slice_index_or, one-same, get_or-set_other, one-other)

read-less : (xs : List ℕ) (i j : ℕ) → j < length xs → 0 < slice_index_or xs j 0
    → slice_index_or (slice_set xs j (slice_index_or xs j 0 - 1)) i 0 + one (i == j) ≡ slice_index_or xs i 0
read-less xs i j within some =
    search (rules, cases_eq, get_or-set_same, slice_index_or, one-same, get_or-set_other, one-other)

-- ---- one booking more

-- what a booking says of a call that leads from one ledger to another
pub record Tells (b : Booking) (old new : Ledger) : Type 0 where
  pub rows : length new.counted ≡ length old.counted
  pub known : new.known ≡ old.known + one (is_new_entry b)
  pub counted : (d : RowId) → d.0 < length old.counted
      → counted_in new d + one (is_exit_from d b) ≡ counted_in old d + one (is_entry_into d b)
  pub transit : (target : BallTarget) → IsTargetThere (length old.counted) target
      → transit_to new target + one (is_end_for target b) ≡ transit_to old target + one (is_start_for target b)
  pub playfield : new.playfield + one (is_found_entry b) ≡ old.playfield + one (is_loose b)

count-more : (p : Booking → Bool) (bs : List Booking) (b : Booking)
    → count_by p (bs ++ b ∷ []) ≡ count_by p bs + one (p b)
count-more p bs b = sum_by_push (λ x. cond (p x) 1 0) bs b

there-in : (n m : ℕ) (target : BallTarget) → n ≡ m → IsTargetThere n target → IsTargetThere m target
there-in n m target same there = subst (λ (k : ℕ). IsTargetThere k target) same there

booked-more : (bs : List Booking) (b : Booking) (old new : Ledger) → HasBooked bs old → Tells b old new
    → HasBooked (bs ++ b ∷ []) new
booked-more bs b old new has tells = record {
  known = omega (arith, has.known, tells.known, count-more is_new_entry bs b);
  counted = λ d within.
      let was : d.0 < length old.counted = omega (arith, tells.rows) in
      omega (
        arith,
        has.counted d was,
        tells.counted d was,
        count-more (is_entry_into d) bs b,
        count-more (is_exit_from d) bs b,
      );
  transit = λ target there.
      let was = there-in (length new.counted) (length old.counted) target tells.rows there in
      omega (
        arith,
        has.transit target was,
        tells.transit target was,
        count-more (is_start_for target) bs b,
        count-more (is_end_for target) bs b,
      );
  playfield = omega (arith, has.playfield, tells.playfield, count-more is_loose bs b, count-more is_found_entry bs b);
}

-- ---- each call is told by what it books

module _ (l : Ledger) (rows : length l.to_devices ≡ length l.counted) where
  -- ---- a ball enters a device

  module _ (d : RowId) (within : d.0 < length l.counted) where
    to_devices : d.0 < length l.to_devices
    to_devices = omega arith

    entered-rows : length (slice_set l.counted d.0 (counted_in l d + 1)) ≡ length l.counted
    entered-rows = length-set l.counted d.0 (counted_in l d + 1)

    entered-counted : (e : RowId)
        → slice_index_or (slice_set l.counted d.0 (counted_in l d + 1)) e.0 0 + 0 ≡ counted_in l e + one (e.0 == d.0)
    entered-counted e = omega (arith, read-more l.counted e.0 d.0 within)

    entered-told : (o : Origin) → Says o (transit_to l (Device d)) l.playfield
        → Tells (Entered d o) l (set_counted d (counted_in l d + 1) (take_ball d o l))
    entered-told Awaited some = record {
      rows = entered-rows;
      known = omega arith;
      counted = λ e there. entered-counted e;
      transit = λ target there. on_way target;
      playfield = refl;
    }
      where
        on_way : (target : BallTarget)
            → transit_to (take_ball d Awaited l) target + one (is_end_for target (Entered d Awaited))
            ≡ transit_to l target + 0
        on_way x1 = search (rules, read-less, to_devices)
    entered-told Found says = record {
      rows = entered-rows;
      known = omega arith;
      counted = λ e there. entered-counted e;
      transit = λ target there. refl;
      playfield = omega (arith, says.1);
    }
    entered-told New says = record {
      rows = entered-rows;
      known = refl;
      counted = λ e there. entered-counted e;
      transit = λ target there. refl;
      playfield = refl;
    }

  -- ---- a ball leaves a device

  module _ (d : RowId) (within : d.0 < length l.counted) (some : 0 < counted_in l d) where
    gone-rows : length (slice_set l.counted d.0 (counted_in l d - 1)) ≡ length l.counted
    gone-rows = length-set l.counted d.0 (counted_in l d - 1)

    gone-counted : (e : RowId)
        → slice_index_or (slice_set l.counted d.0 (counted_in l d - 1)) e.0 0 + one (e.0 == d.0) ≡ counted_in l e + 0
    gone-counted e = omega (arith, read-less l.counted e.0 d.0 within some)

    left-told : (to : BallTarget) → IsTargetThere (length l.counted) to → Tells (Left d to) l (left d to l)
    left-told Playfield there = record {
      rows = gone-rows;
      known = omega arith;
      counted = λ e _. gone-counted e;
      transit = λ target _. on_way target;
      playfield = refl;
    }
      where
        on_way : (target : BallTarget)
            → transit_to (left d Playfield l) target + 0 ≡ transit_to l target + one (is_target target Playfield)
        on_way x1 = search rules
    left-told (Device to) there = record {
      rows = gone-rows;
      known = omega arith;
      counted = λ e _. gone-counted e;
      transit = λ target _. on_way target;
      playfield = refl;
    }
      where
        on_way : (target : BallTarget)
            → transit_to (left d (Device to) l) target + 0 ≡ transit_to l target + one (is_target target (Device to))
        on_way x1 = search (rules, read-more, to_devices)

    lost-told : Tells (Lost d) l (lost d l)
    lost-told = record {
      rows = gone-rows;
      known = omega arith;
      counted = λ e _. gone-counted e;
      transit = λ target _. refl;
      playfield = omega arith;
    }

  -- ---- a ball arrives

  arrived-told : (to : BallTarget) → IsTargetThere (length l.counted) to → 0 < transit_to l to
      → Tells (Arrived to) l (arrived to l)
  arrived-told Playfield there some = record {
    rows = refl;
    known = omega arith;
    counted = λ e _. refl;
    transit = λ target _. on_way target;
    playfield = omega arith;
  }
    where
      on_way : (target : BallTarget)
          → transit_to (arrived Playfield l) target + one (is_target target Playfield) ≡ transit_to l target + 0
      on_way x1 = search rules
  arrived-told (Device to) there some = record {
    rows = refl;
    known = omega arith;
    counted = λ e _. refl;
    transit = λ target _. on_way target;
    playfield = omega arith;
  }
    where
      on_way : (target : BallTarget)
          → transit_to (arrived (Device to) l) target + one (is_target target (Device to)) ≡ transit_to l target + 0
      on_way x1 = search (rules, read-less, to_devices)

  pub call-told : (c : LedgerCall) → MayBook c l → Tells (booking_of c l) l (after_call c l)
  call-told (Enter d) may = entered-told d may.0 (origin_of d l) (origin-says d l)
  call-told (Leave d to) may = left-told d may.0 may.2 to may.1
  call-told (Lose d) may = lost-told d may.0 may.1
  call-told (Arrive to) may = arrived-told to may.0 may.1

-- ---- all calls

-- after them the devices are the same, and what is booked is what was booked before and what they book
record Followed (bs : List Booking) (cs : List LedgerCall) (l : Ledger) : Type 0 where
  rows : length (after_calls cs l).counted ≡ length l.counted
  has : HasBooked (bs ++ booked_by cs l) (after_calls cs l)

calls-followed : (cs : List LedgerCall) (bs : List Booking) (l : Ledger) → IsLedger l → MayBookAll cs l → HasBooked bs l
    → Followed bs cs l
calls-followed [] bs l is may has = record {
  rows = refl;
  has = subst (λ (xs : List Booking). HasBooked xs l) (sym (append-nil bs)) has;
}
calls-followed (c ∷ cs) bs l is may has =
    let next = after_call c l in
    let tells = call-told l is.rows c may.0 in
    let more = booked-more bs (booking_of c l) l next has tells in
    let rest = calls-followed cs (bs ++ booking_of c l ∷ []) next (call-is c l is may.0) may.1 more in
    record {
      rows = rest.rows ∙ tells.rows;
      has =
          subst (λ (xs : List Booking). HasBooked xs (after_calls cs next))
          (append_assoc bs (booking_of c l ∷ []) (booked_by cs next)) rest.has;
    }

-- at first nothing is booked
none-booked : (plan : PlanView) → HasBooked [] (no_balls plan)
none-booked plan = record {
  known = refl;
  counted = λ d within. omega (arith, none d.0);
  transit = λ target there. on_way target;
  playfield = refl;
}
  where
    none : (k : ℕ) → slice_index_or (no_balls plan).counted k 0 ≡ 0
    none k =
        elim (cases_lt k (length plan.rows)) [
          | inl within ↦ get_or-replicate (length plan.rows) k 0 0 within
          | inr past ↦ get_or_past (no_balls plan).counted k 0
              (omega (arith, length-replicate {A = ℕ} (length plan.rows) 0))
        ]

    on_way : (target : BallTarget) → ◌≡◌ {A = ℕ} 0 (transit_to (no_balls plan) target + 0)
    on_way x1 = search (rules, none)

module _ (plan : PlanView) (calls : List LedgerCall) (may : MayBookAll calls (no_balls plan)) where
  from_new : Followed [] calls (no_balls plan)
  from_new = calls-followed calls [] (no_balls plan) (new-is plan) may (none-booked plan)

pub balls_are_somewhere : BallsAreSomewhere
balls_are_somewhere plan calls may = let is = calls-are calls (no_balls plan) (new-is plan) may in is.balance

pub ledgers_follow_bookings : LedgersFollowBookings
ledgers_follow_bookings plan calls may = let followed = from_new plan calls may in followed.has

-- ---- where the next ball comes from

-- of one kind of booking there are more than of another exactly if some are left
some-left : (n started ended : ℕ) → started ≡ n + ended → nat_lt 0 n ≡ nat_lt ended started
some-left n started ended is =
    elim (cases_lt 0 n) [
      | inl some ↦ lt-ltb 0 n some ∙ sym (lt-ltb ended started (omega arith))
      | inr none ↦ le-ltb 0 n none ∙ sym (le-ltb ended started (omega arith))
    ]

origin-booked : (bs : List Booking) (l : Ledger) (d : RowId) → HasBooked bs l → d.0 < length l.counted
    → origin_of d l ≡ origin_after bs d
origin-booked bs l d has within =
    ap₂ (λ (awaited found : Bool). cond awaited Awaited (cond found Found New))
    (some-left (transit_to l (Device d)) (count_by (is_start_for (Device d)) bs) (count_by (is_end_for (Device d)) bs)
    (has.transit (Device d) within))
    (some-left l.playfield (count_by is_loose bs) (count_by is_found_entry bs) has.playfield)

pub origins_are_by_bookings : OriginsFollowBookings
origins_are_by_bookings plan calls d may within =
    let followed = from_new plan calls may in
    origin-booked (booked_by calls (no_balls plan)) (after_calls calls (no_balls plan)) d followed.has
    (omega (arith, followed.rows, length-replicate {A = ℕ} (length plan.rows) 0))
