-- Alarms in order: the first is the least. When a row's due moment is set, its alarm is taken out and another put in.
use Rattle.std.proofs.Common.{rules, ◌≡◌, ℕ, zero, suc, ◌+◌, ◌<◌, ◌≤◌, nat_lt, ◌==◌, ◌&&◌, ◌||◌, Bool, false, Option}
use Rattle.std.proofs.Common.{Some, None, List, [], ◌∷◌, length, replicate, get_or, slice_get, slice_set, Bor, refl, ap}
use Rattle.std.proofs.{Common.{sym, ◌∙◌, arith}, lemmas.List.{length-set, set-get_or}}
use Rattle.std.specs.{Cmp.IsStrictWeakOrder, List.HoldsAt, Option.{MatchOption, option_copied}}
use Rattle.plan_tables.specs.declared.devices.RowId.{RowId}
use Rattle.event_queue.specs.Alarms.{comes_before, first_of, alarm_of, least_from, least_of}
use Rattle.event_queue.specs.OrderedLists.{IsOrdered, put_alarm, ordered_from, ordered_alarms}
use Rattle.event_queue.proofs.Put.{length-put, ordered-put, put_comm}

abbrev Alarm : Type 0
Alarm = ℕ × RowId

abbrev row_of : ℕ → RowId
row_of n = record { 0 = n }

-- ---- one alarm before another

abbrev lower : ℕ → ℕ → ℕ → ℕ → Bool
lower t r u s = nat_lt t u || ((t == u) && nat_lt r s)

pub before-order : IsStrictWeakOrder comes_before
before-order = search rules

before-same : (a b : Alarm) → comes_before a b ≡ false → comes_before b a ≡ false → a ≡ b
before-same a b not neither = search rules

-- ---- the first is the least

first_of-put : (alarm : Option Alarm) (alarms : List Alarm)
    → slice_get (put_alarm alarm alarms) 0 ≡ first_of alarm (slice_get alarms 0)
first_of-put (Some a) (b ∷ bs) = search rules
first_of-put _ _ = refl

first_from : (number : ℕ) (dues : List (Option ℕ)) → slice_get (ordered_from number dues) 0 ≡ least_from number dues
first_from number [] = refl
first_from number (due ∷ dues) =
    first_of-put (alarm_of (row_of number) due) (ordered_from (number + 1) dues)
    ∙ ap (first_of (alarm_of (row_of number) due)) (first_from (number + 1) dues)

pub first-least : (dues : List (Option ℕ)) → slice_get (ordered_alarms dues) 0 ≡ least_of dues
first-least dues = first_from 0 dues

-- what the front of a queue lends
pub front-is : (alarms : List Alarm) (front : Option (Bor Alarm))
    → MatchOption front (length alarms ≤ 0) (λ x. (0 < length alarms) × HoldsAt (λ y. x.now ≡ y) alarms 0)
    → option_copied front ≡ slice_get alarms 0
front-is [] None h = refl
front-is [] (Some x) h = let some = h.0 in absurd (omega arith)
front-is (a ∷ alarms) None h = absurd (omega arith)
front-is (a ∷ alarms) (Some x) h = ap (λ y. Some y) (h.1 a)

-- ---- they are in order, and no more than the rows

put_alarm-ordered : (alarm : Option Alarm) (alarms : List Alarm) → IsOrdered comes_before alarms
    → IsOrdered comes_before (put_alarm alarm alarms)
put_alarm-ordered alarm alarms ordered = search (rules, ordered-put, before-order)

from-ordered : (number : ℕ) (dues : List (Option ℕ)) → IsOrdered comes_before (ordered_from number dues)
from-ordered number [] = λ i j d low high. absurd (omega arith)
from-ordered number (due ∷ dues) = put_alarm-ordered (alarm_of (row_of number) due) (ordered_from (number + 1) dues)
    (from-ordered (number + 1) dues)

put_alarm-length : (alarm : Option Alarm) (alarms : List Alarm) → length (put_alarm alarm alarms) ≤ suc (length alarms)
put_alarm-length alarm alarms = search (rules, length-put)

from-length : (number : ℕ) (dues : List (Option ℕ)) → length (ordered_from number dues) ≤ length dues
from-length number [] = omega arith
from-length number (due ∷ dues) =
    let one = put_alarm-length (alarm_of (row_of number) due) (ordered_from (number + 1) dues) in
    let rest = from-length (number + 1) dues in
    omega arith

-- ---- no row is due

from-none : (number n : ℕ) → ordered_from number (replicate n None) ≡ []
from-none number zero = refl
from-none number (suc n) = from-none (number + 1) n

pub none-ordered : (n : ℕ) → [] ≡ ordered_alarms (replicate n None)
none-ordered n = sym (from-none 0 n)

-- ---- a row's due moment is set

put_alarm-comm : (a b : Option Alarm) (alarms : List Alarm)
    → put_alarm a (put_alarm b alarms) ≡ put_alarm b (put_alarm a alarms)
put_alarm-comm (Some a) (Some b) alarms = put_comm comes_before before-order before-same a b alarms
put_alarm-comm _ _ alarms = refl

from-set : (number r : ℕ) (dues : List (Option ℕ)) (due : Option ℕ) → r < length dues
    → ordered_from number (slice_set dues r due)
    ≡ put_alarm (alarm_of (row_of (number + r)) due) (ordered_from number (slice_set dues r None))
from-set number r [] due within = absurd (omega arith)
from-set number zero (d ∷ ds) due within = search rules
from-set number (suc r) (d ∷ ds) due within =
    let here : (number + 1) + r ≡ number + suc r = omega arith in
    let rest = ordered_from (number + 1) (slice_set ds r None) in
    ap (put_alarm (alarm_of (row_of number) d)) (from-set (number + 1) r ds due (omega arith))
    ∙ put_alarm-comm (alarm_of (row_of number) d) (alarm_of (row_of ((number + 1) + r)) due) rest
    ∙ ap (λ n. put_alarm (alarm_of (row_of n) due) (put_alarm (alarm_of (row_of number) d) rest)) here

module _ (dues : List (Option ℕ)) (row : RowId) (within : row.0 < length dues) where
  -- the alarms of all other rows
  abbrev pub others : List Alarm
  others = ordered_alarms (slice_set dues row.0 None)

  pub others-ordered : IsOrdered comes_before others
  others-ordered = from-ordered 0 (slice_set dues row.0 None)

  pub others-put : (due : Option ℕ) → put_alarm (alarm_of row due) others ≡ ordered_alarms (slice_set dues row.0 due)
  others-put due = search (rules, from-set)

  -- the row's alarm, as it was, is put into those of all others
  pub others-was : (was : Option ℕ) → was ≡ get_or dues row.0 was
      → ordered_alarms dues ≡ put_alarm (alarm_of row was) others
  others-was was read = sym (others-put was
      ∙ ap ordered_alarms (ap (slice_set dues row.0) read ∙ set-get_or dues row.0 was))

  -- so there is room for one more
  pub others-room : length others < length dues
  others-room =
      let more = ap length (others-put (Some 0)) in
      let one = length-put comes_before (0, row) others in
      let all = from-length 0 (slice_set dues row.0 (Some 0)) in
      let count = length-set dues row.0 (Some 0) in
      omega arith
