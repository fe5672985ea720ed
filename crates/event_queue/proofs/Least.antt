-- The least alarm is the one that the definition computes.
use Rattle.std.proofs.Common.{rules, ◌≡◌, ℕ, suc, ◌+◌, ◌<◌, ◌≤◌, ◌⊎◌, Option, Some, None, MatchOption, IfSome, List, []}
use Rattle.std.proofs.Common.{◌∷◌, length, slice_index_or, refl, ap, sym, subst, ◌∙◌, arith}
use Rattle.std.proofs.lemmas.{Bool.cases_lt, Option.none-some, List.get_or_past}
use Rattle.plan_tables.specs.declared.devices.RowId.{RowId}
use Rattle.event_queue.specs.Alarms.{due_of, first_of, alarm_of, least_from, least_of, IsLeast, AlarmsGiveTheLeast}
use Rattle.yaml_bytes.proofs.Each.{none_of}

-- ---- the least alarm among some

-- Of the rows and moments for which `Is` holds: the row is due at the moment, no row is due before it, and no lower row
-- is due at it.
pub record IsLeastOf (Is : ℕ → ℕ → Type 0) (moment row : ℕ) : Type 0 where
  pub is : Is row moment
  pub earliest : (r t : ℕ) → Is r t → moment ≤ t
  pub lowest : (r t : ℕ) → Is r t → moment ≡ t → row ≤ r

abbrev pub LeastAmong : (ℕ → ℕ → Type 0) → Option (ℕ × RowId) → Type 0
LeastAmong Is o = MatchOption o ((r t : ℕ) → Is r t → ⊥) (λ a. IsLeastOf Is a.0 a.1.0)

-- it is the least among the same ones, said in another way
agree : (P R : ℕ → ℕ → Type 0) (o : Option (ℕ × RowId)) → ((r t : ℕ) → P r t → R r t) → ((r t : ℕ) → R r t → P r t)
    → LeastAmong P o → LeastAmong R o
agree P R o to from p = search rules

-- ---- of two alarms the one that comes first

-- all of `P` and of `Q` is in `R`, and nothing else
module _ (P Q R : ℕ → ℕ → Type 0) (from_P : (r t : ℕ) → P r t → R r t) (from_Q : (r t : ℕ) → Q r t → R r t)
    (split : (r t : ℕ) → R r t → P r t ⊎ Q r t) where
  first_of-least : (a b : Option (ℕ × RowId)) → LeastAmong P a → LeastAmong Q b → LeastAmong R (first_of a b)
  first_of-least a b p q = search rules

-- the alarm of one row
alarm_of-least : (row : RowId) (due : Option ℕ) → LeastAmong (λ r t. (r ≡ row.0) × (due ≡ Some t)) (alarm_of row due)
alarm_of-least row due = search rules

-- ---- among all rows

abbrev pub IsDue : List (Option ℕ) → ℕ → ℕ → Type 0
IsDue dues r t = slice_index_or dues r None ≡ Some t

-- a row is due, where the rows are numbered from k on
record IsFrom (k : ℕ) (dues : List (Option ℕ)) (r t : ℕ) : Type 0 where
  place : ℕ
  at : r ≡ k + place
  due : IsDue dues place t

from-cons : (k : ℕ) (due : Option ℕ) (dues : List (Option ℕ)) (r t place : ℕ) → r ≡ k + place
    → IsDue (due ∷ dues) place t → ((r ≡ k) × (due ≡ Some t)) ⊎ IsFrom (k + 1) dues r t
from-cons k due dues r t place at is = search rules

least_from-least : (k : ℕ) (dues : List (Option ℕ)) → LeastAmong (IsFrom k dues) (least_from k dues)
least_from-least k [] = λ r t h. none-some t h.due
least_from-least k (due ∷ dues) =
    first_of-least (λ r t. (r ≡ k) × (due ≡ Some t)) (IsFrom (k + 1) dues) (IsFrom k (due ∷ dues))
    (λ r t h. let here = h.0 in record { place = 0; at = omega arith; due = h.1 })
    (λ r t h. let at = h.at in record { place = suc h.place; at = omega arith; due = h.due })
    (λ r t h. from-cons k due dues r t h.place h.at h.due)
    (alarm_of (record { 0 = k }) due) (least_from (k + 1) dues)
    (alarm_of-least (record { 0 = k }) due) (least_from-least (k + 1) dues)

pub least_of-least : (dues : List (Option ℕ)) → LeastAmong (IsDue dues) (least_of dues)
least_of-least dues =
    agree (IsFrom 0 dues) (IsDue dues) (least_of dues)
    (λ r t h. let at : r ≡ h.place = let is = h.at in omega arith in ap (λ n. slice_index_or dues n None) at ∙ h.due)
    (λ r t h. record { place = r; at = omega arith; due = h }) (least_from-least 0 dues)

-- ---- the row that `least` gives

pub answer-within : (dues : List (Option ℕ)) (o : Option (ℕ × RowId)) → LeastAmong (IsDue dues) o
    → IfSome o (λ alarm. alarm.1.0 < length dues)
answer-within dues o p = search (rules, cases_lt, none-some, get_or_past)

pub least-within : (dues : List (Option ℕ)) (o : Option (ℕ × RowId)) → o ≡ least_of dues
    → IfSome o (λ alarm. alarm.1.0 < length dues)
least-within dues o is = answer-within dues o (subst (LeastAmong (IsDue dues)) (sym is) (least_of-least dues))

-- ---- the law

none_due : (dues : List (Option ℕ)) → least_of dues ≡ None → (row : RowId) → due_of dues row ≡ None
none_due dues is row =
    let none : (r t : ℕ) → IsDue dues r t → ⊥ = subst (LeastAmong (IsDue dues)) is (least_of-least dues) in
    none_of (due_of dues row) (none row.0)

is_least : (dues : List (Option ℕ)) (moment : ℕ) (row : RowId) → least_of dues ≡ Some (moment, row)
    → IsLeast dues moment row
is_least dues moment row is =
    let least : IsLeastOf (IsDue dues) moment row.0 = subst (LeastAmong (IsDue dues)) is (least_of-least dues) in
    record {
      due = least.is;
      earliest = λ other at h. least.earliest other.0 at h;
      lowest = λ other h. least.lowest other.0 moment h refl;
    }

pub alarms_give_the_least : AlarmsGiveTheLeast
alarms_give_the_least = record { none = none_due; least = is_least }
