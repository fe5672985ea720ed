-- The switches that wait: the soonest of them is what is due next, and when a switch's due moment is set, it is taken
-- out at its place, or put in there.
use Rattle.std.proofs.Common.{rules, ◌≡◌, ℕ, zero, suc, ◌+◌, ◌<◌, ◌≤◌, nat_lt, Bool, true, false, true≢false}
use Rattle.std.proofs.Common.{if◌then◌else◌, Option, MatchOption, option_map, is_some, List, [], ◌∷◌, ◌++◌, length, map}
use Rattle.std.proofs.Common.{take, drop, get_or, slice_set, refl, ap, ap₂, sym, subst, ◌∙◌, inl, inr, arith}
use Rattle.std.specs.List.{All, insert, remove, Sorted.{IsPartitionedBy, IsPartitionPoint}}
use Rattle.std.proofs.lemmas.{Bool.{cases_lt, lt-ltb, le-ltb}, List.set-get_or}
use Rattle.std.proofs.lemmas.List.{length-append, length-take, length-drop, get_or_append_left, get_or-append_right}
use Rattle.plan_tables.specs.{declared.entries.SwitchId.SwitchId, PlanView.PlanSwitch, Due.sooner}
use Rattle.switch_core.specs.{SwitchStep.{SwitchState, idle}, Switches.{no_kind, due_as, next_due_from}}
use Rattle.switch_core.specs.PendingSwitches.{in_front, waiting_from, soonest, IsWaiting}

abbrev Due : Type 0
Due = ℕ × SwitchId

-- ---- the soonest is what is due next

soonest-in_front : (o : Option Due) (ds : List Due) → soonest (in_front o ds) ≡ sooner o (soonest ds)
soonest-in_front o ds = search rules

pub soonest-is : (number : ℕ) (states : List SwitchState)
    → soonest (waiting_from number states) ≡ next_due_from number states
soonest-is number [] = refl
soonest-is number (s ∷ ss) = soonest-in_front (due_as number s) (waiting_from (number + 1) ss)
    ∙ ap (sooner (due_as number s)) (soonest-is (number + 1) ss)

-- ---- no more wait than there are states

length-in_front : (o : Option Due) (ds : List Due) → length (in_front o ds) ≤ suc (length ds)
length-in_front o ds = search rules

pub length-waiting : (number : ℕ) (states : List SwitchState) → length (waiting_from number states) ≤ length states
length-waiting number [] = omega arith
length-waiting number (s ∷ ss) =
    let one = length-in_front (due_as number s) (waiting_from (number + 1) ss) in
    let rest = length-waiting (number + 1) ss in
    omega arith

-- nothing waits at the beginning
pub idle-waiting : (number : ℕ) (switches : List PlanSwitch)
    → waiting_from number (map (λ (s : PlanSwitch). idle s.kind) switches) ≡ []
idle-waiting number [] = refl
idle-waiting number (s ∷ ss) = idle-waiting (number + 1) ss

-- ---- their numbers

numbered-in_front : (P : Due → Type 0) (number : ℕ) (s : SwitchState) (ds : List Due)
    → ((at : ℕ) → P (at, record { 0 = number })) → All P ds → All P (in_front (due_as number s) ds)
numbered-in_front P number s ds here all = search rules

numbered : (number : ℕ) (states : List SwitchState)
    → All (λ (d : Due). (number ≤ d.1.0) × (d.1.0 < number + length states)) (waiting_from number states)
numbered number [] = λ k d within. absurd (omega arith)
numbered number (s ∷ ss) =
    numbered-in_front (λ d. (number ≤ d.1.0) × (d.1.0 < number + suc (length ss))) number s
    (waiting_from (number + 1) ss)
    (λ at. (omega arith, omega arith))
    (λ k d within. let h = numbered (number + 1) ss k d within in let low = h.0 in let high = h.1
    in (omega arith, omega arith))

-- ---- those before a switch and those after it

in_front-append : (o : Option Due) (xs ys : List Due) → in_front o (xs ++ ys) ≡ in_front o xs ++ ys
in_front-append o xs ys = search rules

from-split : (number i : ℕ) (states : List SwitchState)
    → waiting_from number states ≡ waiting_from number (take i states) ++ waiting_from (number + i) (drop i states)
from-split number zero states = let same : number ≡ number + zero = omega arith in ap (λ n. waiting_from n states) same
from-split number (suc i) [] = refl
from-split number (suc i) (s ∷ ss) =
    let same : (number + 1) + i ≡ number + suc i = omega arith in
    ap (in_front (due_as number s)) (from-split (number + 1) i ss
    ∙ ap (λ n. waiting_from (number + 1) (take i ss) ++ waiting_from n (drop i ss)) same)
    ∙ in_front-append (due_as number s) (waiting_from (number + 1) (take i ss))
    (waiting_from (number + suc i) (drop i ss))

from-set : (number i : ℕ) (states : List SwitchState) (x : SwitchState) → i < length states
    → waiting_from number (slice_set states i x)
    ≡ waiting_from number (take i states) ++ in_front (due_as (number + i) x)
    (waiting_from (number + suc i) (drop (suc i) states))
from-set number i [] x within = absurd (omega arith)
from-set number zero (s ∷ ss) x within = search rules
from-set number (suc i) (s ∷ ss) x within =
    let here : (number + 1) + i ≡ number + suc i = omega arith in
    let next : (number + 1) + suc i ≡ number + suc (suc i) = omega arith in
    ap (in_front (due_as number s))
    (from-set (number + 1) i ss x (omega arith)
    ∙ ap₂ (λ n m. waiting_from (number + 1) (take i ss) ++ in_front (due_as n x) (waiting_from m (drop (suc i) ss)))
    here next)
    ∙ in_front-append (due_as number s) (waiting_from (number + 1) (take i ss))
    (in_front (due_as (number + suc i) x) (waiting_from (number + suc (suc i)) (drop (suc i) ss)))

-- ---- a place between two parts of a list

module _ {X : Type 0} (p : X → Bool) (front back : List X) (low : All (λ x. p x ≡ true) front)
    (high : All (λ x. p x ≡ false) back) where
  at-front : (k : ℕ) (d : X) → k < length front → p (get_or (front ++ back) k d) ≡ true
  at-front k d within = ap p (get_or_append_left front back d k within) ∙ low k d within

  at-back : (k : ℕ) (d : X) → length front ≤ k → k < length (front ++ back) → p (get_or (front ++ back) k d) ≡ false
  at-back k d from within = search (rules, length-append, get_or-append_right)

  pub parted : IsPartitionedBy p (front ++ back)
  parted i j d le within is = search (rules, cases_lt, at-front, at-back)

  pub point : (d : X) (k : ℕ) → k ≤ length (front ++ back)
      → IsPartitionPoint (λ x. p x ≡ true) (λ x. p x ≡ false) (front ++ back) k → k ≡ length front
  point d k le is =
      let long = length-append front back in
      elim (cases_lt k (length front)) [
        | inl before ↦ absurd (true≢false (sym (at-front k d before) ∙ is.1 k d (omega arith) (omega arith)))
        | inr after ↦
            elim (cases_lt (length front) k) [
              | inl beyond ↦ absurd (true≢false
                  (sym (is.0 (length front) d (omega arith) beyond)
                  ∙ at-back (length front) d (omega arith) (omega arith)))
              | inr not ↦ omega arith
            ]
      ]

pub remove-between : {X : Type 0} (front : List X) (x : X) (back : List X)
    → remove (front ++ x ∷ back) (length front) ≡ front ++ back
remove-between [] x back = refl
remove-between (y ∷ ys) x back = ap (λ zs. y ∷ zs) (remove-between ys x back)

pub insert-between : {X : Type 0} (front : List X) (x : X) (back : List X)
    → insert (front ++ back) (length front) x ≡ front ++ x ∷ back
insert-between [] x back = refl
insert-between (y ∷ ys) x back = ap (λ zs. y ∷ zs) (insert-between ys x back)

-- ---- the place of a switch

-- those of lower numbers than the switch, and those of its number or higher ones
abbrev pub lower : SwitchId → List SwitchState → List Due
lower switch states = waiting_from 0 (take switch.0 states)

abbrev others : SwitchId → List SwitchState → List Due
others switch states = waiting_from (0 + switch.0) (drop switch.0 states)

abbrev pub is_lower : SwitchId → Due → Bool
is_lower switch d = nat_lt d.1.0 switch.0

module _ (switch : SwitchId) (states : List SwitchState) where
  lower-low : All (λ d. is_lower switch d ≡ true) (lower switch states)
  lower-low k d within = search (rules, numbered, length-take, lt-ltb)

  others-high : All (λ d. is_lower switch d ≡ false) (others switch states)
  others-high k d within = search (rules, numbered, le-ltb)

  pub waiting-parted : IsPartitionedBy (is_lower switch) (waiting_from 0 states)
  waiting-parted =
      subst (IsPartitionedBy (is_lower switch)) (sym (from-split 0 switch.0 states))
      (parted (is_lower switch) (lower switch states) (others switch states) lower-low others-high)

  pub place-is : (k : ℕ) → k ≤ length (waiting_from 0 states)
      → IsPartitionPoint (λ d. is_lower switch d ≡ true) (λ d. is_lower switch d ≡ false) (waiting_from 0 states) k
      → k ≡ length (lower switch states)
  place-is k le is =
      let split = from-split 0 switch.0 states in
      point (is_lower switch) (lower switch states) (others switch states) lower-low others-high (0, switch) k
      (subst (λ (ds : List Due). k ≤ length ds) split le)
      (subst (λ (ds : List Due). IsPartitionPoint (λ d. is_lower switch d ≡ true) (λ d. is_lower switch d ≡ false) ds k)
      split is)

-- ---- a due moment is set

abbrev pub due_at : SwitchId → Option ℕ → Option Due
due_at switch due = option_map (λ at. (at, switch)) due

-- those of higher numbers than the switch
abbrev pub higher : SwitchId → List SwitchState → List Due
higher switch states = waiting_from (suc switch.0) (drop (suc switch.0) states)

pub waiting-set : (switch : SwitchId) (states : List SwitchState) (x : SwitchState) (due : Option ℕ)
    → switch.0 < length states → x.due ≡ due
    → waiting_from 0 (slice_set states switch.0 x)
    ≡ lower switch states ++ in_front (due_at switch due) (higher switch states)
waiting-set switch states x due within is = search (rules, from-set)

module _ (switch : SwitchId) (was : Option ℕ) (states : List SwitchState) (waiting : List Due)
    (is : IsWaiting switch was states waiting) where
  pub waiting-was : waiting ≡ lower switch states ++ in_front (due_at switch was) (higher switch states)
  waiting-was =
      let x = get_or states switch.0 (idle no_kind) in
      is.waiting_is ∙ ap (waiting_from 0) (sym (set-get_or states switch.0 (idle no_kind)))
      ∙ waiting-set switch states x was is.within is.due_is

  -- so there is room for it among the others
  pub others-room : length (lower switch states ++ higher switch states) < length states
  others-room = search (rules, length-append, length-waiting, length-take, length-drop)

  module _ (at : ℕ) (here : at ≡ length (lower switch states)) where
    -- if it waits, it is at its place
    pub place-within : is_some was ≡ true → at < length waiting
    place-within = search (rules, waiting-was, is_some, length-append)

    -- it is taken out, and the others are left
    pub others-left : (left : List Due) → left ≡ (if is_some was then remove waiting at else waiting)
        → left ≡ lower switch states ++ higher switch states
    others-left left = search (rules, waiting-was, is_some, remove-between)

    -- it is put in among them
    pub put-again : (left after : List Due) (x : SwitchState) (due : Option ℕ)
        → left ≡ lower switch states ++ higher switch states → x.due ≡ due
        → MatchOption due (after ≡ left) (λ moment. after ≡ insert left at (moment, switch))
        → after ≡ waiting_from 0 (slice_set states switch.0 x)
    put-again left after x due left_is due_is put = search (rules, waiting-set, insert-between)
