-- Lists of answers: what is among them, and what holds of each.
use Rattle.std.proofs.Common.{rules, ◌≡◌, ℕ, zero, suc, ◌+◌, ◌<◌, ◌≤◌, Bool, true, false, List, [], ◌∷◌, ◌++◌, ◌==◌}
use Rattle.std.proofs.Common.{◌&&◌, if◌then◌else◌, refl, sym, subst, inl, inr, zero-le, suc-le-suc, arith}
use Rattle.std.specs.List.{All, Contains, flat_map, range_with_len}
use Rattle.std.proofs.lemmas.{Bool.{and_parts, cases_eq}, List.Elements.{All-cons, All-contains, All-nil}}
use Rattle.device_objects.specs.Outcomes.{only_if, of_switch}

-- ---- what is among them

pub data In {X : Type 0} (x : X) : List X → Type 0 where
  here : {xs : List X} → In x (x ∷ xs)
  there : {y : X} {xs : List X} → In x xs → In x (y ∷ xs)

pub contains : {X : Type 0} {x : X} {xs : List X} → In x xs → Contains xs x
contains here = (0, suc-le-suc zero-le, refl)
contains (there at) = let rest = contains at in (suc rest.0, suc-le-suc rest.1, rest.2)

pub at_last : {X : Type 0} {y : X} (xs : List X) → In y (xs ++ y ∷ [])
at_last [] = here
at_last (x ∷ xs) = there (at_last xs)

pub at_left : {X : Type 0} {x : X} {xs : List X} (ys : List X) → In x xs → In x (xs ++ ys)
at_left ys here = here
at_left ys (there at) = there (at_left ys at)

pub at_right : {X : Type 0} {x : X} (xs : List X) {ys : List X} → In x ys → In x (xs ++ ys)
at_right [] at = at
at_right (x ∷ xs) at = there (at_right xs at)

pub in_range : (a n k : ℕ) → a ≤ k → k < a + n → In k (range_with_len a n)
in_range a zero k low high = absurd (omega (arith, low, high))
in_range a (suc n) k low high =
    elim (cases_eq a k) [
      | inl same ↦ subst (λ j. In k (j ∷ range_with_len (a + 1) n)) (sym same) here
      | inr other ↦ there (in_range (a + 1) n k (omega (arith, low, other)) (omega (arith, high)))
    ]

pub in_flat_map : {A X : Type 0} (f : A → List X) {a : A} {x : X} {among : List A} → In a among → In x (f a)
    → In x (flat_map f among)
in_flat_map f {among = []} never at = elim never [ ]
in_flat_map f {among = b ∷ bs} here at = at_left (flat_map f bs) at
in_flat_map f {among = b ∷ bs} (there found) at = at_right (f b) (in_flat_map f found at)

pub if_holds : {x : List ℕ} {xs : List (List ℕ)} (holds : Bool) → holds ≡ true → In x xs → In x (only_if holds xs)
if_holds holds is at = search rules

pub by : {x y : List ℕ} {xs : List (List ℕ)} → x ≡ y → In y xs → In x xs
by is at = rw is at

-- an answer that is one of two
pub either : {S : Type 0} {xs : List (List ℕ)} (test : Bool) (x y : S × List ℕ) → (test ≡ true → In x.1 xs)
    → (test ≡ false → In y.1 xs)
    → In (if test then x else y).1 xs
either test x y first second = search rules

-- ---- what holds of each

pub one : {X : Type 0} (P : X → Type 0) (x : X) → P x → All P (x ∷ [])
one P x holds = All-cons P x [] holds (All-nil P)

pub two : {X : Type 0} (P : X → Type 0) (x y : X) → P x → P y → All P (x ∷ y ∷ [])
two P x y first second = All-cons P x (y ∷ []) first (one P y second)

pub all_if : (P : List ℕ → Type 0) (holds : Bool) (xs : List (List ℕ)) → (holds ≡ true → All P xs)
    → All P (only_if holds xs)
all_if P holds xs all = search rules

pub by_test : (P : List ℕ → Type 0) (test : Bool) (xs ys : List (List ℕ)) → (test ≡ true → All P xs)
    → (test ≡ false → All P ys)
    → All P (if test then xs else ys)
by_test P test xs ys first second = search rules

-- what holds of each holds of one that is among them
pub of_among : {X : Type 0} (P : X → Type 0) {x : X} {xs : List X} → All P xs → In x xs → P x
of_among P {x = x} {xs = xs} all at = All-contains P xs x all (contains at)

-- ---- an answer that is one of two

pub if_true : {S : Type 0} (test : Bool) (x y : S × List ℕ) → test ≡ true → (if test then x else y).1 ≡ x.1
if_true test x y is = search rules

pub if_false : {S : Type 0} (test : Bool) (x y : S × List ℕ) → test ≡ false → (if test then x else y).1 ≡ y.1
if_false test x y is = search rules

pub second : {S : Type 0} (test : Bool) (x y : S × List ℕ) → (if test then x else y).1 ≡ (if test then x.1 else y.1)
second test x y = search rules

-- ---- the only switch of a device changes

pub switch-in : {S : Type 0} (ready : Bool) (i list : ℕ) (new old : S)
    → In (if◌then◌else◌ {A = S × List ℕ} (ready && (i == 0)) (new, list ∷ []) (old, [])).1 (of_switch i list)
switch-in ready i list new old =
    either (ready && (i == 0)) (new, list ∷ []) (old, [])
    (λ is. there (if_holds (i == 0) (and_parts ready (i == 0) is).1 here)) (λ not. here)

pub switch_comes : (P : List ℕ → Type 0) (i list : ℕ) → P [] → ((i == 0) ≡ true → P (list ∷ []))
    → All P (of_switch i list)
switch_comes P i list quiet told =
    All-cons P [] (only_if (i == 0) ((list ∷ []) ∷ [])) quiet
    (all_if P (i == 0) ((list ∷ []) ∷ []) (λ is. one P (list ∷ []) (told is)))
