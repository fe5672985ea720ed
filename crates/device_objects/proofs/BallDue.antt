-- Which part of a ball device is due first.
use Rattle.std.proofs.Common.{rules, ◌≡◌, ℕ, zero, suc, ◌+◌, ◌<◌, ◌≤◌, ◌⊎◌, inl, inr, Bool, true, false, Option, None}
use Rattle.std.proofs.Common.{Some, List, [], ◌∷◌, length, map, option_map, get_or, nat_le, if◌then◌else◌, refl, ap}
use Rattle.std.proofs.Common.{◌∙◌, arith}
use Rattle.std.proofs.lemmas.{Bool.{cases_lt, leb-true, leb-false}, List.get_or_past, Option.{none-some, same_Some}}
use Rattle.plan_tables.specs.Due.{sooner}
use Rattle.device_objects.specs.declared.state.BallSwitch.{BallSwitch}
use Rattle.device_objects.specs.BallDevice.{empty, first_due_from, parts, not_due}

-- ---- what is first is due

-- of two moments the sooner is one of them
sooner-is_one : (x y : Option (ℕ × ℕ)) (a : ℕ × ℕ) → sooner x y ≡ Some a → (x ≡ Some a) ⊎ (y ≡ Some a)
sooner-is_one x y a is = search rules

first_here : (i : ℕ) (due : Option ℕ) (a : ℕ × ℕ) → option_map (λ t. (t, i)) due ≡ Some a → (a.1 ≡ i) × (due ≡ Some a.0)
first_here i due a is = search rules

-- the ball switch of this number is due at this moment, where they are numbered from i on
abbrev pub IsDueAt : ℕ → List BallSwitch → ℕ × ℕ → Type 0
IsDueAt i bs a = (j : ℕ) × (a.1 ≡ i + j) × ((get_or bs j empty).due ≡ Some a.0)

pub first_due-is_due : (i : ℕ) (bs : List BallSwitch) (a : ℕ × ℕ) → first_due_from i bs ≡ Some a → IsDueAt i bs a
first_due-is_due i [] a is = absurd (none-some a is)
first_due-is_due i (b ∷ bs) a is =
    elim (sooner-is_one (option_map (λ due. (due, i)) b.due) (first_due_from (suc i) bs) a is) [
      | inl here ↦ let at = first_here i b.due a here in (0, omega (arith, at.0), at.1)
      | inr there ↦
          let at = first_due-is_due (suc i) bs a there in
          (suc at.0, omega (arith, at.1), at.2)
    ]

-- ---- no ball switch of a lower number is due at the same moment

pub first_due-is_lowest : (i : ℕ) (bs : List BallSwitch) (j : ℕ) (a : ℕ × ℕ) → first_due_from i bs ≡ Some a
    → (get_or bs j empty).due ≡ Some a.0 → a.1 ≤ i + j
first_due-is_lowest i [] j a is at = absurd (none-some a is)
first_due-is_lowest i (b ∷ bs) zero a is at = search rules
first_due-is_lowest i (b ∷ bs) (suc j) a is at =
    elim (sooner-is_one (option_map (λ due. (due, i)) b.due) (first_due_from (suc i) bs) a is) [
      | inl here ↦ (let found = first_here i b.due a here in omega (arith, found.0))
      | inr there ↦ (let low = first_due-is_lowest (suc i) bs j a there at in omega (arith, low))
    ]

-- ---- and no other is due before it

least : (a b : ℕ × ℕ) (test : Bool) → nat_le a.0 b.0 ≡ test
    → (c : ℕ × ℕ) × ((if test then Some a else Some b) ≡ Some c) × (c.0 ≤ a.0) × (c.0 ≤ b.0)
least a b true is = (a, refl, omega arith, leb-true a.0 b.0 is)
least a b false is = (b, refl, omega (arith, leb-false a.0 b.0 is), omega arith)

-- these are due at this moment or before
abbrev pub IsDueBy : Option (ℕ × ℕ) → ℕ → Type 0
IsDueBy first t = (c : ℕ × ℕ) × (first ≡ Some c) × (c.0 ≤ t)

sooner-by_first : (due : Option ℕ) (i t : ℕ) (y : Option (ℕ × ℕ)) → due ≡ Some t
    → IsDueBy (sooner (option_map (λ m. (m, i)) due) y) t
sooner-by_first None i t y is = absurd (none-some t is)
sooner-by_first (Some m) i t None is = ((m, i), refl, let same : m ≡ t = same_Some m t is in omega (arith, same))
sooner-by_first (Some m) i t (Some b) is =
    let same : m ≡ t = same_Some m t is in
    let l = least (m, i) b (nat_le m b.0) refl in
    (l.0, l.1, omega (arith, l.2, same))

sooner-by_second : (x y : Option (ℕ × ℕ)) (t : ℕ) → IsDueBy y t → IsDueBy (sooner x y) t
sooner-by_second None y t by = by
sooner-by_second (Some a) None t by = absurd (none-some by.0 by.1)
sooner-by_second (Some a) (Some b) t by =
    let same : b ≡ by.0 = same_Some b by.0 by.1 in
    let moment : b.0 ≡ by.0.0 = ap (λ p. p.0) same in
    let l = least a b (nat_le a.0 b.0) refl in
    (l.0, l.1, omega (arith, l.3, moment, by.2))

pub first_due-is_first : (i : ℕ) (bs : List BallSwitch) (j t : ℕ) → (get_or bs j empty).due ≡ Some t
    → IsDueBy (first_due_from i bs) t
first_due-is_first i [] j t is = absurd (none-some t is)
first_due-is_first i (b ∷ bs) zero t is = sooner-by_first b.due i t (first_due_from (suc i) bs) is
first_due-is_first i (b ∷ bs) (suc j) t is =
    search (rules, sooner-by_second, option_map, first_due-is_first (suc i) bs j t is)

-- ---- none is due

pub first_due-none : (i : ℕ) (bs : List BallSwitch) → first_due_from i (map not_due bs) ≡ None
first_due-none i [] = refl
first_due-none i (b ∷ bs) = first_due-none (suc i) bs

pub not_due-none : (bs : List BallSwitch) (i : ℕ) → (get_or (map not_due bs) i empty).due ≡ None
not_due-none (b ∷ bs) (suc i) = not_due-none bs i
not_due-none _ _ = refl

-- ---- the parts: the ball switches, then the attempt

-- one that is due is there
pub due-inside : (bs : List BallSwitch) (i t : ℕ) → (get_or bs i empty).due ≡ Some t → i < length bs
due-inside bs i t is = search (rules, cases_lt, none-some, get_or_past)

pub part-of_switch : (bs : List BallSwitch) (timeout : Option ℕ) (i : ℕ) → i < length bs
    → get_or (parts bs timeout) i None ≡ (get_or bs i empty).due
part-of_switch [] timeout i within = absurd (omega (arith, within))
part-of_switch (b ∷ bs) timeout zero within = refl
part-of_switch (b ∷ bs) timeout (suc i) within = part-of_switch bs timeout i (omega (arith, within))

pub part-of_attempt : (bs : List BallSwitch) (timeout : Option ℕ) → get_or (parts bs timeout) (length bs) None ≡ timeout
part-of_attempt [] timeout = refl
part-of_attempt (b ∷ bs) timeout = part-of_attempt bs timeout

pub part-past : (bs : List BallSwitch) (timeout : Option ℕ) (k : ℕ) → length bs < k
    → get_or (parts bs timeout) k None ≡ None
part-past [] timeout (suc k) past = refl
part-past (b ∷ bs) timeout (suc k) past = part-past bs timeout k (omega (arith, past))
part-past _ timeout zero past = absurd (omega (arith, past))

-- a ball switch that is due is a part that is
pub switch-is_part : (bs : List BallSwitch) (timeout : Option ℕ) (i t : ℕ) → (get_or bs i empty).due ≡ Some t
    → get_or (parts bs timeout) i None ≡ Some t
switch-is_part bs timeout i t is = part-of_switch bs timeout i (due-inside bs i t is) ∙ is

-- a part that is due is a ball switch, or the attempt
pub which_part : (bs : List BallSwitch) (timeout : Option ℕ) (k t : ℕ) → get_or (parts bs timeout) k None ≡ Some t
    → ((k < length bs) × ((get_or bs k empty).due ≡ Some t)) ⊎ ((k ≡ length bs) × (timeout ≡ Some t))
which_part [] timeout zero t is = inr (refl, is)
which_part [] timeout (suc k) t is = absurd (none-some t is)
which_part (b ∷ bs) timeout zero t is = inl (omega arith, is)
which_part (b ∷ bs) timeout (suc k) t is = search (rules, which_part bs timeout k t is)
