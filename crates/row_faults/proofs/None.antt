-- Lists without items, and the faults that they are made of.
use Rattle.std.proofs.Common.{rules, ◌≡◌, ℕ, nat_lt, Bool, true, false, if◌then◌else◌, List, [], ◌∷◌, ◌++◌, map, refl}
use Rattle.std.proofs.{Common.{sym, ◌∙◌, inl, inr}, lemmas.{Bool.cases_Bool, List.Elements.{All-nil, All-cons}}}
use Rattle.std.specs.List.{All, filter, flat_map}
use Rattle.mpf_sections.specs.Rows.{WrittenName}
use Rattle.row_faults.specs.{declared.fault.RowFaultKind.RowFaultKind, CoilFaults.fault_if, RowFaults.listed_once}
use Rattle.row_faults.specs.{FaultView.RowFaultView, AsWritten.{put_by, ordered_by}}

pub filled : {X : Type 0} (x : X) (xs : List X) → x ∷ xs ≡ [] → ⊥
filled x xs e = cc

-- tests that find nothing
pub fault_if-none : (wrong : Bool) (kind : RowFaultKind) (text : List ℕ) (w : WrittenName)
    → fault_if wrong kind text w ≡ [] → wrong ≡ false
fault_if-none x1 kind text w e = search rules

pub map-none : {X Y : Type 0} (f : X → Y) (xs : List X) → map f xs ≡ [] → xs ≡ []
map-none f [] e = refl
map-none f (x ∷ xs) e = absurd (filled (f x) (map f xs) e)

pub append-none : {X : Type 0} (xs ys : List X) → xs ++ ys ≡ [] → (xs ≡ []) × (ys ≡ [])
append-none [] ys e = (refl, e)
append-none (x ∷ xs) ys e = absurd (filled x (xs ++ ys) e)

pub flat_map-none : {X Y : Type 0} (f : X → List Y) (xs : List X) → flat_map f xs ≡ [] → All (λ x. f x ≡ []) xs
flat_map-none f [] e = All-nil (λ x. f x ≡ [])
flat_map-none f (x ∷ xs) e = let both = append-none (f x) (flat_map f xs) e
    in All-cons (λ x. f x ≡ []) x xs both.0 (flat_map-none f xs both.1)

pub filter-none : {X : Type 0} (p : X → Bool) (xs : List X) → filter p xs ≡ [] → All (λ x. p x ≡ false) xs
filter-none p [] e = All-nil (λ x. p x ≡ false)
filter-none p (x ∷ xs) e =
    elim (cases_Bool (p x)) [
      | inl holds ↦ absurd (filled x (filter p xs) (sym (kept holds) ∙ e))
      | inr fails ↦ All-cons (λ y. p y ≡ false) x xs fails (filter-none p xs (sym (dropped fails) ∙ e))
    ]
  where
    kept : p x ≡ true → filter p (x ∷ xs) ≡ x ∷ filter p xs
    kept h = rw h refl

    dropped : p x ≡ false → filter p (x ∷ xs) ≡ filter p xs
    dropped h = rw h refl

put-filled : {X : Type 0} (number : X → ℕ) (x : X) (ys : List X) → put_by number x ys ≡ [] → ⊥
put-filled number x [] e = filled x [] e
put-filled number x (y ∷ ys) e = by (nat_lt (number y) (number x)) e
  where
    by : (b : Bool) → (if b then y ∷ put_by number x ys else x ∷ y ∷ ys) ≡ [] → ⊥
    by x1 e = search rules

pub ordered-none : {X : Type 0} (number : X → ℕ) (xs : List X) → ordered_by number xs ≡ [] → xs ≡ []
ordered-none number [] e = refl
ordered-none number (x ∷ xs) e = absurd (put-filled number x (ordered_by number xs) e)

pub once-none : (faults : List RowFaultView) → listed_once [] faults ≡ [] → faults ≡ []
once-none [] e = refl
once-none (f ∷ fs) e = absurd (filled f _ e)
