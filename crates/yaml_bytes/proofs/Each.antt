-- Lemmas that the kit lacks: what holds of each element of a list, of one of them, and of an option.
use Rattle.std.proofs.Common.{rules, ◌≡◌, suc, Bool, if◌then◌else◌, ◌||◌, map, List, [], ◌∷◌, ◌++◌, Option, Some, None}
use Rattle.std.proofs.Common.{IfSome, refl, ap, arith}
use Rattle.std.specs.{List.{All, Contains, filter, flat_map, list_any}, Option.unwrap_or}
use Rattle.std.proofs.lemmas.List.Elements.{All-nil, All-cons, All-head, All-tail, All-append, All-map, All-weaker}

-- ---- all

-- what holds of all still does if they are kept or dropped together
pub all_where : {A : Type 0} (P : A → Type 0) (b : Bool) (xs : List A) → All P xs → All P (if b then xs else [])
all_where P x2 xs h = search rules

-- it holds of all that a function gives
pub all_mapped : {A B : Type 0} (P : B → Type 0) (f : A → B) → ((x : A) → P (f x)) → (xs : List A) → All P (map f xs)
all_mapped P f each [] = All-nil P
all_mapped P f each (x ∷ xs) = All-cons P (f x) (map f xs) (each x) (all_mapped P f each xs)

-- and so it is with what follows from what holds of each
pub made_each : {A B : Type 0} {P : A → Type 0} (Q : B → Type 0) (f : A → B) → ((x : A) → P x → Q (f x)) → (xs : List A)
    → All P xs → All Q (map f xs)
made_each {P = P} Q f each xs h = All-map Q f xs (All-weaker P (λ x. Q (f x)) each xs h)

-- what holds of all that f gives holds of what f gives for each
pub All-from_map : {A B : Type 0} (P : B → Type 0) (f : A → B) (xs : List A) → All P (map f xs) → All (λ x. P (f x)) xs
All-from_map P f [] h = All-nil (λ x. P (f x))
All-from_map P f (x ∷ xs) h = All-cons (λ x. P (f x)) x xs (All-head P (f x) (map f xs) h)
    (All-from_map P f xs (All-tail P (f x) (map f xs) h))

-- it holds of all in two lists
pub All-parts : {A : Type 0} (P : A → Type 0) (xs ys : List A) → All P (xs ++ ys) → All P xs × All P ys
All-parts P [] ys h = (All-nil P, h)
All-parts P (x ∷ xs) ys h = search (rules, All-tail, All-cons, All-head, All-parts P xs ys (All-tail P x (xs ++ ys) h))

-- it holds of all that each gives
pub All-flat_map : {A B : Type 0} (P : B → Type 0) (f : A → List B) (xs : List A) → All (λ x. All P (f x)) xs
    → All P (flat_map f xs)
All-flat_map P f [] all = All-nil P
All-flat_map P f (x ∷ xs) all =
    search (rules, All-append, All-head, All-tail, All-flat_map P f xs (All-tail (λ z. All P (f z)) x xs all))

pub All-from_flat_map : {A B : Type 0} (P : B → Type 0) (f : A → List B) (xs : List A) → All P (flat_map f xs)
    → All (λ x. All P (f x)) xs
All-from_flat_map P f [] h = All-nil (λ x. All P (f x))
All-from_flat_map P f (x ∷ xs) h =
    let both = All-parts P (f x) (flat_map f xs) h in
    All-cons (λ x. All P (f x)) x xs both.0 (All-from_flat_map P f xs both.1)

-- tests that agree on each keep the same
pub filter-agree : {A : Type 0} (p q : A → Bool) (xs : List A) → All (λ x. p x ≡ q x) xs → filter p xs ≡ filter q xs
filter-agree p q [] all = refl
filter-agree p q (x ∷ xs) all =
    search (rules, All-head, All-tail, filter-agree p q xs (All-tail (λ y. p y ≡ q y) x xs all))

-- ---- one

-- what is asked of the elements may be asked of what is made of them
pub any_mapped : {A B : Type 0} (p : B → Bool) (f : A → B) (xs : List A)
    → list_any p (map f xs) ≡ list_any (λ x. p (f x)) xs
any_mapped p f [] = refl
any_mapped p f (x ∷ xs) = ap (λ b. p (f x) || b) (any_mapped p f xs)

-- the first element is in the list
pub here : {A : Type 0} (x : A) (xs : List A) → Contains (x ∷ xs) x
here x xs = (0, omega arith, refl)

-- so is what is in the rest of it
pub there : {A : Type 0} (x y : A) (xs : List A) → Contains xs y → Contains (x ∷ xs) y
there x y xs (k, lt, at) = (suc k, omega (arith, lt), at)

-- what holds of an option's value, if it has one, and of another value holds of the one that `unwrap_or` takes
pub or_else : {A : Type 0} (P : A → Type 0) (o : Option A) (other : A) → IfSome o P → P other → P (unwrap_or o other)
or_else P x2 other h is = search rules

-- an option that is not `Some` of any value is `None`
pub none_of : {A : Type 0} (o : Option A) → ((x : A) → o ≡ Some x → ⊥) → o ≡ None
none_of x1 h = search rules
