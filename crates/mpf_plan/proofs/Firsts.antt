-- Names noted in turn, each when it comes first.
use Rattle.std.proofs.Common.{rules, ◌≡◌, ℕ, Bool, true, false, cond, not, ◌&&◌, ◌||◌, List, [], ◌∷◌, ◌++◌, filter}
use Rattle.std.proofs.{Common.{fold, refl, sym, ◌∙◌, ap}, lemmas.Cmp.nat_list_eq_equiv}
use Rattle.std.specs.{Str.bytes_eq, List.list_any}
use Rattle.std.proofs.lemmas.List.{append_assoc, append-nil, Folds.list_any-append, Sums.fold-append}
use Rattle.mpf_plan.specs.Uses.{first_uses}
use Rattle.first_names.specs.FirstNames.{with_name}

-- a filter of what another filter kept
filter_filter : {X : Type 0} (p q r : X → Bool) → ((x : X) → r x ≡ (p x && q x)) → (xs : List X)
    → filter q (filter p xs) ≡ filter r xs
filter_filter p q r same [] = refl
filter_filter {X} p q r same (x ∷ xs) = by (p x) (same x) (filter_filter p q r same xs)
  where
    by : (a : Bool) → r x ≡ (a && q x) → filter q (filter p xs) ≡ filter r xs
        → filter q (cond a (x ∷ filter p xs) (filter p xs)) ≡ cond (r x) (x ∷ filter r xs) (filter r xs)
    by x1 e rest = search rules

neither : (a b : Bool) → not (a || (b || false)) ≡ (not b && not a)
neither x1 x2 = search rules

all_of : {X : Type 0} (xs : List X) → filter (λ x. true) xs ≡ xs
all_of [] = refl
all_of (x ∷ xs) = ap (λ ys. x ∷ ys) (all_of xs)

abbrev has : List (List ℕ) → List ℕ → Bool
has done n = list_any (λ m. bytes_eq n m) done

abbrev is_new : List (List ℕ) → List ℕ → Bool
is_new done n = not (has done n)

abbrev is_other : List ℕ → List ℕ → Bool
is_other n m = not (bytes_eq n m)

known : (done : List (List ℕ)) (n : List ℕ) → has done n ≡ true → (m : List ℕ)
    → is_new done m ≡ (is_other n m && is_new done m)
known done n there m = by (bytes_eq n m) refl
  where
    by : (b : Bool) → bytes_eq n m ≡ b → is_new done m ≡ (not b && is_new done m)
    by x1 same = search rules

added : (done : List (List ℕ)) (n m : List ℕ) → is_new (done ++ n ∷ []) m ≡ (is_other n m && is_new done m)
added done n m = search (rules, list_any-append, neither, nat_list_eq_equiv)

one_more : (n : List ℕ) (ns done : List (List ℕ))
    → ((d : List (List ℕ)) → fold with_name d ns ≡ d ++ filter (is_new d) (first_uses ns)) → (b : Bool) → has done n ≡ b
    → fold with_name (cond b done (done ++ n ∷ [])) ns
    ≡ done ++ cond (not b) (n ∷ filter (is_new done) (filter (is_other n) (first_uses ns)))
    (filter (is_new done) (filter (is_other n) (first_uses ns)))
one_more n ns done rest x5 there = search (rules, filter_filter, known, append_assoc, added)

-- names noted in turn are those that were there, and then the first uses of the others
with_names : (ns done : List (List ℕ)) → fold with_name done ns ≡ done ++ filter (is_new done) (first_uses ns)
with_names [] done = sym (append-nil done)
with_names (n ∷ ns) done = one_more n ns done (with_names ns) (has done n) refl

-- the names after all uses are the first uses
pub with_names-all : (uses : List (List ℕ)) → fold with_name [] uses ≡ first_uses uses
with_names-all uses = with_names uses [] ∙ all_of (first_uses uses)

-- the names that later uses add
abbrev pub later_uses : List (List ℕ) → List (List ℕ) → List (List ℕ)
later_uses us more = filter (is_new (first_uses us)) (first_uses more)

-- more uses leave the names that are there
pub first_uses-more : (us more : List (List ℕ)) → first_uses (us ++ more) ≡ first_uses us ++ later_uses us more
first_uses-more us more =
    sym (with_names-all (us ++ more)) ∙ fold-append with_name [] us more
    ∙ ap (λ d. fold with_name d more) (with_names-all us) ∙ with_names more (first_uses us)
