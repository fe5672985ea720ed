-- Names of which each is new.
use Rattle.std.proofs.Common.{rules, ◌≡◌, ◌≢◌, ℕ, suc, zero, Bool, List, [], ◌∷◌, map, sym, subst, arith}
use Rattle.std.specs.List.{Contains, All, AllPairs, filter}
use Rattle.std.proofs.lemmas.List.{Elements.{All-nil, All-cons}, Kept.AllPairs-cons}
use Rattle.mpf_config.specs.RowsOf.{AreNew}
use Rattle.yaml_bytes.proofs.Each.{here, there}

-- ---- lists that have an element

pub nothing_in : {A : Type 0} (x : A) → Contains [] x → ⊥
nothing_in x (k, lt, at) = absurd (omega (arith, lt))

pub contains_map : {A B : Type 0} (f : A → B) (xs : List A) (x : A) → Contains xs x → Contains (map f xs) (f x)
contains_map f [] x h = absurd (nothing_in x h)
contains_map f (y ∷ xs) x (zero, lt, at) = subst (λ z. Contains (map f (y ∷ xs)) (f z)) at (here (f y) (map f xs))
contains_map f (y ∷ xs) x (suc k, lt, at) =
    there (f y) (f x) (map f xs) (contains_map f xs x (k, omega (arith, lt), at))

-- ---- all of them

-- a name of the first list is not new
pub not_again : (names ns : List (List ℕ)) (n : List ℕ) → AreNew names ns → Contains ns n → Contains names n → ⊥
not_again names [] n new h old = nothing_in n h
not_again names (m ∷ ns) n new (zero, lt, at) old = new.0 (subst (Contains names) (sym at) old)
not_again names (m ∷ ns) n new (suc k, lt, at) old =
    not_again (m ∷ names) ns n new.1 (k, omega (arith, lt), at) (there m n names old)

module _ (names others : List (List ℕ)) (so : (q : List ℕ) → Contains others q → Contains names q) (n : List ℕ) where
  still : (q : List ℕ) → Contains (n ∷ others) q → Contains (n ∷ names) q
  still q x2 = search (rules, here, there)

-- what is new among more names is new among fewer
pub new_among_fewer : (names others : List (List ℕ)) → ((q : List ℕ) → Contains others q → Contains names q)
    → (ns : List (List ℕ)) → AreNew names ns → AreNew others ns
new_among_fewer names others so [] new = tt
new_among_fewer names others so (n ∷ ns) new =
    (λ old. new.0 (so n old), new_among_fewer (n ∷ names) (n ∷ others) (still names others so n) ns new.1)

module _ {A : Type 0} (keeps : A → Bool) (name_of : A → List ℕ) where
  kept_or_not : (b : Bool) (names : List (List ℕ)) (x : A) (xs : List A) → keeps x ≡ b
      → (Contains names (name_of x) → ⊥)
      → AreNew (name_of x ∷ names) (map name_of (filter keeps xs)) → AreNew names (map name_of (filter keeps xs))
      → AreNew names (map name_of (filter keeps (x ∷ xs)))
  kept_or_not b names x xs e fresh more fewer = search rules

  -- those that are kept are new
  pub new_kept : (names : List (List ℕ)) (xs : List A) → AreNew names (map name_of xs)
      → AreNew names (map name_of (filter keeps xs))
  new_kept names [] new = tt
  new_kept names (x ∷ xs) new =
      search (rules, kept_or_not, new_among_fewer, there, new_kept (name_of x ∷ names) xs new.1)

pub all_other : (names ns : List (List ℕ)) (n : List ℕ) → Contains names n → AreNew names ns → All (λ m. n ≢ m) ns
all_other names [] n old new = All-nil (λ m. n ≢ m)
all_other names (m ∷ ns) n old new = search
    (rules, All-cons, there, all_other (m ∷ names) ns n (there m n names old) new.1)

-- no two are the same
pub new_apart : (names ns : List (List ℕ)) → AreNew names ns → AllPairs (λ x y. x ≢ y) ns
new_apart names [] new = λ i j d before within. absurd (omega arith)
new_apart names (n ∷ ns) new = AllPairs-cons (λ x y. x ≢ y) n ns (all_other (n ∷ names) ns n (here n names) new.1)
    (new_apart (n ∷ names) ns new.1)
