-- A set of keys, by their bytes.
use Rattle.std.proofs.Common.{rules, is_eq, ◌≡◌, ℕ, Bool, true, false, cond, ◌||◌, List, [], ◌∷◌, ◌++◌, map, refl, sym}
use Rattle.std.proofs.{Common.{ap, ◌∙◌, arith}, lemmas.List.{map-append, Elements.Decides-contains}}
use Rattle.std.specs.{Bool.Decides, Str.bytes_eq, Cmp.Lexicographic.slice_cmp}
use Rattle.std.specs.{List.{list_any, Contains}, Cow.cow_slice_items}
use Rattle.std.specs.{Ordering.{nat_cmp, match_ordering}, BTreeMap.is_at, BTreeSet.insert_key}
use Rattle.std.specs.declared.cmp.Ordering.{Ordering, TheVariants.{Less, Equal, Greater}}
use Rattle.std.proofs.lemmas.Bool.{le-ltb, eq-eqb, cases_Bool, both_ways, Decides.{same_from_decides, Decides-by_or}}
use Rattle.std.proofs.lemmas.{Slice.Eq.bytes_eq-Decides, Map.Lookups.exact_bytes}
use Rattle.yaml_subset.specs.{Flow.keys_of, Keys.is_among, View.pair_view, declared.tree.{Key.Key, Tree.Tree}}

nat_cmp-same : (x : ℕ) → nat_cmp x x ≡ Equal
nat_cmp-same x = rw (le-ltb x x (omega arith), eq-eqb x x refl) refl

slice_cmp-same : (xs : List ℕ) → slice_cmp nat_cmp xs xs ≡ Equal
slice_cmp-same [] = refl
slice_cmp-same (x ∷ xs) = rw (nat_cmp-same x) (slice_cmp-same xs)

equal : (o : Ordering) → is_eq o ≡ true → o ≡ Equal
equal x1 e = search rules

pub or_swap : (a b c : Bool) → (a || (b || c)) ≡ (b || (a || c))
or_swap x1 x2 c = search rules

or_again : (a c : Bool) → (a || c) ≡ (a || (a || c))
or_again x1 c = search rules

module _ {K : Type 0} (bytes_of : K → List ℕ) where
  -- the order of keys, which is that of their bytes
  abbrev by_bytes : K → K → Ordering
  by_bytes x y = slice_cmp nat_cmp (bytes_of x) (bytes_of y)

  same_test : (k q : K) → is_at (by_bytes q) k ≡ bytes_eq (bytes_of k) (bytes_of q)
  same_test k q =
      same_from_decides (is_at (by_bytes q) k) (bytes_eq (bytes_of k) (bytes_of q)) (
        λ e. sym (exact_bytes (bytes_of q) (bytes_of k) (equal (by_bytes q k) e)),
        λ p. ap (λ xs. is_eq (slice_cmp nat_cmp (bytes_of q) xs)) p ∙ ap is_eq (slice_cmp-same (bytes_of q)),
      )
      (bytes_eq-Decides (bytes_of k) (bytes_of q))

  -- the set's own test is whether the bytes are among those of its keys
  pub contains_key : (keys : List K) (q : K)
      → list_any (is_at (by_bytes q)) keys ≡ is_among (map bytes_of keys) (bytes_of q)
  contains_key [] q = refl
  contains_key (k ∷ keys) q = rw (same_test k q, contains_key keys q) refl

  insert_step : (o : Ordering) (k x : K) (xs : List K) (q : List ℕ) → by_bytes k x ≡ o
      → is_among (map bytes_of (insert_key by_bytes xs k)) q ≡ (bytes_eq (bytes_of k) q || is_among (map bytes_of xs) q)
      → is_among (map bytes_of (match_ordering o (k ∷ x ∷ xs) (x ∷ xs) (x ∷ insert_key by_bytes xs k))) q
      ≡ (bytes_eq (bytes_of k) q || (bytes_eq (bytes_of x) q || is_among (map bytes_of xs) q))
  insert_step Less k x xs q e h = refl
  insert_step Equal k x xs q e h = let same : bytes_of k ≡ bytes_of x = exact_bytes (bytes_of k) (bytes_of x) e
      in rw same (or_again (bytes_eq (bytes_of x) q) (is_among (map bytes_of xs) q))
  insert_step Greater k x xs q e h = rw h (or_swap (bytes_eq (bytes_of x) q) (bytes_eq (bytes_of k) q)
      (is_among (map bytes_of xs) q))

  -- after a key was taken, it and those before are among the keys
  pub insert_key-among : (keys : List K) (k : K) (q : List ℕ)
      → is_among (map bytes_of (insert_key by_bytes keys k)) q
      ≡ (bytes_eq (bytes_of k) q || is_among (map bytes_of keys) q)
  insert_key-among [] k q = refl
  insert_key-among (x ∷ xs) k q = insert_step (by_bytes k x) k x xs q refl (insert_key-among xs k q)

-- ---- keys by their bytes

pub among_decides : (keys : List (List ℕ)) (key : List ℕ) → Decides (is_among keys key) (Contains keys key)
among_decides keys key =
    Decides-contains keys key (is_among keys key)
    (Decides-by_or (λ k. bytes_eq k key) (λ k. k ≡ key) (λ ks. is_among ks key) (λ k. bytes_eq-Decides k key) refl
    (λ _ _. refl) keys)

pub fresh_sound : (keys : List (List ℕ)) (key : List ℕ) → is_among keys key ≡ false → Contains keys key → ⊥
fresh_sound keys key e h = both_ways (is_among keys key) e ((among_decides keys key).1 h)

pub fresh_complete : (keys : List (List ℕ)) (key : List ℕ) → (Contains keys key → ⊥) → is_among keys key ≡ false
fresh_complete keys key h = search (rules, cases_Bool, among_decides)

-- a key after others is among them as well as in front of them
pub among-push : (keys : List (List ℕ)) (key q : List ℕ)
    → is_among (keys ++ key ∷ []) q ≡ (bytes_eq key q || is_among keys q)
among-push [] key q = refl
among-push (k ∷ ks) key q = ap (λ b. bytes_eq k q || b) (among-push ks key q)
    ∙ or_swap (bytes_eq k q) (bytes_eq key q) (is_among ks q)

-- ---- keys of a set that hashes them

-- a key that is among others changes nothing
among-again : (keys : List (List ℕ)) (key q : List ℕ) → is_among keys key ≡ true
    → is_among keys q ≡ (bytes_eq key q || is_among keys q)
among-again keys key q e = search rules

pub turned : (k q : List ℕ) → bytes_eq q k ≡ bytes_eq k q
turned k q = same_from_decides (bytes_eq q k) (bytes_eq k q)
    (λ e. sym ((bytes_eq-Decides q k).0 e), λ p. (bytes_eq-Decides q k).1 (sym p)) (bytes_eq-Decides k q)

module _ {K : Type 0} (bytes_of : K → List ℕ) where
  -- the set's own test is whether the bytes are among those of its keys
  pub hashed_key : (keys : List K) (v : K)
      → list_any (λ k. bytes_eq (bytes_of v) (bytes_of k)) keys ≡ is_among (map bytes_of keys) (bytes_of v)
  hashed_key [] v = refl
  hashed_key (k ∷ keys) v = rw (turned (bytes_of k) (bytes_of v), hashed_key keys v) refl

  -- after a key was taken, it and those before are among the keys
  pub hashed_key-among : (keys : List K) (v : K) (q : List ℕ)
      → is_among (map bytes_of (cond (list_any (λ k. bytes_eq (bytes_of v) (bytes_of k)) keys) keys (keys ++ v ∷ []))) q
      ≡ (bytes_eq (bytes_of v) q || is_among (map bytes_of keys) q)
  hashed_key-among keys v q = seen (list_any (λ k. bytes_eq (bytes_of v) (bytes_of k)) keys) (hashed_key keys v)
    where
      seen : (b : Bool) → b ≡ is_among (map bytes_of keys) (bytes_of v)
          → is_among (map bytes_of (cond b keys (keys ++ v ∷ []))) q
          ≡ (bytes_eq (bytes_of v) q || is_among (map bytes_of keys) q)
      seen true e = among-again (map bytes_of keys) (bytes_of v) q (sym e)
      seen false e = ap (λ (ks : List (List ℕ)). is_among ks q) (map-append bytes_of keys (v ∷ []))
          ∙ among-push (map bytes_of keys) (bytes_of v) q

-- ---- keys of pairs

-- comparing a key with each of the keys of pairs
pub among_pairs : (pairs : List (Key × Tree)) (key : List ℕ)
    → list_any (λ p. bytes_eq (cow_slice_items p.0.text) key) pairs ≡ is_among (keys_of (map pair_view pairs)) key
among_pairs [] key = refl
among_pairs (p ∷ pairs) key = ap (λ b. bytes_eq (cow_slice_items p.0.text) key || b) (among_pairs pairs key)
