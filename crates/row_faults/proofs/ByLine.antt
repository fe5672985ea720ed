-- What a stable sort by number makes of a list.
use Rattle.std.proofs.Common.{rules, ◌≡◌, ℕ, ◌<◌, ◌≤◌, nat_lt, Bool, true, false, List, [], ◌∷◌, filter, map, length}
use Rattle.std.proofs.{Common.{suc, refl, sym, ap, ◌∙◌, inl, inr, arith}, lemmas.Bool.{cases_lt, le-ltb, lt-ltb}}
use Rattle.std.specs.List.{All, AllAdjacentBelow, Sorted.{IsSortedByKey, IsStableByKey, IsNonDecreasingBy, ties}}
use Rattle.std.specs.Ordering.{is_lt, nat_cmp}
use Rattle.std.proofs.lemmas.List.Elements.{All-nil, All-cons, All-head, All-tail, All-weaker}
use Rattle.std.proofs.lemmas.List.Sorted.{IsNonDecreasingBy-from_sort, IsNonDecreasingBy-from_all_adjacent}
use Rattle.row_faults.specs.AsWritten.{put_by, ordered_by}

module _ {X : Type 0} where
  apart : (x : X) (xs : List X) → [] ≡ x ∷ xs → ⊥
  apart x xs e = cc

  heads : (x y : X) (xs ys : List X) → x ∷ xs ≡ y ∷ ys → x ≡ y
  heads x y xs ys e = cc

  kept : (p : X → Bool) (x : X) (xs : List X) → p x ≡ true → filter p (x ∷ xs) ≡ x ∷ filter p xs
  kept p x xs e = rw e refl

  dropped : (p : X → Bool) (x : X) (xs : List X) → p x ≡ false → filter p (x ∷ xs) ≡ filter p xs
  dropped p x xs e = rw e refl

  none_kept : (p : X → Bool) (xs : List X) → All (λ x. p x ≡ false) xs → filter p xs ≡ []
  none_kept p [] h = refl
  none_kept p (x ∷ xs) h = dropped p x xs (All-head (λ y. p y ≡ false) x xs h)
      ∙ none_kept p xs (All-tail (λ y. p y ≡ false) x xs h)

  same_kept : (p : X → Bool) (x : X) (xs ys : List X) → filter p xs ≡ filter p ys
      → filter p (x ∷ xs) ≡ filter p (x ∷ ys)
  same_kept p x xs ys e = rw e refl

  same_rest : (p : X → Bool) (x : X) (xs ys : List X) → filter p (x ∷ xs) ≡ filter p (x ∷ ys)
      → filter p xs ≡ filter p ys
  same_rest p x xs ys e = search rules

  swapped : (p : X → Bool) (x y : X) (xs : List X) → (p x ≡ true → p y ≡ false)
      → filter p (y ∷ x ∷ xs) ≡ filter p (x ∷ y ∷ xs)
  swapped p x y xs h = search rules

  module _ (number : X → ℕ) where
    -- x is before y
    abbrev lower : X → X → Bool
    lower x y = is_lt (nat_cmp (number x) (number y))

    -- numbers do not fall along the list
    abbrev pub Ascends : List X → Type 0
    Ascends [] = Unit {0}
    Ascends (x ∷ xs) = All (λ y. number x ≤ number y) xs × Ascends xs

    tied-from : (x y : X) → number x ≡ number y → ties lower x y ≡ true
    tied-from x y same = search rules

    below-apart : (x y : X) → number y < number x → ties lower x y ≡ false
    below-apart x y less = search rules

    tied-same : (x y : X) → ties lower x y ≡ true → number x ≡ number y
    tied-same x y e = search rules

    -- a list that begins with a lower number has others of that number
    begins-lower : (y z : X) (ys zs : List X) → All (λ w. number z ≤ number w) zs → number y < number z
        → filter (ties lower y) (y ∷ ys) ≡ filter (ties lower y) (z ∷ zs) → ⊥
    begins-lower y z ys zs above less e = search
        (rules, none_kept, All-cons, rules, lt-ltb, All-weaker, apart, kept, tied-from)

    -- two lists that ascend, and in which equal numbers come in one order
    pub ascends-only : (ys zs : List X) → Ascends ys → Ascends zs
        → ((x : X) → filter (ties lower x) ys ≡ filter (ties lower x) zs) → ys ≡ zs
    ascends-only [] [] a b h = refl
    ascends-only [] (z ∷ zs) a b h = absurd
        (apart z (filter (ties lower z) zs) (h z ∙ kept (ties lower z) z zs (tied-from z z refl)))
    ascends-only (y ∷ ys) [] a b h = absurd
        (apart y (filter (ties lower y) ys) (sym (h y) ∙ kept (ties lower y) y ys (tied-from y y refl)))
    ascends-only (y ∷ ys) (z ∷ zs) a b h =
        elim (cases_lt (number y) (number z)) [
          | inl less ↦ absurd (begins-lower y z ys zs b.0 less (h y))
          | inr reached ↦
              elim (cases_lt (number z) (number y)) [
                | inl less ↦ absurd (begins-lower z y zs ys a.0 less (sym (h z)))
                | inr other ↦
                    let same : number y ≡ number z = omega (arith, reached, other) in
                    let head : y ≡ z =
                    heads y z (filter (ties lower y) ys) (filter (ties lower y) zs)
                    (sym (kept (ties lower y) y ys (tied-from y y refl)) ∙ h y
                    ∙ kept (ties lower y) z zs (tied-from y z same)) in
                    let rest : (x : X) → filter (ties lower x) ys ≡ filter (ties lower x) zs =
                    λ x. same_rest (ties lower x) z ys zs
                    (ap (λ (w : X). filter (ties lower x) (w ∷ ys)) (sym head) ∙ h x) in
                    ap (λ (w : X). w ∷ ys) head ∙ ap (λ (ws : List X). z ∷ ws) (ascends-only ys zs a.1 b.1 rest)
              ]
        ]

    -- ---- what it is to be

    put-later : (x y : X) (ys : List X) → number y < number x → put_by number x (y ∷ ys) ≡ y ∷ put_by number x ys
    put-later x y ys less = rw (lt-ltb (number y) (number x) less) refl

    put-here : (x y : X) (ys : List X) → number x ≤ number y → put_by number x (y ∷ ys) ≡ x ∷ y ∷ ys
    put-here x y ys le = rw (le-ltb (number y) (number x) le) refl

    put-all : (P : X → Type 0) (x : X) (ys : List X) → P x → All P ys → All P (put_by number x ys)
    put-all P x [] p all = All-cons P x [] p (All-nil P)
    put-all P x (y ∷ ys) p all =
        search
        (rules, cases_lt, put-later, All-cons, All-head, All-tail, put-here, put-all P x ys p (All-tail P y ys all))

    put-ascends : (x : X) (ys : List X) → Ascends ys → Ascends (put_by number x ys)
    put-ascends x [] a = (All-nil (λ y. number x ≤ number y), tt)
    put-ascends x (y ∷ ys) a =
        elim (cases_lt (number y) (number x)) [
          | inl less ↦ rw (put-later x y ys less)
              (put-all (λ w. number y ≤ number w) x ys (omega (arith, less)) a.0, put-ascends x ys a.1)
          | inr le ↦
              rw (put-here x y ys le) (
                All-cons (λ w. number x ≤ number w) y ys le
                    (All-weaker (λ w. number y ≤ number w) (λ w. number x ≤ number w) (λ w m. omega (arith, le, m)) ys
                    a.0),
                a,
              )
        ]

    put-kept : (w x : X) (ys : List X) → filter (ties lower w) (put_by number x ys) ≡ filter (ties lower w) (x ∷ ys)
    put-kept w x [] = refl
    put-kept w x (y ∷ ys) =
        search (rules, cases_lt, put-later, same_kept, swapped, tied-same, below-apart, put-here, put-kept w x ys)

    ordered-ascends : (xs : List X) → Ascends (ordered_by number xs)
    ordered-ascends [] = tt
    ordered-ascends (x ∷ xs) = put-ascends x (ordered_by number xs) (ordered-ascends xs)

    ordered-kept : (w : X) (xs : List X) → filter (ties lower w) (ordered_by number xs) ≡ filter (ties lower w) xs
    ordered-kept w [] = refl
    ordered-kept w (x ∷ xs) = put-kept w x (ordered_by number xs)
        ∙ same_kept (ties lower w) x (ordered_by number xs) xs (ordered-kept w xs)

    ascends-from : (xs : List X) → IsNonDecreasingBy number xs → Ascends xs
    ascends-from [] h = tt
    ascends-from (x ∷ xs) h = (
      λ k d within. h 0 (suc k) d (omega arith) (omega (arith, within)),
      ascends-from xs (λ i j d before within. h (suc i) (suc j) d (omega (arith, before)) (omega (arith, within))),
    )

    -- what a stable sort gives
    pub sorted-is : (xs ys : List X) → IsSortedByKey number nat_cmp ys → IsStableByKey number nat_cmp xs ys
        → ys ≡ ordered_by number xs
    sorted-is xs ys sorted stable = search
        (rules, ascends-only, ascends-from, IsNonDecreasingBy-from_sort, ordered-ascends, ordered-kept)

    -- a list in order stays as it is
    pub in-order : (xs : List X) → AllAdjacentBelow (λ x y. number x ≤ number y) xs (length xs)
        → xs ≡ ordered_by number xs
    in-order xs adjacent =
        search (rules, ascends-only, ascends-from, IsNonDecreasingBy-from_all_adjacent, ordered-ascends, ordered-kept)

    -- each item of an ordered list is one of the list
    pub ordered-all : (P : X → Type 0) (xs : List X) → All P (ordered_by number xs) → All P xs
    ordered-all P [] h = h
    ordered-all P (x ∷ xs) h =
        let both = put-parts P x (ordered_by number xs) h in
        All-cons P x xs both.0 (ordered-all P xs both.1)
      where
        put-parts : (P : X → Type 0) (x : X) (ys : List X) → All P (put_by number x ys) → P x × All P ys
        put-parts P x [] h = (All-head P x [] h, All-nil P)
        put-parts P x (y ∷ ys) h =
            elim (cases_lt (number y) (number x)) [
              | inl less ↦
                  let later = rw (put-later x y ys less) at h in
                  let rest = put-parts P x ys (All-tail P y (put_by number x ys) later) in
                  (rest.0, All-cons P y ys (All-head P y (put_by number x ys) later) rest.1)
              | inr le ↦
                  let here = rw (put-here x y ys le) at h in
                  (All-head P x (y ∷ ys) here, All-tail P x (y ∷ ys) here)
            ]

-- ---- as seen

module _ {X Y : Type 0} (view : X → Y) (number : Y → ℕ) where
  put-seen : (x : X) (ys : List X) → map view (put_by (λ z. number (view z)) x ys)
      ≡ put_by number (view x) (map view ys)
  put-seen x [] = refl
  put-seen x (y ∷ ys) = search (rules, nat_lt, put-seen x ys)

  pub ordered-seen : (xs : List X) → map view (ordered_by (λ z. number (view z)) xs) ≡ ordered_by number (map view xs)
  ordered-seen [] = refl
  ordered-seen (x ∷ xs) = put-seen x (ordered_by (λ z. number (view z)) xs)
      ∙ ap (put_by number (view x)) (ordered-seen xs)
