-- An item put into a list in order, and taken out of it.
use Rattle.std.proofs.Common.{rules, ◌≡◌, ℕ, zero, suc, ◌-◌, ◌<◌, ◌≤◌, Bool, true, false, true≢false, Option, is_some}
use Rattle.std.proofs.Common.{OnSome, List, [], ◌∷◌, length, get_or, refl, ap, sym, ◌∙◌, inl, inr, arith}
use Rattle.std.specs.{List.{All, AllPairs, AllWithin, insert, remove, Sorted.IsPartitionedBy}, Cmp.IsStrictWeakOrder}
use Rattle.std.proofs.lemmas.Bool.{cases_Bool, cond_both, cond-true, cond-false, true_from_ne_false, false_from_ne_true}
use Rattle.std.proofs.lemmas.List.{get_or_default, Elements.All-cons, Kept.AllPairs-cons}
use Rattle.event_queue.specs.OrderedLists.{put, IsOrdered, IsPlaceOf}

module _ {X : Type 0} (before : X → X → Bool) where
  pub put-later : (x y : X) (ys : List X) → before y x ≡ true → put before x (y ∷ ys) ≡ y ∷ put before x ys
  put-later x y ys is = cond-true (before y x) (y ∷ put before x ys) (x ∷ y ∷ ys) is

  pub put-first : (x y : X) (ys : List X) → before y x ≡ false → put before x (y ∷ ys) ≡ x ∷ y ∷ ys
  put-first x y ys is = cond-false (before y x) (y ∷ put before x ys) (x ∷ y ∷ ys) is

  pub length-put : (x : X) (ys : List X) → length (put before x ys) ≡ suc (length ys)
  length-put x [] = refl
  length-put x (y ∷ ys) =
      cond_both (before y x) (y ∷ put before x ys) (x ∷ y ∷ ys) (λ zs. length zs ≡ suc (suc (length ys)))
      (λ _. ap (λ n. suc n) (length-put x ys)) (λ _. refl)

  All-put : (P : X → Type 0) (x : X) (ys : List X) → P x → All P ys → All P (put before x ys)
  All-put P x [] here all = All-cons P x [] here all
  All-put P x (y ∷ ys) here all =
      cond_both (before y x) (y ∷ put before x ys) (x ∷ y ∷ ys) (All P)
      (λ _. All-cons P y (put before x ys) (all 0 y (omega arith))
      (All-put P x ys here (λ k d within. all (suc k) d (omega arith))))
      (λ _. All-cons P x (y ∷ ys) here all)

  -- ---- where it is put, or found

  -- the item is put at its place
  pub put-at : (x : X) (ys : List X) (k : ℕ) → IsPlaceOf before x ys k → insert ys k x ≡ put before x ys
  put-at x ys k place = at ys k place.0 place.1.0 place.1.1
    where
      at : (ys : List X) (k : ℕ) → k ≤ length ys → AllWithin (λ y. before y x ≡ true) ys 0 k
          → AllWithin (λ y. before y x ≡ false) ys k (length ys) → insert ys k x ≡ put before x ys
      at [] zero le front rest = refl
      at [] (suc k) le front rest = absurd (omega arith)
      at (y ∷ ys) zero le front rest = sym (put-first x y ys (rest 0 y (omega arith) (omega arith)))
      at (y ∷ ys) (suc k) le front rest =
          ap (λ zs. y ∷ zs) (at ys k (omega arith) (λ i d low high. front (suc i) d (omega arith) (omega arith))
          (λ i d low high. rest (suc i) d (omega arith) (omega arith)))
          ∙ sym (put-later x y ys (front 0 y (omega arith) (omega arith)))

  module _ (order : IsStrictWeakOrder before) where
    never : (x : X) → before x x ≡ false
    never x = false_from_ne_true (before x x) (λ is. true≢false (sym is ∙ order.one_way x x is))

    -- what x was put into is left when the item at its place is taken out
    abbrev IsTakenOut : X → List X → List X → ℕ → Type 0
    IsTakenOut x ys zs k = k ≤ length ys → AllWithin (λ y. before y x ≡ true) ys 0 k
        → AllWithin (λ y. before y x ≡ false) ys k (length ys) → (k < length ys) × (remove ys k ≡ zs)

    taken-here : (x : X) (ys : List X) (k : ℕ) → IsTakenOut x (x ∷ ys) ys k
    taken-here x ys zero le front rest = (omega arith, refl)
    taken-here x ys (suc k) le front rest = absurd (true≢false (sym (front 0 x (omega arith) (omega arith)) ∙ never x))

    taken-later : (x z : X) (ys zs : List X) (k : ℕ) → before z x ≡ true → ((i : ℕ) → IsTakenOut x ys zs i)
        → IsTakenOut x (z ∷ ys) (z ∷ zs) k
    taken-later x z ys zs zero is then le front rest =
        absurd (true≢false (sym is ∙ rest 0 z (omega arith) (omega arith)))
    taken-later x z ys zs (suc k) is then le front rest =
        let later = then k (omega arith) (λ i d low high. front (suc i) d (omega arith) (omega arith))
        (λ i d low high. rest (suc i) d (omega arith) (omega arith)) in
        let within = later.0 in
        (omega arith, ap (λ ws. z ∷ ws) later.1)

    taken-out : (x : X) (zs : List X) (k : ℕ) → IsTakenOut x (put before x zs) zs k
    taken-out x [] k = taken-here x [] k
    taken-out x (z ∷ zs) k =
        cond_both (before z x) (z ∷ put before x zs) (x ∷ z ∷ zs) (λ ys. IsTakenOut x ys (z ∷ zs) k)
        (λ is. taken-later x z (put before x zs) zs k is (taken-out x zs)) (λ _. taken-here x (z ∷ zs) k)

    pub taken-at : (x : X) (zs : List X) (k : ℕ) → IsPlaceOf before x (put before x zs) k
        → (k < length (put before x zs)) × (remove (put before x zs) k ≡ zs)
    taken-at x zs k place = taken-out x zs k place.0 place.1.0 place.1.1

    -- ---- the list stays in order

    -- none that comes before y comes before x, which does not come after y
    not_before : (x y z : X) → before y x ≡ false → before z y ≡ false → before z x ≡ false
    not_before x y z first then = order.chain z y x then first

    pub ordered-put : (x : X) (ys : List X) → IsOrdered before ys → IsOrdered before (put before x ys)
    ordered-put x [] ordered = λ i j d low high. absurd (omega arith)
    ordered-put x (y ∷ ys) ordered =
        let Below : X → X → Type 0 = λ a b. before b a ≡ false in
        let after : All (Below y) ys = λ k d within. ordered 0 (suc k) d (omega arith) (omega arith) in
        cond_both (before y x) (y ∷ put before x ys) (x ∷ y ∷ ys) (AllPairs Below)
        (λ is.
        AllPairs-cons Below y (put before x ys) (All-put (Below y) x ys (order.one_way y x is) after)
        (ordered-put x ys (λ i j d low high. ordered (suc i) (suc j) d (omega arith) (omega arith))))
        (λ is. AllPairs-cons Below x (y ∷ ys)
        (All-cons (Below x) y ys is (λ k d within. not_before x y _ is (after k d within))) ordered)

    -- so a search by halving finds the place
    pub ordered-parted : (x : X) (ys : List X) → IsOrdered before ys → IsPartitionedBy (λ y. before y x) ys
    ordered-parted x ys ordered i j d le within is = search rules

    -- ---- where the place is seen at an end

    -- the first item does not come before x, so none does
    pub place-front : (x first : X) (ys : List X) → IsOrdered before ys → 0 < length ys → first ≡ get_or ys 0 first
        → before first x ≡ false → IsPlaceOf before x ys 0
    place-front x first ys ordered some is not = (
      omega arith,
      (
        (λ k d low high. absurd (omega arith)),
        λ k d low high.
            false_from_ne_true (before (get_or ys k d) x) (λ comes.
            let here : first ≡ get_or ys 0 d = is ∙ get_or_default ys 0 first d some in
            true≢false (sym (ap (λ y. before y x) here ∙ ordered-parted x ys ordered 0 k d (omega arith) high comes)
            ∙ not)),
      ),
    )

    -- the last item comes before x, so all do
    pub place-back : (x last : X) (ys : List X) → IsOrdered before ys → 0 < length ys
        → last ≡ get_or ys (length ys - 1) last → before last x ≡ true → IsPlaceOf before x ys (length ys)
    place-back x last ys ordered some is comes = (
      omega arith,
      (
        (λ k d low high.
            let here : last ≡ get_or ys (length ys - 1) d = is ∙ get_or_default ys (length ys - 1) last d (omega arith)
            in
            ordered-parted x ys ordered k (length ys - 1) d (omega arith) (omega arith)
            (sym (ap (λ y. before y x) here) ∙ comes)),
        λ k d low high. absurd (omega arith),
      ),
    )

    -- ---- two items may be put in either order

    module _ (same : (x y : X) → before x y ≡ false → before y x ≡ false → x ≡ y) where
      -- one that is not before a third, which is before the other, is after the other
      between : (x y z : X) → before z y ≡ true → before z x ≡ false → before x y ≡ true
      between x y z is not = true_from_ne_false (before x y)
          (λ after. true≢false (sym is ∙ order.chain z x y not after))

      -- both are put in front
      both-first : (x y : X) (ws : List X) → put before x ws ≡ x ∷ ws → put before y ws ≡ y ∷ ws
          → put before x (y ∷ ws) ≡ put before y (x ∷ ws)
      both-first x y ws for_x for_y = search rules

      pub put_comm : (x y : X) (zs : List X) → put before x (put before y zs) ≡ put before y (put before x zs)
      put_comm x y [] = both-first x y [] refl refl
      put_comm x y (z ∷ zs) =
          elim (cases_Bool (before z y)) [
            | inl y_later ↦
                elim (cases_Bool (before z x)) [
                  | inl x_later ↦
                      ap (put before x) (put-later y z zs y_later) ∙ put-later x z (put before y zs) x_later
                      ∙ ap (λ ws. z ∷ ws) (put_comm x y zs)
                      ∙ sym (ap (put before y) (put-later x z zs x_later) ∙ put-later y z (put before x zs) y_later)
                  | inr x_first ↦
                      ap (put before x) (put-later y z zs y_later) ∙ put-first x z (put before y zs) x_first
                      ∙ sym (ap (put before y) (put-first x z zs x_first)
                      ∙ put-later y x (z ∷ zs) (between x y z y_later x_first)
                      ∙ ap (λ ws. x ∷ ws) (put-later y z zs y_later))
                ]
            | inr y_first ↦
                elim (cases_Bool (before z x)) [
                  | inl x_later ↦
                      ap (put before x) (put-first y z zs y_first)
                      ∙ put-later x y (z ∷ zs) (between y x z x_later y_first)
                      ∙ ap (λ ws. y ∷ ws) (put-later x z zs x_later)
                      ∙ sym (ap (put before y) (put-later x z zs x_later) ∙ put-first y z (put before x zs) y_first)
                  | inr x_first ↦
                      ap (put before x) (put-first y z zs y_first)
                      ∙ both-first x y (z ∷ zs) (put-first x z zs x_first) (put-first y z zs y_first)
                      ∙ ap (put before y) (sym (put-first x z zs x_first))
                ]
          ]

-- ---- what an `OnSome` says of a value that is there

pub on_some : {A : Type 0} (o : Option A) (P : Type 0) → is_some o ≡ true → OnSome o P → P
on_some o P some h = search rules
