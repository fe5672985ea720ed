-- Items in turn put into a list in order, or taken out of it, in one walk.
use Rattle.std.proofs.Common.{◌≡◌, ℕ, zero, suc, ◌+◌, ◌-◌, ◌<◌, ◌≤◌, Bool, true, false, true≢false, List, [], ◌∷◌, ◌++◌}
use Rattle.std.proofs.Common.{Some, length, take, drop, get_or, slice_get, refl, ap, sym, subst, ◌∙◌, inl, inr, arith}
use Rattle.std.specs.{List.{All, AllPairs, remove}, Cmp.IsStrictWeakOrder}
use Rattle.std.proofs.lemmas.{Bool.{cases_Bool, true_from_ne_false}, List.Elements.{All-append, All-cons}}
use Rattle.std.proofs.lemmas.List.{append_assoc, drop-drop, length-append, get_or-take, get_or-drop, get_or_append_left}
use Rattle.std.proofs.lemmas.List.{get_or-append-add, length-take-le, length-drop, take_all}
use Rattle.event_queue.specs.OrderedLists.{put, put_all, IsOrdered, IsPlaceOf, IsInTurn}
use Rattle.event_queue.proofs.Put.{put-later, put-first, put-at, taken-at, length-put, put_comm}

-- ---- what holds of all items, or pairs, of a part of a list

module _ {X : Type 0} where
  pub All-left : (P : X → Type 0) (xs ys : List X) → All P (xs ++ ys) → All P xs
  All-left P xs ys all k d within = subst P (get_or_append_left xs ys d k within)
      (all k d (omega (arith, length-append xs ys)))

  pub All-right : (P : X → Type 0) (xs ys : List X) → All P (xs ++ ys) → All P ys
  All-right P xs ys all k d within = subst P (get_or-append-add xs ys k d)
      (all (length xs + k) d (omega (arith, length-append xs ys)))

  module _ (R : X → X → Type 0) where
    pub pairs-rest : (x : X) (xs : List X) → AllPairs R (x ∷ xs) → AllPairs R xs
    pairs-rest x xs h i j d low high = h (suc i) (suc j) d (omega arith) (omega arith)

    pub pairs-first : (x : X) (xs : List X) → AllPairs R (x ∷ xs) → All (R x) xs
    pairs-first x xs h k d within = h 0 (suc k) d (omega arith) (omega arith)

    pub pairs-left : (xs ys : List X) → AllPairs R (xs ++ ys) → AllPairs R xs
    pairs-left xs ys h i j d low high =
        subst (λ x. R x (get_or xs j d)) (get_or_append_left xs ys d i (omega arith))
        (subst (R (get_or (xs ++ ys) i d)) (get_or_append_left xs ys d j high)
        (h i j d low (omega (arith, length-append xs ys))))

    pub pairs-right : (xs ys : List X) → AllPairs R (xs ++ ys) → AllPairs R ys
    pairs-right xs ys h i j d low high =
        subst (λ x. R x (get_or ys j d)) (get_or-append-add xs ys i d)
        (subst (R (get_or (xs ++ ys) (length xs + i) d)) (get_or-append-add xs ys j d)
        (h (length xs + i) (length xs + j) d (omega arith) (omega (arith, length-append xs ys))))

    pub pairs-drop : (k : ℕ) (xs : List X) → k ≤ length xs → AllPairs R xs → AllPairs R (drop k xs)
    pairs-drop k xs le h i j d low high =
        subst (λ x. R x (get_or (drop k xs) j d)) (sym (get_or-drop k xs i d))
        (subst (R (get_or xs (k + i) d)) (sym (get_or-drop k xs j d))
        (h (k + i) (k + j) d (omega arith) (omega (arith, high, le, length-drop k xs))))

module _ {X : Type 0} (before : X → X → Bool) where
  -- each of the first items comes before each of the others
  abbrev pub IsAhead : List X → List X → Type 0
  IsAhead ys xs = All (λ x. All (λ y. before y x ≡ true) ys) xs

  pub length-put_all : (xs ys : List X) → length (put_all before xs ys) ≡ length xs + length ys
  length-put_all [] ys = omega arith
  length-put_all (x ∷ xs) ys =
      let rest = length-put_all xs (put before x ys) in
      let one = length-put before x ys in
      omega arith

  put-past : (x : X) (front ys : List X) → All (λ y. before y x ≡ true) front
      → put before x (front ++ ys) ≡ front ++ put before x ys
  put-past x [] ys ahead = refl
  put-past x (a ∷ front) ys ahead =
      put-later before x a (front ++ ys) (ahead 0 a (omega arith))
      ∙ ap (λ zs. a ∷ zs) (put-past x front ys (λ k d within. ahead (suc k) d (omega arith)))

  -- ---- one more is put in

  pub merge-more : (x : X) (more fresh left : List X) (k : ℕ) → IsAhead fresh (x ∷ more) → IsPlaceOf before x left k
      → put_all before more (((fresh ++ take k left) ++ x ∷ []) ++ drop k left)
      ≡ put_all before (x ∷ more) (fresh ++ left)
  merge-more x more fresh left k ahead place =
      ap (put_all before more)
      (append_assoc (fresh ++ take k left) (x ∷ []) (drop k left) ∙ append_assoc fresh (take k left) (x ∷ drop k left)
      ∙ ap (λ zs. fresh ++ zs) (put-at before x left k place)
      ∙ sym (put-past x fresh left (ahead 0 x (omega arith))))

  -- those on one side of a place
  front-of : (x : X) (left : List X) (k : ℕ) → IsPlaceOf before x left k → All (λ y. before y x ≡ true) (take k left)
  front-of x left k place i d within =
      let short = length-take-le k left place.0 in
      subst (λ y. before y x ≡ true) (sym (get_or-take k left i d (omega arith)))
      (place.1.0 i d (omega arith) (omega arith))

  module _ (order : IsStrictWeakOrder before) where
    before-trans : (x y z : X) → before x y ≡ true → before y z ≡ true → before x z ≡ true
    before-trans x y z first then = true_from_ne_false (before x z)
        (λ not. true≢false (sym first ∙ order.chain x z y not (order.one_way y z then)))

    -- in turn, so none is there twice
    pub turn-apart : (xs : List X) → IsInTurn before xs → AllPairs (λ x y. (x ≡ y) → ⊥) xs
    turn-apart xs turn i j d low high same =
        let one = get_or xs i d in
        let self : before one one ≡ true = ap (before one) same ∙ turn i j d low high in
        true≢false (sym self ∙ order.one_way one one self)

    pub ahead-part : (x : X) (more fresh left : List X) (k : ℕ) → IsAhead fresh (x ∷ more) → IsInTurn before (x ∷ more)
        → IsPlaceOf before x left k → IsAhead (fresh ++ take k left) more
    ahead-part x more fresh left k ahead turn place i d within =
        All-append (λ y. before y (get_or more i d) ≡ true) fresh (take k left) (ahead (suc i) d (omega arith))
        (λ j c inside. before-trans (get_or (take k left) j c) x (get_or more i d) (front-of x left k place j c inside)
        (turn 0 (suc i) d (omega arith) (omega arith)))

    pub ahead-more : (x : X) (more fresh left : List X) (k : ℕ) → IsAhead fresh (x ∷ more) → IsInTurn before (x ∷ more)
        → IsPlaceOf before x left k → IsAhead ((fresh ++ take k left) ++ x ∷ []) more
    ahead-more x more fresh left k ahead turn place i d within =
        All-append (λ y. before y (get_or more i d) ≡ true) (fresh ++ take k left) (x ∷ [])
        (ahead-part x more fresh left k ahead turn place i d within)
        (All-cons (λ y. before y (get_or more i d) ≡ true) x [] (turn 0 (suc i) d (omega arith) (omega arith))
        (λ j c inside. absurd (omega arith)))

    -- ---- one more is taken out

    -- what an item was put into, past those that come before it
    parts : (x : X) (front ys zs : List X) → All (λ y. before y x ≡ true) front → front ++ ys ≡ put before x zs
        → (ws : List X) × (zs ≡ front ++ ws) × (ys ≡ put before x ws)
    parts x [] ys zs ahead is = (zs, refl, is)
    parts x (a ∷ front) ys [] ahead is =
        let first : a ≡ x = ap (λ us. get_or us 0 a) is in
        let self : before x x ≡ true = ap (λ y. before y x) (sym first) ∙ ahead 0 a (omega arith) in
        absurd (true≢false (sym self ∙ order.one_way x x self))
    parts x (a ∷ front) ys (z ∷ zs) ahead is =
        elim (cases_Bool (before z x)) [
          | inl later ↦
              let now = is ∙ put-later before x z zs later in
              let rest = parts x front ys zs (λ k d within. ahead (suc k) d (omega arith)) (ap (drop 1) now) in (
                rest.0,
                ap (λ us. z ∷ us) rest.1
                    ∙ ap (λ y. y ∷ (front ++ rest.0)) (sym (ap (λ us. get_or us 0 a) now)),
                rest.2,
              )
          | inr not ↦
              let first : a ≡ x = ap (λ us. get_or us 0 a) (is ∙ put-first before x z zs not) in
              let self : before x x ≡ true = ap (λ y. before y x) (sym first) ∙ ahead 0 a (omega arith) in
              absurd (true≢false (sym self ∙ order.one_way x x self))
        ]

    module _ (x : X) (fresh left zs : List X) (k : ℕ) (ahead : All (λ y. before y x ≡ true) fresh)
        (is : fresh ++ left ≡ put before x zs) (place : IsPlaceOf before x left k) where
      pub part-there : k < length left
      part-there =
          let p = parts x fresh left zs ahead is in
          let at = taken-at before order x p.0 k (subst (λ ys. IsPlaceOf before x ys k) p.2 place) in
          subst (λ (ys : List X). k < length ys) (sym p.2) at.0

      pub part-more : (fresh ++ take k left) ++ drop 1 (drop k left) ≡ zs
      part-more =
          let p = parts x fresh left zs ahead is in
          let at = taken-at before order x p.0 k (subst (λ ys. IsPlaceOf before x ys k) p.2 place) in
          let next : k + 1 ≡ suc k = omega arith in
          append_assoc fresh (take k left) (drop 1 (drop k left))
          ∙ ap (λ us. fresh ++ (take k left ++ us)) (drop-drop 1 k left ∙ ap (λ n. drop n left) next)
          ∙ ap (λ us. fresh ++ us) (ap (λ ys. remove ys k) p.2 ∙ at.1)
          ∙ sym p.1

    module _ (same : (x y : X) → before x y ≡ false → before y x ≡ false → x ≡ y) where
      -- the first one may be put in last
      pub put_all-first : (x : X) (xs ys : List X)
          → put_all before xs (put before x ys) ≡ put before x (put_all before xs ys)
      put_all-first x [] ys = refl
      put_all-first x (z ∷ xs) ys = ap (put_all before xs) (put_comm before order same z x ys)
          ∙ put_all-first x xs (put before z ys)

-- ---- the whole of a walk

module _ {X : Type 0} (before : X → X → Bool) where
  -- the rest is still to be put in, behind what was written down
  pub record IsMerging (target rest fresh left : List X) : Type 0 where
    pub items : put_all before rest (fresh ++ left) ≡ target
    pub ahead : IsAhead before fresh rest
    pub turn : IsInTurn before rest
    pub ordered : IsOrdered before left

  -- the rest is still to be taken out, of what was not written down yet
  pub record IsParting (group order rest fresh left : List X) : Type 0 where
    pub items : (others : List X) → IsOrdered before others → order ≡ put_all before group others
        → fresh ++ left ≡ put_all before rest others
    pub ahead : IsAhead before fresh rest
    pub turn : IsInTurn before rest
    pub ordered : IsOrdered before left

-- ---- the same of the first of what is left

module _ {X : Type 0} (before : X → X → Bool) (d : X) where
  pub merge-step : (rest fresh left : List X) (k : ℕ) → 1 ≤ length rest → IsAhead before fresh rest
      → IsPlaceOf before (get_or rest 0 d) left k
      → put_all before (drop 1 rest) (((fresh ++ take k left) ++ get_or rest 0 d ∷ []) ++ drop k left)
      ≡ put_all before rest (fresh ++ left)
  merge-step [] fresh left k some ahead place = absurd (omega arith)
  merge-step (x ∷ more) fresh left k some ahead place = merge-more before x more fresh left k ahead place

  pub turn-step : (rest : List X) → 1 ≤ length rest → IsInTurn before rest → IsInTurn before (drop 1 rest)
  turn-step [] some turn = absurd (omega arith)
  turn-step (x ∷ more) some turn = pairs-rest (λ a b. before a b ≡ true) x more turn

  pub first-ahead : (rest fresh : List X) → 1 ≤ length rest → IsAhead before fresh rest
      → All (λ y. before y (get_or rest 0 d) ≡ true) fresh
  first-ahead [] fresh some ahead = absurd (omega arith)
  first-ahead (x ∷ more) fresh some ahead = ahead 0 x (omega arith)

  module _ (order : IsStrictWeakOrder before) where
    pub ahead-step : (rest fresh left : List X) (k : ℕ) → 1 ≤ length rest → IsAhead before fresh rest
        → IsInTurn before rest → IsPlaceOf before (get_or rest 0 d) left k
        → IsAhead before ((fresh ++ take k left) ++ get_or rest 0 d ∷ []) (drop 1 rest)
    ahead-step [] fresh left k some ahead turn place = absurd (omega arith)
    ahead-step (x ∷ more) fresh left k some ahead turn place =
        ahead-more before order x more fresh left k ahead turn place

    pub ahead-step-out : (rest fresh left : List X) (k : ℕ) → 1 ≤ length rest → IsAhead before fresh rest
        → IsInTurn before rest → IsPlaceOf before (get_or rest 0 d) left k
        → IsAhead before (fresh ++ take k left) (drop 1 rest)
    ahead-step-out [] fresh left k some ahead turn place = absurd (omega arith)
    ahead-step-out (x ∷ more) fresh left k some ahead turn place =
        ahead-part before order x more fresh left k ahead turn place

    module _ (same : (x y : X) → before x y ≡ false → before y x ≡ false → x ≡ y) where
      -- what is left is what the first of the rest was put into last
      pub put-last : (rest others : List X) → 1 ≤ length rest
          → put_all before rest others ≡ put before (get_or rest 0 d) (put_all before (drop 1 rest) others)
      put-last [] others some = absurd (omega arith)
      put-last (x ∷ more) others some = put_all-first before order same x more others

  module _ (strict : IsStrictWeakOrder before) where
    pub merging-step : (target rest fresh left : List X) (k : ℕ) → 1 ≤ length rest
        → IsPlaceOf before (get_or rest 0 d) left k → IsMerging before target rest fresh left
        → IsMerging before target (drop 1 rest) ((fresh ++ take k left) ++ get_or rest 0 d ∷ []) (drop k left)
    merging-step target rest fresh left k some place was = record {
      items = merge-step rest fresh left k some was.ahead place ∙ was.items;
      ahead = ahead-step strict rest fresh left k some was.ahead was.turn place;
      turn = turn-step rest some was.turn;
      ordered = pairs-drop (λ x y. before y x ≡ false) k left place.0 was.ordered;
    }

    module _ (same : (x y : X) → before x y ≡ false → before y x ≡ false → x ≡ y) where
      module _ (group order rest fresh left : List X) (k : ℕ) (some : 1 ≤ length rest)
          (place : IsPlaceOf before (get_or rest 0 d) left k) (was : IsParting before group order rest fresh left) where
        taken-from : (others : List X) → IsOrdered before others → order ≡ put_all before group others
            → fresh ++ left ≡ put before (get_or rest 0 d) (put_all before (drop 1 rest) others)
        taken-from others in_order is = was.items others in_order is ∙ put-last strict same rest others some

        pub parting-there : (others : List X) → IsOrdered before others → order ≡ put_all before group others
            → k < length left
        parting-there others in_order is =
            part-there before strict (get_or rest 0 d) fresh left (put_all before (drop 1 rest) others) k
            (first-ahead rest fresh some was.ahead) (taken-from others in_order is) place

        pub parting-step : IsParting before group order (drop 1 rest) (fresh ++ take k left) (drop 1 (drop k left))
        parting-step = record {
          items = λ others in_order is. part-more before strict (get_or rest 0 d) fresh left
              (put_all before (drop 1 rest) others) k (first-ahead rest fresh some was.ahead)
              (taken-from others in_order is) place;
          ahead = ahead-step-out strict rest fresh left k some was.ahead was.turn place;
          turn = turn-step rest some was.turn;
          ordered = pairs-rest-of (drop k left) (pairs-drop (λ x y. before y x ≡ false) k left place.0 was.ordered);
        }
          where
            pairs-rest-of : (xs : List X) → IsOrdered before xs → IsOrdered before (drop 1 xs)
            pairs-rest-of [] h = h
            pairs-rest-of (x ∷ xs) h = pairs-rest (λ a b. before b a ≡ false) x xs h

-- all but the first
pub rest-of : {X : Type 0} (xs : List X) → take (length xs - 1) (drop 1 xs) ≡ drop 1 xs
rest-of xs = take_all (length xs - 1) (drop 1 xs) (omega (arith, length-drop 1 xs))

-- if the first one does not come before x, none does
pub none-before : {X : Type 0} (before : X → X → Bool) → IsStrictWeakOrder before → (x : X) (ys : List X) (y : X)
    → slice_get ys 0 ≡ Some y → IsOrdered before ys → before y x ≡ false → All (λ z. before z x ≡ false) ys
none-before before strict x [] y is ordered not = λ k d within. absurd (omega arith)
none-before before strict x (z ∷ ys) y is ordered not = by
  where
    first : z ≡ y
    first = cc

    by : All (λ w. before w x ≡ false) (z ∷ ys)
    by zero d within = subst (λ w. before w x ≡ false) (sym first) not
    by (suc k) d within = strict.chain (get_or ys k d) z x (ordered 0 (suc k) d (omega arith) (omega arith))
        (subst (λ w. before w x ≡ false) (sym first) not)
