-- A flag for each of 16 shots, set one after the other.
use Rattle.std.proofs.Common.{rules, replicate, set, get_or, min, sym, ◌∙◌, ap, ⊎_elim, arith}
use Rattle.std.proofs.lemmas.{Bool.cases_lt, List.take-take}
use Rattle.std.proofs.Common.{◌≡◌, false, ℕ, zero, suc, ◌+◌, ◌<◌, ◌≤◌, Bool, List, [], ◌∷◌, ◌++◌, length, map, take}
use Rattle.std.proofs.lemmas.List.{length-map, length-take, get_or-map, take_all, take-append-le, take-replicate}
use Rattle.plan_rows.specs.Members.{flags}

-- the first flags of a list, and then others
abbrev pub filled : ℕ → ℕ → ℕ → List Bool → List Bool
filled n p k bs = take n (take k bs ++ replicate p false)

-- one flag more
filled_next : (n p k : ℕ) (bs : List Bool) → n ≤ p → k < n → k < length bs
    → set (filled n p k bs) k (get_or bs k false) ≡ filled n p (suc k) bs
filled_next zero p k bs room within some = absurd (omega arith)
filled_next (suc n) zero k bs room within some = absurd (omega arith)
filled_next (suc n) (suc p) k [] room within some = absurd (omega arith)
filled_next (suc n) (suc p) zero (b ∷ bs) room within some =
    let short : n ≤ p = omega arith in
    let long : n ≤ suc p = omega arith in
    ap (λ l. b ∷ l) (take-replicate n p false short ∙ sym (take-replicate n (suc p) false long))
filled_next (suc n) (suc p) (suc k) (b ∷ bs) room within some =
    ap (λ l. b ∷ l) (filled_next n (suc p) k bs (omega arith) (omega arith) (omega arith))

-- all of them
filled_all : (n p k : ℕ) (bs : List Bool) → n ≤ p → k ≡ min (length bs) n
    → filled n p k bs ≡ take n (bs ++ replicate p false)
filled_all n p k bs room end = search (rules, ⊎_elim, take_all, take-append-le, length-take, take-take, cases_lt)

-- the first flags of some items
module _ {X Y : Type 0} (f : Y → Bool) (view : X → Y) (xs : List X) (k : ℕ) where
  abbrev pub first_flags : List Bool
  first_flags = filled 16 16 k (map f (map view xs))

  -- one more
  pub flag_more : (d : X) → k < 16 → k < length xs
      → set first_flags k (f (view (get_or xs k d))) ≡ filled 16 16 (k + 1) (map f (map view xs))
  flag_more d within some =
      let bs = map f (map view xs) in
      let there : k < length (map view xs) = omega (arith, length-map xs view) in
      let shown : k < length bs = omega (arith, length-map (map view xs) f, length-map xs view) in
      let next : suc k ≡ k + 1 = omega arith in
      ap (λ b. set (filled 16 16 k bs) k b)
      (sym (get_or-map f (map view xs) k (view d) false there ∙ ap f (get_or-map view xs k d (view d) some)))
      ∙ filled_next 16 16 k bs (omega arith) within shown
      ∙ ap (λ i. filled 16 16 i bs) next

  -- all
  pub flag_all : k ≡ min (length xs) 16 → first_flags ≡ flags (map f (map view xs))
  flag_all end = filled_all 16 16 k (map f (map view xs)) (omega arith)
      (end ∙ ap (λ n. min n 16) (sym (length-map (map view xs) f ∙ length-map xs view)))
