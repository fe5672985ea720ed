-- Going on from place to place.
use Rattle.std.proofs.Common.{◌≡◌, ℕ, zero, suc, ◌+◌, ◌<◌, ◌≤◌, List, length, map, get_or, refl, sym, ap, ◌∙◌, ⊎_elim}
use Rattle.std.proofs.{Common.arith, lemmas.{Bool.cases_lt, Simd.map-map}, Math.ListN.get_or-eq_default}
use Rattle.std.proofs.lemmas.List as lists
use Rattle.row_faults.specs.Numbers.{after}

module _ (targets : List ℕ) where
  -- one after another
  after-more : (a b n : ℕ) → after targets b (after targets a n) ≡ after targets (a + b) n
  after-more zero b n = let same : zero + b ≡ b = omega arith in ap (λ k. after targets k n) (sym same)
  after-more (suc a) b n =
      let same : suc a + b ≡ suc (a + b) = omega arith in
      after-more a b (get_or targets n n) ∙ ap (λ k. after targets k n) (sym same)

  -- beyond the list nothing moves
  pub after-beyond : (k n : ℕ) → length targets ≤ n → after targets k n ≡ n
  after-beyond zero n le = refl
  after-beyond (suc k) n le = ap (after targets k) (get_or-eq_default targets n le) ∙ after-beyond k n le

  -- what is found in the list of ends is where one comes to with a step more
  ends-are : (k n : ℕ) → get_or (map (after targets k) targets) n n ≡ after targets (suc k) n
  ends-are k n =
      ⊎_elim (λ (less : n < length targets). lists.get_or-map (after targets k) targets n n n less)
      (λ (le : length targets ≤ n).
      let long : length (map (after targets k) targets) ≤ n =
      omega (arith, le, lists.length-map targets (after targets k)) in
      get_or-eq_default (map (after targets k) targets) n long ∙ sym (after-beyond (suc k) n le))
      (cases_lt n (length targets))

  -- half of the times, and then as many and one more
  pub twice-is : (h : ℕ) (half twice : List ℕ) → half ≡ map (after targets h) targets
      → twice ≡ map (λ n. get_or half n n) half → twice ≡ map (after targets (suc (h + h))) targets
  twice-is h half twice first then =
      let same : h + suc h ≡ suc (h + h) = omega arith in
      then
      ∙ (λ i. map (λ n. get_or (first i) n n) (first i))
      ∙ (λ i. map (λ n. ends-are h n i) (map (after targets h) targets))
      ∙ map-map (after targets (suc h)) (after targets h) targets
      ∙ (λ i. map (λ n. after-more h (suc h) n i) targets)
      ∙ ap (λ k. map (after targets k) targets) same

  -- and once more
  pub once-more : (k : ℕ) (ends more : List ℕ) → ends ≡ map (after targets k) targets
      → more ≡ map (λ n. get_or targets n n) ends → more ≡ map (after targets (suc k)) targets
  once-more k ends more first then =
      let same : k + 1 ≡ suc k = omega arith in
      then
      ∙ ap (map (λ n. get_or targets n n)) first
      ∙ map-map (λ n. get_or targets n n) (after targets k) targets
      ∙ (λ i. map (λ n. after-more k 1 n i) targets)
      ∙ ap (λ j. map (after targets j) targets) same
