-- Names of which none comes twice.
use Rattle.std.proofs.Common.{rules, ◌≡◌, ◌≢◌, ℕ, ◌+◌, ◌-◌, ◌<◌, Bool, true, false, ◌&&◌, ◌||◌, not, List, [], ◌∷◌}
use Rattle.std.proofs.Common.{length, map, take, drop, length-drop, get_or, refl, sym, ap, ◌∙◌, arith}
use Rattle.std.specs.{List.{AllPairs, AllByRecursion, IsDistinct, list_any}, Str.bytes_eq}
use Rattle.std.proofs.lemmas.List.{take_all, drop_more, Elements.All-from_recursion, Folds.list_any_none}
use Rattle.std.proofs.lemmas.Map.Keys.{IsDistinct-head, IsDistinct-tail, IsDistinct-cons, IsDistinct-from_apart}
use Rattle.std.proofs.lemmas.{Map.Made.{AllPairs-from_IsDistinct, IsDistinct-from_AllPairs}, Slice.Eq.bytes_eq-Decides}
use Rattle.setting_values.specs.Reading.{are_apart}

-- ---- what it means

none_and : (a b : Bool) → not a && b ≡ true → (a ≡ false) × (b ≡ true)
none_and x1 b e = search rules

neither : (a b : Bool) → a || b ≡ false → (a ≡ false) × (b ≡ false)
neither x1 b e = search rules

none_passes : (p : List ℕ → Bool) (ks : List (List ℕ)) → list_any p ks ≡ false → AllByRecursion (λ k. p k ≡ false) ks
none_passes p [] e = tt
none_passes p (k ∷ ks) e = let a = neither (p k) (list_any p ks) e in (a.0, none_passes p ks a.1)

distinct : (ks : List (List ℕ)) → are_apart ks ≡ true → IsDistinct bytes_eq ks
distinct [] e = IsDistinct-from_apart bytes_eq [] (λ i j d lt less. absurd (let no : j < 0 = less in omega (arith, no)))
distinct (k ∷ ks) e =
    let a = none_and (list_any (bytes_eq k) ks) (are_apart ks) e in
    IsDistinct-cons bytes_eq k ks (none_passes (bytes_eq k) ks a.0) (distinct ks a.1)

apart : (ks : List (List ℕ)) → IsDistinct bytes_eq ks → are_apart ks ≡ true
apart [] h = refl
apart (k ∷ ks) h =
    let others = list_any_none (bytes_eq k) ks
    (All-from_recursion (λ other. bytes_eq k other ≡ false) ks (IsDistinct-head bytes_eq k ks h)) in
    rw (others, apart ks (IsDistinct-tail bytes_eq k ks h)) refl

pub apart_sound : (ks : List (List ℕ)) → are_apart ks ≡ true → AllPairs (λ x y. x ≢ y) ks
apart_sound ks e = AllPairs-from_IsDistinct bytes_eq-Decides ks (distinct ks e)

pub apart_complete : (ks : List (List ℕ)) → AllPairs (λ x y. x ≢ y) ks → are_apart ks ≡ true
apart_complete ks h = apart ks (IsDistinct-from_AllPairs bytes_eq-Decides ks h)

-- ---- name by name

module _ {X Y : Type 0} (view : X → Y) (own : Y → List ℕ) where
  abbrev names : List X → List (List ℕ)
  names xs = map own (map view xs)

  passes_seen : (p : List ℕ → Bool) (xs : List X) → list_any p (names xs) ≡ list_any (λ x. p (own (view x))) xs
  passes_seen p [] = refl
  passes_seen p (x ∷ xs) = ap (λ b. p (own (view x)) || b) (passes_seen p xs)

  -- From a place on: whether its name stands again behind it, and what is said of those behind it. The code's slice of
  -- those behind is as long as they are.
  pub apart_from : (xs : List X) (i : ℕ) (x : X) → i < length xs → x ≡ get_or xs i x → (again : Bool)
      → list_any (λ y. bytes_eq (own (view x)) (own (view y))) (take (length xs - (i + 1)) (drop (i + 1) xs)) ≡ again
      → are_apart (names (drop i xs)) ≡ not again && are_apart (names (drop (i + 1) xs))
  apart_from xs i x lt is again e =
      let here : drop i xs ≡ x ∷ drop (i + 1) xs = drop_more xs i x lt ∙ ap (λ z. z ∷ drop (i + 1) xs) (sym is) in
      let behind = take_all (length xs - (i + 1)) (drop (i + 1) xs) (omega (arith, length-drop (i + 1) xs)) in
      let said = rw behind at e in
      rw (here, passes_seen (bytes_eq (own (view x))) (drop (i + 1) xs), said) refl
