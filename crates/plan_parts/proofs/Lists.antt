-- Effect lists in one buffer, and the last of them.
use Rattle.std.proofs.Common.{◌≡◌, ℕ, zero, suc, ◌+◌, ◌-◌, ◌<◌, ◌≤◌, true, nat_le, nat_eq, List, [], ◌∷◌, ◌++◌, length}
use Rattle.std.proofs.Common.{map, take, drop, set, get_or, refl, sym, ap, ◌∙◌, arith}
use Rattle.std.specs.{List.flat_map, Prelude.{Result, Ok, Err, OnOk, OnErr}}
use Rattle.std.proofs.lemmas.Bool.{and_parts, and_from, leb-true, le-leb, eqb-true, eq-eqb}
use Rattle.std.proofs.lemmas.List.{append-nil, append_assoc, map-append, length-map, length-append, length-drop}
use Rattle.std.proofs.lemmas.List.{take_all, take-append-le, drop-append-le, take-append-drop, drop-drop, drop_all}
use Rattle.plan_parts.specs.{Effects.Effect, Lists.{are_ends, lists_from, with_last}}

-- ---- the last list

-- things more, after others
pub with_last-append : (a b : List Effect) (ls : List (List Effect))
    → with_last b (with_last a ls) ≡ with_last (a ++ b) ls
with_last-append a b [] = refl
with_last-append a b (es ∷ []) = ap (λ l. l ∷ []) (append_assoc es a b)
with_last-append a b (es ∷ fs ∷ []) = ap (λ l. es ∷ l ∷ []) (append_assoc fs a b)
with_last-append a b (es ∷ fs ∷ gs ∷ rest) = ap (λ l. es ∷ l) (with_last-append a b (fs ∷ gs ∷ rest))

-- one thing more, and then others
pub with_last-cons : (x : Effect) (b : List Effect) (ls : List (List Effect))
    → with_last b (with_last (x ∷ []) ls) ≡ with_last (x ∷ b) ls
with_last-cons x b ls = with_last-append (x ∷ []) b ls

-- nothing more
pub with_last-nil : (ls : List (List Effect)) → with_last [] ls ≡ ls
with_last-nil [] = refl
with_last-nil (es ∷ []) = ap (λ l. l ∷ []) (append-nil es)
with_last-nil (es ∷ fs ∷ rest) = ap (λ l. es ∷ l) (with_last-nil (fs ∷ rest))

-- the list that comes after others is the last
pub with_last-push : (more es : List Effect) (ls : List (List Effect))
    → with_last more (ls ++ es ∷ []) ≡ ls ++ (es ++ more) ∷ []
with_last-push more es [] = refl
with_last-push more es (a ∷ []) = refl
with_last-push more es (a ∷ b ∷ rest) = ap (λ l. a ∷ l) (with_last-push more es (b ∷ rest))

-- ---- ends

-- where the first list begins is within the buffer
pub begin_within : (b : ℕ) (es : List ℕ) (n : ℕ) → are_ends b es n ≡ true → b ≤ n
begin_within b [] n h = omega (arith, eqb-true b n h)
begin_within b (e ∷ es) n h =
    let p = and_parts (nat_le b e) (are_ends e es n) h in
    omega (arith, leb-true b e p.0, begin_within e es n p.1)

-- a list begins at the end of the buffer
pub are_ends-begun : (b : ℕ) (es : List ℕ) (n : ℕ) → are_ends b es n ≡ true → are_ends b (es ++ n ∷ []) n ≡ true
are_ends-begun b [] n h =
    and_from (nat_le b n) (nat_eq n n) (le-leb b n (omega (arith, eqb-true b n h))) (eq-eqb n n refl)
are_ends-begun b (e ∷ es) n h =
    let p = and_parts (nat_le b e) (are_ends e es n) h in
    and_from (nat_le b e) (are_ends e (es ++ n ∷ []) n) p.0 (are_ends-begun e es n p.1)

pub lists_from-begun : {X : Type 0} (b : ℕ) (es : List ℕ) (xs : List X) (n : ℕ) → are_ends b es n ≡ true
    → lists_from b (es ++ n ∷ []) xs ≡ lists_from b es xs ++ [] ∷ []
lists_from-begun b [] xs n h =
    let none : n - b ≡ 0 = omega (arith, eqb-true b n h) in
    ap (λ k. take k (drop b xs) ∷ []) none
lists_from-begun b (e ∷ es) xs n h =
    ap (λ l. take (e - b) (drop b xs) ∷ l) (lists_from-begun e es xs n (and_parts (nat_le b e) (are_ends e es n) h).1)

-- the last list ends one later
pub are_ends-added : (b : ℕ) (es : List ℕ) (n : ℕ) → 0 < length es → are_ends b es n ≡ true
    → are_ends b (set es (length es - 1) (n + 1)) (n + 1) ≡ true
are_ends-added b [] n some h = absurd (omega arith)
are_ends-added b (e ∷ []) n some h =
    and_from (nat_le b (n + 1)) (nat_eq (n + 1) (n + 1)) (le-leb b (n + 1) (omega (arith, begin_within b (e ∷ []) n h)))
    (eq-eqb (n + 1) (n + 1) refl)
are_ends-added b (e ∷ f ∷ es) n some h =
    let p = and_parts (nat_le b e) (are_ends e (f ∷ es) n) h in
    let next : length (e ∷ f ∷ es) - 1 ≡ suc (length (f ∷ es) - 1) = omega arith in
    ap (λ i. are_ends b (set (e ∷ f ∷ es) i (n + 1)) (n + 1)) next
    ∙ and_from (nat_le b e) (are_ends e (set (f ∷ es) (length (f ∷ es) - 1) (n + 1)) (n + 1)) p.0
    (are_ends-added e (f ∷ es) n (omega arith) p.1)

pub lists_from-added : {X : Type 0} (f : X → Effect) (b : ℕ) (es : List ℕ) (xs : List X) (x : X)
    → are_ends b es (length xs) ≡ true
    → map (map f) (lists_from b (set es (length es - 1) (length xs + 1)) (xs ++ x ∷ [])) ≡ with_last (f x ∷ [])
    (map (map f) (lists_from b es xs))
lists_from-added f b [] xs x h = refl
lists_from-added f b (e ∷ []) xs x h =
    let p = and_parts (nat_le b e) (nat_eq e (length xs)) h in
    let le = leb-true b e p.0 in
    let is = eqb-true e (length xs) p.1 in
    let whole = take_all (length xs + 1 - b) (drop b xs ++ x ∷ [])
    (omega (arith, length-append (drop b xs) (x ∷ []), length-drop b xs)) in
    let before = take_all (e - b) (drop b xs) (omega (arith, length-drop b xs)) in
    ap (λ l. map f (take (length xs + 1 - b) l) ∷ []) (drop-append-le b xs (x ∷ []) (omega arith))
    ∙ ap (λ l. map f l ∷ []) whole
    ∙ ap (λ l. l ∷ []) (map-append f (drop b xs) (x ∷ []))
    ∙ ap (λ l. (map f l ++ f x ∷ []) ∷ []) (sym before)
lists_from-added f b (e ∷ e2 ∷ es) xs x h =
    let p = and_parts (nat_le b e) (are_ends e (e2 ∷ es) (length xs)) h in
    let le = leb-true b e p.0 in
    let within = begin_within e (e2 ∷ es) (length xs) p.1 in
    let rest = lists_from-added f e (e2 ∷ es) xs x p.1 in
    let here =
    ap (take (e - b)) (drop-append-le b xs (x ∷ []) (omega arith))
    ∙ take-append-le (e - b) (drop b xs) (x ∷ []) (omega (arith, length-drop b xs)) in
    let next : length (e ∷ e2 ∷ es) - 1 ≡ suc (length (e2 ∷ es) - 1) = omega arith in
    ap (λ i. map (map f) (lists_from b (set (e ∷ e2 ∷ es) i (length xs + 1)) (xs ++ x ∷ []))) next
    ∙ ap (λ l. map f l ∷ map (map f) (lists_from e (set (e2 ∷ es) (length (e2 ∷ es) - 1) (length xs + 1))
    (xs ++ x ∷ []))) here
    ∙ ap (λ l. map f (take (e - b) (drop b xs)) ∷ l) rest

-- ---- a list by its number

pub length-lists_from : {X : Type 0} (b : ℕ) (es : List ℕ) (xs : List X) → length (lists_from b es xs) ≡ length es
length-lists_from b [] xs = refl
length-lists_from b (e ∷ es) xs = ap suc (length-lists_from e es xs)

-- where it begins is before its end, and its end is within the buffer
pub ends_rise : (b : ℕ) (es : List ℕ) (n k d : ℕ) → are_ends b es n ≡ true → k < length es
    → (get_or (b ∷ es) k d ≤ get_or es k d) × (get_or es k d ≤ n)
ends_rise b [] n k d h within = absurd (omega arith)
ends_rise b (e ∷ es) n zero d h within =
    let p = and_parts (nat_le b e) (are_ends e es n) h in
    (leb-true b e p.0, begin_within e es n p.1)
ends_rise b (e ∷ es) n (suc k) d h within =
    ends_rise e es n k d (and_parts (nat_le b e) (are_ends e es n) h).1 (omega arith)

pub list_at : {X Y : Type 0} (f : X → Y) (b : ℕ) (es : List ℕ) (xs : List X) (k d : ℕ) → k < length es
    → get_or (map (map f) (lists_from b es xs)) k []
    ≡ map f (take (get_or es k d - get_or (b ∷ es) k d) (drop (get_or (b ∷ es) k d) xs))
list_at f b [] xs k d within = absurd (omega arith)
list_at f b (e ∷ es) xs zero d within = refl
list_at f b (e ∷ es) xs (suc k) d within = list_at f e es xs k d (omega arith)

-- ---- all lists in one

pub lists_from-all : {X : Type 0} (b : ℕ) (es : List ℕ) (xs : List X) → are_ends b es (length xs) ≡ true
    → flat_map (λ l. l) (lists_from b es xs) ≡ drop b xs
lists_from-all b [] xs h = sym (drop_all b xs (omega (arith, eqb-true b (length xs) h)))
lists_from-all b (e ∷ es) xs h =
    let p = and_parts (nat_le b e) (are_ends e es (length xs)) h in
    let le = leb-true b e p.0 in
    ap (λ l. take (e - b) (drop b xs) ++ l)
    (lists_from-all e es xs p.1 ∙ ap (λ k. drop k xs) (omega arith) ∙ sym (drop-drop (e - b) b xs))
    ∙ take-append-drop (e - b) (drop b xs)

pub flat_map-mapped : {X Y : Type 0} (f : X → Y) (ls : List (List X))
    → flat_map (λ l. l) (map (map f) ls) ≡ map f (flat_map (λ l. l) ls)
flat_map-mapped f [] = refl
flat_map-mapped f (l ∷ ls) = ap (λ r. map f l ++ r) (flat_map-mapped f ls) ∙ sym (map-append f l (flat_map (λ r. r) ls))

-- the buffer
pub all_lists : {X Y : Type 0} (f : X → Y) (es : List ℕ) (xs : List X) → are_ends 0 es (length xs) ≡ true
    → map f xs ≡ flat_map (λ l. l) (map (map f) (lists_from 0 es xs))
all_lists f es xs h = ap (map f) (sym (lists_from-all 0 es xs h)) ∙ sym (flat_map-mapped f (lists_from 0 es xs))

-- ---- what the functions of `EffectLists` do

-- a list begins, if there is memory for its end
pub ends_begun : {T E : Type 0} (r : Result T E) (es new : List ℕ) (n len : ℕ) → are_ends 0 es n ≡ true → len ≡ n
    → OnOk r (new ≡ es ++ len ∷ []) → OnErr r (new ≡ es) → are_ends 0 new n ≡ true
ends_begun (Ok x) es new n len h is added kept =
    ap (λ l. are_ends 0 l n) (added ∙ ap (λ k. es ++ k ∷ []) is)
    ∙ are_ends-begun 0 es n h
ends_begun (Err e) es new n len h is added kept = ap (λ l. are_ends 0 l n) kept ∙ h

pub lists_begun : {X T E : Type 0} (r : Result T E) (f : X → Effect) (es new : List ℕ) (xs : List X) (len : ℕ)
    (ls : List (List Effect)) → are_ends 0 es (length xs) ≡ true
    → map (map f) (lists_from 0 es xs) ≡ ls → len ≡ length xs → OnOk r (new ≡ es ++ len ∷ [])
    → OnOk r (map (map f) (lists_from 0 new xs) ≡ ls ++ [] ∷ [])
lists_begun (Ok x) f es new xs len ls h view is added =
    ap (λ l. map (map f) (lists_from 0 l xs)) (added ∙ ap (λ k. es ++ k ∷ []) is)
    ∙ ap (map (map f)) (lists_from-begun 0 es xs (length xs) h)
    ∙ map-append (map f) (lists_from 0 es xs) ([] ∷ [])
    ∙ ap (λ l. l ++ [] ∷ []) view
lists_begun (Err e) f es new xs len ls h view is added = tt

-- the last list does one thing more
module _ {X : Type 0} (es : List ℕ) (xs new : List X) (x : X) (count len : ℕ) (h : are_ends 0 es (length xs) ≡ true)
    (count_is : count ≡ length es) (added : new ≡ xs ++ x ∷ []) (len_is : len ≡ length new) where
  grown : length new ≡ length xs + 1
  grown = omega (arith, ap length added, length-append xs (x ∷ []))

  pub ends_added : 0 < count → are_ends 0 (set es (count - 1) len) (length new) ≡ true
  ends_added some =
      ap (λ k. are_ends 0 (set es (k - 1) len) (length new)) count_is
      ∙ ap (λ k. are_ends 0 (set es (length es - 1) k) (length new)) (len_is ∙ grown)
      ∙ ap (λ k. are_ends 0 (set es (length es - 1) (length xs + 1)) k) grown
      ∙ are_ends-added 0 es (length xs) (omega arith) h

  pub lists_added : (f : X → Effect) (more : Effect) (ls : List (List Effect)) → f x ≡ more
      → map (map f) (lists_from 0 es xs) ≡ ls
      → map (map f) (lists_from 0 (set es (count - 1) len) new) ≡ with_last (more ∷ []) ls
  lists_added f more ls is view =
      ap (λ k. map (map f) (lists_from 0 (set es (k - 1) len) new)) count_is
      ∙ ap (λ k. map (map f) (lists_from 0 (set es (length es - 1) k) new)) (len_is ∙ grown)
      ∙ ap (λ l. map (map f) (lists_from 0 (set es (length es - 1) (length xs + 1)) l)) added
      ∙ lists_from-added f 0 es xs x h
      ∙ (λ i. with_last (is i ∷ []) (view i))

-- the part of the buffer between where the list of this number begins and where it ends
pub list_found : {X : Type 0} (f : X → Effect) (es : List ℕ) (xs part : List X) (k begin end : ℕ)
    (ls : List (List Effect)) → k < length es → begin ≡ get_or (0 ∷ es) k 0 → end ≡ get_or es k 0
    → part ≡ take (end - begin) (drop begin xs) → map (map f) (lists_from 0 es xs) ≡ ls → map f part ≡ get_or ls k []
list_found f es xs part k begin end ls within begin_is end_is part_is view =
    ap (map f) (part_is ∙ (λ i. take (end_is i - begin_is i) (drop (begin_is i) xs)))
    ∙ sym (list_at f 0 es xs k 0 within)
    ∙ ap (λ l. get_or l k []) view

-- how many lists there are
pub lists_counted : {X : Type 0} (f : X → Effect) (es : List ℕ) (xs : List X) (ls : List (List Effect))
    → map (map f) (lists_from 0 es xs) ≡ ls → length es ≡ length ls
lists_counted f es xs ls view =
    sym (length-map (lists_from 0 es xs) (map f) ∙ length-lists_from 0 es xs)
    ∙ ap length view
