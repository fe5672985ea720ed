-- A buffer over a reader.
use Rattle.std.proofs.Common.{◌≡◌, ℕ, ◌+◌, ◌-◌, ◌≤◌, min, Option, Some, None, Err, IsErrOf, IsErrAnd, Result, List}
use Rattle.std.proofs.Common.{◌++◌, length, take, drop, ap, sym, ◌∙◌, subst, arith, append_assoc, length-append}
use Rattle.std.specs.{Prelude.slice_range, Io.KnownBytes.{Consumes, Keeps, prepend_known}}
use Rattle.std.proofs.{lemmas.Grind.common_steps, Math.Seq.take-append-add}
use Rattle.std.proofs.lemmas.List.{drop-take, drop-drop, take-append-le, length-take-le, length-take, length-drop}

-- the last bytes of a part
pub last-of : (xs : List ℕ) (i j n : ℕ) → n ≤ length (slice_range xs i j) → i ≤ j → j ≤ length xs
    → slice_range xs (j - n) j ≡ drop (length (slice_range xs i j) - n) (slice_range xs i j)
last-of xs i j n few before within =
    let whole : length (drop i xs) ≡ length xs - i = length-drop i xs in
    let count : length (slice_range xs i j) ≡ j - i = length-take-le (j - i) (drop i xs) (omega arith) in
    let k : ℕ = (j - i) - n in
    let most : k + n ≡ j - i = omega arith in
    let at : i + k ≡ j - n = omega arith in
    let back : j - (j - n) ≡ n = omega arith in
    ap (λ (m : ℕ). take m (drop (j - n) xs)) back ∙ ap (λ (m : ℕ). take n (drop m xs)) (sym at)
    ∙ ap (take n) (sym (drop-drop k i xs))
    ∙ sym (drop-take k n (drop i xs)) ∙ ap (λ (m : ℕ). drop k (take m (drop i xs))) most
    ∙ ap (λ (m : ℕ). drop (m - n) (slice_range xs i j)) (sym count)

-- what was read comes after the part at the front
pub front-more : (xs buf post : List ℕ) (i j n : ℕ) → i ≡ 0 → j ≤ length xs → n ≤ length buf
    → slice_range (take j xs ++ (buf ++ post)) i (j + n) ≡ slice_range xs i j ++ take n buf
front-more xs buf post i j n front within some =
    let count : length (take j xs) ≡ j = length-take-le j xs within in
    ap (λ (m : ℕ). slice_range (take j xs ++ (buf ++ post)) m (j + n)) front
    ∙ ap (λ (m : ℕ). take m (take j xs ++ (buf ++ post))) (omega (arith, count))
    ∙ take-append-add (take j xs) (buf ++ post) n
    ∙ ap (λ (l : List ℕ). take j xs ++ l) (take-append-le n buf post some)
    ∙ ap (λ (m : ℕ). take m xs ++ take n buf) (omega arith)
    ∙ sym (ap (λ (m : ℕ). slice_range xs m j ++ take n buf) front)

-- the part at the front stays
pub front-same : (xs more : List ℕ) (i j : ℕ) → i ≡ 0 → j ≤ length xs
    → slice_range (take j xs ++ more) i j ≡ slice_range xs i j
front-same xs more i j front within =
    let count : length (take j xs) ≡ j = length-take-le j xs within in
    ap (λ (m : ℕ). slice_range (take j xs ++ more) m j) front
    ∙ ap (λ (m : ℕ). take m (take j xs ++ more)) (omega arith)
    ∙ take-append-le j (take j xs) more (omega (arith, count)) ∙ twice j xs within
    ∙ ap (λ (m : ℕ). take m xs) (omega arith) ∙ sym (ap (λ (m : ℕ). slice_range xs m j) front)
  where
    twice : (j : ℕ) (xs : List ℕ) → j ≤ length xs → take j (take j xs) ≡ take j xs
    twice j xs within = grind (arith, common_steps)

-- ---- what is left

pub read-on : (a b bs : List ℕ) (old new : Option (List ℕ)) → b ≡ a ++ bs → Consumes old new bs
    → Keeps (prepend_known a old) (prepend_known b new)
read-on a b bs None new is h = tt
read-on a b bs (Some xs) None is h = absurd h
read-on a b bs (Some xs) (Some ys) is h = ap (λ (l : List ℕ). l ++ ys) is ∙ append_assoc a bs ys
    ∙ ap (λ (l : List ℕ). a ++ l) (sym h)

pub still-held : (a b : List ℕ) (old new : Option (List ℕ)) → b ≡ a → Keeps old new
    → Keeps (prepend_known a old) (prepend_known b new)
still-held a b None new is h = tt
still-held a b (Some xs) None is h = absurd h
still-held a b (Some xs) (Some ys) is h = ap (λ (l : List ℕ). l ++ ys) is ∙ ap (λ (l : List ℕ). a ++ l) h
