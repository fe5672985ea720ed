-- A text that is written piece by piece.
use Rattle.std.proofs.Common.{rules, ◌≡◌, ℕ, ◌+◌, ◌<◌, ◌≤◌, List, [], ◌∷◌, ◌++◌, length, take, get_or, Option, Result}
use Rattle.std.proofs.{Common.{OnOk, sym, ap, subst, ◌∙◌, append-nil}, KnownBytes.Appends-trans}
use Rattle.std.specs.{List.flat_map, Io.KnownBytes.Appends}
use Rattle.std.proofs.lemmas.{List.{take_more, take_all}, Grind.flat_map-append}

-- a last piece, which may fail
pub last_piece : {T E : Type 0} (r : Result T E) (a b c : Option (List ℕ)) (x y z : List ℕ) → x ++ y ≡ z → Appends a b x
    → OnOk r (Appends b c y) → OnOk r (Appends a c z)
last_piece x1 a b c x y z e h k = search (rules, Appends-trans)

-- the pieces of a list, one more
pub one_more_piece : {X : Type 0} (piece : X → List ℕ) (xs : List X) (i : ℕ) (d : X) (a b c : Option (List ℕ))
    → i < length xs
    → Appends a b (flat_map piece (take i xs)) → Appends b c (piece (get_or xs i d))
    → Appends a c (flat_map piece (take (i + 1) xs))
one_more_piece piece xs i d a b c within h k =
    let more : flat_map piece (take (i + 1) xs) ≡ flat_map piece (take i xs) ++ piece (get_or xs i d) =
    ap (flat_map piece) (take_more xs i d within) ∙ flat_map-append piece (take i xs) (get_or xs i d ∷ [])
    ∙ ap (λ (last : List ℕ). flat_map piece (take i xs) ++ last) (append-nil (piece (get_or xs i d))) in
    subst (Appends a c) (sym more) (Appends-trans a b c _ _ h k)

-- all pieces of a list
pub all_pieces : {X : Type 0} (piece : X → List ℕ) (xs : List X) (i : ℕ) (a b : Option (List ℕ)) → length xs ≤ i
    → Appends a b (flat_map piece (take i xs)) → Appends a b (flat_map piece xs)
all_pieces piece xs i a b whole h = subst (λ (ys : List _). Appends a b (flat_map piece ys)) (take_all i xs whole) h
