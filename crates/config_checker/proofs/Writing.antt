-- A text that is written piece by piece.
use Rattle.std.proofs.Common.{◌≡◌, ℕ, ◌+◌, ◌<◌, ◌≤◌, List, [], length, map, take, get_or, Option, sym, ap, subst, ◌∙◌}
use Rattle.std.proofs.{Common.arith, lemmas.{List.Folds.flat_map-map, Slice.Zip.{get_or-zip, length-zip}}}
use Rattle.std.specs.{List.{flat_map, zip}, Io.KnownBytes.Appends}
use Rattle.config_checker.specs.CertificateText.{numbered_line}
use Rattle.yaml_bytes.proofs.Writing.{one_more_piece, all_pieces}

-- the pieces of what is seen in a list
pub written-seen : {X Y : Type 0} (piece : Y → List ℕ) (view : X → Y) (xs : List X) (a b : Option (List ℕ))
    → Appends a b (flat_map (λ x. piece (view x)) xs) → Appends a b (flat_map piece (map view xs))
written-seen piece view xs a b h = subst (Appends a b) (sym (flat_map-map piece view xs)) h

-- lines with a name and a number each, one more
module _ (word : List ℕ) (names : List (List ℕ)) (numbers : List ℕ) (counted : length numbers ≡ length names) where
  pub line_more : (i : ℕ) (name : List ℕ) (number : ℕ) (a b c : Option (List ℕ)) → i < length names
      → name ≡ get_or names i [] → number ≡ get_or numbers i 0
      → Appends a b (flat_map (numbered_line word) (take i (zip names numbers)))
      → Appends b c (numbered_line word (name, number))
      → Appends a c (flat_map (numbered_line word) (take (i + 1) (zip names numbers)))
  line_more i name number a b c within is_name is_number h k =
      let row : get_or (zip names numbers) i ([], 0) ≡ (name, number) =
      get_or-zip names numbers i ([], 0) within (omega (arith, counted, within))
      ∙ ap (λ (n : List ℕ). (n, get_or numbers i 0)) (sym is_name) ∙ ap (λ (v : ℕ). (name, v)) (sym is_number) in
      one_more_piece (numbered_line word) (zip names numbers) i ([], 0) a b c
      (omega (arith, length-zip names numbers, counted, within)) h
      (subst (λ (e : List ℕ × ℕ). Appends b c (numbered_line word e)) (sym row) k)

  pub lines_all : (i : ℕ) (a b : Option (List ℕ)) → length names ≤ i
      → Appends a b (flat_map (numbered_line word) (take i (zip names numbers)))
      → Appends a b (flat_map (numbered_line word) (zip names numbers))
  lines_all i a b whole h = all_pieces (numbered_line word) (zip names numbers) i a b
      (omega (arith, length-zip names numbers)) h
