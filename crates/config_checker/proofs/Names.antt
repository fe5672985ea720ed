-- Names that are compared, and lists of names with weights.
use Rattle.std.proofs.Common.{rules, ◌≡◌, ◌≢◌, ℕ, ◌<◌, true, false, not, List, [], ◌∷◌, length, map, get_or, refl, sym}
use Rattle.std.{proofs.Common.{ap, ◌∙◌, subst, true≢false, arith}, specs.{List.{All, zip}, Str.bytes_eq}}
use Rattle.std.proofs.lemmas.Bool.{and_parts, and_from, false_from_ne_true, not-true, not-false}
use Rattle.std.proofs.lemmas.{List.{length-map, get_or-map, ext_get_or}, Slice.Eq.bytes_eq-Decides}
use Rattle.config_checker.specs.declared.certificate_reader.CertificateLine.{CertificateLine}
use Rattle.config_checker.specs.{CertificateRead.{line_view, lines_view}, Checking.{same_names, names_of, numbers_of}}

pub same_names-is : (xs ys : List (List ℕ)) → same_names xs ys ≡ true → xs ≡ ys
same_names-is [] [] h = refl
same_names-is [] (y ∷ ys) h = absurd (true≢false (sym h))
same_names-is (x ∷ xs) [] h = absurd (true≢false (sym h))
same_names-is (x ∷ xs) (y ∷ ys) h =
    let both = and_parts (bytes_eq x y) (same_names xs ys) h in
    ap (λ (z : List ℕ). z ∷ xs) ((bytes_eq-Decides x y).0 both.0)
    ∙ ap (λ (zs : List (List ℕ)). y ∷ zs) (same_names-is xs ys both.1)

pub same_names-self : (xs : List (List ℕ)) → same_names xs xs ≡ true
same_names-self [] = refl
same_names-self (x ∷ xs) = and_from (bytes_eq x x) (same_names xs xs) ((bytes_eq-Decides x x).1 refl)
    (same_names-self xs)

-- names that differ in number, or at one place
pub same_names-count : (xs ys : List (List ℕ)) → length xs ≢ length ys → same_names xs ys ≡ false
same_names-count xs ys other = false_from_ne_true (same_names xs ys)
    (λ same. other (ap length (same_names-is xs ys same)))

pub same_names-other : (xs ys : List (List ℕ)) (k : ℕ) → get_or xs k [] ≢ get_or ys k [] → same_names xs ys ≡ false
same_names-other xs ys k other = false_from_ne_true (same_names xs ys)
    (λ same. other (ap (λ (zs : List (List ℕ)). get_or zs k []) (same_names-is xs ys same)))

-- names that are the same at each place
pub same_names-all : (xs ys : List (List ℕ)) → length xs ≡ length ys
    → ((k : ℕ) → k < length xs → get_or xs k [] ≡ get_or ys k []) → same_names xs ys ≡ true
same_names-all xs ys count each = ap (same_names xs) (sym (ext_get_or [] xs ys count each)) ∙ same_names-self xs

-- the lines of a certificate, by place
module _ (lines : List CertificateLine) where
  pub length-names_of : length (names_of (lines_view lines)) ≡ length lines
  length-names_of = length-map (lines_view lines) (λ (s : List ℕ × ℕ). s.0) ∙ length-map lines line_view

  pub length-numbers_of : length (numbers_of (lines_view lines)) ≡ length lines
  length-numbers_of = length-map (lines_view lines) (λ (s : List ℕ × ℕ). s.1) ∙ length-map lines line_view

  module _ (k : ℕ) (d : CertificateLine) (within : k < length lines) where
    pub name_at : get_or (names_of (lines_view lines)) k [] ≡ (get_or lines k d).name.now
    name_at = get_or-map (λ (s : List ℕ × ℕ). s.0) (lines_view lines) k (line_view d) []
        (omega (arith, within, length-map lines line_view))
        ∙ ap (λ (s : List ℕ × ℕ). s.0) (get_or-map line_view lines k d (line_view d) within)

    pub number_at : get_or (numbers_of (lines_view lines)) k 0 ≡ (get_or lines k d).number
    number_at = get_or-map (λ (s : List ℕ × ℕ). s.1) (lines_view lines) k (line_view d) 0
        (omega (arith, within, length-map lines line_view))
        ∙ ap (λ (s : List ℕ × ℕ). s.1) (get_or-map line_view lines k d (line_view d) within)

    -- whether the name is that of the entry
    module _ (names : List (List ℕ)) (name : List ℕ) (is : name ≡ get_or names k []) where
      pub place-other : not (bytes_eq name (get_or lines k d).name.now) ≡ true
          → get_or names k [] ≢ get_or (names_of (lines_view lines)) k []
      place-other h same = search (rules, get_or, name_at, bytes_eq-Decides, not-true)

      pub place-same : not (bytes_eq name (get_or lines k d).name.now) ≡ false
          → get_or names k [] ≡ get_or (names_of (lines_view lines)) k []
      place-same h = sym is ∙ (bytes_eq-Decides name (get_or lines k d).name.now).0
          (not-false (bytes_eq name (get_or lines k d).name.now) h) ∙ sym name_at

-- what is seen in a list
pub all_seen : {X Y : Type 0} (view : X → Y) (P : Y → Type 0) (xs : List X) → All P (map view xs)
    → All (λ x. P (view x)) xs
all_seen view P xs h k d within = subst P (get_or-map view xs k d (view d) within)
    (h k (view d) (omega (arith, within, length-map xs view)))

-- the names and the weights of a list of both
pub zip-parts : (es : List (List ℕ × ℕ)) → zip (map (λ (e : List ℕ × ℕ). e.0) es) (map (λ (e : List ℕ × ℕ). e.1) es)
    ≡ es
zip-parts [] = refl
zip-parts (e ∷ es) = ap (λ (rest : List (List ℕ × ℕ)). e ∷ rest) (zip-parts es)

pub parts-length : (es : List (List ℕ × ℕ))
    → length (map (λ (e : List ℕ × ℕ). e.1) es) ≡ length (map (λ (e : List ℕ × ℕ). e.0) es)
parts-length es = length-map es (λ (e : List ℕ × ℕ). e.1) ∙ sym (length-map es (λ (e : List ℕ × ℕ). e.0))
