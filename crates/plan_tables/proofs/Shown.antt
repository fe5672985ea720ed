-- Entries of a plan, each at the place of its name.
use Rattle.std.proofs.Common.{◌≡◌, ℕ, zero, suc, ◌<◌, List, [], ◌∷◌, length, map, get_or, refl, sym, ◌∙◌, ap, arith}
use Rattle.std.{specs.{List.{zip, position}, Str.bytes_eq}, proofs.lemmas.Slice.Zip.firsts-zip}
use Rattle.plan_tables.proofs.Places.{position-map}

-- entries E, of which the plan shows V
module _ {E V : Type 0} (view : List ℕ × E → V) where
  abbrev pub shown : List (List ℕ) → List E → List V
  shown names entries = map view (zip names entries)

  -- there are as many as names
  pub length-shown : (names : List (List ℕ)) (entries : List E) → length entries ≡ length names
      → length (shown names entries) ≡ length names
  length-shown [] entries count = refl
  length-shown (n ∷ ns) [] count = absurd (omega (arith, count))
  length-shown (n ∷ ns) (e ∷ es) count = let rest = length-shown ns es (omega (arith, count)) in omega (arith, rest)

  -- what is at a place has the name there
  pub name_shown : (key : V → List ℕ) → ((n : List ℕ) (e : E) → key (view (n, e)) ≡ n)
      → (names : List (List ℕ)) (entries : List E) (i : ℕ) (none : V) → length entries ≡ length names → i < length names
      → key (get_or (shown names entries) i none) ≡ get_or names i []
  name_shown key named [] entries i none count within = absurd (omega arith)
  name_shown key named (m ∷ ms) [] i none count within = absurd (omega (arith, count))
  name_shown key named (m ∷ ms) (e ∷ es) zero none count within = named m e
  name_shown key named (m ∷ ms) (e ∷ es) (suc i) none count within =
      name_shown key named ms es i none (omega (arith, count)) (omega arith)

  -- and what the entry there says
  pub entry_shown : {X : Type 0} (seen : V → X) (said : E → X) → ((n : List ℕ) (e : E) → seen (view (n, e)) ≡ said e)
      → (names : List (List ℕ)) (entries : List E) (i : ℕ) (e : E) (none : V) → length entries ≡ length names
      → i < length names → seen (get_or (shown names entries) i none) ≡ said (get_or entries i e)
  entry_shown seen said same [] entries i e none count within = absurd (omega arith)
  entry_shown seen said same (m ∷ ms) [] i e none count within = absurd (omega (arith, count))
  entry_shown seen said same (m ∷ ms) (f ∷ fs) zero e none count within = same m f
  entry_shown seen said same (m ∷ ms) (f ∷ fs) (suc i) e none count within =
      entry_shown seen said same ms fs i e none (omega (arith, count)) (omega arith)

  -- it has the place of its name
  pub position-shown : (key : V → List ℕ) → ((n : List ℕ) (e : E) → key (view (n, e)) ≡ n)
      → (name : List ℕ) (names : List (List ℕ)) (entries : List E) → length entries ≡ length names
      → position (λ v. bytes_eq name (key v)) (shown names entries) ≡ position (bytes_eq name) names
  position-shown key named name names entries count =
      position-map view (λ v. bytes_eq name (key v)) (zip names entries)
      ∙ (λ i. position (λ (e : List ℕ × E). bytes_eq name (named e.0 e.1 i)) (zip names entries))
      ∙ sym (position-map (λ e. e.0) (bytes_eq name) (zip names entries))
      ∙ ap (position (bytes_eq name)) (firsts-zip names entries count)
