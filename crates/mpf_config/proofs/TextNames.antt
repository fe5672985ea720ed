-- The machine text is the one of its name.
use Rattle.std.proofs.Common.{◌≡◌, ℕ, suc, zero, false, List, [], ◌∷◌, map, Ok, refl, subst, inl, inr, arith}
use Rattle.std.{specs.{List.Contains, Str.bytes_eq}, proofs.lemmas.{Bool.cases_Bool, Slice.Eq.bytes_eq-Decides}}
use Rattle.mpf_config.specs.{BundleText.{NamedText, machine_name}, RowsOf.{AreNew, IsText}, Reading.machine_at}
use Rattle.mpf_config.proofs.NewNames.{nothing_in, contains_map, not_again}
use Rattle.yaml_bytes.proofs.{Steps.{chosen, ok_is}, Each.{here, there}}

-- a text by its name
abbrev pub named : List ℕ → List ℕ → NamedText
named name text = record { name = name; text = text }

-- the names of texts
abbrev pub names_in : List NamedText → List (List ℕ)
names_in ts = map (λ t. t.name) ts

pub text_name : (ts : List NamedText) (name text : List ℕ) → IsText ts name text → Contains (names_in ts) name
text_name ts name text h = contains_map (λ t. t.name) ts (named name text) h

pub machine_sound : (ts : List NamedText) (text : List ℕ) → machine_at ts ≡ Ok text → IsText ts machine_name text
machine_sound [] text e = absurd cc
machine_sound (t ∷ ts) text e =
    elim (chosen (bytes_eq t.name machine_name) (Ok t.text) (machine_at ts) (Ok text) e) [
      | inl k ↦
          let name = (bytes_eq-Decides t.name machine_name).0 k.0 in
          let is = ok_is t.text text k.1 in
          let same : t ≡ named machine_name text = λ i. record { name = name i; text = is i } in
          subst (Contains (t ∷ ts)) same (here t ts)
      | inr k ↦ there t (named machine_name text) ts (machine_sound ts text k.1)
    ]

-- A text is not among those behind one of its name.
pub other_name : (names : List (List ℕ)) (t : NamedText) (ts : List NamedText) (name text : List ℕ)
    → AreNew names (names_in (t ∷ ts)) → IsText ts name text → bytes_eq t.name name ≡ false
other_name names t ts name text new rest =
    elim (cases_Bool (bytes_eq t.name name)) [
      | inl e ↦
          let same = (bytes_eq-Decides t.name name).0 e in
          absurd (not_again (t.name ∷ names) (names_in ts) name new.1 (text_name ts name text rest)
          (subst (Contains (t.name ∷ names)) same (here t.name names)))
      | inr e ↦ e
    ]

pub machine_complete : (names : List (List ℕ)) (ts : List NamedText) (text : List ℕ) → AreNew names (names_in ts)
    → IsText ts machine_name text → machine_at ts ≡ Ok text
machine_complete names [] text new h = absurd (nothing_in (named machine_name text) h)
machine_complete names (t ∷ ts) text new (zero, lt, at) = rw at refl
machine_complete names (t ∷ ts) text new (suc k, lt, at) =
    let rest : IsText ts machine_name text = (k, omega (arith, lt), at) in
    let other : bytes_eq t.name machine_name ≡ false = other_name names t ts machine_name text new rest in
    rw other (machine_complete (t.name ∷ names) ts text new.1 rest)
