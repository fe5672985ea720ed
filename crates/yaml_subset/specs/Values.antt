-- What is on a line of a block: keys and values.
use Rattle.std.specs.Prelude.{◌≡◌, ℕ, ◌≤◌, true, false, List, ◌∷◌, ◌++◌, Option, Some, None, ◌⊎◌}
use Rattle.yaml_bytes.specs.{Bytes.{is_over, characters}, Plain.IsBehindBlanks}
use Rattle.yaml_subset.specs.{Node.{Node, scalar}, Words.IsWordAt, Flow.IsFlow}

-- `KEY:`, and what comes after it
abbrev pub IsKey : List ℕ → List ℕ → List ℕ → Type 0
IsKey text key after = IsWordAt false text key (58 ∷ after)

-- `KEY:`, its colon at most 1,024 characters after its begin
pub record IsShortKey (text key after : List ℕ) : Type 0 where
  pub is_key : IsKey text key after
  pub front : List ℕ
  pub parts : text ≡ front ++ 58 ∷ after
  pub short : characters front ≤ 1024

-- a word, or a list or mapping on one line, with at most so many of these one inside the other
abbrev pub IsValueOf : ℕ → ℕ → List ℕ → Node → List ℕ → Type 0
IsValueOf depth n text t rest = ((value : List ℕ) × IsWordAt false text value rest × (t ≡ scalar n value))
    ⊎ IsFlow depth n text t rest

-- a value on the line n, and nothing after it but a comment
abbrev pub IsNode : ℕ → ℕ → List ℕ → Node → Type 0
IsNode depth n text t = (rest : List ℕ) × IsValueOf depth n text t rest × (is_over rest ≡ true)

-- what comes after the colon of an entry or the `-` of an item on the line n: a value or nothing
abbrev pub IsInline : ℕ → ℕ → List ℕ → Option Node → Type 0
IsInline depth n text None = (rest : List ℕ) × IsBehindBlanks text rest × (is_over rest ≡ true)
IsInline depth n text (Some t) = (rest : List ℕ) × IsBehindBlanks text rest × (is_over rest ≡ false)
    × IsNode depth n rest t
