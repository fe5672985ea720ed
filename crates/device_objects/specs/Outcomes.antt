-- What a device can answer: sequences of lists, one for each way in which its states can answer.
use Rattle.std.specs.Prelude.{ℕ, ◌==◌, Bool, if◌then◌else◌, List, [], ◌∷◌}

-- the only answer is no list
abbrev pub silent : List (List ℕ)
silent = [] ∷ []

-- these answers if it holds, else none
abbrev pub only_if : Bool → List (List ℕ) → List (List ℕ)
only_if holds answers = if holds then answers else []

-- what a device answers that runs this list when its switch 0 changes: nothing, or the list; at another switch, nothing
abbrev pub of_switch : ℕ → ℕ → List (List ℕ)
of_switch i list = [] ∷ only_if (i == 0) ((list ∷ []) ∷ [])
