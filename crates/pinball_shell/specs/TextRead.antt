-- What contracts say of texts that are read, if their readers report their bytes, and of what is written for them.
use Rattle.std.specs.{Prelude.{ℕ, ◌<◌, ◌≤◌, IfSome, Option, List, length}, Io.KnownBytes.Appends}

-- the text has at most so many bytes
abbrev pub HasAtMost : ℕ → Option (List ℕ) → Type 0
HasAtMost limit text = IfSome text (λ bytes. length bytes ≤ limit)

-- the text has more than so many bytes
abbrev pub HasMoreThan : ℕ → Option (List ℕ) → Type 0
HasMoreThan limit text = IfSome text (λ bytes. limit < length bytes)

-- this holds of the two texts
abbrev pub IfBoth : (first second : Option (List ℕ)) → (List ℕ → List ℕ → Type 0) → Type 0
IfBoth first second holds = IfSome second (λ other. IfSome first (λ one. holds one other))

-- what was written grows by what this prints for the text
abbrev pub AppendsFor : (text before after : Option (List ℕ)) → (List ℕ → List ℕ) → Type 0
AppendsFor text before after output = IfSome text (λ bytes. Appends before after (output bytes))

-- what was written grows by what this prints for the two texts
abbrev pub AppendsForBoth : (first second before after : Option (List ℕ)) → (List ℕ → List ℕ → List ℕ) → Type 0
AppendsForBoth first second before after output =
    IfBoth first second (λ one other. Appends before after (output one other))
