-- Texts that are booleans.
use Rattle.std.specs.Prelude.{◌≡◌, ℕ, ◌-◌, Bool, true, false, List, [], ◌∷◌, map, ◌⊎◌, codes}

-- a small letter as a capital
abbrev pub capital : ℕ → ℕ
capital letter = letter - 32

abbrev pub with_capital : List ℕ → List ℕ
with_capital [] = []
with_capital (letter ∷ letters) = capital letter ∷ letters

-- a word in one of three spellings: `yes`, `Yes` or `YES`
abbrev pub Spells : List ℕ → List ℕ → Type 0
Spells word text = (text ≡ word) ⊎ ((text ≡ with_capital word) ⊎ (text ≡ map capital word))

-- the boolean that a text is
abbrev pub IsBoolean : List ℕ → Bool → Type 0
IsBoolean text true = Spells (codes "yes") text ⊎ (Spells (codes "true") text ⊎ Spells (codes "on") text)
IsBoolean text false = Spells (codes "no") text ⊎ (Spells (codes "false") text ⊎ Spells (codes "off") text)
