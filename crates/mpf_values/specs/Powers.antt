-- Texts that are powers of coils.
use Rattle.std.specs.Prelude.{◌≡◌, ℕ, ◌*◌, ◌≤◌, List, ◌++◌, ◌⊎◌, codes}
use Rattle.mpf_values.specs.Numbers.{IsDecimal}

-- a number that says how much of full power it is
abbrev pub IsFraction : List ℕ → ℕ → Type 0
IsFraction text power = (places : ℕ) × IsDecimal text power places

-- a number of hundredths of full power, with at most one decimal
pub record IsPercentage (text : List ℕ) (power : ℕ) : Type 0 where
  pub number : List ℕ
  pub parts : text ≡ number ++ codes "%"
  pub thousandths : ℕ
  pub places : ℕ
  pub is_number : IsDecimal number thousandths places
  pub few : places ≤ 1
  pub value : power * 100 ≡ thousandths

-- the thousandths of full power that a text is, at most all of it
abbrev pub IsPower : List ℕ → ℕ → Type 0
IsPower text power = (IsFraction text power ⊎ IsPercentage text power) × (power ≤ 1000)
