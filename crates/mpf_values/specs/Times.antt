-- Texts that are times.
use Rattle.std.specs.Prelude.{◌≡◌, ℕ, ◌*◌, ◌^◌, ◌<◌, List, [], ◌++◌, codes}
use Rattle.yaml_bytes.specs.Plain.{AreBlank}
use Rattle.mpf_values.specs.Numbers.{IsDecimal}

-- how many milliseconds a unit is
pub data IsUnit : List ℕ → ℕ → Type 0 where
  bare : IsUnit [] 1
  milliseconds : IsUnit (codes "ms") 1
  seconds : IsUnit (codes "s") 1000
  minutes : IsUnit (codes "m") 60000
  hours : IsUnit (codes "h") 3600000
  days : IsUnit (codes "d") 86400000

-- A number, blanks and a unit: together so many milliseconds, which is a whole number below 2^32.
pub record IsTime (text : List ℕ) (ms : ℕ) : Type 0 where
  pub number : List ℕ
  pub blanks : List ℕ
  pub unit : List ℕ
  pub parts : text ≡ number ++ (blanks ++ unit)
  pub thousandths : ℕ
  pub places : ℕ
  pub is_number : IsDecimal number thousandths places
  pub are_blank : AreBlank blanks
  pub each : ℕ
  pub is_unit : IsUnit unit each
  pub value : ms * 1000 ≡ thousandths * each
  pub below : ms < 2 ^ 32
