-- The rows of a bundle have at most 64 modes, no two with the same name.
use Rattle.std.specs.{Prelude.{◌≤◌, ◌≢◌, List, length, map}, List.AllPairs}
use Rattle.mpf_config.specs.Rows.{ModeRows}

-- there are at most 64 modes, and no two have one name
pub record AreFewModes (modes : List ModeRows) : Type 0 where
  pub few : length modes ≤ 64
  pub apart : AllPairs (λ x y. x ≢ y) (map (λ m. m.name) modes)
