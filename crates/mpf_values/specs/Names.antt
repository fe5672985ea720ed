-- Texts that are names.
use Rattle.std.specs.Prelude.{ℕ, ◌<◌, ◌≤◌, List, length}
use Rattle.yaml_bytes.specs.Plain.{Are}
use Rattle.mpf_values.specs.Bytes.{is_name_byte}

-- 1 to 64 letters, digits, `_`, `-` and `.`
pub record IsName (text : List ℕ) : Type 0 where
  pub some : 0 < length text
  pub few : length text ≤ 64
  pub bytes : Are is_name_byte text
