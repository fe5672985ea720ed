-- Names of texts that are printed as they are, and as one word.
use Rattle.std.specs.{Prelude.{◌≡◌, ℕ, ◌<◌, ◌^◌, Bool, true, ◌||◌, ◌==◌, not, List}, List.{list_any, All}}
use Rattle.mpf_config.specs.Escaped.{is_control}
use Rattle.row_faults.specs.FaultView.{RowFaultView}

-- a space, or a byte that is escaped
abbrev pub is_mark : ℕ → Bool
is_mark b = is_control b || (b == 32)

-- whether a name has no such byte
abbrev pub is_plain : List ℕ → Bool
is_plain name = not (list_any is_mark name)

-- the text of a fault has such a name, and a number of 64 bits says on which line the fault is
abbrev pub IsPlain : RowFaultView → Type 0
IsPlain f = (is_plain f.text ≡ true) × (f.line < 2 ^ 64)

abbrev pub ArePlain : List RowFaultView → Type 0
ArePlain faults = All IsPlain faults
