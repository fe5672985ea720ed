-- Sixteen flags as the bits of a number: bit i is flag i.
use Rattle.std.specs.{Prelude.{ℕ, ◌==◌, Bool, List, map}, Int.bit_at, List.range_with_len}

abbrev pub is_set : ℕ → ℕ → Bool
is_set mask i = bit_at mask i == 1

unfoldable pub flags : ℕ → List Bool
flags mask = map (is_set mask) (range_with_len 0 16)
