-- How a value compares with a number.
use Rattle.std.specs.{Prelude.{Bool, not, ℤ, int_le, int_lt}, Ordering.int_eq}
use Rattle.mpf_values.specs.declared.handled.Comparison.{Comparison, TheVariants.GreaterOrEqual}
use Rattle.mpf_values.specs.declared.handled.Comparison.TheVariants.{Equal, NotEqual, Less, LessOrEqual, Greater}

-- whether a value compares so with a number
abbrev pub compares : Comparison → ℤ → ℤ → Bool
compares Equal value number = int_eq value number
compares NotEqual value number = not (int_eq value number)
compares Less value number = int_lt value number
compares LessOrEqual value number = int_le value number
compares Greater value number = int_lt number value
compares GreaterOrEqual value number = int_le number value
