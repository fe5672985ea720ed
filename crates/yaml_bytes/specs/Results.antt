-- What is done with the value of a result; an error stays as it is.
use Rattle.std.specs.Prelude.{Result, Ok, Err}

-- what f gives for the value of a result, or its error
infixl 10 ◌>>=◌
abbrev pub ◌>>=◌ : {A B E : Type 0} → Result A E → (A → Result B E) → Result B E
(Ok x) >>= f = f x
(Err e) >>= f = Err e
