-- What a function gave for the items of a list, one call for each.
use Rattle.std.specs.{Prelude.{◌≡◌, List, [], ◌∷◌, Result, Ok, Err, ◌⊎◌}, List.AllZip, Global.Vec}
use Rattle.config_faults.specs.declared.fault.ConfigFault.{ConfigFault, TheVariants.NoMemory}

-- calls gave something, up to the first that failed
abbrev pub FailsFirst : {A B : Type 0} → (A → Result B ConfigFault → Type 0) → ConfigFault → List A → Type 0
FailsFirst gave e [] = ⊥
FailsFirst {A} {B} gave e (x ∷ xs) = gave x (Err e) ⊎ ((y : B) × gave x (Ok y) × FailsFirst gave e xs)

abbrev pub GaveUpTo : {A B : Type 0} → (A → Result B ConfigFault → Type 0) → List A → Result (Vec B) ConfigFault
    → Type 0
GaveUpTo gave xs (Ok ys) = AllZip (λ x y. gave x (Ok y)) xs ys.items
GaveUpTo gave xs (Err e) = (e ≡ NoMemory) ⊎ FailsFirst gave e xs

-- The answers are what the calls gave, one for each item; or what the first call that failed gave, or memory ran out.
pub record GaveEach {A B : Type 0} (gave : A → Result B ConfigFault → Type 0) (xs : List A)
    (r : Result (Vec B) ConfigFault) : Type 0 where
  pub up_to : GaveUpTo gave xs r
