-- Marks are equal if the test says so.
use Rattle.std.proofs.{Common.{◌≡◌, Bool, true, false, [], refl}, lemmas.Bool.{false≢true, true≢false}}
use mathlib.Core.Bool.{beq}
use Rattle.std.specs.Bool.{Decides}
use Rattle.device_objects.specs.declared.state.AccrualSlot.{AccrualSlot}

pub mark_decides : (a b : Bool) → Decides (beq a b) (a ≡ b)
mark_decides true false = ((λ is. absurd (false≢true is)), λ is. absurd (true≢false is))
mark_decides false true = ((λ is. absurd (false≢true is)), λ is. absurd (false≢true is))
mark_decides _ _ = ((λ _. refl), λ _. refl)

-- a slot of an accrual, to look for the others
abbrev pub no_marks : AccrualSlot
no_marks = record { game = 0; enabled = false; done = [] }
