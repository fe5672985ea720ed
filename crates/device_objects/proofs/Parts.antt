-- A device is due with its parts.
use Rattle.std.proofs.Common.{rules, ◌≡◌, ℕ, ◌≤◌, Option, None, Some, IfSome}
use Rattle.device_objects.specs.KindModel.{Moments, never, of_one_part}

-- while a device is not due, none of its parts is; while it is, one is due at the same moment, and none before
pub record IsDueWithItsParts (m : Moments) : Type 0 where
  pub none : m.due ≡ None → (k : ℕ) → m.part k ≡ None
  pub one : IfSome m.due (λ due. (k : ℕ) × (m.part k ≡ Some due))
  pub first : IfSome m.due (λ due. (k other : ℕ) → m.part k ≡ Some other → due ≤ other)

pub never-lawful : IsDueWithItsParts never
never-lawful = search rules

pub one_part-lawful : (due : Option ℕ) → IsDueWithItsParts (of_one_part due)
one_part-lawful x1 = search rules
