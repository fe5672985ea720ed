-- The work bound as it is told, and whether a machine with such a bound may run live.
use Rattle.std.specs.Prelude.{◌≡◌, ℕ, Bool, true, false, nat_le, Option, List, [], ◌∷◌, ◌++◌, codes}
use Rattle.std.specs.{Fmt.decimal, Io.KnownBytes.{Appends, Keeps}}
use Rattle.plan_tables.specs.PlanView.{PlanView}
use Rattle.cascade_rank.specs.Working.{IsBoundOf, work_bound_of}
use Rattle.cascade_rank.specs.declared.work_bounds.WorkBound.{WorkBound, TheVariants.{Within, Beyond}}

-- `work N`, or `work beyond`, and LF
abbrev pub work_text : WorkBound → List ℕ
work_text (Within steps) = codes "work " ++ decimal steps ++ 10 ∷ []
work_text Beyond = codes "work beyond" ++ 10 ∷ []

-- and that it is too much
abbrev pub refusal_text : WorkBound → List ℕ
refusal_text bound = work_text bound ++ codes "refused: the work bound is above 1000000 (--any-work lifts this)" ++ 10
    ∷ []

-- at most 1,000,000
abbrev pub is_admitted : WorkBound → Bool
is_admitted (Within steps) = nat_le steps 1000000
is_admitted Beyond = false

-- the work bound of the plan is told
abbrev pub TellsWork : PlanView → Option (List ℕ) → Option (List ℕ) → Type 0
TellsWork plan old new = (bound : WorkBound) × IsBoundOf (work_bound_of plan) bound × Appends old new (work_text bound)

-- the work bound of the plan is within the most, and nothing is told; or it is above it, and that is told
abbrev pub AdmitsWork : PlanView → Bool → Option (List ℕ) → Option (List ℕ) → Type 0
AdmitsWork plan true old new = (bound : WorkBound) × IsBoundOf (work_bound_of plan) bound × (is_admitted bound ≡ true)
    × Keeps old new
AdmitsWork plan false old new = (bound : WorkBound) × IsBoundOf (work_bound_of plan) bound × (is_admitted bound ≡ false)
    × Appends old new (refusal_text bound)
