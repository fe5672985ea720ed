use Rattle.std.{proofs.Common.{◌≡◌, List, drop, nat_lt}, specs.Prelude.find}
use Rattle.plan_tables.specs.Limits.{entry_count, limit_of, first_above}
use Rattle.plan_parts.specs.Parts.{Part}
use Rattle.mpf_plan.specs.{PlanOf.{names_of, plan_by}, Drafting.IsDraftOf}
use Rattle.mpf_plan.proofs.build.first_above.Given as goal

-- the first table above its limit is among those that are left
abbrev pub invariant-loop-table : goal.invariant-loop-table
invariant-loop-table l = (ps : List Part) → IsDraftOf ps l.draft
    → first_above (plan_by (names_of ps) ps)
    ≡ find (λ t. nat_lt (limit_of t) (entry_count (plan_by (names_of ps) ps) t)) (drop l.table-index l.table-items)
