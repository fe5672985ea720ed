use Rattle.std.proofs.{Common.{rules, nat_lt, refl, sym, ◌∙◌}, lemmas.List.drop_all}
use Rattle.plan_tables.specs.Limits.{entry_count, limit_of, tables_in_order}
use Rattle.mpf_plan.{specs.PlanOf.{names_of, plan_by}, proofs.Filled.{find_next, find_here}}
use Rattle.mpf_plan.proofs.build.first_above.Goals as goal

pub loop-table-init : goal.loop-table-init
loop-table-init c ps is = refl

pub loop-table-preserved : goal.loop-table-preserved
loop-table-preserved c ps is =
    c.loop-table.invariant ps is
    ∙ find_next (λ t. nat_lt (limit_of t) (entry_count (plan_by (names_of ps) ps) t)) tables_in_order
    c.loop-table.table-index _ c.loop-table-test.true (sym (c.is_above.ensures ps is) ∙ c.if-is_above.false)

pub returns-then-is_above : goal.returns-then-is_above
returns-then-is_above c ps is = search (rules, find_here, nat_lt)

pub returns : goal.returns
returns c ps is = search (rules, nat_lt, drop_all)
