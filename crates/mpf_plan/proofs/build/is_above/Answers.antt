use Rattle.std.proofs.Common.{◌≡◌, length, nat_lt, sym, ◌∙◌, ap, ap₂, subst, arith}
use Rattle.plan_tables.specs.{declared.table.Table.Table, Limits.{entry_count, limit_of}}
use Rattle.mpf_plan.{specs.PlanOf.{names_of, plan_by}, proofs.Filled.{above_by_names, has_names}}
use Rattle.mpf_plan.proofs.build.is_above.Goals as goal

pub returns-in-Bindings : goal.returns-in-Bindings
returns-in-Bindings c ps is =
    let count = length c.args.draft.now.bindings.items in
    let same : c.len.result ≡ count = omega (arith, c.len.ensures, c.args.draft.now.bindings.ok.0) in
    ap₂ nat_lt c.limit.ensures same
    ∙ subst (λ (t : Table). nat_lt (limit_of t) count ≡ nat_lt (limit_of t) (entry_count (plan_by (names_of ps) ps) t))
    (sym c.in-Bindings.is) (ap (nat_lt 16384) is.counts.bindings)

pub returns-in-Rows : goal.returns-in-Rows
returns-in-Rows c ps is =
    let count = length c.args.draft.now.rows.items in
    let same : c.len-in-Rows.result ≡ count = omega (arith, c.len-in-Rows.ensures, c.args.draft.now.rows.ok.0) in
    ap₂ nat_lt c.limit-in-Rows.ensures same
    ∙ subst (λ (t : Table). nat_lt (limit_of t) count ≡ nat_lt (limit_of t) (entry_count (plan_by (names_of ps) ps) t))
    (sym c.in-Rows.is) (ap (nat_lt 1024) is.counts.rows)

pub returns-in_default : goal.returns-in_default
returns-in_default c ps is = c.is_above.ensures
    ∙ above_by_names ps c.args.draft.now c.args.table
    (has_names c.args.table c.in_default.not-Bindings c.in_default.not-Rows) is
