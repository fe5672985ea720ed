use Rattle.std.proofs.Common.{sym, ◌∙◌, true≢false}
use Rattle.mpf_plan.proofs.Judged.{plan_at-Err, plan_at-named}
use Rattle.config_checker.specs.{Checking.limit, Refused.IsLimitFault}
use Rattle.config_checker.proofs.{Judging.one-there, Given.lacks_nothing, PlanFree.rows_sound}
use Rattle.config_checker.proofs.checker.plan_within.Goals as goal

pub returns-in-Err-Limit-clause-limit : goal.returns-in-Err-Limit-clause-limit
returns-in-Err-Limit-clause-limit c =
    let rows = c.args.definitions.now in
    one-there (IsLimitFault rows) c.report_of.result (limit c.in-Err-Limit.table) c.report_of.ensures
    (plan_at-Err rows c.in-Err-Limit.table (rw c.in-Err-Limit.field-0-is at c.in-Err-Limit.ensures.exact))

pub unreachable-requires : goal.unreachable-requires
unreachable-requires c =
    let rows = c.args.definitions.now in
    true≢false (sym (plan_at-named rows (rw c.in-Err-NoSuchName.field-0-is at c.in-Err-NoSuchName.ensures.exact))
    ∙ lacks_nothing rows (rows_sound rows c.requires))

pub plan_complete-requires : goal.plan_complete-requires
plan_complete-requires c = let rows = c.args.definitions.now in lacks_nothing rows (rows_sound rows c.requires)
