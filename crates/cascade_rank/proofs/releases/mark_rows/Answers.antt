use Rattle.std.proofs.Common.{rules, take_all}
use Rattle.cascade_rank.proofs.Marked.{actions_of_lists, marked-more, actions_of_rows}
use Rattle.cascade_rank.proofs.releases.mark_rows.Goals as goal

pub mark_lists-requires-clause-row : goal.mark_lists-requires-clause-row
mark_lists-requires-clause-row c = c.rows_of_mode-row-items.ensures.within c.loop-row.row-index (record { 0 = 0 })
    c.loop-row-test.true

pub loop-row-preserved : goal.loop-row-preserved
loop-row-preserved c = search (rules, marked-more, actions_of_lists)

pub returns : goal.returns
returns c = search (rules, actions_of_lists, take_all, actions_of_rows)
