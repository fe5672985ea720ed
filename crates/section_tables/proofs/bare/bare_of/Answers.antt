use Rattle.std.proofs.Common.{rules}
use Rattle.section_tables.specs.View.{row_values}
use Rattle.section_tables.proofs.bare.bare_of.Goals as goal

pub first_lacking-lacks-requires : goal.first_lacking-lacks-requires
unfolding row_values
first_lacking-lacks-requires c = rw (c.new-3.ensures.items, c.in_ok-clone.ensures.cases, c.in_ok-values.ensures.ok)
    c.in_ok-bare_row.ensures.len

pub invariant_of-result : goal.invariant_of-result
unfolding row_values
invariant_of-result c = search rules
