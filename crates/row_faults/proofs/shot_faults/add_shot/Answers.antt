use Rattle.std.proofs.Common.{rules, append_assoc, sym, ◌∙◌}
use Rattle.row_faults.proofs.AsWritten.{two-unwritten}
use Rattle.row_faults.proofs.shot_faults.add_shot.Goals as goal

pub returns-then-is_empty : goal.returns-then-is_empty
returns-then-is_empty c =
    let none = sym c.is_empty.ensures ∙ c.if-is_empty.true in
    search (rules, two-unwritten, append_assoc, none)
