use Rattle.std.{proofs.Common.{length, ap, ◌∙◌, replicate, false}, specs.List.{filter, flat_map}}
use Rattle.plan_tables.specs.declared.entries.Owner.TheVariants as owners
use Rattle.plan_tables.specs.PlanView.{actions_of_binding, actions_of_row, row_numbers}
use Rattle.cascade_rank.{specs.Marks.{mark_of, coil_ids}, proofs.Marked.{marked-then, marked-enabled}}
use Rattle.cascade_rank.proofs.releases.count_enabled.Goals as goal

pub returns : goal.returns
returns c =
    let plan = c.args.plan.now in
    let owner = owners.Mode c.args.mode in
    let marks = c.mark_rows.new.marks in
    c.count_marked.ensures
    ∙ ap (λ n. length (filter (mark_of marks) (coil_ids n))) c.coil_count.ensures.count
    ∙ marked-enabled plan owner marks c.coil_count.ensures.valid.coil_limit
    (marked-then (replicate 256 false) c.mark_bindings.new.marks marks
    (flat_map (actions_of_binding plan owner) plan.bindings)
    (flat_map (actions_of_row plan owner) (row_numbers plan)) c.mark_bindings.ensures c.mark_rows.ensures)
