use Rattle.std.proofs.Common.{ℕ, ◌≡◌, length, ap, arith}
use Rattle.plan_tables.specs.declared.entries.ListId.{ListId}
use Rattle.mpf_plan.proofs.fill.next_list.Goals as goal

list_at : ℕ → ListId
list_at k = record { 0 = k }

pub returns : goal.returns
unfolding list_at
returns c few = ap list_at (let same : c.min.result
    ≡ length c.args.draft.now.lists.items = omega (arith, c.args.draft.now.lists.ok.0) in same)
