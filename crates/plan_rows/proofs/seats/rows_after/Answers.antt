use Rattle.std.proofs.{Common.{rules, ◌≡◌, suc, IfOk, sym, ◌∙◌}, lemmas.Result.IfOk-weaker}
use Rattle.plan_rows.proofs.seats.rows_after.Goals as goal

pub returns-then-has_row : goal.returns-then-has_row
returns-then-has_row c =
    let more : IfOk c.ok_or.result (λ rows. rows ≡ suc c.args.before) = search rules in
    IfOk-weaker c.ok_or.result _ _ (λ rows is place h. rw (sym (c.has_row.ensures place h) ∙ c.if-has_row.true) is) more
