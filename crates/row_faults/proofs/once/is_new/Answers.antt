use Rattle.std.{proofs.Common.{◌||◌, List, ℕ, not, ap, ◌∙◌}, specs.Str.bytes_eq}
use Rattle.yaml_subset.specs.Keys.{is_among, copies_view}
use Rattle.row_faults.proofs.once.is_new.Goals as goal

pub returns-clause-fresh : goal.returns-clause-fresh
returns-clause-fresh c = c.in_ok-fresh.ensures.fresh
    ∙ ap (λ (key : List ℕ). not (is_among (copies_view c.args.lines.now) key)) c.in_ok-line.ensures

pub returns-clause-known : goal.returns-clause-known
returns-clause-known c = λ q. c.in_ok-fresh.ensures.known q
    ∙ ap (λ (key : List ℕ). bytes_eq key q || is_among (copies_view c.args.lines.now) q) c.in_ok-line.ensures
