use Rattle.std.proofs.Common.{None, Some, [], refl, sym, ap, ◌∙◌}
use Rattle.yaml_bytes.specs.View.{option_slice}
use Rattle.pinball_shell.proofs.TextLines.{lines-found}
use Rattle.pinball_shell.proofs.log_line.first_line.Goals as goal

pub returns-in-None-clause-first : goal.returns-in-None-clause-first
returns-in-None-clause-first c =
    lines-found c.args.text.now c.split_line.result.0.now [] None c.requires c.split_line.ensures.first
    (ap (option_slice (λ after. after)) (sym c.in-None.is) ∙ c.split_line.ensures.after) refl

pub returns-in-Some-clause-first : goal.returns-in-Some-clause-first
returns-in-Some-clause-first c =
    lines-found c.args.text.now c.split_line.result.0.now c.in-Some.after.now (Some c.in-Some.after.now) c.requires
    c.split_line.ensures.first (ap (option_slice (λ after. after)) (sym c.in-Some.is) ∙ c.split_line.ensures.after)
    refl
