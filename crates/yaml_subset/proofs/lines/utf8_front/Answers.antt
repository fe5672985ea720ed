use Rattle.std.proofs.Common.{sym, ◌∙◌}
use Rattle.yaml_subset.proofs.Blemishes.{whole_front}
use Rattle.yaml_subset.proofs.lines.utf8_front.Goals as goal

pub returns-in-Ok : goal.returns-in-Ok
returns-in-Ok c = c.in-Ok.ensures.cases.0 ∙ sym (whole_front c.args.raw.now c.in-Ok.ensures.cases.1)
