use Rattle.std.proofs.Common.{sym, ◌∙◌}
use Rattle.yaml_subset.proofs.Blemishes.{plain_clean}
use Rattle.yaml_subset.proofs.lines.blemish.Goals as goal

pub returns-then-is_plain : goal.returns-then-is_plain
returns-then-is_plain c = sym (plain_clean c.args.number c.args.raw.now (sym c.is_plain.ensures ∙ c.if-is_plain.true))
