use Rattle.std.proofs.Common.{◌∙◌}
use Rattle.yaml_bytes.{specs.Lines.is_lf, proofs.Searching.len_before}
use Rattle.yaml_bytes.proofs.lines.line_len.Goals as goal

pub returns-clause-value : goal.returns-clause-value
returns-clause-value c = c.unwrap_or.ensures ∙ len_before is_lf c.args.text.now c.memchr.result c.memchr.ensures
