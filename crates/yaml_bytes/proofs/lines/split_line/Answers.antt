use Rattle.yaml_bytes.proofs.TextLines.{last_line, next_line}
use Rattle.yaml_bytes.proofs.lines.split_line.Goals as goal

pub returns-in-empty-clause-lines : goal.returns-in-empty-clause-lines
returns-in-empty-clause-lines c =
    last_line c.args.text.now c.split_at.result.0.now c.split_at.result.1.now c.line_len.result c.line_len.ensures.value
    c.split_at.ensures.front c.split_at.ensures.back c.in-empty.len_below

pub returns-in-len1-up-clause-lines : goal.returns-in-len1-up-clause-lines
returns-in-len1-up-clause-lines c =
    rw c.without_cr.ensures
    (next_line c.args.text.now c.split_at.result.0.now c.split_at.result.1.now c.line_len.result
    c.line_len.ensures.value c.split_at.ensures.front c.split_at.ensures.back c.in-len1-up.len_at_least)
