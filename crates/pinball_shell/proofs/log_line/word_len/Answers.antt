use Rattle.std.proofs.Common.{sym, ◌∙◌}
use Rattle.yaml_bytes.specs.Bytes.{is_blank}
use Rattle.pinball_shell.proofs.FirstPlace.{place_end}
use Rattle.pinball_shell.proofs.log_line.word_len.Goals as goal

pub returns-in-None : goal.returns-in-None
returns-in-None c = place_end is_blank c.args.text.now (sym c.first_blank.ensures ∙ c.in-None.is)
