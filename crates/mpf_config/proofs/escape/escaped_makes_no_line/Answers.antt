use Rattle.mpf_config.proofs.InLine.{escaped_in_line}
use Rattle.mpf_config.proofs.escape.escaped_makes_no_line.Goals as goal

pub returns : goal.returns
returns c = escaped_in_line
