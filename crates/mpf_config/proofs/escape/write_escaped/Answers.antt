use Rattle.std.proofs.Common.{sym, ◌∙◌}
use Rattle.mpf_config.proofs.Writing.{as_it_is}
use Rattle.mpf_config.proofs.escape.write_escaped.Goals as goal

pub returns : goal.returns
returns g c = as_it_is c.args.text.now _ _ _ (sym c.has_control.ensures ∙ c.if-has_control.false)
    c.write_all.ensures.bytes
