use Rattle.std.proofs.{Common.{rules, slice_get}, lemmas.Option.get_or_from_slice_get}
use Rattle.config_checker.proofs.Writing.{line_more, lines_all}
use Rattle.config_checker.proofs.certificate.write_events.Goals as goal

pub loop-number-preserved : goal.loop-number-preserved
loop-number-preserved g c = search (rules, line_more, get_or_from_slice_get, slice_get)

pub returns : goal.returns
returns g c = search (rules, lines_all)
