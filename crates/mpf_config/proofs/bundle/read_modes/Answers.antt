use Rattle.std.proofs.{Common.rules, lemmas.Result.err_from_is_err_and}
use Rattle.mpf_config.proofs.SameTexts.{before_all}
use Rattle.mpf_config.proofs.bundle.read_modes.Goals as goal

pub returns-in_err-mode_reads : goal.returns-in_err-mode_reads
returns-in_err-mode_reads c = search (rules, before_all, err_from_is_err_and)

pub returns : goal.returns
returns c = search (rules, before_all)
