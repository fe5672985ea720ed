use Rattle.std.proofs.{Common.rules, lemmas.{List.nil_from_length, Result.err_from_is_err_and}}
use Rattle.mpf_config.proofs.BesideMachine.{only_memory}
use Rattle.mpf_config.proofs.taken.take_machine.Goals as goal

pub returns-in_err-take_entries-clause-fails : goal.returns-in_err-take_entries-clause-fails
returns-in_err-take_entries-clause-fails c = search (rules, nil_from_length, err_from_is_err_and, only_memory)
