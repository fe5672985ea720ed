use Rattle.std.proofs.Common.{rules}
use Rattle.config_checker.proofs.Numerals.{plain_number}
use Rattle.config_checker.proofs.certificate_reader.read_number.Goals as goal

pub returns-in_err-number : goal.returns-in_err-number
returns-in_err-number c = search (rules, plain_number)

pub returns : goal.returns
returns c = search (rules, plain_number)
