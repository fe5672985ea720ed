use Rattle.std.proofs.{Common.rules, lemmas.Bool.not-false}
use Rattle.config_checker.proofs.CertificateLines.{numbered_read, numbered_unread}
use Rattle.config_checker.proofs.certificate_reader.read_line.Goals as goal

pub returns-in_err-number : goal.returns-in_err-number
returns-in_err-number c = search (rules, numbered_unread)

pub returns : goal.returns
returns c = search (rules, numbered_read, not-false)
