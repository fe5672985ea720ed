use Rattle.std.proofs.Common.{inl, inr}
use Rattle.config_checker.proofs.ReadBack.{config-again, read-again}
use Rattle.config_checker.proofs.law.certificate_is_read_again.Goals as goal

pub returns-clause-found : goal.returns-clause-found
returns-clause-found c = λ config checked is. config-again config checked (inl is)

pub returns-clause-given : goal.returns-clause-given
returns-clause-given c = λ config text checked is. config-again config checked (inr (text, is))

pub returns-clause-read : goal.returns-clause-read
returns-clause-read c = λ bundle rows. read-again rows bundle
