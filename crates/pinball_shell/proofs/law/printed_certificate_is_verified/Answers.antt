use Rattle.pinball_shell.proofs.VerifiedAgain.{is_accepted_again, is_printed_again, is_short}
use Rattle.pinball_shell.proofs.law.printed_certificate_is_verified.Goals as goal

pub returns-clause-accepted : goal.returns-clause-accepted
returns-clause-accepted c = is_accepted_again

pub returns-clause-prints : goal.returns-clause-prints
returns-clause-prints c = is_printed_again

pub returns-clause-short : goal.returns-clause-short
returns-clause-short c = is_short
