use Rattle.std.proofs.Common.{sym}
use Rattle.pinball_shell.proofs.ShortNumbers.{moment-all}
use Rattle.pinball_shell.proofs.log_line.read_moment.Goals as goal

pub returns-then-len-word : goal.returns-then-len-word
returns-then-len-word c =
    let first = c.first_digits-len.ensures in
    sym (moment-all c.args.word.now c.first_digits-len.result.0 c.first_digits-len.result.1 c.if-len-gt0.true first.few
    c.if-len-word.true first.digits first.number)
