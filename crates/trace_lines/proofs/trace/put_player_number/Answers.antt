use Rattle.std.proofs.lemmas.Fmt.{decimal_digit}
use Rattle.trace_lines.proofs.trace.put_player_number.Goals as goal

pub returns-then-player-lt10 : goal.returns-then-player-lt10
returns-then-player-lt10 g c = rw (decimal_digit c.args.player c.if-player-lt10.true) c.put_start.ensures
