use Rattle.std.proofs.Common.{rules}
use Rattle.player_game.proofs.game.Game.can_begin.Goals as goal

pub returns-then-self-lt-MOST_GAMES : goal.returns-then-self-lt-MOST_GAMES
returns-then-self-lt-MOST_GAMES c = search rules

pub returns-else-self-lt-MOST_GAMES : goal.returns-else-self-lt-MOST_GAMES
returns-else-self-lt-MOST_GAMES c = search rules
