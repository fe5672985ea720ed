use Rattle.std.proofs.Common.{rules}
use Rattle.player_game.proofs.players.Players.turn.Goals as goal

pub returns-clause-state : goal.returns-clause-state
returns-clause-state c = search rules

pub returns-clause-few : goal.returns-clause-few
returns-clause-few c = search rules
