use Rattle.std.proofs.Common.{rules}
use Rattle.player_game.proofs.players.act_on.Goals as goal

pub returns-in-Add : goal.returns-in-Add
returns-in-Add c = search rules

pub returns-in-Set : goal.returns-in-Set
returns-in-Set c = search rules
