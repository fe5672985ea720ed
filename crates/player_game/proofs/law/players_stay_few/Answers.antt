use Rattle.player_game.proofs.StayFew.{players_stay_few}
use Rattle.player_game.proofs.law.players_stay_few.Goals as goal

pub returns : goal.returns
returns c = players_stay_few
