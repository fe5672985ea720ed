use Rattle.player_game.proofs.Chosen.{steps_are_choices}
use Rattle.player_game.proofs.law.steps_are_choices.Goals as goal

pub returns : goal.returns
returns c = steps_are_choices
