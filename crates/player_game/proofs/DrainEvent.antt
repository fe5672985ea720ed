-- The event of the game that says that a ball has drained.
use Rattle.std.proofs.{Common.{◌≡◌, true, refl}, lemmas.Bool.false≢true}
use Rattle.plan_tables.specs.declared.entries.GameEvent.{GameEvent, TheVariants.BallDrain}
use Rattle.player_game.specs.Choices.{is_drain}

-- it is the only one
pub drain-is : (which : GameEvent) → is_drain which ≡ true → which ≡ BallDrain
drain-is BallDrain is = refl
drain-is _ is = absurd (false≢true is)
