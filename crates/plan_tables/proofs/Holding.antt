-- Modes that hold the end of the ball.
use Rattle.std.proofs.{Common.{◌≡◌, true, is_some}, lemmas.Bool.and_parts}
use Rattle.plan_tables.specs.PlanView.{PlanView, may_hold_ball_end, mode_at}
use Rattle.plan_tables.specs.{Valid.HasGame, declared.entries.ModeId.ModeId}

-- if the end of the ball waits for a mode, there is a game
pub holds-game : (plan : PlanView) (m : ModeId) → may_hold_ball_end plan m ≡ true → HasGame plan
holds-game plan m is = (and_parts (is_some plan.game) (mode_at plan m).mode.holds_ball_end is).0
