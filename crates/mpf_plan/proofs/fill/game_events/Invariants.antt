use Rattle.mpf_plan.proofs.GameNoted.{AreNoted}
use Rattle.mpf_plan.proofs.fill.game_events.Given as goal

abbrev pub invariant-loop-place : goal.invariant-loop-place
invariant-loop-place l = AreNoted l.initial.names l.names l.place l.events
