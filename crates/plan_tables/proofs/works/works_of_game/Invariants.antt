use Rattle.std.{proofs.Common.{◌≡◌, map}, specs.List.range_with_len}
use Rattle.plan_tables.specs.PlanView.{game_work}
use Rattle.plan_tables.proofs.works.works_of_game.Given as goal

abbrev pub invariant-loop-event : goal.invariant-loop-event
invariant-loop-event l = l.works.items ≡ map (λ e. game_work l.game (record { 0 = e })) (range_with_len 0 l.event)
