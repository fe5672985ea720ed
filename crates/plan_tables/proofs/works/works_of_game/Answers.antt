use Rattle.std.proofs.{Common.{◌∷◌, ◌++◌, [], map, sym, ap, ◌∙◌, arith}, lemmas.List.FromFn.map-range_with_len_more}
use Rattle.std.specs.List.{range_with_len}
use Rattle.plan_tables.specs.PlanView.{game_work}
use Rattle.plan_tables.proofs.works.works_of_game.Goals as goal

pub loop-event-preserved : goal.loop-event-preserved
loop-event-preserved c =
    c.in_ok-push.ensures.items
    ∙ ap (λ ws. ws ++ c.work_of_game-work.result ∷ []) c.loop-event.invariant
    ∙ ap (λ w. map (λ e. game_work c.args.game (record { 0 = e })) (range_with_len 0 c.loop-event.event) ++ w ∷ [])
    c.work_of_game-work.ensures
    ∙ sym (map-range_with_len_more (λ e. game_work c.args.game (record { 0 = e })) 0 c.loop-event.event
    c.loop-event.event (omega arith))
