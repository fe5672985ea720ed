use Rattle.std.{proofs.{Common.{[], ◌∷◌, codes}, lemmas.Result.on_ok_weaker}, specs.Prelude.option_map}
use Rattle.mpf_sections.specs.View.{name_at_view}
use Rattle.plan_parts.{specs.{Effects.posts, BallEntries.{ball_event, eject_pulse}}, proofs.Lists.with_last-push}
use Rattle.plan_parts.proofs.collect_balls.collect_attempt.Goals as goal

pub returns : goal.returns
returns c =
    let old = c.args.lists.now in
    let event = ball_event c.args.name.now in
    let attempt = posts (event (codes "_ball_eject_attempt")) in
    let ejecting = posts (event (codes "_ejecting_ball")) in
    let pulse = eject_pulse c.args.definitions.now.machine (option_map name_at_view c.args.coil) in
    let two = with_last-push (ejecting ∷ []) (attempt ∷ []) old in
    let three = with_last-push pulse (attempt ∷ ejecting ∷ []) old in
    on_ok_weaker c.collect_pulse.result (λ last. cc
    (c.in_ok-post_in_next.ensures, c.in_ok-post.ensures, c.ball_event.ensures, c.ball_event-2.ensures))
    c.collect_pulse.ensures
