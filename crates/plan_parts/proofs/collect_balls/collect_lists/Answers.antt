use Rattle.std.proofs.{Common.{[], ◌∷◌, codes}, lemmas.{List.append_assoc, Result.on_ok_weaker}}
use Rattle.mpf_sections.specs.View.{ball_device_view}
use Rattle.plan_parts.specs.{Effects.enters, BallEntries.{drains, ball_event, attempt_effects, later_lists}}
use Rattle.plan_parts.proofs.collect_balls.collect_lists.Goals as goal

pub returns : goal.returns
returns c =
    let machine = c.args.definitions.now.machine in
    let row = ball_device_view c.args.row in
    let old = c.args.lists.now in
    let entered = enters (ball_event row.name.text (codes "_ball_enter")) (drains machine row) ∷ [] in
    let attempt = attempt_effects machine row.name.text row.eject_coil in
    let two = append_assoc old (entered ∷ []) (attempt ∷ []) in
    let three = append_assoc old (entered ∷ attempt ∷ []) (later_lists row.name.text) in
    on_ok_weaker c.collect_later.result
    (λ last. cc (
      c.in_ok-do_in_next.ensures,
      c.in_ok-collect_attempt.ensures,
      c.ball_event.ensures,
      c.requires.drains,
      c.as_slice-name.ensures,
    )) c.collect_later.ensures
