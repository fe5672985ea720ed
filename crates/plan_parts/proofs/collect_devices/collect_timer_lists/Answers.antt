use Rattle.std.proofs.{Common.{[], ◌∷◌, codes}, lemmas.{List.append_assoc, Result.on_ok_weaker}}
use Rattle.plan_parts.specs.{Effects.posts, DeviceEntries.timer_event}
use Rattle.plan_parts.proofs.collect_devices.collect_timer_lists.Goals as goal

pub returns : goal.returns
returns c =
    let old = c.args.lists.now in
    let event = timer_event c.args.name.now in
    let started = posts (event (codes "_started")) ∷ [] in
    let stopped = posts (event (codes "_stopped")) ∷ [] in
    let paused = posts (event (codes "_paused")) ∷ [] in
    let ticks = posts (event (codes "_tick")) ∷ [] in
    let complete = posts (event (codes "_complete")) ∷ [] in
    let two = append_assoc old (started ∷ []) (stopped ∷ []) in
    let three = append_assoc old (started ∷ stopped ∷ []) (paused ∷ []) in
    let four = append_assoc old (started ∷ stopped ∷ paused ∷ []) (ticks ∷ []) in
    let five = append_assoc old (started ∷ stopped ∷ paused ∷ ticks ∷ []) (complete ∷ []) in
    on_ok_weaker c.post_in_next-5.result
    (λ last. cc (
      c.in_ok-post_in_next.ensures,
      c.in_ok-post_in_next-2.ensures,
      c.in_ok-post_in_next-3.ensures,
      c.in_ok-post_in_next-4.ensures,
      c.timer_event.ensures,
      c.timer_event-2.ensures,
      c.timer_event-3.ensures,
      c.timer_event-4.ensures,
      c.timer_event-5.ensures,
    )) c.post_in_next-5.ensures
