use Rattle.std.{proofs.Common.{◌||◌, ◌++◌, List, ℕ, codes, ap, ◌∙◌}, specs.Str.bytes_eq}
use Rattle.yaml_subset.{specs.Keys.is_among, proofs.KeySets.insert_key-among}
use Rattle.row_faults.specs.View.{events_view}
use Rattle.row_faults.proofs.reserved.add_event.Goals as goal

pub returns : goal.returns
returns c = λ q.
    let rest = c.in_ok-extend_from_slice.ensures.items
    ∙ ap (λ (front : List ℕ). front ++ c.args.end.now) c.in_ok-rest.ensures.items in
    rw c.in_ok-_added.ensures.keys (insert_key-among (λ k. codes "mode_" ++ k.items) c.args.events.now.keys
    c.extend_from_slice.new.self q
    ∙ ap (λ (event : List ℕ). bytes_eq (codes "mode_" ++ event) q || is_among (events_view c.args.events.now) q) rest)
