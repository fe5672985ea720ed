use Rattle.std.proofs.Common.{List, fold, map, drop, ◌+◌, Option, ap, ◌∙◌}
use Rattle.mpf_sections.specs.{Rows.Shot, TypedShots.shot_of, View.entry_view}
use Rattle.machine_definitions.specs.{Shots.latest_shot, Found.{as_shot, found_shot}}
use Rattle.machine_definitions.proofs.Finding.{took-value, next-is}
use Rattle.machine_definitions.proofs.shots.add_shots.Goals as goal

pub loop-entry-preserved : goal.loop-entry-preserved
unfolding shot_of
loop-entry-preserved c = λ name.
    let l = c.loop-entry in
    let seen = λ (o : Option Shot) (entries : List _). fold (latest_shot name) o (map shot_of (map entry_view entries))
    in
    let took = took-value as_shot l.shots c.insert.new.self c.deref.result _
    (shot_of (entry_view c.entry-item.result)).name.text c.deref.ensures c.in_ok-insert.ensures.updates name in
    ap (λ (o : Option Shot). seen o (drop (l.entry-index + 1) c.args.entries.now)) took
    ∙ next-is (seen (found_shot l.shots name)) c.args.entries.now l.entry-index c.entry-item.result
    c.loop-entry-test.true c.entry-item.is
    ∙ l.invariant name
