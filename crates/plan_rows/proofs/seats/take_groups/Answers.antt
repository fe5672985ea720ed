use Rattle.std.{proofs.{Common.{◌||◌, Bool, List, map, drop, ◌+◌, ap, ◌∙◌}, Math.Bool.or_assoc}, specs.List.list_any}
use Rattle.mpf_sections.specs.{TypedShots.shot_group_of, View.entry_view}
use Rattle.machine_definitions.{specs.Found.is_found, proofs.Finding.next-is}
use Rattle.plan_rows.specs.Seats.{lists_shot}
use Rattle.plan_rows.proofs.seats.take_groups.Goals as goal

pub loop-group-preserved : goal.loop-group-preserved
loop-group-preserved c = λ name.
    let l = c.loop-group in
    let others = λ (groups : List _). list_any (lists_shot name) (map shot_group_of (map entry_view groups)) in
    let rest = others (drop (l.group-index + 1) c.args.groups.now) in
    let took = c.in_ok-take_shots.ensures name
    ∙ ap (λ g. is_found l.names name || lists_shot name g) c.as_shot_group.ensures in
    ap (λ (b : Bool). b || rest) took
    ∙ or_assoc (is_found l.names name) _ rest
    ∙ next-is (λ groups. is_found l.names name || others groups) c.args.groups.now l.group-index c.group-item.result
    c.loop-group-test.true c.group-item.is
    ∙ l.invariant name
